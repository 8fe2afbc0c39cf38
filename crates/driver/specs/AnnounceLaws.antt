-- Laws on the definitions of Announce.antt
use Rattle.std.specs.Prelude.{Bool, true, false, cond, ◌&&◌, List, ◌≡◌, refl, ℕ, zero, suc, ◌+◌, ◌-◌, ◌*◌, ◌<◌, eqb}
use Rattle.std.proofs.Common.{ap, sym, ◌∙◌, add-one, arith, eq-eqb, ne_eqb}
use Rattle.regs.specs.declared.Dir.{Dir}
use Rattle.regs.specs.declared.Dir.TheVariants.{Out, In}
use Rattle.alloc.specs.Alloc.{is_iso, slots_of}
use Rattle.state.specs.Driver.{Driver, ep_on}
use Rattle.script.specs.Tree as tree
use Rattle.script.specs.Tree.{ends, bind_out}
use Rattle.script.specs.Script.{run}
use Rattle.script.specs.Answers.{is_allocated}
use Rattle.script.specs.AllocateAll.{begins_at, announce_after}
use Rattle.script_ops.specs.Rings.{St}
use Rattle.script_ops.specs.Concrete.{concrete, go}
use Rattle.driver.specs.Announce.{end_on, starts_at, found_at, following, announcing}

pub found-step : (d : Driver) (dir : Dir) (x left e : ℕ) → 0 < left → found_at d dir x left e
    ≡ cond (starts_at d dir x e) e (found_at d dir x (left - 1) (e + 1))
unfolding found_at
found-step d dir x zero e h = absurd (omega arith)
found-step d dir x (suc left) e h =
    let l : suc left - 1 ≡ left = omega arith in
    rw (l, add-one e)

pub found_none : (d : Driver) (dir : Dir) (x e : ℕ) → found_at d dir x 0 e ≡ 0
unfolding found_at
found_none d dir x e = refl

-- the script's search finds it, and changes nothing
pub begins_at_lem : (d : Driver) (b : List ℕ) (dir : Dir) (x left e : ℕ) → go (begins_at {i = false} dir x left e) d b
    ≡ ends (found_at d dir x left e) (d, b)
unfolding begins_at found_at starts_at
begins_at_lem d b dir x zero e = refl
begins_at_lem d b dir x (suc left) e = by (begins_at_lem d b dir x left (suc e)) (is_allocated d.allocator dir e
    && eqb (ep_on d dir e).base x)
  where
    by : go (begins_at {i = false} dir x left (suc e)) d b ≡ ends (found_at d dir x left (suc e)) (d, b)
        → (t : Bool) → cond t (ends e (d, b)) (go (begins_at {i = false} dir x left (suc e)) d b)
        ≡ ends (cond t e (found_at d dir x left (suc e))) (d, b)
    by i true = refl
    by i false = i

-- ---- what is left to announce

abbrev On : ℕ → ℕ → Driver → List ℕ → Dir → ℕ → tree.Out St ℕ
On left total d b dir n = go (announcing left total dir n) d b

pub after_none : (total : ℕ) (d : Driver) (b : List ℕ) (dir : Dir) (e : ℕ) → go (following 0 total dir e) d b
    ≡ ends total (d, b)
unfolding announce_after
after_none total d b dir e = refl

-- by the number that is found among the OUT endpoints
abbrev next_found : ℕ → ℕ → Driver → List ℕ → ℕ → ℕ → tree.Out St ℕ
next_found left total d b x o = cond (eqb o 0) (On left total d b In (found_at d In x 15 1)) (On left total d b Out o)

pub after_more : (left total : ℕ) (d : Driver) (b : List ℕ) (dir : Dir) (e : ℕ)
    → go (following (suc left) total dir e) d b ≡ next_found left total d b (end_on d dir e)
    (found_at d Out (end_on d dir e) 15 1)
unfolding announce_after end_on
after_more left total d b dir e =
    let x = (ep_on d dir e).base + slots_of (is_iso (ep_on d dir e).kind) dir * d.allocator.size in
    ap (λ (z : tree.Out St ℕ). bind_out z
    (λ o t. cond (eqb o 0) (bind_out (run concrete (begins_at {i = false} In x 15 1) t)
    (λ n u. run concrete (announcing left total In n) u))
    (run concrete (announcing left total Out o) t))) (begins_at_lem d b Out x 15 1)
    ∙ ap (λ (z : tree.Out St ℕ). cond (eqb (found_at d Out x 15 1) 0)
    (bind_out z (λ n u. run concrete (announcing left total In n) u))
    (On left total d b Out (found_at d Out x 15 1))) (begins_at_lem d b In x 15 1)

-- ---- by what the code found

module _ (left total : ℕ) (d : Driver) (b : List ℕ)
    (dir : Dir) (e x o : ℕ) (some : left ≡ 0 → ⊥) (end : x ≡ end_on d dir e) (out : o ≡ found_at d Out x 15 1) where
  more : go (following left total dir e) d b ≡ next_found (left - 1) total d b x o
  more =
      let s : left ≡ suc (left - 1) = omega arith in
      ap (λ (n : ℕ). go (following n total dir e) d b) s
      ∙ after_more (left - 1) total d b dir e
      ∙ ap (λ (y : ℕ). next_found (left - 1) total d b y (found_at d Out y 15 1)) (sym end)
      ∙ ap (λ (n : ℕ). next_found (left - 1) total d b x n) (sym out)

  pub after-out : (o ≡ 0 → ⊥) → go (announcing (left - 1) total Out o) d b ≡ go (following left total dir e) d b
  after-out h = sym (more ∙ rw (ne_eqb o 0 h))

  pub after-in : (n : ℕ) → o ≡ 0 → n ≡ found_at d In x 15 1 → go (announcing (left - 1) total In n) d b
      ≡ go (following left total dir e) d b
  after-in n h q = ap (λ (j : ℕ). go (announcing (left - 1) total In j) d b) q ∙ sym (more ∙ rw (eq-eqb o 0 h))
