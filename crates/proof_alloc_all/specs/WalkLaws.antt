-- Laws on the definitions of Walk.antt
use Rattle.std.specs.Prelude.{Bool, cond, not, ◌&&◌, List, [], ◌∷◌, ◌++◌, ◌≢◌, ◌≡◌, ℕ, zero, suc, ◌+◌, ◌-◌, ◌*◌, ◌%◌, ◌≤◌, ◌<◌, length}
use Rattle.std.proofs.Math.Bool.{true, false}
use Rattle.std.proofs.Math.Path.{refl}
use Rattle.std.proofs.Common.{ap, sym, ◌∙◌, eqb-true, eq-eqb, lt-ltb}
use native.Mathlib.Omega.{arith}
use Rattle.std.proofs.Math.Dec.{eqb}
use Rattle.std.proofs.lemmas.Bool.{eqb-false}
use Rattle.bits.specs.Bit.{bit_is_set}
use Rattle.regs.specs.declared.Access.{Access}
use Rattle.regs.specs.declared.Access.TheVariants.{Write}
use Rattle.regs.specs.declared.Reg.TheVariants.{EpMaxLen}
use Rattle.regs.specs.declared.Dir.{Dir}
use Rattle.regs.specs.declared.Dir.TheVariants.{Out, In}
use Rattle.state.specs.declared.EpState.{EpState}
use Rattle.state.specs.declared.Allocator.{Allocator}
use Rattle.state.specs.Driver.{Driver, key, ep_on, with_on}
use Rattle.state.specs.Laws.{key_apart, with_on-back}
use Rattle.alloc.specs.Alloc.{is_iso, slots_of, allocated_ins}
use Rattle.descriptor.specs.declared.Endpoint.{Endpoint}
use Rattle.descriptor.specs.Trial.{direction_of}
use Rattle.script.specs.Tree as tree
use Rattle.script.specs.Tree.{ends, asks, bind_out}
use Rattle.script.specs.Script.{run, dma}
use Rattle.script.specs.Statics.{iso_outs}
use Rattle.script.specs.Answers.{is_number, is_allocated}
use Rattle.ring.specs.Out.{armed_at}
use Rattle.script_ops.specs.Rings.{St, place_on}
use Rattle.script_ops.specs.Concrete.{concrete, go}
use Rattle.driver.specs.Announce.{end_on, starts_at, found_at, following, announcing}
use Rattle.driver.specs.AnnounceLaws.{after_none, after-in, after-out}
use Rattle.proof_alloc_all.specs.Hands.{hands_out, ends_with, accesses}
use Rattle.proof_alloc_all.specs.SettledLaws.{Owns}
use Rattle.proof_alloc_all.specs.Walk.{handed}

-- ---- who begins at a byte

alloc-is : (a : Allocator) (dir : Dir) (m : ℕ) → 1 ≤ m → m ≤ 15 → is_allocated a dir m ≡ bit_is_set (allocated_ins a dir) m
unfolding is_allocated is_number allocated_ins
alloc-is a Out m l h = let z : m < 16 = omega arith in rw (lt-ltb 0 m l, lt-ltb m 16 z)
alloc-is a In m l h = let z : m < 16 = omega arith in rw (lt-ltb 0 m l, lt-ltb m 16 z)

module _ (d : Driver) (dir : Dir) (n kind maximum x : ℕ) (o : Owns d dir n kind maximum x) where
  starts-here : starts_at d dir x n ≡ true
  unfolding starts_at
  starts-here = rw (alloc-is d.allocator dir n o.low o.high, o.allocated, o.base) (eq-eqb x x refl)

  starts-not : (dir' : Dir) (m : ℕ) → 1 ≤ m → m ≤ 15 → key dir' m ≢ key dir n → starts_at d dir' x m ≡ false
  unfolding starts_at
  starts-not dir' m l h k = rw (alloc-is d.allocator dir' m l h)
      (go (bit_is_set (allocated_ins d.allocator dir') m) refl (eqb (ep_on d dir' m).base x) refl)
    where
      go : (t : Bool) → bit_is_set (allocated_ins d.allocator dir') m ≡ t → (u : Bool) → eqb (ep_on d dir' m).base x ≡ u
          → (t && u) ≡ false
      go true t true u = absurd (k (o.only dir' m h t (eqb-true _ _ u)))
      go true t false u = refl
      go false t true u = refl
      go false t false u = refl

none_found : (d : Driver) (dir : Dir) (x : ℕ) → ((m : ℕ) → 1 ≤ m → m ≤ 15 → starts_at d dir x m ≡ false)
    → (left e : ℕ) → 1 ≤ e → e + left ≤ 16 → found_at d dir x left e ≡ 0
unfolding found_at
none_found d dir x h zero e l z = refl
none_found d dir x h (suc left) e l z = rw (h e l (omega arith))
    (none_found d dir x h left (suc e) (omega arith) (omega arith))

one_found : (d : Driver) (dir : Dir) (x n : ℕ) → starts_at d dir x n ≡ true
    → ((m : ℕ) → 1 ≤ m → m ≤ 15 → (m ≡ n → ⊥) → starts_at d dir x m ≡ false)
    → (left e : ℕ) → 1 ≤ e → e ≤ n → n < e + left → e + left ≤ 16 → found_at d dir x left e ≡ n
unfolding found_at
one_found d dir x n t h zero e l a b z = absurd (omega arith)
one_found d dir x n t h (suc left) e l a b z = go (λ k. one_found d dir x n t h left (suc e) (omega arith) k
    (omega arith) (omega arith)) (eqb e n) refl
  where
    go : (suc e ≤ n → found_at d dir x left (suc e) ≡ n) → (u : Bool) → eqb e n ≡ u
        → cond (starts_at d dir x e) e (found_at d dir x left (suc e)) ≡ n
    go i true u = let k = eqb-true e n u in rw (ap (starts_at d dir x) k ∙ t) k
    go i false u = let k = eqb-false e n u in rw (h e l (omega arith) k) (i (omega arith))

apart-same : (dir : Dir) (m n : ℕ) → m ≤ 15 → n ≤ 15 → (m ≡ n → ⊥) → key dir m ≢ key dir n
unfolding key
apart-same Out m n a b h k = h (omega arith)
apart-same In m n a b h k = h (omega arith)

-- the next endpoint is the one whose buffers begin where the last one's end
next-is : (left total : ℕ) (d : Driver) (b : List ℕ) (dir : Dir) (e : ℕ) (dir' : Dir) (n kind maximum x : ℕ)
    → end_on d dir e ≡ x → Owns d dir' n kind maximum x
    → go (following (suc left) total dir e) d b ≡ go (announcing left total dir' n) d b
next-is left total d b dir e Out n kind maximum x h o =
    let l : suc left - 1 ≡ left = omega arith in
    let f = one_found d Out x n (starts-here d Out n kind maximum x o)
    (λ m p q z. starts-not d Out n kind maximum x o Out m p q (apart-same Out m n q o.high z)) 15 1
    (omega arith) o.low (omega (arith, o.high)) (omega arith) in
    sym (ap (λ (k : ℕ). go (announcing k total Out n) d b) (sym l)
    ∙ after-out (suc left) total d b dir e x n (λ z. omega arith) (sym h) (sym f) (λ z. omega (arith, o.low)))
next-is left total d b dir e In n kind maximum x h o =
    let l : suc left - 1 ≡ left = omega arith in
    let f = none_found d Out x (λ m p q. starts-not d In n kind maximum x o Out m p q (λ k. key_apart m n k)) 15 1
    (omega arith) (omega arith) in
    let g = one_found d In x n (starts-here d In n kind maximum x o)
    (λ m p q z. starts-not d In n kind maximum x o In m p q (apart-same In m n q o.high z)) 15 1
    (omega arith) o.low (omega (arith, o.high)) (omega arith) in
    sym (ap (λ (k : ℕ). go (announcing k total In n) d b) (sym l)
    ∙ after-in (suc left) total d b dir e x 0 (λ z. omega arith) (sym h) (sym f) n refl (sym g))

-- ---- one announcement

armed-back : (r : EpState) (x : ℕ) → r.base ≡ x → r.armed_slot ≡ x → armed_at r r.base ≡ r
unfolding armed_at
armed-back r x p q = ap (armed_at r) (p ∙ sym q)

abbrev pub pair : ℕ → Driver → ℕ × Driver
pair x d = (x, d)

pub placed : (d : Driver) (dir : Dir) (n x : ℕ) → (ep_on d dir n).base ≡ x → (ep_on d dir n).armed_slot ≡ x
    → place_on dir n d ≡ pair x d
unfolding place_on
placed d In n x p q = rw p
placed d Out n x p q = go (bit_is_set (iso_outs d.globals) (n % 16))
  where
    go : (t : Bool) → cond t (pair (ep_on d Out n).armed_slot d)
        (pair (ep_on d Out n).base (with_on d Out n (armed_at (ep_on d Out n) (ep_on d Out n).base))) ≡ pair x d
    go true = rw q
    go false = ap (λ (z : ℕ). pair z (with_on d Out n (armed_at (ep_on d Out n) (ep_on d Out n).base))) p
        ∙ ap (pair x) (ap (with_on d Out n) (armed-back (ep_on d Out n) x p q) ∙ with_on-back d Out n)

module _ (left total : ℕ) (d : Driver) (b : List ℕ) (dir : Dir) (n kind maximum x : ℕ)
    (o : Owns d dir n kind maximum x) where
  abbrev buffer : Bool → ℕ × Driver → tree.Out St Unit
  buffer c p = cond c (asks (dma dir n p.0) (p.1, b) (λ _ u. ends tt u)) (ends tt (d, b))

  abbrev tail : Bool → ℕ × Driver → tree.Out St ℕ
  tail c p = bind_out (bind_out (buffer c p) (λ _ u. ends n u)) (λ _ u. run concrete (following left total dir n) u)

  kinds : not (eqb ((ep_on d dir n).kind % 4) 0) ≡ not (eqb (kind % 4) 0)
  kinds = let z : kind % 4 % 4 ≡ kind % 4 = omega arith in rw (o.has_kind, z)

  tail-hands : (c : Bool) → hands_out (tail c (pair x d)) ≡ cond c (dma dir n x ∷ []) []
      ++ hands_out (go (following left total dir n) d b)
  tail-hands true = refl
  tail-hands false = refl

  tail-ends : (c : Bool) → ends_with (tail c (pair x d)) ≡ ends_with (go (following left total dir n) d b)
  tail-ends true = refl
  tail-ends false = refl

  pub announce-hands : hands_out (go (announcing left total dir n) d b) ≡ accesses dir n kind maximum x
      ++ hands_out (go (following left total dir n) d b)
  announce-hands =
      ap (λ (m : ℕ). Write EpMaxLen n m ∷ hands_out (tail (not (eqb ((ep_on d dir n).kind % 4) 0)) (place_on dir n d)))
      o.has_maximum
      ∙ ap (λ (p : ℕ × Driver). Write EpMaxLen n maximum ∷ hands_out (tail (not (eqb ((ep_on d dir n).kind % 4) 0)) p))
      (placed d dir n x o.base o.armed)
      ∙ ap (λ (c : Bool). Write EpMaxLen n maximum ∷ hands_out (tail c (pair x d))) kinds
      ∙ ap (λ (q : List Access). Write EpMaxLen n maximum ∷ q) (tail-hands (not (eqb (kind % 4) 0)))

  pub announce-ends : ends_with (go (announcing left total dir n) d b) ≡ ends_with (go (following left total dir n) d b)
  announce-ends =
      ap (λ (p : ℕ × Driver). ends_with (tail (not (eqb ((ep_on d dir n).kind % 4) 0)) p))
      (placed d dir n x o.base o.armed)
      ∙ tail-ends (not (eqb ((ep_on d dir n).kind % 4) 0))

  pub end_is : end_on d dir n ≡ x + slots_of (is_iso kind) dir * d.allocator.size
  unfolding end_on is_iso
  end_is = let z : kind % 4 % 4 ≡ kind % 4 = omega arith in rw (o.base, o.has_kind, z)

-- ---- the whole walk

-- the endpoints of a list, one above the other from byte x on
abbrev pub Chain : Driver → ℕ → List Endpoint → Type 0
Chain d x [] = Unit {0}
Chain d x (e ∷ es) = Owns d (direction_of e.address) (e.address % 128) e.kind e.maximum x
    × Chain d (x + slots_of (is_iso e.kind) (direction_of e.address) * d.allocator.size) es

pub walk-hands : (es : List Endpoint) (total : ℕ) (d : Driver) (b : List ℕ) (dir : Dir) (n x : ℕ) → end_on d dir n ≡ x
    → Chain d x es
    → (hands_out (go (following (length es) total dir n) d b) ≡ handed d.allocator.size x es)
    × (ends_with (go (following (length es) total dir n) d b) ≡ (total, (d, b)))
walk-hands [] total d b dir n x h c = (
  ap hands_out (after_none total d b dir n),
  ap ends_with
      (after_none total d b dir n),
)
walk-hands (e ∷ es) total d b dir n x h c =
    let dir' = direction_of e.address in
    let m = e.address % 128 in
    let s = next-is (length es) total d b dir n dir' m e.kind e.maximum x h c.0 in
    let r = walk-hands es total d b dir' m (x + slots_of (is_iso e.kind) dir' * d.allocator.size)
    (end_is (length es) total d b dir' m e.kind e.maximum x c.0) c.1 in (
      ap hands_out s ∙ announce-hands (length es) total d b dir' m e.kind e.maximum x c.0
          ∙ ap (λ (q : List Access). accesses dir' m e.kind e.maximum x ++ q) r.0,
      ap ends_with s ∙ announce-ends (length es) total d b dir' m e.kind e.maximum x c.0 ∙ r.1,
    )
