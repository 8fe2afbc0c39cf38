-- Laws on the definitions of Wait.antt
use Rattle.std.specs.Prelude.{◌≡◌, refl, ◌≢◌, Bool, true, false, ◌||◌, ℕ, zero, suc, ◌-◌, ◌<◌, eqb}
use Rattle.std.proofs.Common.{ap, sym, ◌∙◌, true≢false, arith, eqb-true}
use Rattle.regs.specs.declared.Access.TheVariants.{Read}
use Rattle.regs.specs.declared.Reg.TheVariants.{MisSt}
use Rattle.regs.specs.MisStatus.{sie_free}
use Rattle.script.specs.Tree as tree
use Rattle.script.specs.Tree.{asks, ends, bind_out}
use Rattle.script.specs.Script.{run, done, test}
use Rattle.script.specs.Handler.{looks, sie_wait}
use Rattle.script_ops.specs.Rings.{St}
use Rattle.script_ops.specs.Concrete.{concrete}
use Rattle.interrupt.specs.Wait.{looked, over}

none_left : (t : St) → run concrete (looks {i = true} 0) t ≡ ends tt t
unfolding looks
none_left t = refl

one-look : (n : ℕ) (t : St) → run concrete (looks {i = true} (suc n)) t ≡ asks (Read MisSt 0) t (λ v u. looked v n u)
unfolding looks looked
one-look n t = refl

less : (n : ℕ) → n ≡ suc n - 1
less n = omega arith

none : (n : ℕ) → suc n ≢ 0
none n h = omega (arith, h)

-- free, or no look is left
ended : (a : Bool) (n : ℕ) → (a || eqb n 0) ≡ true → (t : St) → run concrete (test {i = true} a done (looks n)) t
    ≡ ends tt t
ended true n h t = refl
ended false zero h t = none_left t
ended false (suc n) h t = absurd (none n (eqb-true (suc n) 0 h))

again : (a : Bool) (n : ℕ) → (a || eqb n 0) ≡ false
    → (t : St) → run concrete (test {i = true} a done (looks n)) t ≡ asks (Read MisSt 0) t (λ v u. looked v (n - 1) u)
again true n h t = absurd (true≢false h)
again false zero h t = absurd (true≢false h)
again false (suc n) h t = one-look n t ∙ ap (λ (k : ℕ). asks (Read MisSt 0) t (λ v u. looked v k u)) (less n)

some : (a : Bool) (n : ℕ) → (a || eqb n 0) ≡ false → 0 < n
some true n h = absurd (true≢false h)
some false zero h = absurd (true≢false h)
some false (suc n) h = omega arith

pub wait-begun : {A : Type 0} (f : Unit {0} → tree.Prog St A) (t : St)
    → bind_out (run concrete (sie_wait {i = true}) t) f ≡ asks (Read MisSt 0) t (λ v u. bind_out (looked v 2000 u) f)
wait-begun f t = ap (λ (o : tree.Out St Unit). bind_out o f) (one-look 2000 t)

pub wait-over : (v n : ℕ) → over v n ≡ true → {A : Type 0} (f : Unit {0} → tree.Prog St A) (t : St)
    → bind_out (looked v n t) f ≡ f tt t
unfolding looked over
wait-over v n h f t = ap (λ (o : tree.Out St Unit). bind_out o f) (ended (sie_free v) n h t)

pub wait-more : (v n : ℕ) → over v n ≡ false → {A : Type 0} (f : Unit {0} → tree.Prog St A) (t : St)
    → bind_out (looked v n t) f ≡ asks (Read MisSt 0) t (λ w u. bind_out (looked w (n - 1) u) f)
unfolding looked over
wait-more v n h f t = ap (λ (o : tree.Out St Unit). bind_out o f) (again (sie_free v) n h t)

-- a look may follow where the wait goes on
pub some_left : (v n : ℕ) → over v n ≡ false → 0 < n
unfolding over
some_left v n h = some (sie_free v) n h

-- what the test of the wait's end told
pub over-told : (v w n : ℕ) (r a : Bool) → w ≡ v → r ≡ over w n → r ≡ a → over v n ≡ a
over-told v w n r a h k l = ap (λ (x : ℕ). over x n) (sym h) ∙ (sym k ∙ l)
