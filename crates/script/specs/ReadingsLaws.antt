-- What a script spends (Spends) is a bound on its readings
use Rattle.std.specs.Prelude.{Bool, true, false, [], ◌∷◌, ◌≡◌, refl, ℕ, zero, suc, ◌+◌, ◌-◌, ◌≤◌}
use Rattle.std.proofs.Common.{arith}
use Rattle.regs.specs.declared.Access.{Access}
use Rattle.regs.specs.declared.Access.TheVariants.{Read}
use Rattle.regs.specs.declared.Dir.TheVariants.{Out, In}
use Rattle.script.specs.Tree as tree
use Rattle.script.specs.Tree.{ends, asks, Prog, bind_out}
use Rattle.script.specs.Script.{Script, Ops, run, rows, DmaStep, dma_step_ask, arrive, send, place, place0, Burst}
use Rattle.script.specs.Script.{switch, bus_reset_lem, last_of, burst_ask}
use Rattle.script.specs.Readings.{reading, readings, AtMost, Reads≤}
use Rattle.script.specs.Spends.{Spends, raised, ret, bind, either, yes, no, read, write, wait, callback, get, put}
use Rattle.script.specs.Spends.{is, look, fetch, act, wake, begin, hand, row}

-- ---- outcomes

end-path : {S A : Type 0} (n : ℕ) (a : A) (s : S) → AtMost n (ends a s)
unfolding readings
end-path n a s w = omega arith

bind-path : {S A B : Type 0} (m n : ℕ) (o : tree.Out S A) (f : A → Prog S B) → AtMost m o
    → ((a : A) (s : S) → AtMost n (f a s)) → AtMost (m + n) (bind_out o f)
unfolding readings
bind-path m n (ends a s) f x y w = omega (arith, y a s w)
bind-path m n (asks q s k) f x y [] = omega (arith, x [])
bind-path m n (asks q s k) f x y (c ∷ w) =
    omega (arith, x [], bind-path (m - reading q) n (k c.0 c.1) f (λ w. omega (arith, x (c ∷ w))) y w)

-- an access, and one that is no reading
ask-path : {S A : Type 0} (n : ℕ) (q : Access) (s : S) (k : ℕ → S → tree.Out S A) → ((v : ℕ) (t : S) → AtMost n (k v t))
    → AtMost (reading q + n) (asks q s k)
unfolding readings
ask-path n q s k x [] = omega arith
ask-path n q s k x (c ∷ w) = omega (arith, x c.0 c.1 w)

quiet-path : {S A : Type 0} (n : ℕ) (q : Access) (s : S) (k : ℕ → S → tree.Out S A)
    → reading q ≡ 0 → ((v : ℕ) (t : S) → AtMost n (k v t)) → AtMost n (asks q s k)
unfolding readings
quiet-path n q s k z x [] = omega (arith, z)
quiet-path n q s k z x (c ∷ w) = omega (arith, z, x c.0 c.1 w)

pub hand-quiet : (q : DmaStep) (x : ℕ) → reading (dma_step_ask q x) ≡ 0
hand-quiet (arrive e n) x = refl
hand-quiet (send e) x = refl
hand-quiet (place Out e) x = refl
hand-quiet (place In e) x = refl
hand-quiet place0 x = refl

row-quiet : (g : Burst) (n x : ℕ) → reading (burst_ask g n x) ≡ 0
row-quiet (switch e on) zero x = refl
row-quiet (switch e on) (suc zero) x = refl
row-quiet (switch e on) (suc (suc zero)) x = refl
row-quiet (switch e on) (suc (suc (suc n))) x = refl
row-quiet bus_reset_lem zero x = refl
row-quiet bus_reset_lem (suc zero) x = refl
row-quiet bus_reset_lem (suc (suc zero)) x = refl
row-quiet bus_reset_lem (suc (suc (suc n))) x = refl

rows-path : {S A : Type 0} (O : Ops S) (g : Burst) (n m : ℕ) (k : S → tree.Out S A) → ((t : S) → AtMost m (k t))
    → (s : S) → AtMost m (rows O g n k s)
rows-path O g zero m k x s = quiet-path m _ _ _ (row-quiet g zero _) (λ v t. x t)
rows-path O g (suc n) m k x s = quiet-path m _ _ _ (row-quiet g (suc n) _) (λ v t. rows-path O g n m k x t)

-- ---- scripts

pub reads_of : {i c : Bool} {A : Type 0} {r w : ℕ} {p : Script i A} → Spends c r w p → Reads≤ r p
reads_of (raised x h k) = record { on = λ S O s v. omega (arith, h, (reads_of x).on S O s v) }
reads_of {r = r} ret = record { on = λ S O s. end-path r _ s }
reads_of (bind m n k l x y) = record {
  on = λ S O s. bind-path m n _ _ ((reads_of x).on S O s)
      (λ a t. (reads_of (y a)).on S O t);
}
reads_of (either {b = true} x y) = record { on = λ S O s. (reads_of x).on S O s }
reads_of (either {b = false} x y) = record { on = λ S O s. (reads_of y).on S O s }
reads_of (yes x) = record { on = λ S O s. (reads_of x).on S O s }
reads_of (no x) = record { on = λ S O s. (reads_of x).on S O s }
reads_of (read {r = r} {reg = reg} {e = e} {k = k} x) =
    record {
      on = λ S O s v. omega (
        arith,
        ask-path r (Read reg e) s (λ u t. run O (k u) t)
            (λ u t. (reads_of (x u)).on S O t) v,
      );
    }
reads_of (write x) = record { on = λ S O s. quiet-path _ _ _ _ refl (λ v t. (reads_of x).on S O t) }
reads_of (wait x) = record { on = λ S O s. quiet-path _ _ _ _ refl (λ v t. (reads_of x).on S O t) }
reads_of (callback x) = record { on = λ S O s. quiet-path _ _ _ _ refl (λ v t. (reads_of x).on S O t) }
reads_of (get x) = record { on = λ S O s. (reads_of (x _)).on S O s }
reads_of (put x) = record { on = λ S O s. (reads_of x).on S O _ }
reads_of (is x) = record { on = λ S O s. (reads_of (x _)).on S O s }
reads_of (look x) = record { on = λ S O s. (reads_of (x _)).on S O s }
reads_of (fetch x) = record { on = λ S O s. (reads_of (x _)).on S O s }
reads_of (act q h x) = record { on = λ S O s. (reads_of x).on S O _ }
reads_of (wake codes x) = record { on = λ S O s. (reads_of x).on S O _ }
reads_of (begin h x) = record { on = λ S O s. (reads_of x).on S O _ }
reads_of (hand {q = q} x) = record { on = λ S O s. quiet-path _ _ _ _ (hand-quiet q _) (λ v t. (reads_of x).on S O t) }
reads_of (row {g = g} x) = record { on = λ S O s. rows-path O g (last_of g) _ _ (λ t. (reads_of x).on S O t) s }
