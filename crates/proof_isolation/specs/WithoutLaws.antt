-- After the checks no access of the interrupt is made for an isochronous OUT endpoint; during them, none for one whose
-- check is behind
use Rattle.std.specs.Prelude.{Bool, ◌≡◌, refl, ℕ, suc, ◌≤◌, ◌<◌, eqb}
use Rattle.std.proofs.Math.Bool.{true, false}
use mathlib.Core.List.{List, [], ◌∷◌}
use Rattle.std.proofs.Common.{inl, inr, arith, eqb-true}
use Rattle.bits.specs.WalkLaws as walk-laws
use Rattle.regs.specs.declared.Reg.{Reg}
use Rattle.regs.specs.declared.Reg.TheVariants.{IntFg, IntSt, EpRxCtrl, EpTxCtrl}
use Rattle.regs.specs.declared.Dir.{Dir}
use Rattle.regs.specs.declared.Dir.TheVariants.{Out, In}
use Rattle.regs.specs.declared.Token.{Token}
use Rattle.regs.specs.declared.Token.TheVariants as tok
use Rattle.regs.specs.Registers.{ctrl_of}
use Rattle.regs.specs.Status.{token, token_numbered, is_out}
use Rattle.state.specs.declared.Globals.{Globals}
use Rattle.script.specs.declared.Transfer.{Transfer}
use Rattle.script.specs.Tree as tree
use Rattle.script.specs.Tree.{bind_out}
use Rattle.script.specs.Cells.{EpCore}
use Rattle.script.specs.Every.{same_reg}
use Rattle.script.specs.Script.{Script, run, ret, bind, test, done, ◌>>=◌, ◌>>◌, when, read, write, look, changed}
use Rattle.script.specs.Script.{marked}
use Rattle.script.specs.Statics.{modify, modify_ep, modify_reg, wake}
use Rattle.script.specs.IsoOut.{arriving, entry, arrives, check_one, check_walk}
use Rattle.script.specs.Handler.{moved_on, ep0_moved_on, take_setup, on_setup}
use Rattle.script_ops.specs.Rings.{St}
use Rattle.script_ops.specs.Concrete.{concrete, is_of, look_of}
use Rattle.proof_isolation.specs.Apart.{next, never, elsewhere, Without, without_end, without_ask}
use Rattle.proof_isolation.specs.PairsLaws.{another-bind}

pub without-bind : {x : ℕ} {A B : Type 0} {y : tree.Out St A} {g : A → St → tree.Out St B} → Without x y
    → ((a : A) (s : St) → Without x (g a s))
    → Without x (bind_out y g)
without-bind without_end h = h _ _
without-bind {g = g} (without_ask n k) h = without_ask (λ t. another-bind g (n t)) (λ v t. without-bind (k v t) h)

-- of every endpoint
pub record Quiet {A : Type 0} (p : Script true A) : Type 0 where
  pub on : (x : ℕ) (s : St) → Without x (run concrete p s)

pub q_ret : {A : Type 0} {a : A} → Quiet (ret a)
q_ret = record { on = λ x s. without_end }

pub q_bind : {A B : Type 0} {p : Script true A} {f : A → Script true B} → Quiet p → ((a : A) → Quiet (f a))
    → Quiet (bind p f)
q_bind h k = record { on = λ x s. without-bind (h.on x s) (λ a t. (k a).on x t) }

q-then : {A B : Type 0} {p : Script true A} {q : Script true B} → Quiet p → Quiet q → Quiet (p >> q)
q-then h k = q_bind h (λ _. k)

q_test : {A : Type 0} {p q : Script true A} (b : Bool) → Quiet p → Quiet q → Quiet (test b p q)
q_test true h k = record { on = λ x s. h.on x s }
q_test false h k = record { on = λ x s. k.on x s }

pub q_when : {p : Script true Unit} (b : Bool) → Quiet p → Quiet (when b p)
q_when b h = q_test b h q_ret

q_read : (r : Reg) (e : ℕ) → same_reg r IntSt ≡ false → Quiet (read r e)
q_read r e h = record { on = λ x s. without_ask (λ t. never h) (λ v t. without_end) }

q_write : (r : Reg) (e v : ℕ) → Quiet (write r e v)
q_write r e v = record { on = λ x s. without_ask (λ t. never refl) (λ v t. without_end) }

q_modify : (f : Globals → Globals) → Quiet (modify f)
q_modify f = record { on = λ x s. without_end }

q-modify-ep : (dir : Dir) (e : ℕ) (f : EpCore → EpCore) → Quiet (modify_ep dir e f)
q-modify-ep dir e f = record { on = λ x s. without_end }

q-modify-reg : (r : Reg) (e : ℕ) (f : ℕ → ℕ) → same_reg r IntSt ≡ false → Quiet (modify_reg r e f)
q-modify-reg r e f h = q_bind (q_read r e h) (λ w. q_write r e (f w))

q_wake : (dir : Dir) (e : ℕ) → Quiet (wake dir e)
q_wake dir e = record { on = λ x s. without_end }

no-status : (dir : Dir) → same_reg (ctrl_of dir) IntSt ≡ false
no-status Out = refl
no-status In = refl

-- ---- after the checks

q-moved : (dir : Dir) → Quiet (moved_on dir)
q-moved dir = q_bind (record { on = λ x s. without_end })
    (λ s. q_when _ (q-then (q-modify-reg (ctrl_of dir) 0 _ (no-status dir))
    (q-then (q-modify-ep dir 0 _) (q_wake dir 0))))

pub q-moved-on : (t : Token) → Quiet (ep0_moved_on t)
q-moved-on tok.Out = q-moved In
q-moved-on tok.In = q-moved Out
q-moved-on tok.Sof = q_ret
q-moved-on tok.Setup = q_ret

q-take-setup : Quiet take_setup
q-take-setup = q_bind (record { on = λ x s. without_end }) (λ low. q_bind (record { on = λ x s. without_end }) (λ high.
    q-then (q-modify-ep Out 0 _) (q-then (q-modify-ep In 0 _)
    (q-then (q_modify _) (q-then (q_write IntFg 0 _) (q-then (q_wake Out 0) (q_wake In 0)))))))

pub q-setup : Quiet on_setup
q-setup = q-then (q_write EpRxCtrl 0 _) (q-then (q_write EpTxCtrl 0 _) q-take-setup)

-- ---- the checks of other endpoints

module _ (x : ℕ) (y : Transfer) (iso : Bool) where
  arrives-without : (e m : ℕ) → eqb e x ≡ false → (s : St) → Without x (run {i = true} concrete (arrives e m) s)
  arrives-without e m n s = without_ask (λ t. never n) (λ v t. without_end)

  rest-without : (e v : ℕ) → eqb e x ≡ false → (s : St)
      → Without x (run {i = true} concrete (test (arriving v e) done (look (marked e) >>= λ len. arrives e len)) s)
  rest-without e v n s = by (arriving v e)
    where
      by : (b : Bool) → Without x (run {i = true} concrete (test b done (look (marked e) >>= λ len. arrives e len)) s)
      by true = without_end
      by false = arrives-without e (look_of (marked e) s) n s

  body-without : (e : ℕ) → eqb e x ≡ false → (u : Bool) (s : St) → Without x (run {i = true} concrete
      (test u (arrives e y.len) (read IntSt 0 >>= λ v. test (arriving v e) done
      (look (marked e) >>= λ len. arrives e len))) s)
  unfolding arriving is_out token token_numbered
  body-without e n true s = arrives-without e y.len n s
  body-without e n false s = without_ask (λ _. elsewhere (next n)) (λ v t. rest-without e v n t)

  check-without : (e : ℕ) → eqb e x ≡ false → (s : St) → Without x (run {i = true} concrete (check_one y iso e) s)
  check-without e n s = by (is_of (changed e) s)
    where
      by : (b : Bool) → Without x (run {i = true} concrete (when b (test (entry y iso e) (arrives e y.len)
          (read IntSt 0 >>= λ v. test (arriving v e) done (look (marked e) >>= λ len. arrives e len)))) s)
      by true = body-without e n (entry y iso e) s
      by false = without_end

  walk-without : (es : List ℕ) → ((e : ℕ) → walk-laws.In e es → eqb e x ≡ false) → (s : St)
      → Without x (run {i = true} concrete (check_walk y iso es) s)
  unfolding check_walk
  walk-without [] f s = without_end
  walk-without (e ∷ es) f s = without-bind (check-without e (f e (inl refl)) s)
      (λ _ t. walk-without es (λ a m. f a (inr m)) t)

-- those of a rising list are above the ones behind
above : (i e : ℕ) (es : List ℕ) → walk-laws.Rising i es → walk-laws.In e es → i ≤ e
above i e [] r m = absurd m
above i e (a ∷ es) r (inl m) = omega (arith, r.0, m)
above i e (a ∷ es) r (inr m) = omega (arith, r.0, above (suc a) e es r.1 m)

differ : (e x : ℕ) → x < e → eqb e x ≡ false
differ e x l = by (eqb e x) refl
  where
    by : (b : Bool) → eqb e x ≡ b → eqb e x ≡ false
    by true h = absurd (omega (arith, l, eqb-true e x h))
    by false h = h

pub later-without : (x : ℕ) (y : Transfer) (iso : Bool) (i : ℕ) (es : List ℕ) → walk-laws.Rising i es → x < i → (s : St)
    → Without x (run {i = true} concrete (check_walk y iso es) s)
later-without x y iso i es r l s = walk-without x y iso es (λ a m. differ a x (omega (arith, l, above i a es r m))) s
