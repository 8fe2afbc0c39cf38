-- DATA0 after a cleared halt, a configuration and a bus reset (USB 2.0, 9.1.1.5, 9.4.5): the toggle of the endpoint's
-- control word, as it was last written, whatever it was before, whatever is read and whatever becomes of the state
use Rattle.std.specs.Prelude.{Bool, true, false, not, cond, ◌&&◌, ◌⊎◌, ◌≡◌, refl, eqb}
use Rattle.std.proofs.Common.{inl, inr, arith, eq-eqb}
use Prim.Native.Nat.{ℕ, zero, suc, ◌+◌, ◌≤◌, ◌<◌}
use Rattle.std.proofs.Math.Decide.{ℕ_discrete}
use Rattle.regs.specs.declared.Access.{Access}
use Rattle.regs.specs.declared.Access.TheVariants.{Read, Write, Receive, Transmit, Ep0Dma, Wait, Callback}
use Rattle.regs.specs.declared.Dir.{Dir}
use Rattle.regs.specs.declared.Dir.TheVariants.{Out, In}
use Rattle.regs.specs.Registers.{ctrl_of}
use Rattle.regs.specs.ControlWord as word
use Rattle.regs.specs.ControlWord.{toggle, word_of}
use Rattle.script.specs.Tree as tree
use Rattle.script.specs.Tree.{ends}
use Rattle.script.specs.Cells.{EpCore, ep-cell}
use Rattle.script.specs.Script.{Ops, run, rows, switch, bus_reset_lem}
use Rattle.script.specs.Statics.{is_on, wake_all}
use Rattle.script.specs.Bus.{restarted, restarted_out, restarted_in, set_stalled, set_enabled, set_enabled_out, nak_all}
use Rattle.script.specs.Bus.{bus_reset}
use Rattle.script.specs.Every.{Chip, Every, at_end, at_ask, same_reg}
use Rattle.script.specs.EveryLaws.{every_bind, every-cond}
use Rattle.script.specs.Usb20Toggles.{initial}
use Rattle.script.specs.TogglesLaws.{number}
use Rattle.script.specs.Data0Laws.{word-data0}

-- the toggle that was written last
abbrev pub last_toggle : Dir → ℕ → ℕ → Access → ℕ
last_toggle d e b (Write r f v) = cond (same_reg r (ctrl_of d) && eqb f e) (toggle v) b
last_toggle d e b (Read r f) = b
last_toggle d e b (Receive f x) = b
last_toggle d e b (Transmit f x) = b
last_toggle d e b (Ep0Dma x) = b
last_toggle d e b (Wait n) = b
last_toggle d e b Callback = b

abbrev pub control_word : Dir → ℕ → Chip
control_word d e = record { Holds = ℕ; Brings = λ _ _ _. Unit {0}; after = last_toggle d e }

abbrev pub ToggleAtEnd : {S A : Type 0} → Dir → ℕ → (ℕ → Type 0) → ℕ → tree.Out S A → Type 0
ToggleAtEnd {S = S} d e P b o = Every (control_word d e) (λ (s t : S). Unit {0}) (λ _. Unit {0}) (λ c _ _. P c) b o

abbrev pub IsData0 : ℕ → Type 0
IsData0 c = c ≡ number initial

-- ---- one word

-- its own
own : (e b v : ℕ) → toggle v ≡ number initial → cond (eqb e e) (toggle v) b ≡ number initial
own e b v h = rw (eq-eqb e e refl) h

-- its own, or it was so
either : (t : Bool) (b v : ℕ) → toggle v ≡ number initial → IsData0 b → cond t (toggle v) b ≡ number initial
either true b v h k = h
either false b v h k = k

restarted-data0 : (r e : ℕ) (s : EpCore) → toggle (restarted r e s) ≡ number initial
unfolding restarted
restarted-data0 r e s = word-data0 _ _

switched-data0 : (on : Bool) → toggle (cond on 1 2) ≡ number initial
unfolding toggle
switched-data0 true = refl
switched-data0 false = refl

module _ {S : Type 0} (O : Ops S) where
  -- ---- a cleared halt

  pub cleared : (i : Bool) (d : Dir) (e b : ℕ) (s : S)
      → ToggleAtEnd d e IsData0 b (run O (set_stalled {i = i} d e false) s)
  unfolding restarted_out restarted_in
  cleared i Out e b s = at_ask tt (λ _ t _ _. at_end (own e b _ (restarted-data0 _ e _)))
  cleared i In e b s = at_ask tt (λ _ t _ _. every_bind {P = λ c _ _. IsData0 c}
      (every-cond (not (is_on (O.get (ep-cell In e) s).iso))
      (λ _. at_end (own e b _ (restarted-data0 _ e _))) (λ _. at_end (own e b _ (restarted-data0 _ e _))))
      (λ _ _ u x. at_end x))

  -- ---- an endpoint is enabled or disabled

  of-in : (e : ℕ) (on : Bool) (b : ℕ) (s : S) → ToggleAtEnd In e IsData0 b (run O (set_enabled In e on) s)
  of-in e on b s = at_ask tt
      (λ _ _ _ _. at_ask tt (λ _ _ _ _. at_ask tt (λ _ _ _ _. at_ask tt
      (λ _ _ _ _. at_ask tt (λ _ _ _ _. at_end (own e b _ (word-data0 _ _)))))))

  of_plain : (e : ℕ) (on : Bool) (b : ℕ) (s : S) → ToggleAtEnd Out e IsData0 b
      (run O (set_enabled_out {i = false} e on) s)
  of_plain e on b s = at_ask tt (λ _ _ _ _. at_ask tt (λ _ _ _ _. at_ask tt
      (λ _ _ _ _. at_ask tt (λ _ _ _ _. at_end (own e b _ (word-data0 _ _))))))

  of_row : (e : ℕ) (on : Bool) (n b : ℕ) (s : S) → ToggleAtEnd Out e IsData0 b
      (rows O (switch e on) (suc (suc n)) (λ t. ends (tt {0}) t) s)
  of_row e on zero b s = at_ask tt (λ _ _ _ _. at_ask tt
      (λ _ _ _ _. at_ask tt (λ _ _ _ _. at_end (own e b _ (switched-data0 on)))))
  of_row e on (suc n) b s = at_ask tt (λ _ t _ _. of_row e on n b t)

  of-out : (e : ℕ) (on iso : Bool) (b : ℕ) (s : S) → ToggleAtEnd Out e IsData0 b
      (cond iso (rows O (switch e on) 18 (λ t. ends (tt {0}) t) s) (run O (set_enabled_out {i = false} e on) s))
  of-out e on true b s = of_row e on 16 b s
  of-out e on false b s = of_plain e on b s

  pub enabled : (d : Dir) (e : ℕ) (on : Bool) (b : ℕ) (s : S) → ToggleAtEnd d e IsData0 b (run O (set_enabled d e on) s)
  enabled In e on b s = of-in e on b s
  enabled Out e on b s = every_bind (of-out e on (is_on (O.get (ep-cell Out e) s).iso) b s) (λ _ _ _ p. at_end p)

  -- ---- a bus reset, of every endpoint

  -- it is so, or the endpoint is among the n from f on; one further
  next : (e n f b : ℕ) → IsData0 b ⊎ ((f ≤ e) × (e < f + suc n)) → Dec (f ≡ e)
      → IsData0 (cond (eqb f e) (toggle (word_of word.NAK word.DATA0 false)) b) ⊎ ((suc f ≤ e) × (e < suc f + n))
  next e n f b (inl k) q = inl (either (eqb f e) b _ (word-data0 _ _) k)
  next e n f b (inr k) (yes q) = inl (rw (eq-eqb f e q) (word-data0 _ _))
  next e n f b (inr k) (no q) = inr (omega (arith, k.0, k.1), omega (arith, k.0, k.1))

  naks : (d : Dir) (e n f b : ℕ) (s : S) → IsData0 b ⊎ ((f ≤ e) × (e < f + n))
      → ToggleAtEnd d e IsData0 b (run O (nak_all {i = false} n f) s)
  unfolding nak_all
  naks d e zero f b s (inl h) = at_end h
  naks d e zero f b s (inr h) = absurd (omega (arith, h.0, h.1))
  naks Out e (suc n) f b s h = at_ask tt (λ _ _ _ _. at_ask tt
      (λ _ t _ _. naks Out e n (suc f) _ t (next e n f b h (ℕ_discrete f e))))
  naks In e (suc n) f b s h = at_ask tt (λ _ _ _ _. at_ask tt
      (λ _ t _ _. naks In e n (suc f) _ t (next e n f b h (ℕ_discrete f e))))

  first : (e b v : ℕ) → e ≤ 15 → toggle v ≡ number initial → IsData0 (cond (eqb 0 e) (toggle v) b)
      ⊎ ((1 ≤ e) × (e < 1 + 15))
  first e b v l h = go (ℕ_discrete 0 e)
    where
      go : Dec (0 ≡ e) → IsData0 (cond (eqb 0 e) (toggle v) b) ⊎ ((1 ≤ e) × (e < 1 + 15))
      go (yes q) = inl (rw (eq-eqb 0 e q) h)
      go (no q) = inr (omega arith, omega arith)

  -- the row writes no control word
  ends-row : (d : Dir) (e b : ℕ) (s : S) → IsData0 b → ToggleAtEnd d e IsData0 b
      (rows O bus_reset_lem 3 (λ t. ends (tt {0}) t) s)
  ends-row Out e b s h = at_ask tt (λ _ _ _ _. at_ask tt
      (λ _ _ _ _. at_ask tt (λ _ _ _ _. at_ask tt (λ _ _ _ _. at_end h))))
  ends-row In e b s h = at_ask tt (λ _ _ _ _. at_ask tt
      (λ _ _ _ _. at_ask tt (λ _ _ _ _. at_ask tt (λ _ _ _ _. at_end h))))

  pub bus-reset-all : (d : Dir) (e : ℕ) → e ≤ 15 → (b : ℕ) (s : S) → ToggleAtEnd d e IsData0 b (run O bus_reset s)
  bus-reset-all Out e l b s = at_ask tt (λ _ _ _ _. at_ask tt (λ _ _ _ _. at_ask tt (λ _ t _ _.
      every_bind (naks Out e 15 1 _ t (first e b _ l (word-data0 _ _)))
      (λ c _ u p. every_bind {f = λ (_ : Unit {0}) (v : S). run O (wake_all {i = false}) v} (ends-row Out e c u p)
      (λ _ _ _ z. at_end z)))))
  bus-reset-all In e l b s = at_ask tt (λ _ _ _ _. at_ask tt (λ _ _ _ _. at_ask tt (λ _ t _ _.
      every_bind (naks In e 15 1 _ t (first e b _ l (word-data0 _ _)))
      (λ c _ u p. every_bind {f = λ (_ : Unit {0}) (v : S). run O (wake_all {i = false}) v} (ends-row In e c u p)
      (λ _ _ _ z. at_end z)))))
