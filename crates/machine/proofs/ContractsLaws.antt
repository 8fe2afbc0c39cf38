-- Laws on the definitions of Contracts.antt: a call that a row stops, and one that none does
use Rattle.std.specs.Prelude.{Bool, true, false, ◌≡◌, refl, List, [], ℕ}
use Rattle.std.proofs.Common.{ap, sym, ◌∙◌, ne_eqb}
use Rattle.state.specs.declared.Saved.{Saved}
use Rattle.state.specs.Driver.{Driver, none_gathered}
use Rattle.state.specs.State.{view, saved}
use Rattle.script_ops.specs.Answers.{lent_after}
use Rattle.script.specs.Tree.{Out, bind_out}
use Rattle.script.specs.Script.{Script, run}
use Rattle.script.specs.Answers.{Answer, operation, staged}
use Rattle.script.specs.Calls.{Other, other, other_code, Slotted, slotted_code}
use Rattle.script.specs.Machine.{Buf, begin}
use Rattle.script_ops.specs.Rings.{St}
use Rattle.script_ops.specs.Concrete.{concrete}
use Rattle.answer.specs.declared.Step.{Step}
use Rattle.answer.specs.declared.Step.TheVariants as step
use Rattle.machine.specs.Suspended.{decode, finish, machine_of, drive, halts, slots_fit, answer_of, SavedByAnswer}
use Rattle.machine.specs.Rows.{is_idle, stop_of}
use Rattle.machine.proofs.RowsLaws.{back, other-idle, slotted-idle, rowed, other-call}
use Rattle.machine.specs.KeepsLaws.{kept_from_lem}
use Rattle.machine.proofs.Lent.{lent-done, lent-busy, lent-misfit, as_lent}
use Rattle.machine.specs.CallContracts.{OtherCall, SlottedCall, PolledCall}

-- what the answer and the bytes say, with any slots
abbrev Comes : Step → List ℕ → (Buf → Out St Answer) → Type 0
Comes r zs x = (b : Buf) → (answer_of r [] (view zs), machine_of zs b) ≡ halts (x b)

-- ---- row 3

-- what is saved did not change, so nothing is under way still
pub idled : {L : Type 0} (xs ys : List ℕ) {t : Bool} → (saved ys ≡ saved xs) × L → t ≡ is_idle (decode (saved xs)) → t
    ≡ true
    → L × (is_idle (decode (saved ys)) ≡ true)
idled xs ys k i t = (k.1, ap (λ (x : Saved). is_idle (decode x)) k.0 ∙ (sym i ∙ t))

module _ (o : Other) (xs : List ℕ) {t : Bool} (i : t ≡ is_idle (decode (saved xs))) where
  pub other-busy : t ≡ false → OtherCall o (step.Refused 3) xs xs
  other-busy f = (λ a b. back (other-idle o (decode (saved xs)) (view xs) a b) (rw (← i, f)), refl)

  -- it ran up to ys, where x was left to run, and its answer was told
  pub other-begun : {L : Type 0} (r : Step) (ys zs : List ℕ) {x : Buf → Out St Answer} → t ≡ true
      → ((b : Buf) → x b ≡ run concrete (other_code o) (view xs, b)) × ((saved ys ≡ saved xs) × L) → Comes r zs x
      × SavedByAnswer r ys zs → OtherCall o r xs zs
  other-begun r ys zs f h k = (
    λ a b. back (other-idle o (decode (saved xs)) (view xs) a b) (k.0 b ∙ (ap halts (h.0 b) ∙ rw (← i, f))),
    kept_from_lem r xs ys zs h.1.0 k.1,
  )

-- ---- rows 1 and 3

module _ (o : Slotted) (xs : List ℕ) (slots : Buf) {f : Bool} (s : f ≡ slots_fit (view xs) slots) where
  pub slotted-misfit : f ≡ false → SlottedCall o (step.Refused 1) xs slots xs slots
  slotted-misfit e = (λ a. back (slotted-idle o (decode (saved xs)) (view xs) a slots) (rw (← s, e)), (λ _. refl, refl))

  pub polled-misfit : f ≡ false → (out : List ℕ) → PolledCall o (step.Refused 1) xs slots out xs out
  polled-misfit e out = (
    (slotted-misfit e).0,
    (
      λ a. sym
          (lent-misfit o (decode (saved xs)) (view xs) a slots out (sym s ∙ e)),
      refl,
    ),
  )

  module _ (e : f ≡ true) {t : Bool} (i : t ≡ is_idle (decode (saved xs))) where
    pub slotted-busy : t ≡ false → SlottedCall o (step.Refused 3) xs slots xs slots
    slotted-busy k = (
      λ a. back (slotted-idle o (decode (saved xs)) (view xs) a slots) (rw (← s, e, ← i, k)),
      (as_lent _ _ _ (sym s ∙ e), refl),
    )

    pub polled-busy : t ≡ false → (out : List ℕ) → PolledCall o (step.Refused 3) xs slots out xs out
    polled-busy k out = (
      (slotted-busy k).0,
      (
        λ a. sym (lent-busy o (decode (saved xs)) (view xs) a slots out (sym s ∙ e)
            (sym i ∙ k)),
        refl,
      ),
    )

    module _ (k : t ≡ true) (r : Step) (zs : List ℕ) (x : Out St Answer)
        (h : x ≡ run concrete (slotted_code o) (view xs, slots))
        (m : SavedByAnswer r xs zs) where
      pub slotted-done : (after : Buf) → (answer_of r [] (view zs), machine_of zs after) ≡ halts x
          → SlottedCall o r xs slots zs after
      slotted-done after c = (
        λ a. back (slotted-idle o (decode (saved xs)) (view xs) a slots) (rw (← s, e, ← i, k) (c ∙ ap halts h)),
        (as_lent _ _ _ (sym s ∙ e), m),
      )

      pub polled-done : (out after : List ℕ) → after ≡ lent_after (run concrete (slotted_code o) (view xs, slots)) out
          → (answer_of r after (view zs), machine_of zs slots) ≡ halts x → PolledCall o r xs slots out zs after
      polled-done out after l c = (
        λ a. back (slotted-idle o (decode (saved xs)) (view xs) a slots) (rw (← s, e, ← i, k) (c ∙ ap halts h)),
        (λ a. l ∙ sym (lent-done o (decode (saved xs)) (view xs) a slots out (sym s ∙ e) (sym i ∙ k)), m),
      )

-- ---- rows 3 and 4

abbrev Stopped : ℕ → ℕ → List ℕ → Type 0
Stopped n k xs = n ≡ stop_of (is_idle (decode (saved xs))) k (view xs).globals.stage

-- an operation that begins: its wake-ups are cleared, then x is left to run
pub begins : (p : Script false ℕ) (d : Driver) {d1 : Driver} (r : Step) (zs : List ℕ) {x : Buf → Out St ℕ} → d1
    ≡ none_gathered d
    → ((b : Buf) → x b ≡ run concrete p (d1, b)) → Comes r zs (λ b. bind_out (x b) (λ n u. run concrete (finish n) u))
    → Comes r zs (λ b. run concrete (operation p) (d, b))
begins p d r zs w h c b = c b ∙ rw (h b, w)

module _ (o : Other) (k : ℕ) (p : Script false Answer) (xs : List ℕ) {n : ℕ} (h : Stopped n k xs)
    (code : (b : Buf) → run concrete (other_code o) (view xs, b) ≡ run concrete (staged k p) (view xs, b)) where
  pub other-stopped : (n ≡ 0 → ⊥) → OtherCall o (step.Refused n) xs xs
  other-stopped e = (
    λ a b. back (other-call o k p (decode (saved xs)) (view xs) a b (code b)) (rw (← h, ne_eqb n 0 e)),
    refl,
  )

  pub other-passed : n ≡ 0 → (r : Step) (zs : List ℕ) → Comes r zs (λ b. run concrete p (view xs, b))
      → SavedByAnswer r xs zs → OtherCall o r xs zs
  other-passed e r zs c m = (
    λ a b. back (other-call o k p (decode (saved xs)) (view xs) a b (code b))
        (c b ∙ rw (← h, e)),
    m,
  )

-- ---- and row 5, which is y turned round

module _ (o : Other) (p : Script false Answer) (y : Bool) (xs : List ℕ) {n : ℕ} (h : Stopped n 2 xs)
    (row : (a b : Buf) → drive (begin (other o)) (machine_of xs a) b ≡ rowed y (decode (saved xs)) (view xs) b p) where
  pub row-stopped : (n ≡ 0 → ⊥) → OtherCall o (step.Refused n) xs xs
  row-stopped e = (λ a b. back (row a b) (rw (← h, ne_eqb n 0 e)), refl)

  module _ (e : n ≡ 0) {t : Bool} (z : t ≡ y) where
    pub row-refused : t ≡ false → OtherCall o (step.Refused 5) xs xs
    row-refused f = (λ a b. back (row a b) (rw (← h, e, ← z, f)), refl)

    pub row-passed : t ≡ true → (r : Step) (zs : List ℕ) → Comes r zs (λ b. run concrete p (view xs, b))
        → SavedByAnswer r xs zs → OtherCall o r xs zs
    row-passed f r zs c m = (λ a b. back (row a b) (c b ∙ rw (← h, e, ← z, f)), m)
