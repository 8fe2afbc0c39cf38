-- A refusal leaves every byte that was lent, but for a poll's 9 and 10: by a call's contract, of which r is Refused n
use Rattle.std.specs.Prelude.{Bool, true, false, not, cond, List, [], ◌⊎◌, ◌≡◌, refl, ℕ, eqb}
use Rattle.std.proofs.Common.{true≢false, inl, inr, ap, sym, ◌∙◌}
use Rattle.state.specs.Driver.{Driver}
use Rattle.state.specs.State.{view, saved}
use Rattle.state.specs.Determined.{Bytes, determined}
use Rattle.script.specs.Answers.{Answer, Refused}
use Rattle.script.specs.Calls.{Config, Op}
use Rattle.script.specs.Machine.{Buf, Call, start, begin, continue, question, Machine, Ans, ended}
use Rattle.answer.specs.declared.Step.TheVariants as step
use Rattle.machine.specs.Suspended.{decode, machine_at, machine_of, drive, answer_of, slots_fit, lent_or}
use Rattle.machine.specs.Suspended.{BufferUnchangedOnRow1, SavedByAnswer}
use Rattle.answer.specs.Goes.{StepResult}
use Rattle.calls.specs.Sharing.{shared_call}
use Rattle.proof_refusals.specs.Left.{Poll, poll_of, request_ended, flag_cleared, left_by, left, buffers_row}
use Rattle.proof_refusals.proofs.Scripts.{unpolled}
use Rattle.proof_refusals.proofs.RefusalsLaws.{refusal}
use Rattle.proof_refusals.proofs.SharedLaws.{shared-refusal}
use Rattle.proof_refusals.specs.Bytes.{Spares, BringsSlots}

other-number : (p : Poll) (n : ℕ) (d : Driver) → eqb n 9 ≡ false → eqb n 10 ≡ false → left_by p n d ≡ d
other-number p n d h g = ap (λ (x : Bool). cond x (request_ended p d)
    (cond (eqb n 10) (request_ended p (flag_cleared p d)) d)) h
    ∙ ap (λ (x : Bool). cond x (request_ended p (flag_cleared p d)) d) g

spared : (c : Call Config Op) (n : ℕ) (d : Driver) → Spares c n → left c n d ≡ d
spared (start c) n d s = refl
spared (begin o) n d (inl p) = ap (λ (x : Poll). left_by x n d) p ∙ unpolled n d
spared (begin o) n d (inr h) = other-number (poll_of o) n d h.0 h.1
spared (continue v) n d s = refl
spared (question q) n d s = refl

module _ (c : Call Config Op) (n : ℕ) (xs ys : List ℕ) where
  -- the driver's part of the state after a call, by its contract: a is the run's slot buffer, b the one lent, b' the
  -- run's afterwards
  pub view-left : (a b b' : Buf)
      → ◌≡◌ {A = StepResult} (answer_of (step.Refused n) [] (view ys), machine_of ys b') (drive c (machine_of xs a) b)
      → view ys ≡ left c n (view xs)
  view-left a b b' e = ap (λ (z : StepResult). z.1.st) e ∙ ap (λ (z : Machine Answer Driver). z.st)
      (refusal c (decode (saved xs)) (view xs) a b n (sym (ap (λ (z : StepResult). z.0) e)))

  -- every byte of the state
  pub bytes_left : (a b b' : Buf)
      → ◌≡◌ {A = StepResult} (answer_of (step.Refused n) [] (view ys), machine_of ys b') (drive c (machine_of xs a) b)
      → SavedByAnswer (step.Refused n) xs ys
      → Spares c n → Bytes xs → Bytes ys → ys ≡ xs
  bytes_left a b b' e k s x y = determined xs ys x y (view-left a b b' e ∙ spared c n (view xs) s) k

fitting-row : (c : Call Config Op) (d : Driver) (b : Buf) → BringsSlots c ≡ true → slots_fit d b ≡ true
    → buffers_row c d b ≡ false
fitting-row (start c) d b h f = absurd (true≢false (sym h))
fitting-row (begin o) d b h f = ap (λ (x : Bool). cond x (not (slots_fit d b)) false) h ∙ ap not f
fitting-row (continue v) d b h f = ap not f
fitting-row (question q) d b h f = absurd (true≢false (sym h))

-- the run's slot buffer, as a refusal leaves it, is the lent one where that fits
as_lent : (c : Call Config Op) (xs : List ℕ) (b after : Buf) → lent_or (view xs) b after []
    ≡ cond (buffers_row c (view xs) b) [] b
    → BufferUnchangedOnRow1 (view xs) b after → BringsSlots c ≡ true → after ≡ b
as_lent c xs b after run l h = by-fit (slots_fit (view xs) b) refl
  where
    by-fit : (x : Bool) → slots_fit (view xs) b ≡ x → after ≡ b
    by-fit false f = l f
    by-fit true f = sym (ap (λ (z : Bool). cond z after []) f) ∙ run
        ∙ ap (λ (z : Bool). cond z [] b) (fitting-row c (view xs) b h f)

-- every byte of the slots
pub slots-left : (c : Call Config Op) (n : ℕ) (xs ys : List ℕ) (b after : Buf)
    → ((a : Buf) → ◌≡◌ {A = StepResult} (
      answer_of (step.Refused n) [] (view ys),
      machine_of ys
          (lent_or (view xs) b after a),
    ) (drive c (machine_of xs a) b))
    → BufferUnchangedOnRow1 (view xs) b after → BringsSlots c ≡ true → after ≡ b
slots-left c n xs ys b after e l h = as_lent c xs b after run-buffer l h
  where
    run-buffer : lent_or (view xs) b after [] ≡ cond (buffers_row c (view xs) b) [] b
    run-buffer = ap (λ (z : StepResult). z.1.buf) (e []) ∙ ap (λ (z : Machine Answer Driver). z.buf)
        (refusal c (decode (saved xs)) (view xs) [] b n (sym (ap (λ (z : StepResult). z.0) (e []))))

-- ---- with the record of bus time, row 19 too: x is what the call of driver i answered, t the record before it, t' the
-- one after it
module _ (i : ℕ) (c : Call Config Op) (n : ℕ) (xs ys : List ℕ) (x : Ans Answer) (refuses : x ≡ ended (Refused n)) where
  module _ (a b b' : Buf) (t t' : List ℕ)
      (did : ◌≡◌ {A = StepResult × List ℕ} ((x, machine_of ys b'), t') (shared_call i c (machine_of xs a) t b)) where
    leaves : ((shared_call i c (machine_of xs a) t b).0.1
        ≡ machine_at (decode (saved xs)) (left c n (view xs)) (cond (buffers_row c (view xs) b) a b))
        × ((shared_call i c (machine_of xs a) t b).1 ≡ t)
    leaves = shared-refusal i c (decode (saved xs)) (view xs) a b t n
        (sym (ap (λ (z : StepResult × List ℕ). z.0.0) did) ∙ refuses)

    -- the record
    pub time-left : t' ≡ t
    time-left = ap (λ (z : StepResult × List ℕ). z.1) did ∙ leaves.1

    run-left : b' ≡ cond (buffers_row c (view xs) b) a b
    run-left = ap (λ (z : StepResult × List ℕ). z.0.1.buf) did
        ∙ ap (λ (z : Machine Answer Driver). z.buf) leaves.0

    -- every byte of the state
    pub shared-bytes-left : saved ys ≡ saved xs → Spares c n → Bytes xs → Bytes ys → ys ≡ xs
    shared-bytes-left k s p q =
        let v : view ys ≡ left c n (view xs) =
        ap (λ (z : StepResult × List ℕ). z.0.1.st) did ∙ ap (λ (z : Machine Answer Driver). z.st) leaves.0 in
        determined xs ys p q (v ∙ spared c n (view xs) s) k

  -- every byte of the slots
  pub shared-slots-left : (b after : Buf) (t t' : List ℕ)
      → ((a : Buf) → ◌≡◌ {A = StepResult × List ℕ} ((x, machine_of ys (lent_or (view xs) b after a)), t')
      (shared_call i c (machine_of xs a) t b))
      → BufferUnchangedOnRow1 (view xs) b after → BringsSlots c ≡ true → after ≡ b
  shared-slots-left b after t t' e l h = as_lent c xs b after (run-left [] b (lent_or (view xs) b after []) t t' (e []))
      l h
