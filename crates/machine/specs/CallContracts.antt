-- What a call answers, and what it leaves in the lent bytes: xs before it, ys after it
use Rattle.std.specs.Prelude.{◌≡◌, List, [], ℕ}
use Rattle.state.specs.State.{view}
use Rattle.script.specs.Calls.{Other, other, Slotted, slotted}
use Rattle.script.specs.Machine.{Buf, begin}
use Rattle.answer.specs.declared.Step.{Step}
use Rattle.machine.specs.Suspended.{machine_of, drive, answer_of, lent_or, lent_by, BufferUnchangedOnRow1}
use Rattle.machine.specs.Suspended.{SavedByAnswer}

-- a call that does not bring the slots
abbrev pub OtherCall : Other → Step → List ℕ → List ℕ → Type 0
OtherCall o r xs ys = ((a b : Buf) → (answer_of r [] (view ys), machine_of ys b)
    ≡ drive (begin (other o)) (machine_of xs a) b) × SavedByAnswer r xs ys

-- one that brings them, and may change them
abbrev pub SlottedCall : Slotted → Step → List ℕ → Buf → List ℕ → Buf → Type 0
SlottedCall o r xs slots ys after = ((a : Buf) → (
  answer_of r [] (view ys),
  machine_of ys
      (lent_or (view xs) slots after a),
) ≡ drive (begin (slotted o))
    (machine_of xs a) slots)
    × (BufferUnchangedOnRow1 (view xs) slots after × SavedByAnswer r xs ys)

-- a poll that brings them, and a slice for the bytes
abbrev pub PolledCall : Slotted → Step → List ℕ → Buf → List ℕ → List ℕ → List ℕ → Type 0
PolledCall o r xs slots out ys after = ((a : Buf) → (
  answer_of r after (view ys),
  machine_of ys
      (lent_or (view xs) slots slots a),
) ≡ drive (begin (slotted o))
    (machine_of xs a) slots)
    × (((a : Buf) → after ≡ lent_by (drive (begin (slotted o)) (machine_of xs a) slots).0 out) × SavedByAnswer r xs ys)
