-- A continue at a point of the interrupt
use Rattle.std.specs.Prelude.{List, [], ◌≡◌, refl, true, false, ℕ}
use Rattle.std.proofs.Common.{arith}
use Rattle.state.specs.declared.Saved.{Saved}
use Rattle.state.specs.Driver.{Driver}
use Rattle.state.specs.State.{view, saved}
use Rattle.script.specs.Machine.{Buf}
use Rattle.interrupt.specs.declared.Point.{Point}
use Rattle.interrupt.specs.Points.{denote, fits_at}
use Rattle.interrupt.specs.Stands.{halted, Stops, Pins, ResumesByWord}
use Rattle.interrupt.specs.Suspended as under
use Rattle.interrupt.specs.Suspended.{decode, machine_of, resumed, answer_of}
use Rattle.answer.specs.Goes.{StepResult}
use Rattle.interrupt.specs.SuspendedLaws.{gone-interrupt, stay-interrupt}
use Rattle.interrupt.specs.SuspendedLaws.{going, staying}
use Rattle.answer.specs.Parts.{step_of}
use Rattle.answer.specs.WordLaws.{refused-sound}

-- what was brought fits: the rest stops where the call leaves it
pub went_on_lem : (c : Saved) (p : Point) (v : ℕ) (d : Driver) (b : Buf) → decode c ≡ under.Interrupt p
    → {r : ℕ} {ys : List ℕ} {b' : Buf} → fits_at p v ≡ true → Stops r ys b' (denote p v (d, b))
    → ◌≡◌ {A = StepResult} (answer_of (step_of r) [] (view ys), machine_of ys b') (resumed v (decode c) d b)
unfolding halted
went_on_lem c p v d b e f k = going c (under.Interrupt p) v d b e (gone-interrupt p v d b f) k.there

pub goes_on_lem : {r v : ℕ} {p : Point} {xs ys : List ℕ} {b after : Buf} → decode (saved xs) ≡ under.Interrupt p
    → fits_at p v ≡ true
    → Stops r ys after (denote p v (view xs, b)) → Pins r ys → ResumesByWord r v xs b ys after
goes_on_lem {v = v} {p = p} {xs = xs} {b = b} e f k h = record {
  worded = h.0;
  resumes = record { called = went_on_lem (saved xs) p v (view xs) b e f k; kept = h.1 xs };
}

-- row 16, by its word: it stays awaited
pub refuses-16 : {v : ℕ} {p : Point} {xs : List ℕ} {b : Buf} → decode (saved xs) ≡ under.Interrupt p → fits_at p v
    ≡ false
    → ResumesByWord 4096 v xs b xs b
unfolding step_of
refuses-16 {v} {p} {xs} {b} e f = record {
  worded = refused-sound 16 (omega arith);
  resumes = record {
    called = staying (saved xs) (under.Interrupt p) v (view xs) b e (stay-interrupt p v (view xs) b f);
    kept = refl;
  };
}
