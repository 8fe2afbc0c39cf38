use Rattle.machine.specs.Lifts.{lifts}
use Rattle.calls.specs.RowOneLaws.{slots-fitted}
use Rattle.machine.proofs.RowsLaws.{back}
use Rattle.machine.specs.GoesLaws.{proceeds}
use Rattle.machine.specs.Suspended.{decode}
use Rattle.machine.proofs.Lent.{as_lent}
use Rattle.state.specs.State.{view, saved}
use Rattle.answer.specs.Parts.{step_of}
use Rattle.answer.specs.WordLaws.{refused-sound}
use native.Mathlib.Omega.{arith}
use mathlib.Core.Path.{refl, sym, ◌∙◌}
use Rattle.calls.proofs.resume.interrupt.Goals as goal

pub returns-then-slots_fit : goal.returns-then-slots_fit
returns-then-slots_fit c =
    let fit = sym c.slots_fit.ensures
    ∙ c.if-slots_fit.true in
    let lifted = lifts c.requires
    c.resume_interrupt.ensures.resumes in
    record {
      by_index = λ a. slots-fitted a lifted fit;
      buffer_unchanged_on_row1 = as_lent _ _ _ fit;
      pins_from = (c.resume_interrupt.ensures.worded, lifted.kept);
    }

pub returns : goal.returns
unfolding step_of
returns c =
    record {
      by_index = λ a. back
          (proceeds c.args.v
          (decode (saved c.args.s.now))
          (view c.args.s.now) a
          c.args.slots.now)
          (simp (← c.slots_fit.ensures, c.if-slots_fit.false));
      buffer_unchanged_on_row1 = λ h. refl;
      pins_from = (refused-sound 1 (omega arith), refl);
    }
