use Rattle.calls.specs.RowOneLaws.{slots-fitted}
use Rattle.machine.proofs.RowsLaws.{back}
use Rattle.machine.specs.GoesLaws.{proceeds}
use Rattle.machine.specs.Suspended.{decode}
use Rattle.machine.proofs.Lent.{as_lent}
use Rattle.state.specs.State.{view, saved}
use mathlib.Core.Path.{refl, sym, ◌∙◌}
use Rattle.calls.proofs.resume.operation.Goals as goal

pub returns-then-slots_fit : goal.returns-then-slots_fit
returns-then-slots_fit c =
    let fit = sym c.slots_fit.ensures ∙ c.if-slots_fit.true in
    record {
      by_index = λ a. slots-fitted a c.resume_at.ensures fit;
      buffer_unchanged_on_row1 = as_lent _ _ _ fit;
      saved_by_answer = c.resume_at.ensures.kept;
    }

pub returns : goal.returns
returns c =
    record {
      by_index = λ a. back (proceeds c.args.v (decode (saved c.args.s.now))
          (view c.args.s.now) a c.args.slots.now) (simp (← c.slots_fit.ensures, c.if-slots_fit.false));
      buffer_unchanged_on_row1 = λ h. refl;
      saved_by_answer = refl;
    }
