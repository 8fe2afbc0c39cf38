use Rattle.machine.specs.declared.Suspended.TheVariants as under
use Rattle.machine.proofs.StandsLaws.{handed_out_lem, stored-by, refuses}
use Rattle.machine.proofs.PointsStandsLaws.{stands_at}
use Rattle.machine.specs.Fits.{linked-begun}
use mathlib.Core.List.{[]}
use Rattle.control.specs.Codec as codec
use mathlib.Core.Path.{refl, ◌∙◌}
use Rattle.machine.proofs.halts.begun_control.Goals as goal

pub returns-in-Refused-clause-steps_to : goal.returns-in-Refused-clause-steps_to
returns-in-Refused-clause-steps_to c =
    (refuses c.args.s.now c.requires.1 (λ b. simp c.in-Refused.is)).0

pub returns-in-Refused-clause-saved_by_answer : goal.returns-in-Refused-clause-saved_by_answer
returns-in-Refused-clause-saved_by_answer c = refl

pub returns-in-Asks : goal.returns-in-Asks
returns-in-Asks c =
    let link = linked-begun _ _ _ c.in-Asks.is c.requires.0 in
    let stood = stands_at {u = under.Control (codec.decode _)} c.stand.ensures link.1 in
    record {
      steps_to = λ b. handed_out_lem stood _ stood.answered [] b ∙ simp (c.in-Asks.is, link.0);
      saved_by_answer = stored-by stood _ stood.answered _;
    }

pub returns-in-Ends : goal.returns-in-Ends
returns-in-Ends c =
    record {
      steps_to = λ b. c.stop.ensures.there b ∙ simp c.in-Ends.is;
      saved_by_answer = c.stop.ensures.stored
          _;
    }
