use Rattle.machine.specs.declared.Suspended.TheVariants as under
use Rattle.machine.proofs.StandsLaws.{suspends, stored-by}
use Rattle.machine.proofs.PointsStandsLaws.{stands_at}
use Rattle.machine.specs.Fits.{linked}
use Rattle.driver.specs.Codec.{decode}
use mathlib.Core.Path.{◌∙◌}
use Rattle.machine.proofs.halts.suspend_or_end.Goals as goal

pub returns-in-Asks-clause-steps_to : goal.returns-in-Asks-clause-steps_to
returns-in-Asks-clause-steps_to c =
    let link = linked _ _ _ c.in-Asks.is c.requires in
    (suspends (stands_at {u = under.Driver (decode _)} c.stand.ensures link.1) (λ b. simp (c.in-Asks.is, link.0))).0

pub returns-in-Asks-clause-stored : goal.returns-in-Asks-clause-stored
returns-in-Asks-clause-stored c =
    let link = linked _ _ _ c.in-Asks.is c.requires in
    let stood = stands_at {u = under.Driver (decode _)} c.stand.ensures link.1 in
    stored-by stood _ stood.answered

pub returns-in-Ends : goal.returns-in-Ends
returns-in-Ends c =
    record {
      steps_to = λ b. c.stop.ensures.there b ∙ simp c.in-Ends.is;
      stored = c.stop.ensures.stored;
    }
