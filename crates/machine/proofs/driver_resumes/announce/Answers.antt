use Rattle.machine.proofs.PointsStandsLaws.{leads-to}
use Rattle.machine.specs.DriverLaws.{driver}
use Rattle.driver.specs.Announce.{announcing}
use Rattle.script_ops.specs.Concrete.{go}
use Rattle.state.specs.State.{view}
use mathlib.Core.Path.{refl}
use Rattle.machine.proofs.driver_resumes.announce.Goals as goal

pub returns-clause-steps_to : goal.returns-clause-steps_to
returns-clause-steps_to c =
    (leads-to driver (λ b. go (announcing c.args.left c.args.total c.args.dir c.args.e) (view c.args.s.now) b)
    c.stand_list_max_len.ensures refl
    (λ b. simp (← c.load_ep-r.ensures))).0

pub returns-clause-stored : goal.returns-clause-stored
returns-clause-stored c =
    (leads-to driver (λ b. go (announcing c.args.left c.args.total c.args.dir c.args.e) (view c.args.s.now) b)
    c.stand_list_max_len.ensures refl
    (λ b. simp (← c.load_ep-r.ensures))).1
