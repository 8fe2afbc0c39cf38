use Rattle.machine.proofs.PointsStandsLaws.{at-point, goes_to, follows}
use Rattle.machine.specs.Loads.{max_len_at}
use Rattle.machine.specs.DriverLaws.{driver}
use Rattle.driver.specs.Announce.{following}
use Rattle.script_ops.specs.Concrete.{go}
use Rattle.state.specs.State.{view}
use mathlib.Core.Path.{refl, ap}
use Rattle.machine.proofs.driver_resumes.resume_list_max_len.Goals as goal

pub returns-then-has_buffer : goal.returns-then-has_buffer
returns-then-has_buffer c =
    let here = at-point driver 15 c.requires
    (ap max_len_at c.list_endpoint_at-x.ensures) in
    λ v b. goes_to driver here refl c.stand_list_place.ensures c.place_access-q.ensures.result_value
    (simp (c.place_access-q.ensures.value, c.place_access-q.ensures.s_after, ← c.has_buffer.ensures, c.if-has_buffer.true))

pub returns : goal.returns
returns c =
    let left = following c.list_endpoint_at-x.result.left c.list_endpoint_at-x.result.total c.list_endpoint_at-x.result.dir c.list_endpoint_at-x.result.ep in
    let here = at-point driver 15 c.requires (ap max_len_at c.list_endpoint_at-x.ensures) in
    λ v b. follows driver {o = go left (view c.args.s.now) b} here refl
    (c.announce_after.ensures.steps_to b) c.announce_after.ensures.stored
    (simp (← c.has_buffer.ensures, c.if-has_buffer.false))
