use Rattle.machine.proofs.StandsLaws.{parts3}
use Rattle.machine.proofs.PointsStandsLaws.{at-point, goes_to, comes-to}
use Rattle.machine.specs.DriverLaws.{driver}
use Rattle.driver.specs.declared.Point.TheVariants as point
use mathlib.Core.Path.{refl}
use Rattle.machine.proofs.driver_resumes.resume_max_len.Goals as goal

pub returns-then-has_buffer : goal.returns-then-has_buffer
returns-then-has_buffer c =
    let here = at-point driver 7 c.requires
    (parts3 point.MaxLen c.flag_dir_at-dir.ensures c.st_byte-kind.ensures c.ep_byte-ep.ensures) in
    λ v b. goes_to driver here refl c.stand_place.ensures c.place_access-q.ensures.result_value
    (simp (c.place_access-q.ensures.value, c.place_access-q.ensures.s_after, ← c.has_buffer.ensures, c.if-has_buffer.true))

pub returns : goal.returns
returns c =
    let here = at-point driver 7 c.requires (parts3 point.MaxLen refl c.st_byte-kind.ensures c.ep_byte-ep.ensures) in
    λ v b. comes-to driver here refl c.stop.ensures (simp (← c.has_buffer.ensures, c.if-has_buffer.false))
