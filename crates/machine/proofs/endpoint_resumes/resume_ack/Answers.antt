use Rattle.machine.proofs.StandsLaws.{parts2}
use Rattle.machine.proofs.PointsStandsLaws.{at-point, goes_to, stays_at}
use Rattle.machine.specs.EndpointLaws.{endpoint}
use Rattle.endpoint.specs.declared.Point.TheVariants as point
use mathlib.Core.Path.{refl, sym, ◌∙◌}
use Rattle.machine.proofs.endpoint_resumes.resume_ack.Goals as goal

pub byte-requires : goal.byte-requires
byte-requires c = sym c.fits.ensures ∙ c.if-fits.true

pub returns-then-fits : goal.returns-then-fits
returns-then-fits c =
    let here = at-point endpoint 1 c.requires (parts2 point.Ack c.dir_at-d.ensures c.ep_byte-e.ensures) in
    λ b. goes_to endpoint here (sym c.fits.ensures ∙ c.if-fits.true) c.stand_wrote.ensures refl (simp
    (c.ctrl_of-reg.ensures, c.ack-w.ensures, c.byte.ensures))

pub returns : goal.returns
returns c =
    λ b. stays_at endpoint (at-point endpoint 1 c.requires refl) (sym c.fits.ensures ∙ c.if-fits.false)
