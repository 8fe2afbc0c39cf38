use Rattle.machine.proofs.PointsStandsLaws.{at-point, goes_to, comes-to, stays_at}
use Rattle.machine.specs.BusLaws.{bus}
use Rattle.bus.specs.Points.{fits_at, after_flags, after_naked}
use Rattle.bus.specs.declared.Point.TheVariants as point
use mathlib.Core.Path.{refl, sym, ◌∙◌}
use Rattle.bus.specs.Laws.{fits-flags}
use Rattle.machine.proofs.bus_resumes.resume_flags.Goals as goal

pub byte-word-requires : goal.byte-word-requires
unfolding fits_at
byte-word-requires c = fits-flags point.Flags _ refl (sym c.fits.ensures ∙ c.if-fits.true)

pub returns-then-bus_rst : goal.returns-then-bus_rst
unfolding after_flags after_naked
returns-then-bus_rst c =
    let fitted = sym c.fits.ensures ∙ c.if-fits.true in
    λ b. goes_to bus (at-point bus 7 c.requires refl) fitted c.stand_address.ensures refl
    (simp (← c.byte-word.ensures, ← c.bus_rst.ensures, c.if-bus_rst.true))

pub returns-then-suspend : goal.returns-then-suspend
unfolding after_flags after_naked
returns-then-suspend c =
    λ b. goes_to bus (at-point bus 7 c.requires refl)
    (sym c.fits.ensures
    ∙ c.if-fits.true) c.stand_status.ensures refl
    (simp (
      ← c.byte-word.ensures,
      ← c.bus_rst.ensures,
      c.if-bus_rst.false,
      ← c.suspend.ensures,
      c.if-suspend.true,
    ))

pub returns-then-fits : goal.returns-then-fits
unfolding after_flags after_naked
returns-then-fits c =
    λ b. comes-to bus (at-point bus 7 c.requires refl)
    (sym c.fits.ensures
    ∙ c.if-fits.true) c.stop.ensures
    (simp (
      ← c.byte-word.ensures,
      ← c.bus_rst.ensures,
      c.if-bus_rst.false,
      ← c.suspend.ensures,
      c.if-suspend.false,
    ))

pub returns : goal.returns
unfolding after_flags after_naked
returns c =
    λ b. stays_at bus (at-point bus 7 c.requires refl) (sym c.fits.ensures ∙ c.if-fits.false)
