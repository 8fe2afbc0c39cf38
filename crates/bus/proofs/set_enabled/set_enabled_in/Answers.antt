use Rattle.bus.specs.SetEnabledLaws.{enable-in}
use Rattle.script_ops.specs.Records.{iso_out}
use Rattle.script.specs.Statics.{is_on}
use Rattle.state.specs.Driver.{Driver, with_paced_on}
use Rattle.state.specs.State.{view}
use Rattle.state.specs.declared.EpState.{EpState}
use mathlib.Core.Path.{◌∙◌, ap, refl}
use Rattle.bus.specs.declared.Point.TheVariants as point
use Rattle.bus.specs.PointsLaws.{begun-at}
use Rattle.bus.proofs.set_enabled.set_enabled_in.Goals as goal

pub renew-requires : goal.renew-requires
unfolding iso_out
renew-requires c = refl

pub returns : goal.returns
returns c =
    let begun = begun-at (point.PlacedIn _ _ _) c.point.ensures refl in (
      λ b. begun.0 _ b
          ∙ enable-in c.args.e
          c.args.on
          (view c.args.s.now) _ _ _ _
          b
          (c.is_on-iso.ensures
          ∙ ap (λ (r : EpState). is_on r.iso)
          c.load_ep-r.ensures)
          (c.store_paced.ensures.s_after
          ∙ ap (λ (x : Driver). with_paced_on x
          c.args.e 0x1800)
          c.renew.ensures.s_after) c.place-at.ensures.value
          c.place-at.ensures.s_after,
      (
        c.place-at.ensures.s_unchanged ∙ (c.store_paced.ensures.s_unchanged
            ∙ c.renew.ensures.s_unchanged),
        begun.1,
      ),
    )
