use mathlib.Core.Path.{◌≡◌, ap, ◌∙◌}
use Rattle.state.specs.declared.Globals.{Globals}
use Rattle.state.specs.Driver.{Driver, with_globals}
use Rattle.state.specs.Fresh.{no_stamps}
use Rattle.state.specs.State.{view}
use Rattle.script.specs.Statics.{with_setup}
use Rattle.script_ops.specs.Rings.{reset_below, reset_all}
use Rattle.script_ops.proofs.slots.reset_all.Goals as goal

-- the code's steps, each by its result
stages : (d : Driver) {x y z : Driver} {g : Globals} → x ≡ reset_below 16 d → y ≡ no_stamps x
    → g ≡ y.globals → z ≡ with_globals y (with_setup 0 g.setup_low g.setup_high g) → z ≡ reset_all d
unfolding reset_all
stages d {y = y} h₁ h₂ h₃ h₄ =
    h₄ ∙ ap (λ (g : Globals). with_globals y (with_setup 0 g.setup_low g.setup_high g)) h₃
    ∙ ap (λ (w : Driver). with_globals w (with_setup 0 w.globals.setup_low w.globals.setup_high w.globals))
    (h₂ ∙ ap no_stamps h₁)

pub returns : goal.returns
returns c =
    record {
      s_after = stages (view c.args.s.now) c.reset_eps.ensures.s_after c.clear_all_stamps.ensures.s_after
          c.load_globals-g.ensures c.store_globals.ensures.s_after;
      s_unchanged = c.store_globals.ensures.s_unchanged ∙ c.clear_all_stamps.ensures.s_unchanged ∙ c.reset_eps.ensures.s_unchanged;
    }
