use mathlib.Core.Path.{sym, ap, ◌∙◌}
use Rattle.state.specs.Driver.{Driver, with_wakes}
use Rattle.state.specs.State.{view}
use Rattle.state.specs.Wakes.{codes_from, every_endpoint, all_woken}
use Rattle.state.specs.WakesLaws.{all-woken-append}
use Rattle.script_ops.proofs.records.wake_all.Goals as goal

pub returns : goal.returns
unfolding every_endpoint
returns c =
    let d = view c.args.s.now in
    record {
      s_after = c.wake_sixteen-2.ensures.s_after ∙ ap (λ (x : Driver). with_wakes x (all_woken (codes_from 0 16) x.wakes))
          c.wake_sixteen.ensures.s_after
          ∙ ap (with_wakes d) (sym (all-woken-append (codes_from 16 16) (codes_from 0 16) d.wakes));
      s_unchanged = c.wake_sixteen-2.ensures.s_unchanged ∙ c.wake_sixteen.ensures.s_unchanged;
    }
