use mathlib.Core.Path.{ap, ◌∙◌}
use Rattle.state.specs.State.{view}
use Rattle.state.specs.declared.Globals.{Globals}
use Rattle.regs.specs.Enables.{out_enabled}
use Rattle.script.specs.Statics.{iso_outs}
use Rattle.isochronous.specs.OutLaws.{begun}
use Rattle.isochronous.proofs.out.iso_out_check.Goals as goal

pub returns : goal.returns
unfolding iso_outs
returns c = (
  c.walk_on.ensures.0 ∙ begun c.args.x c.args.iso _ (view c.args.s.now) c.args.buf.now
      (c.out_enabled-mask.ensures ∙ ap (λ (g : Globals). out_enabled g.ep_config g.iso_out_eps) c.load_globals-g.ensures),
  c.walk_on.ensures.1,
)
