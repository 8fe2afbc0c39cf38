use mathlib.Core.Path.{◌∙◌}
use Rattle.isochronous.specs.Laws.{sof-entered}
use Rattle.isochronous.proofs.sof.on_sof.Goals as goal

pub returns : goal.returns
returns c = (
  λ b. c.walk.ensures.0 b ∙ sof-entered c.args.frame _ _ _
      c.load_globals-g.result b c.load_globals-g.ensures c.store_globals.ensures.s_after c.iso_in_every.ensures,
  (c.store_globals.ensures.s_unchanged, c.walk.ensures.1),
)
