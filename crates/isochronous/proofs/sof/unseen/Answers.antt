use mathlib.Core.Path.{◌∙◌}
use Rattle.isochronous.specs.Laws.{sof-begun}
use Rattle.isochronous.proofs.sof.unseen.Goals as goal

pub returns : goal.returns
returns c = (
  λ b. sof-begun c.args.frame c.args.e
      c.args.m _ c.start-x.result.access c.start-x.result.point _ _ _ b
      (c.start-x.ensures.0 b) c.record_frame.ensures.s_after c.frame_before.ensures,
  (c.start-x.ensures.1.0 ∙ c.record_frame.ensures.s_unchanged, c.start-x.ensures.1.1),
)
