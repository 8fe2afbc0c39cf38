use Rattle.script.specs.Statics.{iso_outs}
use Rattle.script_ops.proofs.records.receives.Goals as goal

pub returns : goal.returns
unfolding iso_outs
returns c = simp (c.mask_has.ensures, c.out_enabled.ensures)
