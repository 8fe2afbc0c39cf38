use Rattle.std.proofs.Common.{◌+◌, ◌*◌, ap, ◌∙◌, arith}
use Rattle.bits.specs.Bytes.{digits}
use Rattle.state.specs.State.{view, saved}
use Rattle.state.proofs.Views.{view-paceds, saved-off}
use Rattle.state.proofs.Filling.{paced_table, none_yet, one_more, all_done}
use Rattle.state.proofs.start_up.fill_paced.Goals as goal

pub loop-k-init : goal.loop-k-init
loop-k-init c = none_yet paced_table 0x1800 16 c.args.s.now

pub loop-k-preserved : goal.loop-k-preserved
loop-k-preserved c =
    one_more paced_table 0x1800 16 c.args.s.now c.loop-k.k c.loop-k.s _ (omega arith)
    (ap view c.put16.ensures ∙ view-paceds c.loop-k.s (omega arith) c.loop-k.k 0x1800 (omega arith))
    (ap saved c.put16.ensures ∙ saved-off c.loop-k.s (1422 + c.loop-k.k * 2) (digits 2 0x1800) (omega arith)) c.loop-k.invariant

pub returns-clause-s_after : goal.returns-clause-s_after
returns-clause-s_after c =
    (all_done paced_table 0x1800 16 _ _ _ (omega arith) c.loop-k.invariant).0

pub returns-clause-s_unchanged : goal.returns-clause-s_unchanged
returns-clause-s_unchanged c =
    (all_done paced_table 0x1800 16 _ _ _ (omega arith) c.loop-k.invariant).1
