use Rattle.std.proofs.Common.{◌+◌, ◌*◌, ap, ◌∙◌, arith}
use Rattle.bits.specs.Bytes.{puts, bytes}
use Rattle.state.specs.declared.EpState.{EpState}
use Rattle.state.specs.Codec.{ep_widths, ep_as}
use Rattle.state.specs.Driver.{no_ep}
use Rattle.state.proofs.Filling.{eps_table, none_yet, ep-more, all_done}
use Rattle.state.proofs.start_up.clear_eps.Goals as goal

pub loop-k-init : goal.loop-k-init
loop-k-init c = none_yet eps_table no_ep 32 c.args.s.now

pub loop-k-preserved : goal.loop-k-preserved
loop-k-preserved c =
    let e = c.write_ep.ensures ∙ ap (λ (r : EpState). puts c.loop-k.s (40 + c.loop-k.k * 32) 0 (bytes ep_widths (ep_as r)))
    c.no_ep.ensures in
    ep-more c.args.s.now c.loop-k.s _ c.loop-k.k no_ep (omega arith) (omega arith) e c.loop-k.invariant

pub returns-clause-s_after : goal.returns-clause-s_after
returns-clause-s_after c =
    (all_done eps_table no_ep 32 _ _ _ (omega arith) c.loop-k.invariant).0

pub returns-clause-s_unchanged : goal.returns-clause-s_unchanged
returns-clause-s_unchanged c =
    (all_done eps_table no_ep 32 _ _ _ (omega arith) c.loop-k.invariant).1
