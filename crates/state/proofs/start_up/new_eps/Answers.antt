use Rattle.std.proofs.Common.{◌+◌, ◌*◌, ap, ◌∙◌, arith}
use Rattle.bits.specs.Bytes.{puts, bytes}
use Rattle.state.specs.declared.EpState.{EpState}
use Rattle.state.specs.Codec.{ep_widths, ep_as}
use Rattle.state.specs.Ep.{new_ep}
use Rattle.state.proofs.Views.{ep-there}
use Rattle.state.proofs.Filling.{eps_table, none_yet, ep-more, all_done, cleared_at, made_new}
use Rattle.state.proofs.start_up.new_eps.Goals as goal

pub loop-k-init : goal.loop-k-init
loop-k-init c = none_yet eps_table new_ep 32 c.args.s.now

pub loop-k-preserved : goal.loop-k-preserved
loop-k-preserved c =
    let cleared = cleared_at c.args.s.now c.loop-k.s c.loop-k.k c.read_ep-r.result c.requires c.loop-k.invariant.1.0
    (ep-there c.loop-k.s c.loop-k.k c.read_ep-r.result (omega arith) c.read_ep-r.ensures) in
    let e = c.write_ep.ensures ∙ ap (λ (r : EpState). puts c.loop-k.s (40 + c.loop-k.k * 32) 0
    (bytes ep_widths (ep_as (made_new r)))) cleared in
    ep-more c.args.s.now c.loop-k.s _ c.loop-k.k new_ep (omega arith) (omega arith) e c.loop-k.invariant

pub returns-clause-s_after : goal.returns-clause-s_after
returns-clause-s_after c =
    (all_done eps_table new_ep 32 _ _ _ (omega arith) c.loop-k.invariant).0

pub returns-clause-s_unchanged : goal.returns-clause-s_unchanged
returns-clause-s_unchanged c =
    (all_done eps_table new_ep 32 _ _ _ (omega arith) c.loop-k.invariant).1
