use Rattle.script_ops.specs.Rings.{type_step}
use Rattle.state.specs.Kept.{with_ep_type}
use Rattle.script_ops.proofs.Switching.{stepped}
use Rattle.script_ops.proofs.records.type_step.Goals as goal

pub returns-clause-value : goal.returns-clause-value
unfolding type_step
returns-clause-value c =
    (stepped c.args.s.now _ _ _ (λ g. g.ep_type) with_ep_type _ _
    c.load_globals-g.ensures c.switched-v.ensures (c.set_ep_type.ensures.s_after, c.set_ep_type.ensures.s_unchanged)).0

pub returns-clause-s_after : goal.returns-clause-s_after
unfolding type_step
returns-clause-s_after c =
    (stepped c.args.s.now _ _ _ (λ g. g.ep_type) with_ep_type _ _
    c.load_globals-g.ensures c.switched-v.ensures (c.set_ep_type.ensures.s_after, c.set_ep_type.ensures.s_unchanged)).1.0

pub returns-clause-s_unchanged : goal.returns-clause-s_unchanged
unfolding type_step
returns-clause-s_unchanged c =
    (stepped c.args.s.now _ _ _ (λ g. g.ep_type) with_ep_type _ _
    c.load_globals-g.ensures c.switched-v.ensures (c.set_ep_type.ensures.s_after, c.set_ep_type.ensures.s_unchanged)).1.1
