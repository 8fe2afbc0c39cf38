use Rattle.script_ops.specs.Rings.{config_step}
use Rattle.state.specs.Kept.{with_ep_config}
use Rattle.script_ops.proofs.Switching.{stepped}
use Rattle.script_ops.proofs.records.config_step.Goals as goal

pub returns-clause-value : goal.returns-clause-value
unfolding config_step
returns-clause-value c =
    (stepped c.args.s.now _ _ _ (λ g. g.ep_config) with_ep_config _ _
    c.load_globals-g.ensures c.switched-v.ensures (c.set_ep_config.ensures.s_after, c.set_ep_config.ensures.s_unchanged)).0

pub returns-clause-s_after : goal.returns-clause-s_after
unfolding config_step
returns-clause-s_after c =
    (stepped c.args.s.now _ _ _ (λ g. g.ep_config) with_ep_config _ _
    c.load_globals-g.ensures c.switched-v.ensures (c.set_ep_config.ensures.s_after, c.set_ep_config.ensures.s_unchanged)).1.0

pub returns-clause-s_unchanged : goal.returns-clause-s_unchanged
unfolding config_step
returns-clause-s_unchanged c =
    (stepped c.args.s.now _ _ _ (λ g. g.ep_config) with_ep_config _ _
    c.load_globals-g.ensures c.switched-v.ensures (c.set_ep_config.ensures.s_after, c.set_ep_config.ensures.s_unchanged)).1.1
