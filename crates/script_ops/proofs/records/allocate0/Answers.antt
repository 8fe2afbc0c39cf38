use mathlib.Core.Path.{refl}
use Rattle.state.specs.declared.Allocator.{Allocator}
use Rattle.alloc.specs.Alloc.{allocate_ep0_of}
use Rattle.script_ops.specs.Records.{allocated_ep0, started_with}
use Rattle.script_ops.proofs.Large.{large0, ended, went_on_lem}
use Rattle.script_ops.proofs.records.allocate0.Goals as goal

pub returns-then-size-maximum-clause-value : goal.returns-then-size-maximum-clause-value
unfolding allocated_ep0 started_with
returns-then-size-maximum-clause-value c =
    (ended c.args.s.now (λ (b : Allocator). allocate_ep0_of b c.args.maximum) started_with c.args.maximum _ _ c.load_allocator-b.ensures
    c.allocate_ep0-z.ensures _ (c.store_allocator.ensures.s_after, c.store_allocator.ensures.s_unchanged) _
    (large0 c.load_allocator-b.result c.args.maximum c.if-size-maximum.true) (λ _. refl)).0

pub returns-then-size-maximum-clause-s_after : goal.returns-then-size-maximum-clause-s_after
unfolding allocated_ep0 started_with
returns-then-size-maximum-clause-s_after c =
    (ended c.args.s.now (λ (b : Allocator). allocate_ep0_of b c.args.maximum) started_with c.args.maximum _ _ c.load_allocator-b.ensures
    c.allocate_ep0-z.ensures _ (c.store_allocator.ensures.s_after, c.store_allocator.ensures.s_unchanged) _
    (large0 c.load_allocator-b.result c.args.maximum c.if-size-maximum.true) (λ _. refl)).1.0

pub returns-then-size-maximum-clause-s_unchanged : goal.returns-then-size-maximum-clause-s_unchanged
unfolding allocated_ep0 started_with
returns-then-size-maximum-clause-s_unchanged c =
    (ended c.args.s.now (λ (b : Allocator). allocate_ep0_of b c.args.maximum) started_with c.args.maximum _ _ c.load_allocator-b.ensures
    c.allocate_ep0-z.ensures _ (c.store_allocator.ensures.s_after, c.store_allocator.ensures.s_unchanged) _
    (large0 c.load_allocator-b.result c.args.maximum c.if-size-maximum.true) (λ _. refl)).1.1

pub returns-clause-value : goal.returns-clause-value
unfolding allocated_ep0
returns-clause-value c =
    (went_on_lem c.args.s.now (λ (b : Allocator). allocate_ep0_of b c.args.maximum) started_with c.args.maximum _ _
    c.load_allocator-b.ensures c.allocate_ep0-z.ensures _ (c.store_allocator.ensures.s_after, c.store_allocator.ensures.s_unchanged) _ _
    c.maximum16-m.ensures (c.started.ensures.s_after, c.started.ensures.s_unchanged)).0

pub returns-clause-s_after : goal.returns-clause-s_after
unfolding allocated_ep0
returns-clause-s_after c =
    (went_on_lem c.args.s.now (λ (b : Allocator). allocate_ep0_of b c.args.maximum) started_with c.args.maximum _ _
    c.load_allocator-b.ensures c.allocate_ep0-z.ensures _ (c.store_allocator.ensures.s_after, c.store_allocator.ensures.s_unchanged) _ _
    c.maximum16-m.ensures (c.started.ensures.s_after, c.started.ensures.s_unchanged)).1.0

pub returns-clause-s_unchanged : goal.returns-clause-s_unchanged
unfolding allocated_ep0
returns-clause-s_unchanged c =
    (went_on_lem c.args.s.now (λ (b : Allocator). allocate_ep0_of b c.args.maximum) started_with c.args.maximum _ _
    c.load_allocator-b.ensures c.allocate_ep0-z.ensures _ (c.store_allocator.ensures.s_after, c.store_allocator.ensures.s_unchanged) _ _
    c.maximum16-m.ensures (c.started.ensures.s_after, c.started.ensures.s_unchanged)).1.1
