use mathlib.Core.Path.{refl}
use Rattle.state.specs.declared.Allocator.{Allocator}
use Rattle.alloc.specs.Alloc.{allocate_of}
use Rattle.script_ops.specs.Records.{allocated_on, given_to}
use Rattle.script_ops.proofs.Large.{large, ended, went_on_lem}
use Rattle.script_ops.proofs.records.allocate.Goals as goal

pub returns-then-size-maximum-clause-value : goal.returns-then-size-maximum-clause-value
unfolding allocated_on given_to
returns-then-size-maximum-clause-value c =
    (ended c.args.s.now (λ (b : Allocator). allocate_of b c.args.kind c.args.address c.args.maximum c.args.dir)
    (λ m. given_to c.args.dir c.args.kind m c.args.interval)
    c.args.maximum _ _ c.load_allocator-b.ensures c.alloc_endpoint-z.ensures _ (c.store_allocator.ensures.s_after, c.store_allocator.ensures.s_unchanged) 6
    (large c.load_allocator-b.result c.args.kind c.args.address c.args.maximum c.args.dir c.if-size-maximum.true) (λ _. refl)).0

pub returns-then-size-maximum-clause-s_after : goal.returns-then-size-maximum-clause-s_after
unfolding allocated_on given_to
returns-then-size-maximum-clause-s_after c =
    (ended c.args.s.now (λ (b : Allocator). allocate_of b c.args.kind c.args.address c.args.maximum c.args.dir)
    (λ m. given_to c.args.dir c.args.kind m c.args.interval)
    c.args.maximum _ _ c.load_allocator-b.ensures c.alloc_endpoint-z.ensures _ (c.store_allocator.ensures.s_after, c.store_allocator.ensures.s_unchanged) 6
    (large c.load_allocator-b.result c.args.kind c.args.address c.args.maximum c.args.dir c.if-size-maximum.true) (λ _. refl)).1.0

pub returns-then-size-maximum-clause-s_unchanged : goal.returns-then-size-maximum-clause-s_unchanged
unfolding allocated_on given_to
returns-then-size-maximum-clause-s_unchanged c =
    (ended c.args.s.now (λ (b : Allocator). allocate_of b c.args.kind c.args.address c.args.maximum c.args.dir)
    (λ m. given_to c.args.dir c.args.kind m c.args.interval)
    c.args.maximum _ _ c.load_allocator-b.ensures c.alloc_endpoint-z.ensures _ (c.store_allocator.ensures.s_after, c.store_allocator.ensures.s_unchanged) 6
    (large c.load_allocator-b.result c.args.kind c.args.address c.args.maximum c.args.dir c.if-size-maximum.true) (λ _. refl)).1.1

pub returns-clause-value : goal.returns-clause-value
unfolding allocated_on
returns-clause-value c =
    (went_on_lem c.args.s.now (λ (b : Allocator). allocate_of b c.args.kind c.args.address c.args.maximum c.args.dir)
    (λ m. given_to c.args.dir c.args.kind m c.args.interval)
    c.args.maximum _ _ c.load_allocator-b.ensures c.alloc_endpoint-z.ensures _ (c.store_allocator.ensures.s_after, c.store_allocator.ensures.s_unchanged) _ _
    c.maximum16-m.ensures (c.given.ensures.s_after, c.given.ensures.s_unchanged)).0

pub returns-clause-s_after : goal.returns-clause-s_after
unfolding allocated_on
returns-clause-s_after c =
    (went_on_lem c.args.s.now (λ (b : Allocator). allocate_of b c.args.kind c.args.address c.args.maximum c.args.dir)
    (λ m. given_to c.args.dir c.args.kind m c.args.interval)
    c.args.maximum _ _ c.load_allocator-b.ensures c.alloc_endpoint-z.ensures _ (c.store_allocator.ensures.s_after, c.store_allocator.ensures.s_unchanged) _ _
    c.maximum16-m.ensures (c.given.ensures.s_after, c.given.ensures.s_unchanged)).1.0

pub returns-clause-s_unchanged : goal.returns-clause-s_unchanged
unfolding allocated_on
returns-clause-s_unchanged c =
    (went_on_lem c.args.s.now (λ (b : Allocator). allocate_of b c.args.kind c.args.address c.args.maximum c.args.dir)
    (λ m. given_to c.args.dir c.args.kind m c.args.interval)
    c.args.maximum _ _ c.load_allocator-b.ensures c.alloc_endpoint-z.ensures _ (c.store_allocator.ensures.s_after, c.store_allocator.ensures.s_unchanged) _ _
    c.maximum16-m.ensures (c.given.ensures.s_after, c.given.ensures.s_unchanged)).1.1
