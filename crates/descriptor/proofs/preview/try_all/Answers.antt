use mathlib.Core.Path.{◌≡◌, sym, ap, ◌∙◌}
use Prim.Native.Nat.{ℕ, ◌+◌, ◌-◌}
use native.Mathlib.Omega.{arith}
use lib.ListN.{get_or}
use Rattle.descriptor.specs.Endpoints.{none}
use Rattle.descriptor.specs.Writing.{count_of, up_to}
use Rattle.descriptor.specs.declared.preview.Trial.{Trial}
use Rattle.descriptor.specs.Trial.{step, tried}
use Rattle.descriptor.specs.TrialLaws.{tried-none, tried-more, tried-on, count-step, buffers-step}
use Rattle.descriptor.proofs.preview.try_all.Goals as goal

pub loop-i-init : goal.loop-i-init
loop-i-init c =
    let x = ap (λ (t : Trial). t.count) c.start-t.ensures in
    let y = ap (λ (t : Trial). t.buffers) c.start-t.ensures in
    (omega arith, omega arith, omega arith, omega arith, sym (tried-none _ _))

pub returns-then-t-ne0 : goal.returns-then-t-ne0
returns-then-t-ne0 c =
    let e : c.loop-i.i + (c.count-n.result - c.loop-i.i) ≡ count_of c.args.list
    = omega arith in
    c.loop-i.invariant.4
    ∙ sym (tried-on c.start-t.result c.args.list.entries c.loop-i.i (c.count-n.result - c.loop-i.i)
    (λ q. c.if-t-ne0.true (ap (λ (x : Trial). x.refusal) c.loop-i.invariant.4 ∙ q)))
    ∙ ap (λ (j : ℕ). tried c.start-t.result (up_to j c.args.list.entries)) e
    ∙ ap (λ (x : Trial). tried x (up_to (count_of c.args.list) c.args.list.entries))
    c.start-t.ensures

pub offset_bounds-list-i : goal.offset_bounds-list-i
offset_bounds-list-i c = omega arith

pub bounds-list-i : goal.bounds-list-i
bounds-list-i c = omega arith

pub step-t-requires : goal.step-t-requires
step-t-requires c =
    record {
      count_bound = omega arith;
      buffers_bound = omega arith;
    }

pub overflow_add-i : goal.overflow_add-i
overflow_add-i c = omega arith

pub loop-i-smaller : goal.loop-i-smaller
loop-i-smaller c = omega arith

pub loop-i-preserved : goal.loop-i-preserved
loop-i-preserved c =
    let e = get_or c.args.list.entries c.loop-i.i none in
    let x = ap (λ (t : Trial). t.count) c.step-t.ensures in
    let y = ap (λ (t : Trial). t.buffers) c.step-t.ensures in
    let m = tried-more c.start-t.result c.args.list.entries c.loop-i.i
    (sym (ap (λ (t : Trial). t.refusal) c.loop-i.invariant.4) ∙ c.if-t-ne0.false) in (
      omega arith,
      c.loop-i.invariant.1,
      omega (arith, count-step c.loop-i.t e),
      omega (arith, buffers-step c.loop-i.t e),
      c.step-t.ensures ∙ ap (λ (t : Trial). step t e) c.loop-i.invariant.4 ∙ sym m,
    )

pub returns : goal.returns
returns c =
    let e : c.loop-i.i ≡ count_of c.args.list = omega arith in
    c.loop-i.invariant.4 ∙ ap (λ (j : ℕ). tried c.start-t.result (up_to j c.args.list.entries)) e
    ∙ ap (λ (x : Trial). tried x (up_to (count_of c.args.list) c.args.list.entries)) c.start-t.ensures
