use mathlib.Core.Path.{◌≡◌, sym, ap, ◌∙◌}
use native.Mathlib.Omega.{arith}
use lib.ListN.{length, drop}
use lib.Seq.{get_or-take}
use Rattle.descriptor.specs.declared.Endpoint.{Endpoint}
use Rattle.descriptor.specs.Endpoints.{none, listed, place_of}
use Rattle.descriptor.specs.ListsLaws.{tidy-count, place_found, place-past, place_end}
use Rattle.descriptor.proofs.list.place.Goals as goal

pub loop-i-init : goal.loop-i-init
loop-i-init c = (c.requires, omega arith, omega arith)

pub offset_bounds-list-i : goal.offset_bounds-list-i
offset_bounds-list-i c = omega (arith, tidy-count _ c.loop-i.invariant.0)

pub bounds-list-i : goal.bounds-list-i
bounds-list-i c = omega (arith, tidy-count _ c.loop-i.invariant.0)

pub returns-then-e-address : goal.returns-then-e-address
returns-then-e-address c =
    let n = tidy-count c.args.list c.loop-i.invariant.0 in
    let g = get_or-take c.args.list.count c.args.list.entries c.loop-i.i none (omega arith) in
    let z = place_found _ (listed c.args.list) c.loop-i.i (omega arith) (ap (λ (x : Endpoint). x.address) g ∙ c.if-e-address.true) in
    omega arith

pub overflow_add-i : goal.overflow_add-i
overflow_add-i c = omega (arith, tidy-count _ c.loop-i.invariant.0)

pub loop-i-smaller : goal.loop-i-smaller
loop-i-smaller c = omega arith

pub loop-i-preserved : goal.loop-i-preserved
loop-i-preserved c =
    let n = tidy-count c.args.list c.loop-i.invariant.0 in
    let g = get_or-take c.args.list.count c.args.list.entries c.loop-i.i none (omega arith) in
    let z = place-past _ (listed c.args.list) c.loop-i.i (omega arith) (λ e. c.if-e-address.false (sym (ap (λ (x : Endpoint). x.address) g) ∙ e)) in
    (c.loop-i.invariant.0, omega arith, omega arith)

pub returns : goal.returns
returns c =
    let n = tidy-count c.args.list c.loop-i.invariant.0 in
    let e : c.loop-i.i ≡ length (listed c.args.list) = omega arith in
    let z : place_of c.args.address (drop c.loop-i.i (listed c.args.list)) ≡ 0 = rw e (place_end _ (listed c.args.list)) in
    omega arith
