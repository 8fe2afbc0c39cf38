use mathlib.Core.Path.{◌≡◌, sym, ap, ◌∙◌}
use native.Mathlib.Omega.{arith}
use lib.ListN.{length}
use Rattle.descriptor.specs.WritingLaws.{length-room, laid_none, laid_more}
use Rattle.descriptor.proofs.put.endpoints.Goals as goal

pub loop-i-init : goal.loop-i-init
loop-i-init c = (omega arith, c.requires.n_bound, c.requires.n_in_bounds, sym (laid_none _ _))

pub offset_bounds-list-i : goal.offset_bounds-list-i
offset_bounds-list-i c = omega arith

pub bounds-list-i : goal.bounds-list-i
bounds-list-i c = omega arith

pub overflow_mul-i : goal.overflow_mul-i
overflow_mul-i c = omega arith

pub overflow_add-i : goal.overflow_add-i
overflow_add-i c = omega arith

pub endpoint-requires : goal.endpoint-requires
endpoint-requires c =
    let l = ap length c.loop-i.invariant.3 ∙ length-room c.args.room.now c.args.list.entries c.loop-i.i (omega arith) in
    omega arith

pub overflow_add-i-in-loop-i : goal.overflow_add-i-in-loop-i
overflow_add-i-in-loop-i c = omega arith

pub loop-i-smaller : goal.loop-i-smaller
loop-i-smaller c = omega arith

pub loop-i-preserved : goal.loop-i-preserved
loop-i-preserved c = (
  omega arith,
  c.loop-i.invariant.1,
  c.loop-i.invariant.2,
  c.endpoint.ensures ∙ rw c.loop-i.invariant.3 (laid_more c.args.room.now c.args.list.entries c.loop-i.i (omega arith)),
)

pub shape_of-room : goal.shape_of-room
shape_of-room c =
    ap length c.loop-i.invariant.3 ∙ length-room c.args.room.now c.args.list.entries c.loop-i.i (omega arith)

pub returns : goal.returns
returns c =
    let e : c.loop-i.i ≡ c.args.n = omega arith in
    c.loop-i.invariant.3 ∙ rw e
