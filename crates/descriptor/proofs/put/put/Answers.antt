use mathlib.Core.Path.{◌≡◌, ap, ◌∙◌}
use native.Mathlib.Numerals.{add-one}
use native.Mathlib.Omega.{arith}
use lib.ListN.{length}
use lib.Seq.{paste-zero, paste-suc, length-paste, take-length}
use Rattle.descriptor.proofs.put.put.Goals as goal

pub loop-i-init : goal.loop-i-init
loop-i-init c = (omega arith, c.requires, paste-zero c.args.room.now c.args.at c.args.d.now)

pub bounds-d-i : goal.bounds-d-i
bounds-d-i c = omega arith

pub overflow_add-room : goal.overflow_add-room
overflow_add-room c = omega arith

pub bounds-room-at : goal.bounds-room-at
bounds-room-at c =
    let l = ap length c.loop-i.invariant.2 ∙ length-paste c.args.room.now c.args.at c.args.d.now c.loop-i.i (omega arith)
    (omega arith) in
    omega arith

pub overflow_add-i : goal.overflow_add-i
overflow_add-i c = omega arith

pub loop-i-smaller : goal.loop-i-smaller
loop-i-smaller c = omega arith

pub loop-i-preserved : goal.loop-i-preserved
loop-i-preserved c = (
  omega arith,
  c.loop-i.invariant.1,
  rw (c.loop-i.invariant.2, add-one) (paste-suc c.args.room.now c.args.at c.args.d.now c.loop-i.i 0 (omega arith)
      (omega arith)),
)

pub shape_of-room : goal.shape_of-room
shape_of-room c =
    ap length c.loop-i.invariant.2 ∙ length-paste c.args.room.now c.args.at c.args.d.now c.loop-i.i (omega arith) (omega arith)

pub returns : goal.returns
returns c =
    let e : c.loop-i.i ≡ length c.args.d.now = omega arith in
    c.loop-i.invariant.2 ∙ rw (e, take-length)
