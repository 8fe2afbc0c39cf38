use Rattle.std.proofs.Common.{◌≡◌, ◌+◌, ◌-◌, ◌%◌, length, sym, refl, ap, ◌∙◌, arith}
use Rattle.ring.specs.Copies.{copied_run}
use Rattle.ring.proofs.Laws.{length-copied, copied-step, copied_none, copied_all}
use Rattle.ring.proofs.marks.copy.Goals as goal

pub overflow_cast-n : goal.overflow_cast-n
overflow_cast-n c = omega arith

pub copy_few-requires : goal.copy_few-requires
copy_few-requires c = omega arith

pub loop-i-init : goal.loop-i-init
loop-i-init c = (refl, refl, omega arith, omega arith, omega arith, refl)

pub copy16-requires : goal.copy16-requires
copy16-requires c = omega arith

pub overflow_add-i : goal.overflow_add-i
overflow_add-i c = omega arith

pub copy16-requires-in-loop-i : goal.copy16-requires-in-loop-i
copy16-requires-in-loop-i c = omega arith

pub overflow_add-i-in-loop-i : goal.overflow_add-i-in-loop-i
overflow_add-i-in-loop-i c = omega arith

pub loop-i-smaller : goal.loop-i-smaller
loop-i-smaller c = omega arith

pub loop-i-preserved : goal.loop-i-preserved
loop-i-preserved c =
    let g : c.loop-i.i + 16 + 16 ≡ c.loop-i.i + 32 = omega arith in
    let once = copied_run c.args.packet.now c.loop-i.part c.loop-i.i 16 in
    let long = ap length c.copy16.ensures ∙ length-copied 16 c.args.packet.now c.loop-i.part c.loop-i.i in
    let longer = ap length c.copy16-in-loop-i.ensures ∙ length-copied 16 c.args.packet.now c.copy16.new.part (c.loop-i.i + 16) in
    let step = copied-step c.args.packet.now c.loop-i.part c.loop-i.i (length c.args.packet.now) 16 (omega arith) in
    let more = copied-step c.args.packet.now once (c.loop-i.i + 16) (length c.args.packet.now) 16 (omega arith) in
    let all = sym (rw g at (step ∙ more)) ∙ c.loop-i.invariant.5 in (
      longer ∙ long ∙ c.loop-i.invariant.0,
      c.loop-i.invariant.1,
      c.loop-i.invariant.2,
      omega arith,
      omega arith,
      rw (c.copy16-in-loop-i.ensures, c.copy16.ensures)
          all,
    )

pub shape_of-part : goal.shape_of-part
shape_of-part c =
    c.loop-i.invariant.0 ∙ ap length c.copy_few.ensures ∙ length-copied _ c.args.packet.now c.args.part.now 0

pub returns : goal.returns
returns c =
    let n = length c.args.packet.now in
    let done = sym (copied_none c.args.packet.now c.loop-i.part c.loop-i.i n (omega arith)) ∙ c.loop-i.invariant.5 in
    let e : 0 + n % 32 ≡ n % 32 = omega arith in
    let z : n - 0 ≡ n = omega arith in
    done ∙ rw c.copy_few.ensures (sym (rw (e, z) at (copied-step c.args.packet.now c.args.part.now 0 n (n % 32) (omega arith))))
    ∙ copied_all c.args.packet.now c.args.part.now (omega arith)
