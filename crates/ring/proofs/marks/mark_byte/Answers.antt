use Rattle.std.proofs.Common.{◌≡◌, ◌%◌, arith}
use Rattle.ring.proofs.marks.mark_byte.Goals as goal

pub returns-in-0 : goal.returns-in-0
returns-in-0 c =
    let e : c.args.k % 4 ≡ 0 = omega arith in
    rw e

pub returns-in-1 : goal.returns-in-1
returns-in-1 c =
    let e : c.args.k % 4 ≡ 1 = omega arith in
    rw e

pub returns-in-2 : goal.returns-in-2
returns-in-2 c =
    let e : c.args.k % 4 ≡ 2 = omega arith in
    rw e

pub returns-in_default : goal.returns-in_default
returns-in_default c =
    let e : c.args.k % 4 ≡ 3 = omega arith in
    rw e
