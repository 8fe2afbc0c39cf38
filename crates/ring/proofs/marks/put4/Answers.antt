use Rattle.std.proofs.Common.{◌≡◌, suc, ◌+◌, arith, length-set}
use Rattle.ring.proofs.marks.put4.Goals as goal

pub bounds-s-i-2 : goal.bounds-s-i-2
bounds-s-i-2 c = simp length-set (omega arith)

pub bounds-s-i-3 : goal.bounds-s-i-3
bounds-s-i-3 c = simp length-set (omega arith)

pub bounds-s-i-4 : goal.bounds-s-i-4
bounds-s-i-4 c = simp length-set (omega arith)

pub returns : goal.returns
returns c =
    let e1 : suc c.args.i ≡ c.args.i + 1 = omega arith in
    let e2 : suc (c.args.i + 1) ≡ c.args.i + 2 = omega arith in
    let e3 : suc (c.args.i + 2) ≡ c.args.i + 3 = omega arith in
    rw (e1, e2, e3)
