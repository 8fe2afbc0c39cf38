use native.Mathlib.Omega.{arith}
use Rattle.descriptor.specs.ListsLaws.{noted-there, noted-last}
use Rattle.descriptor.proofs.list.noted.Goals as goal

pub returns-then-i-list : goal.returns-then-i-list
returns-then-i-list c =
    rw c.merged.ensures (noted-there c.args.list c.args.e c.place-i.result c.requires.tidy c.place-i.ensures c.if-i-list.true)

pub returns : goal.returns
returns c =
    noted-last c.args.list c.args.e c.place-i.result c.requires.tidy c.place-i.ensures (omega arith) c.if-i-list.false
