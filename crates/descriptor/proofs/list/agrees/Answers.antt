use mathlib.Core.Path.{sym}
use native.Mathlib.Omega.{arith}
use lib.Seq.{get_or-take}
use Rattle.descriptor.specs.Endpoints.{none, listed}
use Rattle.descriptor.specs.ListsLaws.{tidy-count, agrees-found, agrees-new}
use Rattle.descriptor.proofs.list.agrees.Goals as goal

pub offset_bounds-list-i : goal.offset_bounds-list-i
offset_bounds-list-i c = omega (arith, tidy-count _ c.requires)

pub bounds-list-i : goal.bounds-list-i
bounds-list-i c = omega (arith, tidy-count _ c.requires)

pub returns-then-i-list : goal.returns-then-i-list
returns-then-i-list c =
    let n = tidy-count c.args.list c.requires in
    let z = agrees-found c.args.e (listed c.args.list) (omega arith) in
    rw (z, ← c.place-i.ensures, get_or-take c.args.list.count c.args.list.entries c.place-i.result none (omega arith))

pub returns : goal.returns
returns c =
    let n = tidy-count c.args.list c.requires in
    sym (agrees-new c.args.e (listed c.args.list) (omega arith))
