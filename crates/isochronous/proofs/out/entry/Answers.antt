use mathlib.Core.Path.{sym, ◌∙◌}
use Rattle.isochronous.specs.OutLaws.{entry-as}
use Rattle.script.specs.IsoOut.{entry}
use Rattle.isochronous.proofs.out.entry.Goals as goal

pub returns-then-x : goal.returns-then-x
unfolding entry
returns-then-x c = simp c.if-x.true

pub returns-then-tog_ok : goal.returns-then-tog_ok
returns-then-tog_ok c =
    entry-as c.args.x c.args.iso c.args.e _ c.if-x.false c.if-x-2.true c.if-iso.true
    (sym c.tog_ok.ensures ∙ c.if-tog_ok.true) c.arriving.ensures

pub returns-then-iso : goal.returns-then-iso
unfolding entry
returns-then-iso c =
    simp (
      ← c.tog_ok.ensures,
      c.if-tog_ok.false,
      c.if-iso.true,
      c.if-x-2.true,
      c.if-x.false,
    )

pub returns-then-x-2 : goal.returns-then-x-2
unfolding entry
returns-then-x-2 c = simp (c.if-iso.false, c.if-x-2.true, c.if-x.false)

pub returns : goal.returns
unfolding entry
returns c = simp (c.if-x-2.false, c.if-x.false)
