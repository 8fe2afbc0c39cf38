use Rattle.interrupt.specs.StopsLaws.{pauses-at, goes_on_lem}
use Rattle.interrupt.specs.Laws.{of-ep0, of_other, test-yes}
use Rattle.interrupt.specs.Continuations.{after_arm}
use borrow.Author.Tests.{eq-eqb, ne_eqb}
use mathlib.Core.Path.{refl}
use Rattle.interrupt.proofs.tokens.in_arm.Goals as goal

pub returns-then-e : goal.returns-then-e
returns-then-e c =
    goes_on_lem c.iso_in_arm.ensures (test-yes (after_arm c.args.e) c.args.e.iso _ _ c.if-e.true)

pub returns-then-endpoint-eq0 : goal.returns-then-endpoint-eq0
returns-then-endpoint-eq0 c =
    pauses-at c.stand_flip.ensures refl
    (of-ep0 (after_arm c.args.e) c.args.e.iso _ _ _ c.endpoint.ensures
    c.if-e.false (eq-eqb _ _ c.if-endpoint-eq0.true))

pub returns : goal.returns
returns c =
    goes_on_lem c.toggled_arm.ensures
    (of_other (after_arm c.args.e) c.args.e.iso _ _ _ c.endpoint.ensures
    c.if-e.false (ne_eqb _ _ c.if-endpoint-eq0.false))
