use Rattle.interrupt.specs.StopsLaws.{pauses-at, goes_on_lem}
use Rattle.interrupt.specs.Laws.{of-ep0, of_other, tells, test-no, test-yes}
use Rattle.interrupt.specs.Continuations.{after_arm}
use borrow.Author.Tests.{eq-eqb, ne_eqb}
use mathlib.Core.Path.{◌∙◌, refl}
use Rattle.interrupt.proofs.tokens.out_arm.Goals as goal

pub returns-then-e : goal.returns-then-e
returns-then-e c =
    goes_on_lem c.after_dispatch.ensures (test-yes (after_arm c.args.e) c.args.e.iso _ _ c.if-e.true)

pub returns-then-tog_ok : goal.returns-then-tog_ok
returns-then-tog_ok c =
    pauses-at c.stand_flip.ensures refl
    (test-yes (after_arm c.args.e) _ _ _ (tells _ _ _ c.tog_ok.ensures c.if-tog_ok.true)
    ∙ of-ep0 (after_arm c.args.e) c.args.e.iso _ _ _ c.endpoint.ensures c.if-e.false
    (eq-eqb _ _ c.if-endpoint-eq0.true))

pub returns-then-endpoint-eq0 : goal.returns-then-endpoint-eq0
returns-then-endpoint-eq0 c =
    goes_on_lem c.after_dispatch-then-endpoint-eq0.ensures
    (test-no (after_arm c.args.e) _ _ _ (tells _ _ _ c.tog_ok.ensures c.if-tog_ok.false)
    ∙ of-ep0 (after_arm c.args.e) c.args.e.iso _ _ _ c.endpoint.ensures c.if-e.false
    (eq-eqb _ _ c.if-endpoint-eq0.true))

pub returns : goal.returns
returns c =
    goes_on_lem c.toggled_arm.ensures
    (of_other (after_arm c.args.e) c.args.e.iso _ _ _ c.endpoint.ensures
    c.if-e.false (ne_eqb _ _ c.if-endpoint-eq0.false))
