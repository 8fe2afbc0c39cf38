use Rattle.isochronous.specs.Complete as complete
use Rattle.interrupt.specs.StopsLaws.{pauses-at, goes_on_lem}
use Rattle.interrupt.specs.Laws.{after, complete-asks, complete-ends, in_frame, paced-told, tells, test-yes}
use Rattle.interrupt.specs.Continuations.{after_dispatch, after_arm}
use Rattle.script_ops.specs.Concrete.{concrete}
use Rattle.script.specs.Script.{run}
use mathlib.Core.Bool.{false, true}
use mathlib.Core.Path.{◌∙◌, subst}
use borrow.Author.Rules.{rules}
use Rattle.interrupt.proofs.tokens.iso_in_arm.Goals as goal

pub returns-then-mask_has : goal.returns-then-mask_has
returns-then-mask_has c =
    goes_on_lem c.after_dispatch.ensures (test-yes (after_arm c.args.e) _ _ _
    (paced-told _ _ _ _ _ _ c.mask_has.ensures c.load_globals-g.ensures c.endpoint-ep.ensures
    c.if-mask_has.true))

pub enum_told-1 : goal.enum_told-1
enum_told-1 c = search rules

pub returns-in-Asks : goal.returns-in-Asks
returns-in-Asks c =
    pauses-at c.stand_completing.ensures (subst complete.Linked c.in-Asks.is c.iso_in_complete-n.ensures.1.1)
    (complete-asks c.args.e.setup (λ _ u. run concrete (after_dispatch c.args.e.x c.args.e.iso) u) _ _ _ _ _
    c.in-Asks.is
    ∙ (after c.args.e.setup (λ _ u. run concrete (after_dispatch c.args.e.x c.args.e.iso) u) _ _ (c.iso_in_complete-n.ensures.0 _)
    ∙ in_frame (after_arm c.args.e) _ _ _ _ _ c.args.e.x.st true c.endpoint-ep.ensures
    c.first_in_frame.ensures.s_after
    (tells _ _ _ c.first_in_frame.ensures.value c.if-first_in_frame.true)
    (paced-told _ _ _ _ _ _ c.mask_has.ensures c.load_globals-g.ensures c.endpoint-ep.ensures
    c.if-mask_has.false)))

pub returns-in-Ends : goal.returns-in-Ends
returns-in-Ends c =
    goes_on_lem c.after_dispatch-in-Ends.ensures
    (complete-ends c.args.e.setup (λ _ u. run concrete (after_dispatch c.args.e.x c.args.e.iso) u) _ _ _
    c.in-Ends.is
    ∙ (after c.args.e.setup (λ _ u. run concrete (after_dispatch c.args.e.x c.args.e.iso) u) _ _ (c.iso_in_complete-n.ensures.0 _)
    ∙ in_frame (after_arm c.args.e) _ _ _ _ _ c.args.e.x.st true c.endpoint-ep.ensures
    c.first_in_frame.ensures.s_after
    (tells _ _ _ c.first_in_frame.ensures.value c.if-first_in_frame.true)
    (paced-told _ _ _ _ _ _ c.mask_has.ensures c.load_globals-g.ensures c.endpoint-ep.ensures
    c.if-mask_has.false)))

pub returns-else-first_in_frame : goal.returns-else-first_in_frame
returns-else-first_in_frame c =
    goes_on_lem c.after_dispatch-else-first_in_frame.ensures
    (in_frame (after_arm c.args.e) _ _ _ _ _ c.args.e.x.st false c.endpoint-ep.ensures
    c.first_in_frame.ensures.s_after
    (tells _ _ _ c.first_in_frame.ensures.value c.if-first_in_frame.false)
    (paced-told _ _ _ _ _ _ c.mask_has.ensures c.load_globals-g.ensures c.endpoint-ep.ensures
    c.if-mask_has.false))
