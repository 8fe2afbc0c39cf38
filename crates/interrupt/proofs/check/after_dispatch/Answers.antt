use Rattle.isochronous.specs.Points as check
use Rattle.interrupt.specs.StopsLaws.{pauses-at, goes_on_lem}
use Rattle.interrupt.specs.Laws.{after, check-asks, check-ends, tells, tells-not, when-yes}
use Rattle.interrupt.specs.Continuations.{after_check, after_dispatch}
use Rattle.interrupt.specs.SofLaws.{sof-over}
use Rattle.script_ops.specs.Concrete.{concrete}
use Rattle.script.specs.IsoOut.{iso_out_check}
use Rattle.script.specs.Script.{run}
use mathlib.Core.Path.{◌∙◌, subst}
use borrow.Author.Rules.{rules}
use Rattle.interrupt.proofs.check.after_dispatch.Goals as goal

pub returns-then-is_sof : goal.returns-then-is_sof
returns-then-is_sof c =
    goes_on_lem (c.after_transfer.ensures.0 _, c.after_transfer.ensures.1)
    (sof-over c.args.e.setup c.args.e.x c.args.e.iso _ (tells _ _ _ c.is_sof.ensures c.if-is_sof.true))

pub enum_told-1 : goal.enum_told-1
enum_told-1 c = search rules

pub returns-in-Asks : goal.returns-in-Asks
unfolding after_dispatch
returns-in-Asks c =
    pauses-at c.stand_check.ensures (subst check.Linked c.in-Asks.is c.iso_out_check-n.ensures.1.1)
    (check-asks c.args.e.setup (λ _ u. run concrete (after_check c.args.e.x) u) _ _ _ c.args.e.x c.args.e.iso _ _
    c.in-Asks.is
    ∙ (after c.args.e.setup (λ _ u. run concrete (after_check c.args.e.x) u) _ _ c.iso_out_check-n.ensures.0
    ∙ when-yes c.args.e.setup (iso_out_check c.args.e.x c.args.e.iso) (λ _ u. run concrete (after_check c.args.e.x) u) _ _
    (tells-not _ _ _ c.is_sof.ensures c.if-is_sof.false)))

pub returns-in-Ends : goal.returns-in-Ends
unfolding after_dispatch
returns-in-Ends c =
    goes_on_lem (c.ep0_moved_on.ensures.0 _, c.ep0_moved_on.ensures.1)
    (check-ends c.args.e.setup (λ _ u. run concrete (after_check c.args.e.x) u) _ _ c.args.e.x c.args.e.iso _
    c.in-Ends.is
    ∙ (after c.args.e.setup (λ _ u. run concrete (after_check c.args.e.x) u) _ _ c.iso_out_check-n.ensures.0
    ∙ when-yes c.args.e.setup (iso_out_check c.args.e.x c.args.e.iso) (λ _ u. run concrete (after_check c.args.e.x) u) _ _
    (tells-not _ _ _ c.is_sof.ensures c.if-is_sof.false)))
