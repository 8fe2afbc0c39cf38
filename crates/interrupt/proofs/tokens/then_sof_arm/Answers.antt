use Rattle.isochronous.specs.Sof as sof
use Rattle.interrupt.specs.StopsLaws.{pauses-at, goes_on_lem}
use Rattle.interrupt.specs.Laws.{sof-ends, tells}
use Rattle.interrupt.specs.Continuations.{after_dispatch}
use Rattle.interrupt.specs.SofLaws.{sof-over}
use Rattle.script_ops.specs.Concrete.{concrete}
use Rattle.script.specs.Script.{run}
use mathlib.Core.Path.{◌∙◌, subst}
use borrow.Author.Rules.{rules}
use Rattle.interrupt.proofs.tokens.then_sof_arm.Goals as goal

pub enum_told-1 : goal.enum_told-1
enum_told-1 c = search rules

pub returns-then-is_sof : goal.returns-then-is_sof
returns-then-is_sof c =
    goes_on_lem (c.after_transfer.ensures.0 _, c.after_transfer.ensures.1)
    (sof-over c.args.e.setup c.args.e.x c.args.e.iso _ (tells _ _ _ c.is_sof.ensures c.if-is_sof.true)
    ∙ sof-ends c.args.e.setup (λ _ u. run concrete (after_dispatch c.args.e.x c.args.e.iso) u) _ _ c.args.e.frame _
    c.in-Ends.is)

pub returns-in-Asks : goal.returns-in-Asks
returns-in-Asks c =
    pauses-at c.stand_sof_arm.ensures (subst sof.Linked c.in-Asks.is c.requires) (simp c.in-Asks.is)

pub returns-else-is_sof : goal.returns-else-is_sof
returns-else-is_sof c = goes_on_lem c.after_dispatch.ensures (simp c.in-Ends.is)
