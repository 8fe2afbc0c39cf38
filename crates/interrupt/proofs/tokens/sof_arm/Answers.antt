use Rattle.isochronous.specs.Sof as sof
use Rattle.interrupt.specs.StopsLaws.{pauses-in, goes_in}
use Rattle.interrupt.specs.Laws.{after, sof-asks, sof-ends, sof-handled, when-no, when-yes}
use Rattle.interrupt.specs.Continuations.{after_dispatch}
use Rattle.interrupt.specs.SofLaws.{sof-over}
use Rattle.script_ops.specs.Concrete.{concrete}
use Rattle.script.specs.IsoIn.{on_sof}
use Rattle.script.specs.Script.{run}
use borrow.Author.Tests.{eq-eqb, ne_eqb}
use mathlib.Core.Path.{◌∙◌, subst}
use borrow.Author.Rules.{rules}
use Rattle.interrupt.proofs.tokens.sof_arm.Goals as goal

pub returns-then-g-e : goal.returns-then-g-e
returns-then-g-e c =
    goes_in c.after_transfer.ensures (λ b. sof-over c.args.e.setup c.args.e.x c.args.e.iso _ (c.requires)
    ∙ when-no c.args.e.setup (on_sof c.args.e.frame) (λ _ u. run concrete (after_dispatch c.args.e.x c.args.e.iso) u) _ _
    (sof-handled _ _ _ _ c.load_globals-g.ensures (eq-eqb _ _ c.if-g-e.true)))

pub enum_told-1 : goal.enum_told-1
enum_told-1 c = search rules

pub returns-in-Asks : goal.returns-in-Asks
returns-in-Asks c =
    pauses-in c.stand_sof_arm.ensures (subst sof.Linked c.in-Asks.is c.on_sof-n.ensures.1.1)
    (λ b. sof-asks c.args.e.setup (λ _ u. run concrete (after_dispatch c.args.e.x c.args.e.iso) u) _ _ b c.args.e.frame _ _
    c.in-Asks.is
    ∙ (after c.args.e.setup (λ _ u. run concrete (after_dispatch c.args.e.x c.args.e.iso) u) _ _ (c.on_sof-n.ensures.0 b)
    ∙ when-yes c.args.e.setup (on_sof c.args.e.frame) (λ _ u. run concrete (after_dispatch c.args.e.x c.args.e.iso) u) _ _
    (sof-handled _ _ _ _ c.load_globals-g.ensures (ne_eqb _ _ c.if-g-e.false))))

pub returns-in-Ends : goal.returns-in-Ends
returns-in-Ends c =
    goes_in c.after_transfer-in-Ends.ensures (λ b. sof-over c.args.e.setup c.args.e.x c.args.e.iso _ (c.requires)
    ∙ (sof-ends c.args.e.setup (λ _ u. run concrete (after_dispatch c.args.e.x c.args.e.iso) u) _ b c.args.e.frame _
    c.in-Ends.is
    ∙ (after c.args.e.setup (λ _ u. run concrete (after_dispatch c.args.e.x c.args.e.iso) u) _ _ (c.on_sof-n.ensures.0 b)
    ∙ when-yes c.args.e.setup (on_sof c.args.e.frame) (λ _ u. run concrete (after_dispatch c.args.e.x c.args.e.iso) u) _ _
    (sof-handled _ _ _ _ c.load_globals-g.ensures (ne_eqb _ _ c.if-g-e.false)))))
