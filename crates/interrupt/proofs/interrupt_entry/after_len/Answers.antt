use Rattle.interrupt.specs.Nak as nak
use Rattle.interrupt.specs.StopsLaws.{pauses-in, goes_in}
use Rattle.interrupt.specs.Laws.{entered-free, entered-nak, nak-asks, nak-ends, tells}
use Rattle.interrupt.specs.Continuations.{after_nak, entered_as}
use Rattle.script_ops.specs.Concrete.{concrete}
use Rattle.script.specs.Script.{run}
use Prim.Native.Nat.{ℕ}
use mathlib.Core.Path.{◌∙◌, ap, subst}
use borrow.Author.Rules.{rules}
use Rattle.interrupt.proofs.interrupt_entry.after_len.Goals as goal

pub short-requires : goal.short-requires
short-requires c = c.requires

pub enum_told-1 : goal.enum_told-1
enum_told-1 c = search rules

pub returns-in-Asks : goal.returns-in-Asks
returns-in-Asks c =
    pauses-in c.stand_nak.ensures (subst nak.Linked c.in-Asks.is c.nak_non_iso-n.ensures.1)
    (λ b. nak-asks c.args.setup (λ _ u. run concrete (after_nak c.entered-x.result) u) _ _ b c.entered-x.result.st _ _ c.in-Asks.is
    ∙ entered-nak c.args.setup c.args.busy c.args.st _ _ _ b (c.entered-x.ensures
    ∙ ap (λ (z : ℕ). entered_as c.args.busy c.args.st z) c.short.ensures)
    c.nak_non_iso-n.result (c.nak_non_iso-n.ensures.0 b) (tells _ _ _ c.naks_first.ensures c.if-naks_first.true))

pub returns-in-Ends : goal.returns-in-Ends
returns-in-Ends c =
    goes_in c.release.ensures
    (λ b. nak-ends c.args.setup (λ _ u. run concrete (after_nak c.entered-x.result) u) _ b c.entered-x.result.st _ c.in-Ends.is
    ∙ entered-nak c.args.setup c.args.busy c.args.st _ _ _ b (c.entered-x.ensures
    ∙ ap (λ (z : ℕ). entered_as c.args.busy c.args.st z) c.short.ensures)
    c.nak_non_iso-n.result (c.nak_non_iso-n.ensures.0 b) (tells _ _ _ c.naks_first.ensures c.if-naks_first.true))

pub returns-else-naks_first : goal.returns-else-naks_first
returns-else-naks_first c =
    goes_in c.release-else-naks_first.ensures
    (λ b. entered-free c.args.setup c.args.busy c.args.st _ _ _ b (c.entered-x.ensures
    ∙ ap (λ (z : ℕ). entered_as c.args.busy c.args.st z) c.short.ensures)
    (tells _ _ _ c.naks_first.ensures c.if-naks_first.false))
