use Rattle.script.specs.Handler.{retaken}
use Rattle.script.specs.Tree.{ends}
use Rattle.script.specs.declared.Transfer.{Transfer}
use Rattle.interrupt.specs.TransferLaws.{nak-asks, nak-ends, nak-linked}
use Rattle.interrupt.specs.Nak as nak
use Rattle.interrupt.specs.Settle.{fits_at}
use mathlib.Core.Path.{◌∙◌, ap}
use borrow.Author.Rules.{rules}
use Rattle.interrupt.proofs.settle.after_nak.Goals as goal

pub nak_non_iso_resume-n-requires : goal.nak_non_iso_resume-n-requires
unfolding fits_at nak.fits_at
nak_non_iso_resume-n-requires c = c.requires

pub enum_told-1 : goal.enum_told-1
enum_told-1 c = search rules

pub returns-in-Asks : goal.returns-in-Asks
returns-in-Asks c = (
  λ d b. nak-asks (λ _ u. ends (retaken c.args.x c.args.st) u) c.args.st _ _ _ d b _
      c.in-Asks.is (c.nak_non_iso_resume-n.ensures.0 d b),
  nak-linked _ _ _ c.in-Asks.is c.nak_non_iso_resume-n.ensures.1,
)

pub returns-in-Ends : goal.returns-in-Ends
returns-in-Ends c = (
  λ d b. ap (λ (y : Transfer). ends y (d, b)) c.retaken.ensures
      ∙ nak-ends (λ _ u. ends (retaken c.args.x c.args.st) u) c.args.st _ d b _
      c.in-Ends.is (c.nak_non_iso_resume-n.ensures.0 d b),
  tt,
)
