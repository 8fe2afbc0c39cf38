use mathlib.Core.Path.{◌∙◌}
use Rattle.isochronous.specs.Laws.{sof-more, sof-next, next-linked}
use borrow.Author.Rules.{rules}
use Rattle.isochronous.proofs.sof.after_completing.Goals as goal

pub enum_told-1 : goal.enum_told-1
enum_told-1 c = search rules

pub returns-in-Asks : goal.returns-in-Asks
returns-in-Asks c v = (
  λ b. sof-more c.args.frame c.args.m _ _ _ _ b _
      c.in-Asks.is (c.iso_in_complete_resume-n.ensures.0 b),
  (
    c.iso_in_complete_resume-n.ensures.1.0,
    next-linked _ _ _ c.in-Asks.is c.iso_in_complete_resume-n.ensures.1.1,
  ),
)

pub returns-in-Ends : goal.returns-in-Ends
returns-in-Ends c v = (
  λ b. c.walk.ensures.0 b ∙ sof-next c.args.frame c.args.m _ _ b _ c.in-Ends.is
      (c.iso_in_complete_resume-n.ensures.0 b),
  (c.iso_in_complete_resume-n.ensures.1.0, c.walk.ensures.1),
)
