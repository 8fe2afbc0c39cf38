use Rattle.interrupt.specs.TransferLaws.{nak-linked, st-asks, st-ends}
use borrow.Author.Rules.{rules}
use Rattle.interrupt.proofs.settle.after_st.Goals as goal

pub enum_told-1 : goal.enum_told-1
enum_told-1 c = search rules

pub returns-in-Asks : goal.returns-in-Asks
returns-in-Asks c = (
  λ b. st-asks c.args.x _ _ _ _ b c.byte-st.ensures (c.nak_non_iso-n.ensures.0 b) _ _ c.in-Asks.is,
  nak-linked _ _ _ c.in-Asks.is c.nak_non_iso-n.ensures.1,
)

pub returns-in-Ends : goal.returns-in-Ends
returns-in-Ends c = (
  λ b. st-ends c.args.x _ _ _ _ b c.byte-st.ensures
      (c.nak_non_iso-n.ensures.0 b) _ c.retaken.ensures c.in-Ends.is,
  tt,
)
