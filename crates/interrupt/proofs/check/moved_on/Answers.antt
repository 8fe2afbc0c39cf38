use Rattle.interrupt.specs.StopsLaws.{pauses-in, goes_in}
use Rattle.interrupt.specs.TransferLaws.{word_width}
use Rattle.interrupt.proofs.check.moved_on.Goals as goal

pub returns-then-is_on : goal.returns-then-is_on
returns-then-is_on c =
    pauses-in c.stand_moved_read.ensures (simp (c.ctrl_of.ensures, word_width)) (λ b. simp (
      c.ctrl_of.ensures,
      ← c.load_ep-r.ensures,
      ← c.is_on.ensures,
      c.if-is_on.true,
    ))

pub returns : goal.returns
returns c =
    goes_in c.after_transfer.ensures (λ b. simp (← c.load_ep-r.ensures, ← c.is_on.ensures, c.if-is_on.false))
