use Rattle.interrupt.specs.TransferLaws.{toggled-told, wider}
use Rattle.interrupt.specs.Toggled.{fits_at}
use mathlib.Core.Path.{refl}
use native.Mathlib.Omega.{arith}
use borrow.Author.Rules.{rules}
use Rattle.interrupt.proofs.toggled.resume.Goals as goal

pub after_look-requires : goal.after_look-requires
unfolding fits_at
after_look-requires c =
    wider _ 2 (omega arith) (toggled-told _ _ c.args.v c.in-Look.is c.requires)

pub enum_told-1 : goal.enum_told-1
enum_told-1 c = search rules

pub after_word-requires : goal.after_word-requires
unfolding fits_at
after_word-requires c = toggled-told _ _ c.args.v c.in-Word.is c.requires

pub after_ack_read-requires : goal.after_ack_read-requires
unfolding fits_at
after_ack_read-requires c = toggled-told _ _ c.args.v c.in-AckRead.is c.requires

pub returns-in-Look : goal.returns-in-Look
returns-in-Look c =
    (λ b. simp (c.after_look.ensures.0, c.in-Look.is), (refl, c.after_look.ensures.1))

pub returns-in-Word : goal.returns-in-Word
returns-in-Word c = (
  λ b. simp (c.after_word.ensures.0, c.in-Word.is),
  (c.after_word.ensures.1.0, c.after_word.ensures.1.1),
)

pub returns-in-AckRead : goal.returns-in-AckRead
returns-in-AckRead c =
    (λ b. simp (c.after_ack_read.ensures.0, c.in-AckRead.is), (refl, c.after_ack_read.ensures.1))

pub returns-in-Acked : goal.returns-in-Acked
returns-in-Acked c = (λ b. simp c.in-Acked.is, (refl, tt))
