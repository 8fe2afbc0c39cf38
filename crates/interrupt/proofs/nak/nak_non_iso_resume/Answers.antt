use Rattle.interrupt.specs.TransferLaws.{nak-told}
use Rattle.interrupt.specs.Nak.{fits_at}
use mathlib.Core.Path.{refl}
use borrow.Author.Rules.{rules}
use Rattle.interrupt.proofs.nak.nak_non_iso_resume.Goals as goal

pub byte-requires : goal.byte-requires
unfolding fits_at
byte-requires c = nak-told _ _ c.args.v c.in-Word.is c.requires

pub enum_told-1 : goal.enum_told-1
enum_told-1 c = search rules

pub returns-in-Word : goal.returns-in-Word
returns-in-Word c = (
  λ d b. simp (
    c.endpoint.ensures,
    c.ctrl_of.ensures,
    c.nak-word.ensures,
    c.byte.ensures,
    c.in-Word.is,
  ),
  refl,
)

pub returns-in-Wrote : goal.returns-in-Wrote
returns-in-Wrote c = (λ d b. simp c.in-Wrote.is, tt)
