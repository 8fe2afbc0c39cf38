use mathlib.Core.Path.{refl}
use borrow.Author.Rules.{rules}
use Rattle.isochronous.proofs.sof.walk.Goals as goal

pub enum_told-1 : goal.enum_told-1
enum_told-1 c = search rules

pub returns-then-is_on : goal.returns-then-is_on
returns-then-is_on c = (
  λ b. simp (
    ← c.find-f.ensures,
    c.in-Nothing.is,
    ← c.load_globals-g.ensures,
    ← c.is_on.ensures,
    c.if-is_on.true,
  ),
  refl,
)

pub returns-in-At : goal.returns-in-At
returns-in-At c = (λ b. simp (← c.find-f.ensures, c.in-At.is), refl)

pub returns-else-is_on : goal.returns-else-is_on
returns-else-is_on c = (
  λ b. simp (
    ← c.find-f.ensures,
    c.in-Nothing.is,
    ← c.load_globals-g.ensures,
    ← c.is_on.ensures,
    c.if-is_on.false,
  ),
  tt,
)
