use mathlib.Core.Path.{◌∙◌}
use Rattle.isochronous.specs.Laws.{late-at}
use borrow.Author.Rules.{rules}
use Rattle.isochronous.proofs.late.walk.Goals as goal

pub enum_told-1 : goal.enum_told-1
enum_told-1 c = search rules

pub returns-in-At : goal.returns-in-At
returns-in-At c = (
  λ b. late-at _ _ _ _ c.start-x.result.access c.start-x.result.point _ _ b _ c.in-At.is
      (c.find-f.ensures.by_index b) (c.start-x.ensures.0 b),
  (c.start-x.ensures.1.0 ∙ c.find-f.ensures.s_unchanged, c.start-x.ensures.1.1),
)

pub returns-in-Nothing : goal.returns-in-Nothing
returns-in-Nothing c =
    (λ b. simp (← c.find-f.ensures.by_index, c.in-Nothing.is), (c.find-f.ensures.s_unchanged, tt))
