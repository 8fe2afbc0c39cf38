use mathlib.Core.Path.{sym, ◌∙◌}
use native.Mathlib.Omega.{arith}
use Rattle.visits.specs.Limits.{row23}
use Rattle.visits.specs.LimitsLaws.{limits-from, limits-upto, limits-order}
use Rattle.visits.specs.Bounds.{bounds_of}
use Rattle.visits.proofs.between_visits.Goals as goal
use Rattle.visits.proofs.between_visits.Goals.{then-no_limits-via-then-no_limits}
use Rattle.visits.proofs.between_visits.Goals.{then-no_limits-via-else-no_limits+then-no_limits-2}

pub returns-then-no_limits : goal.returns-then-no_limits
unfolding bounds_of row23
returns-then-no_limits c = elim c.then-no_limits.branch [
  | then-no_limits-via-then-no_limits w ↦ simp (← c.no_limits.ensures, w.if-no_limits.true)
  | then-no_limits-via-else-no_limits+then-no_limits-2 w ↦
      simp (← w.no_limits-else-no_limits.ensures, w.if-no_limits-2.true, ← c.no_limits.ensures, w.if-no_limits.false)
]

pub least-requires : goal.least-requires
least-requires c =
    let w = sym c.no_limits-else-no_limits.ensures ∙ c.if-no_limits-2.false in
    omega (arith, limits-from _ _ w, limits-order _ _ w)

pub greatest-requires : goal.greatest-requires
greatest-requires c =
    let v = sym c.no_limits.ensures ∙ c.if-no_limits.false in
    let w = sym c.no_limits-else-no_limits.ensures ∙ c.if-no_limits-2.false in
    omega (arith, limits-upto _ _ v, limits-from _ _ w, limits-order _ _ w, limits-upto _ _ w)

pub returns : goal.returns
unfolding bounds_of row23
returns c =
    simp (
      ← c.no_limits-else-no_limits.ensures,
      c.if-no_limits-2.false,
      ← c.no_limits.ensures,
      c.if-no_limits.false,
      c.least.ensures,
      c.greatest.ensures,
    )
