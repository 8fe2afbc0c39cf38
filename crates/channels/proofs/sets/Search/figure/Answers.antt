use borrow.Author.Tests.{le-leb, lt-leb}
use Rattle.channels.specs.Channels.{maximum}
use Rattle.channels.specs.Sets.{figure}
use Rattle.channels.specs.SetsLaws.{total-all}
use Rattle.channels.proofs.sets.Search.figure.Goals as goal

pub returns-then-all_sets-budget : goal.returns-then-all_sets-budget
unfolding figure
returns-then-all_sets-budget c =
    simp (← c.all_sets.ensures, le-leb _ _ c.if-all_sets-budget.true)

pub returns-else-all_sets-budget : goal.returns-else-all_sets-budget
unfolding figure
returns-else-all_sets-budget c =
    simp (
      ← c.all_sets.ensures,
      lt-leb _ _ c.if-all_sets-budget.false,
      c.totals.ensures.maximum,
      total-all (maximum c.args.self.now.list.now) _ c.args.self.now.few,
    )
