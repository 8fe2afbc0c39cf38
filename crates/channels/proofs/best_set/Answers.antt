use Rattle.std.specs.Prelude.{◌<◌, length}
use Rattle.std.proofs.Common.{inl, inr, arith}
use Rattle.channels.specs.Promises.{refuses, accepts}
use Rattle.channels.specs.AnswersLaws.{turned_down_lem, chosen_is}
use Rattle.channels.proofs.best_set.Goals as goal

pub returns-then-budget-eq0 : goal.returns-then-budget-eq0
returns-then-budget-eq0 c =
    let h = refuses (length c.args.list.now) c.args.budget (elim c.then-budget-eq0.either [
      | inl e ↦ inl e
      | inr e ↦ inr e.1
    ]) in
    let r = turned_down_lem c.args.list.now c.args.in_use c.args.budget h in
    record { answer = r.0; marks = r.1 }

pub returns : goal.returns
returns c =
    let some : 0 < c.args.budget = omega (arith, c.if-budget-eq0.false) in
    let few = c.if-list-gt-MOST_CHANNELS.false in
    let a = accepts (length c.args.list.now) c.args.budget some few in
    let chosen = c.choose-choice.ensures.arrays in
    let r = chosen_is c.args.list.now c.args.in_use c.args.budget a few _ chosen _ c.mark.ensures in
    record { answer = r.0; marks = r.1 }
