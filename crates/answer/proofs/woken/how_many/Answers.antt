use mathlib.Core.Path.{sym, ◌∙◌}
use native.Mathlib.Omega.{arith}
use lib.Seq.{length-take-le}
use Rattle.state.specs.State.{view}
use Rattle.state.specs.Wakes.{listed}
use Rattle.state.specs.Laws.{view-codes}
use Rattle.answer.specs.Answering.{length_most}
use Rattle.answer.proofs.woken.how_many.Goals as goal

pub returns-then-n-le64 : goal.returns-then-n-le64
unfolding listed
returns-then-n-le64 c =
    let w = (view c.args.s.now).wakes in
    record {
      value = c.woken_count-n.ensures ∙ sym (length-take-le w.count w.codes (omega (
        arith,
        sym c.woken_count-n.ensures,
        c.if-n-le64.true,
        view-codes c.args.s.now,
      )));
      upper_bound = omega (arith, c.if-n-le64.true);
    }

pub returns : goal.returns
unfolding listed
returns c =
    let w = (view c.args.s.now).wakes in
    record {
      value = sym (length_most w.count w.codes (omega (arith, sym c.woken_count-n.ensures, c.if-n-le64.false, view-codes c.args.s.now))
          ∙ view-codes c.args.s.now);
      upper_bound = omega arith;
    }
