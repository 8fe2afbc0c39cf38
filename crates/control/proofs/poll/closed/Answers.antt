use borrow.Author.Tests.{eq-eqb, ne_eqb}
use Rattle.control.proofs.poll.closed.Goals as goal

pub returns-then-n-eq0 : goal.returns-then-n-eq0
returns-then-n-eq0 c =
    record {
      b_value = λ d b. simp (eq-eqb _ _ c.if-n-eq0.true);
      linked_polled = tt;
    }

pub returns : goal.returns
returns c =
    record {
      b_value = λ d b. simp (ne_eqb _ _ c.if-n-eq0.false);
      linked_polled = tt;
    }
