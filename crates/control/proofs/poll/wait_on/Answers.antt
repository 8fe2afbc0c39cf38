use mathlib.Core.Path.{refl}
use Rattle.control.proofs.poll.wait_on.Goals as goal

pub returns-then-is_on : goal.returns-then-is_on
returns-then-is_on c =
    record {
      by_index = λ out b. simp (
        c.set_request.ensures.s_after,
        c.if-is_on.true,
        ← c.is_on.ensures,
        ← c.load_globals-g.ensures,
      );
      s_unchanged = c.set_request.ensures.s_unchanged;
      linked_polled = tt;
    }

pub returns : goal.returns
returns c =
    record {
      by_index = λ out b. simp (c.if-is_on.false, ← c.is_on.ensures, ← c.load_globals-g.ensures);
      s_unchanged = refl;
      linked_polled = tt;
    }
