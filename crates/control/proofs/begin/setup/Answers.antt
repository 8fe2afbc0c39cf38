use mathlib.Core.Path.{◌∙◌, refl}
use Rattle.control.proofs.begin.setup.Goals as goal

pub returns-then-is_started : goal.returns-then-is_started
returns-then-is_started c =
    record {
      by_index = λ b. simp (
        c.clear_wakes.ensures.s_after,
        c.set_request.ensures.s_after,
        c.if-is_started.true,
        ← c.is_started.ensures,
        ← c.load_globals-g.ensures,
      );
      s_unchanged = c.clear_wakes.ensures.s_unchanged ∙ c.set_request.ensures.s_unchanged;
      linked_begun = tt;
    }

pub returns : goal.returns
returns c =
    record {
      by_index = λ b. simp (c.if-is_started.false, ← c.is_started.ensures, ← c.load_globals-g.ensures);
      s_unchanged = refl;
      linked_begun = tt;
    }
