use Rattle.script.specs.Calls.{start_row}
use Rattle.calls.specs.Starts.{good-16}
use mathlib.Core.Path.{◌∙◌, sym, refl}
use borrow.Author.Rules.{rules}
use Rattle.calls.proofs.start.start_up.Goals as goal

pub overflow_cast-size : goal.overflow_cast-size
overflow_cast-size c =
    search (rules, (good-16 _ _ (sym c.good_buffer.ensures ∙ c.if-good_buffer.true)).0)

pub overflow_cast-count : goal.overflow_cast-count
overflow_cast-count c =
    search (rules, (good-16 _ _ (sym c.good_buffer.ensures ∙ c.if-good_buffer.true)).1)

pub suspend_or_end-requires : goal.suspend_or_end-requires
suspend_or_end-requires c = c.start_up.ensures.1

pub returns-then-good_buffer : goal.returns-then-good_buffer
unfolding start_row
returns-then-good_buffer c =
    record {
      by_index = λ a. simp (
        ← c.good_buffer.ensures,
        c.if-good_buffer.true,
        ← c.fits.ensures,
        c.if-fits.true,
      ) (c.suspend_or_end.ensures.steps_to _ ∙ simp (
        c.start_up.ensures.0,
        c.clear_wakes.ensures.s_after,
        c.fresh.ensures.s_after,
        c.flag_of.ensures,
      ));
      saved_by_answer = c.suspend_or_end.ensures.stored _;
    }

pub returns-then-fits : goal.returns-then-fits
unfolding start_row
returns-then-fits c =
    record {
      by_index = λ a. simp (← c.good_buffer.ensures, c.if-good_buffer.false, ← c.fits.ensures, c.if-fits.true);
      saved_by_answer = refl;
    }

pub returns : goal.returns
unfolding start_row
returns c =
    record {
      by_index = λ a. simp (← c.fits.ensures, c.if-fits.false);
      saved_by_answer = refl;
    }
