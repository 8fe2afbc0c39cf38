use mathlib.Core.Path.{refl, sym, ◌∙◌}
use Rattle.state.specs.State.{view}
use Rattle.isochronous.specs.OpenCloseLaws.{close_open, close-none}
use Rattle.isochronous.proofs.open_close.close_at.Goals as goal

pub returns-then-opened : goal.returns-then-opened
returns-then-opened c =
    record {
      by_index = λ b. close_open c.args.e (view c.args.s.now) _ b (sym c.opened.ensures ∙ c.if-opened.true) c.close_oldest.ensures.s_after;
      s_unchanged = c.close_oldest.ensures.s_unchanged;
    }

pub returns : goal.returns
returns c =
    record {
      by_index = λ b. close-none c.args.e (view c.args.s.now) b (sym c.opened.ensures ∙ c.if-opened.false);
      s_unchanged = refl;
    }
