use mathlib.Core.Path.{refl, ap, sym, ◌∙◌}
use Rattle.state.specs.declared.EpState.{EpState}
use Rattle.script.specs.Statics.{is_on}
use Rattle.state.specs.State.{view}
use Rattle.isochronous.specs.OpenCloseLaws.{open-shown, open_none, open-other}
use Rattle.isochronous.proofs.open_close.open_at.Goals as goal

pub returns-then-waiting : goal.returns-then-waiting
returns-then-waiting c =
    record {
      by_index = λ b. open-shown c.args.e (view c.args.s.now) _ b _ _ _ (ap (λ (r : EpState). is_on r.iso)
          (sym c.load_ep-r.ensures)
          ∙ (sym c.is_on.ensures
          ∙ c.if-is_on.true))
          (sym c.waiting.ensures
          ∙ c.if-waiting.true) c.open_oldest.ensures.s_after c.oldest_at-at.ensures c.next_len-n.ensures c.next_stamp-stamp.ensures;
      s_unchanged = c.open_oldest.ensures.s_unchanged;
      shown_at = (c.oldest_at-at.ensures, c.next_len-n.ensures, c.next_stamp-stamp.ensures);
    }

pub returns-then-is_on : goal.returns-then-is_on
returns-then-is_on c =
    record {
      by_index = λ b. open_none c.args.e (view c.args.s.now) b (ap (λ (r : EpState). is_on r.iso) (sym c.load_ep-r.ensures)
          ∙ (sym c.is_on.ensures ∙ c.if-is_on.true)) (sym c.waiting.ensures ∙ c.if-waiting.false);
      s_unchanged = refl;
      shown_at = tt;
    }

pub returns : goal.returns
returns c =
    record {
      by_index = λ b. open-other c.args.e (view c.args.s.now) b (ap (λ (r : EpState). is_on r.iso) (sym c.load_ep-r.ensures)
          ∙ (sym c.is_on.ensures ∙ c.if-is_on.false));
      s_unchanged = refl;
      shown_at = tt;
    }
