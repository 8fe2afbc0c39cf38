use mathlib.Core.Path.{refl, ◌∙◌}
use Rattle.control.proofs.Laws.{within, begin-passed, begin-refused}
use Rattle.control.proofs.begin.data_out.Goals as goal

pub length16-k-requires : goal.length16-k-requires
length16-k-requires c = within _ _ c.begin_row-row.ensures c.if-row-eq0.true

pub returns-then-row-eq0 : goal.returns-then-row-eq0
returns-then-row-eq0 c =
    record {
      by_index = λ b. begin-passed _ _ b _ c.load_globals-g.ensures c.begin_row-row.ensures c.if-row-eq0.true
          (c.ack_out.ensures.b_value _ b ∙ rw (
            c.arm_out.ensures.s_after,
            c.clear_wakes.ensures.s_after,
            c.set_request.ensures.s_after,
            c.length16-k.ensures,
          ));
      s_unchanged = c.arm_out.ensures.s_unchanged ∙ c.clear_wakes.ensures.s_unchanged ∙ c.set_request.ensures.s_unchanged;
      linked_begun = c.ack_out.ensures.linked_begun;
    }

pub returns : goal.returns
returns c =
    record {
      by_index = λ b. begin-refused _ _ b _ c.load_globals-g.ensures c.begin_row-row.ensures c.if-row-eq0.false;
      s_unchanged = refl;
      linked_begun = tt;
    }
