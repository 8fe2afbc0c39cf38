use Rattle.state.specs.State.{view}
use mathlib.Core.Path.{refl, ◌∙◌}
use Rattle.control.proofs.Laws.{within, in-loads, begin-refused}
use Rattle.control.proofs.begin.data_in.Goals as goal

pub length16-n-requires : goal.length16-n-requires
length16-n-requires c = within _ _ c.begin_row-row.ensures c.if-row-eq0.true

pub returns-then-row-eq0 : goal.returns-then-row-eq0
returns-then-row-eq0 c =
    record {
      buf_after = c.load_in.ensures.by_index _ ∙ in-loads (view c.args.s.now) _ _ _ _ _ c.args.bytes.now c.args.first c.args.last
          c.load_globals-g.ensures c.begin_row-row.ensures c.if-row-eq0.true
          c.length16-n.ensures c.flag_of.ensures
          c.set_data_in.ensures.s_after
          c.clear_wakes.ensures.s_after c.fill0.ensures c.unready.ensures.s_after;
      s_unchanged = c.load_in.ensures.s_unchanged ∙ c.unready.ensures.s_unchanged ∙ c.clear_wakes.ensures.s_unchanged ∙ c.set_data_in.ensures.s_unchanged;
      linked_begun = c.load_in.ensures.linked_begun;
    }

pub returns : goal.returns
returns c =
    record {
      buf_after = begin-refused _ _ _ _ c.load_globals-g.ensures c.begin_row-row.ensures c.if-row-eq0.false;
      s_unchanged = refl;
      linked_begun = tt;
    }
