use Rattle.state.specs.State.{view}
use mathlib.Core.Path.{refl}
use Rattle.control.proofs.Laws.{polling, poll-refused}
use Rattle.control.proofs.poll.poll_setup.Goals as goal

pub take_setup-requires : goal.take_setup-requires
take_setup-requires c = (
  c.load_globals-g.ensures,
  (
    refl,
    (polling (view c.args.s.now) 1 c.load_globals-g.ensures c.load_control.ensures c.poll_row-row.ensures c.if-row-eq0.true).1,
  ),
)

pub returns : goal.returns
returns c =
    record {
      by_index = λ b. poll-refused _ 1 b _ c.load_globals-g.ensures c.load_control.ensures c.poll_row-row.ensures c.if-row-eq0.false;
      s_unchanged = refl;
      linked_polled = tt;
    }
