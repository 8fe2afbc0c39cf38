use Rattle.state.specs.State.{view}
use mathlib.Core.Path.{refl}
use Rattle.control.proofs.Laws.{polling, poll-refused}
use Rattle.control.proofs.poll.poll_accept.Goals as goal

pub take_accept-requires : goal.take_accept-requires
take_accept-requires c =
    polling (view c.args.s.now) 4 c.load_globals.ensures c.load_control-c.ensures
    c.poll_row-row.ensures c.if-row-eq0.true

pub returns : goal.returns
returns c =
    record {
      by_index = λ b. poll-refused _ 4 b _ c.load_globals.ensures c.load_control-c.ensures c.poll_row-row.ensures c.if-row-eq0.false;
      s_unchanged = refl;
      linked_polled = tt;
    }
