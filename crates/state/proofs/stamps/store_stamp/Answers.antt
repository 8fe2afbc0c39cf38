use Rattle.std.proofs.Common.{arith}
use Rattle.state.proofs.Views.{stamp-stored}
use Rattle.state.proofs.stamps.store_stamp.Goals as goal

pub returns-clause-s_after : goal.returns-clause-s_after
returns-clause-s_after c =
    (stamp-stored c.args.s.now (omega arith) c.args.e c.args.i _ c.args.v _ c.stamp_key-k.ensures c.put16.ensures).0

pub returns-clause-s_unchanged : goal.returns-clause-s_unchanged
returns-clause-s_unchanged c =
    (stamp-stored c.args.s.now (omega arith) c.args.e c.args.i _ c.args.v _ c.stamp_key-k.ensures c.put16.ensures).1
