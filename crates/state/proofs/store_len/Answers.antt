use Rattle.std.proofs.Common.{arith}
use Rattle.state.proofs.Views.{len-stored}
use Rattle.state.proofs.store_len.Goals as goal

pub returns-clause-s_after : goal.returns-clause-s_after
returns-clause-s_after c =
    (len-stored c.args.s.now (omega arith) c.args.dir c.args.e c.args.i _ c.args.v _ c.len_key-k.ensures c.put16.ensures).0

pub returns-clause-s_unchanged : goal.returns-clause-s_unchanged
returns-clause-s_unchanged c =
    (len-stored c.args.s.now (omega arith) c.args.dir c.args.e c.args.i _ c.args.v _ c.len_key-k.ensures c.put16.ensures).1
