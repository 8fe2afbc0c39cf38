use Rattle.std.proofs.Common.{arith}
use Rattle.state.proofs.Views.{ep-stored}
use Rattle.state.proofs.store_ep.Goals as goal

pub returns-clause-s_after : goal.returns-clause-s_after
returns-clause-s_after c =
    (ep-stored c.args.s.now (omega arith) c.args.dir c.args.e _ c.args.r _ c.key_of-k.ensures c.write_ep.ensures).0

pub returns-clause-s_unchanged : goal.returns-clause-s_unchanged
returns-clause-s_unchanged c =
    (ep-stored c.args.s.now (omega arith) c.args.dir c.args.e _ c.args.r _ c.key_of-k.ensures c.write_ep.ensures).1
