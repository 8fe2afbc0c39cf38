use Rattle.std.proofs.Common.{arith}
use Rattle.state.proofs.Views.{paced-stored}
use Rattle.state.proofs.store_paced.Goals as goal

pub returns-clause-s_after : goal.returns-clause-s_after
returns-clause-s_after c =
    (paced-stored c.args.s.now (omega arith) c.args.e c.args.v _ c.put16.ensures).0

pub returns-clause-s_unchanged : goal.returns-clause-s_unchanged
returns-clause-s_unchanged c =
    (paced-stored c.args.s.now (omega arith) c.args.e c.args.v _ c.put16.ensures).1
