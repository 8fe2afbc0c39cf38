use Rattle.std.proofs.Common.{ap, ◌∙◌, arith}
use Rattle.bits.specs.Bytes.{digits}
use Rattle.state.specs.State.{view, saved}
use Rattle.state.proofs.Views.{view-count, saved-off}
use Rattle.state.proofs.wakes.store_count.Goals as goal

pub returns : goal.returns
returns c =
    record {
      s_after = ap view c.put8.ensures ∙ view-count c.args.s.now (omega arith) c.args.n;
      s_unchanged = ap saved c.put8.ensures ∙ saved-off c.args.s.now 1357 (digits 1 c.args.n) (omega arith);
    }
