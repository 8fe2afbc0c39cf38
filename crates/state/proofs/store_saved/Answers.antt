use Rattle.std.proofs.Common.{ap, ◌∙◌, arith}
use Rattle.state.specs.State.{view, saved}
use Rattle.state.proofs.Views.{view-saved, saved-saved}
use Rattle.state.proofs.store_saved.Goals as goal

pub returns : goal.returns
returns c =
    record {
      s_unchanged = ap view c.write_saved.ensures ∙ view-saved c.args.s.now (omega arith) c.args.r;
      s_after = ap saved c.write_saved.ensures ∙ saved-saved c.args.s.now (omega arith) c.args.r;
    }
