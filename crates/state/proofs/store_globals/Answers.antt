use Rattle.std.proofs.Common.{ap, ◌∙◌, arith}
use Rattle.bits.specs.Bytes.{bytes}
use Rattle.state.specs.Codec.{globals_widths, globals_as}
use Rattle.state.specs.State.{view, saved}
use Rattle.state.proofs.Views.{view-globals, saved-off}
use Rattle.state.proofs.store_globals.Goals as goal

pub returns : goal.returns
returns c =
    record {
      s_after = ap view c.write_globals.ensures ∙ view-globals c.args.s.now (omega arith) c.args.r;
      s_unchanged = ap saved c.write_globals.ensures ∙ saved-off c.args.s.now 1320
          (bytes globals_widths (globals_as c.args.r)) (omega arith);
    }
