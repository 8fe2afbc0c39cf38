use Rattle.std.proofs.Common.{ap, ◌∙◌, arith}
use Rattle.bits.specs.Bytes.{bytes}
use Rattle.state.specs.Codec.{control_widths, control_as}
use Rattle.state.specs.State.{view, saved}
use Rattle.state.proofs.Views.{view-control, saved-off}
use Rattle.state.proofs.store_control.Goals as goal

pub returns : goal.returns
returns c =
    record {
      s_after = ap view c.write_control.ensures ∙ view-control c.args.s.now (omega arith) c.args.r;
      s_unchanged = ap saved c.write_control.ensures ∙ saved-off c.args.s.now 2990
          (bytes control_widths (control_as c.args.r)) (omega arith);
    }
