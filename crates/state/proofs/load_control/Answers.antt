use Rattle.std.proofs.Common.{ap}
use Rattle.bits.specs.Bytes.{gets, numbers}
use Rattle.state.specs.Codec.{control_widths, control_as, control_of}
use Rattle.state.specs.State.{view}
use Rattle.bits.specs.Numbers.{each-eq}
use Rattle.state.proofs.load_control.Goals as goal

pub returns : goal.returns
unfolding view
returns c =
    ap control_of (each-eq (control_as c.read_control.result)
    (numbers control_widths (gets c.args.s.now 2990 0 9)) c.read_control.ensures)
