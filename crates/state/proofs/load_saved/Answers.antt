use Rattle.std.proofs.Common.{ap}
use Rattle.bits.specs.Bytes.{gets, numbers}
use Rattle.state.specs.Codec.{saved_widths, saved_as, saved_of}
use Rattle.state.specs.State.{saved}
use Rattle.bits.specs.Numbers.{each-eq}
use Rattle.state.proofs.load_saved.Goals as goal

pub returns : goal.returns
unfolding saved
returns c =
    ap saved_of (each-eq (saved_as c.read_saved.result) (numbers saved_widths (gets c.args.s.now 0 0 22))
    c.read_saved.ensures)
