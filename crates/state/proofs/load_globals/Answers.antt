use Rattle.std.proofs.Common.{ap}
use Rattle.bits.specs.Bytes.{gets, numbers}
use Rattle.state.specs.Codec.{globals_widths, globals_as, globals_of}
use Rattle.state.specs.State.{view}
use Rattle.bits.specs.Numbers.{each-eq}
use Rattle.state.proofs.load_globals.Goals as goal

pub returns : goal.returns
unfolding view
returns c =
    ap globals_of (each-eq (globals_as c.read_globals.result)
    (numbers globals_widths (gets c.args.s.now 1320 0 37)) c.read_globals.ensures)
