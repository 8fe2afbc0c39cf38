use Rattle.std.proofs.Common.{ap}
use Rattle.bits.specs.Bytes.{gets, numbers}
use Rattle.state.specs.Codec.{allocator_widths, allocator_as, allocator_of}
use Rattle.state.specs.State.{view}
use Rattle.bits.specs.Numbers.{each-eq}
use Rattle.state.proofs.load_allocator.Goals as goal

pub returns : goal.returns
unfolding view
returns c =
    ap allocator_of (each-eq (allocator_as c.read_allocator.result)
    (numbers allocator_widths (gets c.args.s.now 22 0 18)) c.read_allocator.ensures)
