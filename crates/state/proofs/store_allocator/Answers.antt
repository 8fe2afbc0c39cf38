use Rattle.std.proofs.Common.{ap, ◌∙◌, arith}
use Rattle.bits.specs.Bytes.{bytes}
use Rattle.state.specs.Codec.{allocator_widths, allocator_as}
use Rattle.state.specs.State.{view, saved}
use Rattle.state.proofs.Views.{view-allocator, saved-off}
use Rattle.state.proofs.store_allocator.Goals as goal

pub returns : goal.returns
returns c =
    record {
      s_after = ap view c.write_allocator.ensures ∙ view-allocator c.args.s.now (omega arith)
          c.args.r;
      s_unchanged = ap saved c.write_allocator.ensures ∙ saved-off c.args.s.now 22
          (bytes allocator_widths (allocator_as c.args.r)) (omega arith);
    }
