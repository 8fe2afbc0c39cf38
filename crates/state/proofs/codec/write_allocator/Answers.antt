use Rattle.std.proofs.Common.{ap, ◌∙◌}
use Rattle.bits.specs.Bytes.{bytes}
use Rattle.state.specs.Codec.{allocator_widths, allocator_as}
use Rattle.state.proofs.Fields.{rest}
use Rattle.state.proofs.codec.write_allocator.Goals as goal

pub returns : goal.returns
returns c =
    let left = rest c.args.o (bytes allocator_widths (allocator_as c.args.r)) in
    c.put16-4.ensures ∙ ap (left 16) c.put16-3.ensures ∙ ap (left 14) c.put16-2.ensures
    ∙ ap (left 12) c.put16.ensures ∙ ap (left 10) c.put16x5.ensures
