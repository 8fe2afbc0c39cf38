use Rattle.std.proofs.Common.{ap, ◌∙◌}
use Rattle.bits.specs.Bytes.{bytes}
use Rattle.state.specs.Codec.{saved_widths, saved_as}
use Rattle.state.proofs.Fields.{rest}
use Rattle.state.proofs.codec.write_saved.Goals as goal

pub returns : goal.returns
returns c =
    let left = rest c.args.o (bytes saved_widths (saved_as c.args.r)) in
    c.put8x5-2.ensures ∙ ap (left 17) c.put8x5.ensures ∙ ap (left 12) c.put16-4.ensures
    ∙ ap (left 10) c.put16-3.ensures ∙ ap (left 8) c.put16-2.ensures ∙ ap (left 6) c.put16.ensures
    ∙ ap (left 4) c.put32.ensures
