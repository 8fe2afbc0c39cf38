use Rattle.std.proofs.Common.{ap, ◌∙◌}
use Rattle.bits.specs.Bytes.{bytes}
use Rattle.state.specs.Codec.{ep_widths, ep_as}
use Rattle.state.proofs.Fields.{rest}
use Rattle.state.proofs.codec.write_ep.Goals as goal

pub returns : goal.returns
returns c =
    let left = rest c.args.o (bytes ep_widths (ep_as c.args.r)) in
    c.put8-3.ensures ∙ ap (left 31) c.put8-2.ensures ∙ ap (left 30) c.put8.ensures
    ∙ ap (left 29) c.put8x5.ensures ∙ ap (left 24) c.put16.ensures
    ∙ ap (left 22) c.put16x5.ensures ∙ ap (left 12) c.put32-3.ensures
    ∙ ap (left 8) c.put32-2.ensures ∙ ap (left 4) c.put32.ensures
