use Rattle.std.proofs.Common.{ap, ◌∙◌}
use Rattle.bits.specs.Bytes.{bytes}
use Rattle.state.specs.Codec.{control_widths, control_as}
use Rattle.state.proofs.Fields.{rest}
use Rattle.state.proofs.codec.write_control.Goals as goal

pub returns : goal.returns
returns c =
    let left = rest c.args.o (bytes control_widths (control_as c.args.r)) in
    c.put8-5.ensures ∙ ap (left 8) c.put8-4.ensures ∙ ap (left 7) c.put8-3.ensures
    ∙ ap (left 6) c.put32.ensures ∙ ap (left 2) c.put8-2.ensures ∙ ap (left 1) c.put8.ensures
