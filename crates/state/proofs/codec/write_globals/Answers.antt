use Rattle.std.proofs.Common.{ap, ◌∙◌}
use Rattle.bits.specs.Bytes.{bytes}
use Rattle.state.specs.Codec.{globals_widths, globals_as}
use Rattle.state.proofs.Fields.{rest}
use Rattle.state.proofs.codec.write_globals.Goals as goal

pub returns : goal.returns
returns c =
    let left = rest c.args.o (bytes globals_widths (globals_as c.args.r)) in
    c.put8x5.ensures ∙ ap (left 32) c.put16.ensures ∙ ap (left 30) c.put16x5.ensures
    ∙ ap (left 20) c.put32-5.ensures ∙ ap (left 16) c.put32-4.ensures
    ∙ ap (left 12) c.put32-3.ensures ∙ ap (left 8) c.put32-2.ensures ∙ ap (left 4) c.put32.ensures
