use Rattle.std.proofs.Common.{ap, ◌∙◌}
use Rattle.bits.specs.Bytes.{bytes}
use Rattle.state.specs.Codec.{request_widths, request_as}
use Rattle.state.proofs.Fields.{rest}
use Rattle.state.proofs.codec.write_request.Goals as goal

pub returns : goal.returns
returns c =
    let left = rest c.args.o (bytes request_widths (request_as c.args.r)) in
    c.put32-2.ensures ∙ ap (left 4) c.put32.ensures
