use Rattle.std.proofs.Common.{arith}
use Rattle.usbhs_c.specs.SetupLaws.{over-all}
use mathlib.Core.Path.{◌∙◌}
use Rattle.usbhs_c.proofs.setup.fill.Goals as goal

pub returns : goal.returns
returns c =
    record {
      packet_after = c.bytes_of-bytes.ensures;
      packet_after_2 = c.bytes_of-bytes.ensures ∙ over-all c.args.low c.args.high
          c.args.packet.now (omega arith);
    }
