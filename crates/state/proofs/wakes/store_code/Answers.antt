use Rattle.std.proofs.Common.{◌+◌, ◌*◌, ap, ◌∙◌, arith}
use Rattle.bits.specs.Bytes.{digits}
use Rattle.state.specs.State.{view, saved}
use Rattle.state.proofs.Views.{view-codes, saved-off}
use Rattle.state.proofs.wakes.store_code.Goals as goal

pub returns : goal.returns
returns c =
    record {
      s_after = ap view c.put8.ensures ∙ view-codes c.args.s.now
          (omega arith) c.args.i c.args.code (omega (arith, c.requires));
      s_unchanged = ap saved c.put8.ensures ∙ saved-off c.args.s.now (1358 + c.args.i * 1)
          (digits 1 c.args.code) (omega (arith, c.requires));
    }
