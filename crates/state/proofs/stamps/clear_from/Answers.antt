use Rattle.std.proofs.Common.{◌+◌, ◌*◌, refl, ap, ◌∙◌, arith}
use Rattle.bits.specs.Bytes.{digits}
use Rattle.state.specs.State.{view, saved}
use Rattle.state.proofs.Views.{view-stamps, saved-off}
use Rattle.state.proofs.Filling.{stamps_table, none_filled, one-filled, all-filled}
use Rattle.state.proofs.stamps.clear_from.Goals as goal

pub loop-k-init : goal.loop-k-init
loop-k-init c = (omega arith, none_filled stamps_table c.args.s.now 0 c.args.a)

pub loop-k-preserved : goal.loop-k-preserved
loop-k-preserved c =
    let j = c.args.a + c.loop-k.k in (
      omega arith,
      one-filled stamps_table c.args.s.now 0 c.args.a c.loop-k.k j c.loop-k.s _ refl
          (ap view c.put16.ensures ∙ view-stamps c.loop-k.s (omega arith) j 0 (omega arith))
          (ap saved c.put16.ensures ∙ saved-off c.loop-k.s (1454 + j * 2) (digits 2 0) (omega arith)) c.loop-k.invariant.1,
    )

pub returns-clause-s_after : goal.returns-clause-s_after
returns-clause-s_after c =
    (all-filled stamps_table _ 0 c.args.a c.args.n _ _ c.loop-k.invariant.1 (omega arith)).0

pub returns-clause-s_unchanged : goal.returns-clause-s_unchanged
returns-clause-s_unchanged c =
    (all-filled stamps_table _ 0 c.args.a c.args.n _ _ c.loop-k.invariant.1 (omega arith)).1
