use Rattle.std.proofs.Common.{◌+◌, ◌*◌, refl, ap, ◌∙◌, arith}
use Rattle.bits.specs.Bytes.{digits}
use Rattle.state.specs.State.{view, saved}
use Rattle.state.proofs.Views.{view-lens, saved-off}
use Rattle.state.proofs.Filling.{lens_table, none_filled, one-filled, all-filled}
use Rattle.state.proofs.start_up.fill_lengths.Goals as goal

pub loop-k-init : goal.loop-k-init
loop-k-init c = (omega arith, none_filled lens_table c.args.s.now c.args.v c.args.a)

pub loop-k-preserved : goal.loop-k-preserved
loop-k-preserved c =
    let j = c.args.a + c.loop-k.k in (
      omega arith,
      one-filled lens_table c.args.s.now c.args.v c.args.a c.loop-k.k j c.loop-k.s _ refl
          (ap view c.put16.ensures ∙ view-lens c.loop-k.s (omega arith) j c.args.v (omega arith))
          (ap saved c.put16.ensures ∙ saved-off c.loop-k.s (1966 + j * 2) (digits 2 c.args.v) (omega arith)) c.loop-k.invariant.1,
    )

pub returns-clause-s_after : goal.returns-clause-s_after
returns-clause-s_after c =
    (all-filled lens_table _ c.args.v c.args.a c.args.n _ _ c.loop-k.invariant.1 (omega arith)).0

pub returns-clause-s_unchanged : goal.returns-clause-s_unchanged
returns-clause-s_unchanged c =
    (all-filled lens_table _ c.args.v c.args.a c.args.n _ _ c.loop-k.invariant.1 (omega arith)).1
