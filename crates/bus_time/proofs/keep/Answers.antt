use mathlib.Core.List.{List}
use mathlib.Core.Path.{◌≡◌, sym, ap, ◌∙◌}
use Prim.Native.Nat.{ℕ, ◌+◌, ◌*◌, ◌%◌}
use native.Mathlib.Omega.{arith}
use lib.ListN.{get_or, set}
use Rattle.bus_time.specs.Time.{entry_kept, keep_of}
use Rattle.bus_time.specs.TimeLaws.{kept-none, kept_more}
use Rattle.bus_time.proofs.keep.Goals as goal

pub loop-bit-init : goal.loop-bit-init
loop-bit-init c = (omega arith, sym (kept-none _ _ _))

pub loop-bit-preserved : goal.loop-bit-preserved
loop-bit-preserved c =
    let first = c.args.driver % 4 * 32 in (
      omega arith,
      ap (set c.loop-bit.time (first + c.loop-bit.bit)) c.entry_kept.ensures
          ∙ (ap (λ (t : List ℕ). set t (first + c.loop-bit.bit) (entry_kept c.args.config c.loop-bit.bit (get_or t (first + c.loop-bit.bit) 0)))
          c.loop-bit.invariant.1
          ∙ sym (kept_more c.args.config first c.loop-bit.bit c.args.time.now)),
    )

pub returns : goal.returns
unfolding keep_of
returns c =
    let e : c.loop-bit.bit ≡ 32 = omega arith in
    rw e at c.loop-bit.invariant.1
