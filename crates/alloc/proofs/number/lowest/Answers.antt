use mathlib.Core.Bool.{Bool}
use Rattle.state.specs.declared.Allocator.{Allocator}
use Rattle.regs.specs.declared.Dir.{Dir}
use Rattle.alloc.specs.declared.Found.TheVariants.{Number, Nothing}
use Prim.Native.Nat.{ℕ, zero, suc, ◌+◌, ◌-◌, ◌<◌}
use mathlib.Core.Path.{◌≡◌, refl}
use native.Mathlib.Numerals.{add-one}
use native.Mathlib.Omega.{arith}
use Rattle.alloc.specs.Alloc.{if, is_free, lowest_of}
use Rattle.alloc.proofs.number.lowest.Goals as goal

step : (a : Allocator) (iso : Bool) (dir : Dir) (left e : ℕ) → 0 < left
    → lowest_of a iso dir left e ≡ if (is_free a iso dir e) (Number e) (lowest_of a iso dir (left - 1) (e + 1))
unfolding lowest_of
step a iso dir zero e h = absurd (omega arith)
step a iso dir (suc left) e h =
    let l : suc left - 1 ≡ left = omega arith in
    rw (l, add-one e)

none : (a : Allocator) (iso : Bool) (dir : Dir) (e : ℕ) → lowest_of a iso dir 0 e ≡ Nothing
unfolding lowest_of
none a iso dir e = refl

pub loop-e-init : goal.loop-e-init
loop-e-init c = (omega arith, refl)

pub is_free-requires : goal.is_free-requires
is_free-requires c = omega arith

pub returns-then-is_free : goal.returns-then-is_free
returns-then-is_free c =
    let s = step c.args.a c.args.iso c.args.dir (16 - c.loop-e.e) c.loop-e.e (omega arith) in
    rw (c.loop-e.invariant.1, s, ← c.is_free.ensures, c.if-is_free.true)

pub overflow_add-e : goal.overflow_add-e
overflow_add-e c = omega arith

pub loop-e-smaller : goal.loop-e-smaller
loop-e-smaller c = omega arith

pub loop-e-preserved : goal.loop-e-preserved
loop-e-preserved c =
    let s = step c.args.a c.args.iso c.args.dir (16 - c.loop-e.e) c.loop-e.e (omega arith) in
    let l : 16 - (c.loop-e.e + 1) ≡ 16 - c.loop-e.e - 1 = omega arith in
    (omega arith, rw (c.loop-e.invariant.1, s, ← c.is_free.ensures, c.if-is_free.false, l))

pub returns : goal.returns
returns c =
    let z : 16 - c.loop-e.e ≡ 0 = omega arith in
    rw (c.loop-e.invariant.1, z, none)
