use Prim.Native.Nat.{◌+◌, ◌-◌}
use mathlib.Core.Path.{◌≡◌, refl}
use native.Mathlib.Omega.{arith}
use Rattle.state.specs.State.{view}
use Rattle.driver.specs.AnnounceLaws.{found-step, found_none}
use Rattle.driver.proofs.announce.found_at.Goals as goal

pub loop-e-init : goal.loop-e-init
loop-e-init c = (omega arith, refl)

pub returns-then-starts_at : goal.returns-then-starts_at
returns-then-starts_at c =
    let s = found-step (view c.args.s.now) c.args.dir c.args.x (16 - c.loop-e.e) c.loop-e.e (omega arith) in
    rw (c.loop-e.invariant.1, s, ← c.starts_at.ensures, c.if-starts_at.true)

pub overflow_add-e : goal.overflow_add-e
overflow_add-e c = omega arith

pub loop-e-smaller : goal.loop-e-smaller
loop-e-smaller c = omega arith

pub loop-e-preserved : goal.loop-e-preserved
loop-e-preserved c =
    let s = found-step (view c.args.s.now) c.args.dir c.args.x (16 - c.loop-e.e) c.loop-e.e (omega arith) in
    let l : 16 - (c.loop-e.e + 1) ≡ 16 - c.loop-e.e - 1 = omega arith in
    (omega arith, rw (c.loop-e.invariant.1, s, ← c.starts_at.ensures, c.if-starts_at.false, l))

pub returns : goal.returns
returns c =
    let z : 16 - c.loop-e.e ≡ 0 = omega arith in
    rw (c.loop-e.invariant.1, z, found_none)
