use mathlib.Core.Path.{sym, ◌∙◌}
use mathlib.Core.Bool.{false}
use native.Mathlib.Omega.{arith}
use lib.ListN.{length}
use Rattle.descriptor.specs.Endpoints.{listed}
use Rattle.descriptor.specs.WalkLaws.{on, begins, agree_at, agree-over}
use Rattle.descriptor.proofs.gather.agree.Goals as goal

pub bounds-bytes-0 : goal.bounds-bytes-0
bounds-bytes-0 c = omega (arith, (begins _ c.requires.bytes_value).some)

pub loop-at-init : goal.loop-at-init
loop-at-init c =
    let b = begins c.args.bytes.now c.requires.bytes_value in
    (omega (arith, b.fits), length c.args.bytes.now, false, rw c.wide-at.ensures b.row, rw c.wide-at.ensures)

pub setting-now_in-requires : goal.setting-now_in-requires
setting-now_in-requires c = (on c.loop-at.invariant.1 c.loop-at.invariant.2 c.args.bytes.now c.loop-at.at c.args.zeroth c.loop-at.now_in (λ j. omega (arith, c.type_inv.bytes j)) (omega arith) c.loop-at.invariant.3).sound

pub agrees-requires : goal.agrees-requires
agrees-requires c =
    record {
      sound = (on c.loop-at.invariant.1 c.loop-at.invariant.2 c.args.bytes.now c.loop-at.at c.args.zeroth c.loop-at.now_in (λ j. omega (arith, c.type_inv.bytes j)) (omega arith) c.loop-at.invariant.3).sound;
      tidy = c.requires.tidy;
    }

pub returns-then-not-agrees : goal.returns-then-not-agrees
returns-then-not-agrees c =
    let y = sym c.agrees.ensures ∙ c.if-not-agrees.true in
    sym (agree_at _ _ _ _ _ (on c.loop-at.invariant.1 c.loop-at.invariant.2 c.args.bytes.now c.loop-at.at c.args.zeroth c.loop-at.now_in (λ j. omega (arith, c.type_inv.bytes j)) (omega arith) c.loop-at.invariant.3) (listed c.args.list)
    ∙ rw (rw c.setting-now_in.ensures at y)) ∙ c.loop-at.invariant.4

pub bounds-bytes-at : goal.bounds-bytes-at
bounds-bytes-at c = omega arith

pub overflow_add-at : goal.overflow_add-at
overflow_add-at c = omega (arith, c.shared_slice_known-in-loop-at-1.given c.loop-at.at)

pub loop-at-smaller : goal.loop-at-smaller
loop-at-smaller c =
    let m = (on c.loop-at.invariant.1 c.loop-at.invariant.2 c.args.bytes.now c.loop-at.at c.args.zeroth c.loop-at.now_in (λ j. omega (arith, c.type_inv.bytes j)) (omega arith) c.loop-at.invariant.3).sound.here.moves in
    omega arith

pub loop-at-preserved : goal.loop-at-preserved
loop-at-preserved c =
    let o = (on c.loop-at.invariant.1 c.loop-at.invariant.2 c.args.bytes.now c.loop-at.at c.args.zeroth c.loop-at.now_in (λ j. omega (arith, c.type_inv.bytes j)) (omega arith) c.loop-at.invariant.3) in
    let f = o.sound.here.fits in
    let y = sym c.agrees.ensures ∙ c.if-not-agrees.false in (
      omega arith,
      o.left,
      o.inside,
      rw c.wide-at-in-loop-at.ensures o.row,
      rw (c.setting-now_in.ensures, c.wide-at-in-loop-at.ensures) (sym (agree_at _ _ _ _ _ o (listed c.args.list)
          ∙ rw (rw c.setting-now_in.ensures at y)) ∙ c.loop-at.invariant.4),
    )

pub returns : goal.returns
returns c =
    sym (agree-over c.loop-at.invariant.1 c.args.bytes.now c.loop-at.at c.args.zeroth c.loop-at.now_in (omega arith)
    (listed c.args.list)) ∙ c.loop-at.invariant.4
