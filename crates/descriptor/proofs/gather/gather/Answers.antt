use mathlib.Core.Path.{sym, ap, ◌∙◌}
use mathlib.Core.Bool.{false}
use mathlib.Core.List.{List}
use native.Mathlib.Omega.{arith}
use lib.ListN.{length}
use Rattle.descriptor.specs.declared.Endpoint.{Endpoint}
use Rattle.descriptor.specs.Endpoints.{of_list, listed}
use Rattle.descriptor.specs.WalkLaws.{on, begins, gather-at, tidy-at, gather-over}
use Rattle.descriptor.proofs.gather.gather.Goals as goal

pub bounds-bytes-0 : goal.bounds-bytes-0
bounds-bytes-0 c = omega (arith, (begins _ c.requires.bytes_value).some)

pub loop-at-init : goal.loop-at-init
loop-at-init c =
    let b = begins c.args.bytes.now c.requires.bytes_value in
    (c.requires.tidy, omega (arith, b.fits), length c.args.bytes.now, false, rw c.wide-at.ensures b.row, rw c.wide-at.ensures)

pub setting-now_in-requires : goal.setting-now_in-requires
setting-now_in-requires c = (on c.loop-at.invariant.2 c.loop-at.invariant.3 c.args.bytes.now c.loop-at.at c.args.zeroth c.loop-at.now_in (λ j. omega (arith, c.type_inv.bytes j)) (omega arith) c.loop-at.invariant.4).sound

pub taken-so_far-requires : goal.taken-so_far-requires
taken-so_far-requires c =
    record {
      sound = (on c.loop-at.invariant.2 c.loop-at.invariant.3 c.args.bytes.now c.loop-at.at c.args.zeroth c.loop-at.now_in (λ j. omega (arith, c.type_inv.bytes j)) (omega arith) c.loop-at.invariant.4).sound;
      tidy = c.loop-at.invariant.0;
    }

pub bounds-bytes-at : goal.bounds-bytes-at
bounds-bytes-at c = omega arith

pub overflow_add-at : goal.overflow_add-at
overflow_add-at c = omega (arith, c.shared_slice_known-in-loop-at-1.given c.loop-at.at)

pub loop-at-smaller : goal.loop-at-smaller
loop-at-smaller c =
    let m = (on c.loop-at.invariant.2 c.loop-at.invariant.3 c.args.bytes.now c.loop-at.at c.args.zeroth c.loop-at.now_in (λ j. omega (arith, c.type_inv.bytes j)) (omega arith) c.loop-at.invariant.4).sound.here.moves in
    omega arith

pub loop-at-preserved : goal.loop-at-preserved
loop-at-preserved c =
    let o = (on c.loop-at.invariant.2 c.loop-at.invariant.3 c.args.bytes.now c.loop-at.at c.args.zeroth c.loop-at.now_in (λ j. omega (arith, c.type_inv.bytes j)) (omega arith) c.loop-at.invariant.4) in
    let f = o.sound.here.fits in (
      rw (c.taken-so_far.ensures, c.setting-now_in.ensures) (tidy-at _ _ _ _ _ o c.loop-at.so_far c.loop-at.invariant.0),
      omega arith,
      o.left,
      o.inside,
      rw c.wide-at-in-loop-at.ensures o.row,
      rw (c.taken-so_far.ensures, c.setting-now_in.ensures, c.wide-at-in-loop-at.ensures) (sym (gather-at _ _ _ _ _ o c.loop-at.so_far) ∙ c.loop-at.invariant.5),
    )

pub returns : goal.returns
returns c =
    let x = sym (gather-over c.loop-at.invariant.2 c.args.bytes.now c.loop-at.at c.args.zeroth c.loop-at.now_in
    (omega arith) (listed c.loop-at.so_far)) ∙ c.loop-at.invariant.5 in
    record {
      value = c.loop-at.invariant.0.same ∙ ap (λ (y : List Endpoint). of_list y) x;
      tidy_2 = c.loop-at.invariant.0;
    }
