use mathlib.Core.Path.{refl, sym, ◌∙◌}
use Prim.Native.Nat.{◌-◌}
use native.Mathlib.Omega.{arith}
use lib.ListN.{length, drop, length-drop}
use Rattle.descriptor.specs.RowLaws.{here, row-broken, row-barred, row_on_lem, row-none}
use Rattle.descriptor.proofs.row.is_row.Goals as goal

pub loop-at-init : goal.loop-at-init
loop-at-init c = (c.requires, length c.args.bytes.now, omega arith, refl)

pub is_whole-requires : goal.is_whole-requires
is_whole-requires c = omega arith

pub returns-then-not-is_whole : goal.returns-then-not-is_whole
returns-then-not-is_whole c =
    sym (row-broken c.loop-at.invariant.1 c.loop-at.inside c.args.bytes.now c.loop-at.at (omega arith) c.loop-at.invariant.2
    (sym c.is_whole.ensures ∙ c.if-not-is_whole.true)) ∙ c.loop-at.invariant.3

pub is_allowed-requires : goal.is_allowed-requires
is_allowed-requires c =
    record {
      at_in_bounds = omega arith;
      bytes_value = sym c.is_whole.ensures ∙ c.if-not-is_whole.false;
    }

pub returns-then-not-is_allowed : goal.returns-then-not-is_allowed
returns-then-not-is_allowed c =
    let w = sym c.is_whole.ensures ∙ c.if-not-is_whole.false in
    sym (row-barred c.loop-at.invariant.1 c.loop-at.inside c.args.bytes.now c.loop-at.at (omega arith) c.loop-at.invariant.2 w
    (sym c.is_allowed.ensures ∙ c.if-not-is_allowed.true)) ∙ c.loop-at.invariant.3

pub enters-inside-requires : goal.enters-inside-requires
enters-inside-requires c =
    let w = sym c.is_whole.ensures ∙ c.if-not-is_whole.false in
    (here _ c.loop-at.at c.loop-at.invariant.0 w).two

pub bounds-bytes-at : goal.bounds-bytes-at
bounds-bytes-at c = omega arith

pub overflow_add-at : goal.overflow_add-at
overflow_add-at c = omega (arith, c.shared_slice_known-in-loop-at-1.given c.loop-at.at)

pub loop-at-smaller : goal.loop-at-smaller
loop-at-smaller c =
    let w = sym c.is_whole.ensures ∙ c.if-not-is_whole.false in
    let h = here _ c.loop-at.at c.loop-at.invariant.0 w in
    let m = h.moves in
    omega arith

pub loop-at-preserved : goal.loop-at-preserved
loop-at-preserved c =
    let w = sym c.is_whole.ensures ∙ c.if-not-is_whole.false in
    let a = sym c.is_allowed.ensures ∙ c.if-not-is_allowed.false in
    let h = here c.args.bytes.now c.loop-at.at c.loop-at.invariant.0 w in
    let m = h.moves in
    let f = h.fits in (
      omega arith,
      c.loop-at.invariant.1 - 1,
      omega arith,
      rw (c.enters-inside.ensures, c.wide-at.ensures) (sym (row_on_lem c.loop-at.invariant.1 c.loop-at.inside c.args.bytes.now c.loop-at.at (omega arith)
          c.loop-at.invariant.2 w a) ∙ c.loop-at.invariant.3),
    )

pub returns : goal.returns
returns c =
    sym (row-none c.loop-at.invariant.1 c.loop-at.inside (drop c.loop-at.at c.args.bytes.now)
    (omega (arith, length-drop c.loop-at.at c.args.bytes.now))) ∙ c.loop-at.invariant.3
