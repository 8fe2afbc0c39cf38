use mathlib.Core.Path.{◌≡◌, ◌∙◌, ap, sym, refl}
use Prim.Native.Nat.{ℕ}
use native.Mathlib.Omega.{arith}
use lib.ListN.{get_or}
use Rattle.state.specs.State.{view}
use Rattle.state.specs.Driver.{Driver}
use Rattle.descriptor.specs.Endpoints.{none}
use Rattle.descriptor.specs.Writing.{up_to, count_of}
use Rattle.driver.specs.Each.{one_on, each_on}
use Rattle.driver.specs.EachLaws.{each_none, each_more}
use Rattle.driver.proofs.alloc_all.allocate_each.Goals as goal

pub loop-i-init : goal.loop-i-init
loop-i-init c = (omega arith, (omega arith, (sym (each_none _ _), refl)))

pub offset_bounds-list-i : goal.offset_bounds-list-i
offset_bounds-list-i c = omega arith

pub bounds-list-i : goal.bounds-list-i
bounds-list-i c = omega arith

pub overflow_add-i : goal.overflow_add-i
overflow_add-i c = omega arith

pub loop-i-smaller : goal.loop-i-smaller
loop-i-smaller c = omega arith

pub loop-i-preserved : goal.loop-i-preserved
loop-i-preserved c = (
  omega arith,
  (
    c.loop-i.invariant.1.0,
    (
      c.allocate_one.ensures.s_after ∙ ap (λ (d : Driver). one_on d (get_or c.args.list.entries c.loop-i.i none))
          c.loop-i.invariant.1.1.0
          ∙ sym (each_more _ c.args.list.entries c.loop-i.i),
      c.allocate_one.ensures.s_unchanged ∙ c.loop-i.invariant.1.1.1,
    ),
  ),
)

pub returns : goal.returns
returns c =
    let e : c.loop-i.i ≡ count_of c.args.list = omega arith in
    record {
      s_after = c.loop-i.invariant.1.1.0 ∙ ap (λ (i : ℕ). each_on (view c.args.s.now) (up_to i c.args.list.entries)) e;
      s_unchanged = c.loop-i.invariant.1.1.1;
    }
