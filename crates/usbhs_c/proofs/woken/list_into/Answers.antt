use mathlib.Core.Path.{◌≡◌, refl, sym, ap, ◌∙◌}
use mathlib.Core.List.{List}
use Prim.Native.Nat.{ℕ, ◌<◌, ◌%◌}
use native.Mathlib.Omega.{arith}
use native.Mathlib.Numerals.{add-one}
use lib.ListN.{length, get_or, set}
use Rattle.state.specs.State.{view}
use Rattle.state.specs.Wakes.{listed}
use Rattle.state.specs.Laws.{view-codes}
use Rattle.usbhs_c.specs.Woken.{written, written_next, length-written, written_all}
use Rattle.usbhs_c.proofs.woken.list_into.Goals as goal

pub loop-k-init : goal.loop-k-init
loop-k-init c = (omega arith, refl)

-- the room's length stays
within : (k : ℕ) (xs room₀ room : List ℕ) → k < 64 → length room₀ ≡ 64 → room ≡ written k (view xs).wakes.codes room₀
    → length room ≡ 64
within k xs room₀ room h l e = ap length e ∙ length-written k (view xs).wakes.codes room₀
    (omega (arith, h, view-codes xs)) (omega (arith, h, l)) ∙ l

pub bounds-room-k : goal.bounds-room-k
bounds-room-k c =
    let h : c.loop-k.k < 64 = omega (arith, c.loop-k-test.true, c.how_many-n.ensures.upper_bound) in
    omega (
      arith,
      h,
      within c.loop-k.k c.args.s.now
          c.args.room.now c.loop-k.room h (omega arith) c.loop-k.invariant.1,
    )

pub loop-k-preserved : goal.loop-k-preserved
loop-k-preserved c =
    let h : c.loop-k.k < 64 = omega (arith, c.loop-k-test.true, c.how_many-n.ensures.upper_bound) in
    let m : c.loop-k.k % 64 ≡ c.loop-k.k = omega (arith, h) in (
      omega arith,
      ap (λ (v : ℕ). set c.loop-k.room c.loop-k.k v) (c.woken_at.ensures ∙ ap (λ (j : ℕ). get_or (view c.args.s.now).wakes.codes j 0) m)
          ∙ ap (λ (r : List ℕ). set r c.loop-k.k (get_or (view c.args.s.now).wakes.codes c.loop-k.k 0)) c.loop-k.invariant.1
          ∙ written_next c.loop-k.k (view c.args.s.now).wakes.codes c.args.room.now (omega (arith, h, view-codes c.args.s.now))
          (omega (arith, h))
          ∙ ap (λ (j : ℕ). written j (view c.args.s.now).wakes.codes c.args.room.now) (sym (add-one c.loop-k.k)),
    )

pub returns : goal.returns
unfolding listed
returns c =
    let e : c.loop-k.k ≡ c.how_many-n.result = omega (arith, c.loop-k-test.false, c.loop-k.invariant.0) in
    record {
      value = c.how_many-n.ensures.value;
      room_after = c.loop-k.invariant.1 ∙ written_all c.loop-k.k (view c.args.s.now).wakes.count (view c.args.s.now).wakes.codes
          c.args.room.now (e ∙ c.how_many-n.ensures.value);
    }
