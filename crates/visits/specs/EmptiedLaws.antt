-- What arrivals and visits do to a ring of 16 slots. Assumes nothing.
use Rattle.std.specs.Prelude.{◌≢◌, ◌↔◌, ◌≡◌, Bool, true, false, cond, List, ℕ, zero, suc, ◌≤◌, ◌<◌, ltb, length}
use Rattle.std.proofs.Math.Path.{refl, ap}
use Rattle.std.proofs.Common.{sym, ◌∙◌}
use native.Mathlib.Omega.{arith}
use borrow.Author.Tests.{ltb-false, lt-ltb, le-ltb}
use Rattle.state.specs.declared.EpState.{EpState}
use Rattle.ring.specs.Slot.{count_of, joined_of, passed_of}
use Rattle.ring.specs.Out.{has_room_out, overrun_of, arrived_of, closed_of}
use Rattle.ring.specs.Waiting.{waiting, Alike}
use Rattle.ring.specs.Laws.{waiting-length}
use Rattle.ring.proofs.OutLaws.{turned-alike}
use Rattle.visits.specs.Emptied.{Sixteen, closes, emptied}

alike-sixteen : {s t : EpState} → Alike s t → Sixteen s → Sixteen t
alike-sixteen k g = record {
  slots = k.place.slots ∙ g.slots;
  head8 = rw k.head g.head8;
  tail8
      = rw k.tail g.tail8;
}

module _ {s : EpState} (g : Sixteen s) where
  room : has_room_out s ≡ ltb (count_of s) 15
  unfolding has_room_out
  room = rw g.slots refl

  -- an arrival is turned away exactly where 15 wait
  pub full : (b ls : List ℕ) → (has_room_out s ≡ false) ↔ (15 ≤ length (waiting b s ls))
  full b ls = (
    λ e. omega (arith, waiting-length b s ls, ltb-false (count_of s) 15 (sym room ∙ e)),
    λ e. room ∙ le-ltb (count_of s) 15 (omega (arith, waiting-length b s ls)),
  )

  join-sixteen : Sixteen (joined_of s)
  unfolding joined_of
  join-sixteen = record { slots = g.slots; head8 = omega arith; tail8 = g.tail8 }

  join-count : count_of s < 15 → count_of (joined_of s) ≡ suc (count_of s)
  unfolding joined_of count_of
  join-count h = omega (arith, g.head8, g.tail8)

  -- ---- an arrival

  arrive-by : (t : Bool) → Sixteen (cond t (joined_of s) (overrun_of s))
  arrive-by true = join-sixteen
  arrive-by false = alike-sixteen (turned-alike s) g

  pub arrive-sixteen : Sixteen (arrived_of s)
  unfolding arrived_of
  arrive-sixteen = arrive-by (has_room_out s)

  module _ (few : count_of s < 15) where
    admits : arrived_of s ≡ joined_of s
    unfolding arrived_of
    admits = rw (room ∙ lt-ltb (count_of s) 15 few) refl

    pub admit-count : count_of (arrived_of s) ≡ suc (count_of s)
    admit-count = ap count_of admits ∙ join-count few

    pub admit-overruns : (arrived_of s).overruns ≡ s.overruns
    unfolding joined_of
    admit-overruns = rw admits refl

  module _ (many : 15 ≤ count_of s) where
    turns : arrived_of s ≡ overrun_of s
    unfolding arrived_of
    turns = rw (room ∙ le-ltb (count_of s) 15 many) refl

    pub turn-overruns : (arrived_of s).overruns ≢ s.overruns
    unfolding overrun_of
    turn-overruns e = omega (arith, ap (λ (r : EpState). r.overruns) (sym turns) ∙ e)

  -- ---- a visit

  close-sixteen : Sixteen (closed_of s)
  unfolding closed_of passed_of
  close-sixteen = record { slots = g.slots; head8 = g.head8; tail8 = omega arith }

  close-count : 0 < count_of s → suc (count_of (closed_of s)) ≡ count_of s
  unfolding closed_of passed_of count_of
  close-count h = omega (arith, g.head8, g.tail8)

close-overruns : (s : EpState) → (closed_of s).overruns ≡ s.overruns
unfolding closed_of passed_of
close-overruns s = refl

closes-sixteen : (n : ℕ) {s : EpState} → Sixteen s → Sixteen (closes n s)
unfolding closes
closes-sixteen zero g = g
closes-sixteen (suc n) g = closes-sixteen n (close-sixteen g)

closes-overruns : (n : ℕ) (s : EpState) → (closes n s).overruns ≡ s.overruns
unfolding closes
closes-overruns zero s = refl
closes-overruns (suc n) s = closes-overruns n (closed_of s) ∙ close-overruns s

closes-count : (n : ℕ) {s : EpState} → Sixteen s → count_of s ≡ n → count_of (closes n s) ≡ 0
unfolding closes
closes-count zero g e = e
closes-count (suc n) g e = closes-count n (close-sixteen g) (omega (arith, close-count g (omega arith)))

module _ {s : EpState} (g : Sixteen s) where
  pub empty-sixteen : Sixteen (emptied s)
  unfolding emptied
  empty-sixteen = closes-sixteen (count_of s) g

  pub empty-overruns : (emptied s).overruns ≡ s.overruns
  unfolding emptied
  empty-overruns = closes-overruns (count_of s) s

  -- none wait after it
  pub empty-count : count_of (emptied s) ≡ 0
  unfolding emptied
  empty-count = closes-count (count_of s) g refl
