-- Document 01's values that are marked P, of the rings.
use Rattle.std.specs.Prelude.{◌≡◌, ℕ, replicate, refl}
use Rattle.std.proofs.Common.{arith}
use Rattle.state.specs.declared.EpState.{EpState}
use Rattle.ring.specs.Slot.{slot_of, count_of}
use Rattle.ring.specs.Out.{overrun_of}
use Rattle.ring.specs.Waiting.{Placed, OutRing}
use Rattle.ring.specs.Laws.{replicate-capped}

-- a ring of 16 slots of 64 bytes
abbrev pub sample : ℕ → ℕ → ℕ → EpState
sample h t n = record {
  ready = 0;
  len = 0;
  armed = 0;
  iso = 1;
  kind = 1;
  base = 0;
  stride = 64;
  slots = 16;
  head = h;
  tail = t;
  loaded = 0;
  overruns = n;
  last_frame = 0x1800;
  max_len = 64;
  armed_slot = 0;
  tog = 0;
  «open» = 0;
}

pub table :
    (count_of (sample 3 250 0) ≡ 9)
    × (slot_of (sample 3 250 0) 250 ≡ 10)
    × ((overrun_of (sample 3 250 4294967295)).overruns ≡ 0)
unfolding count_of slot_of overrun_of
table = (refl, refl, refl)

-- this ring is one of those that the laws speak of
pub sample-placed : (h t n : ℕ) → Placed 1024 (sample h t n)
sample-placed h t n = record { part = 16; divides = refl; byte = omega arith; inside = omega arith; low = omega arith }

pub sample-ring : OutRing (sample 3 250 0) (replicate 16 64)
unfolding count_of
sample-ring = record {
  whole = omega arith;
  capped = replicate-capped 16 64;
  head8 = omega arith;
  tail8
      = omega arith;
  few = omega arith;
}
