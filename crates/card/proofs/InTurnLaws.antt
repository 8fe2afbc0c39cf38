-- Packets that are given many at once are those that as many calls of next give, one behind the other.
use Rattle.std.specs.Prelude.{◌≡◌, ℕ, zero, suc, ◌+◌, ◌-◌, ◌/◌, ◌%◌, List, ◌∷◌, ◌++◌, length, refl, Option, Some, None}
use Rattle.std.proofs.Common.{sym, ap, ap₂, ◌∙◌, arith, lt-ltb, le-ltb}
use Rattle.std.proofs.Math.Decide.{dec_lt}
use Rattle.card.specs.declared.stream.Found.{Found}
use Rattle.card.specs.Packet.{packet_bytes, data_of}
use Rattle.card.specs.Reading.{View, total, bytes_from, packet_from, find, in_turn}
use Rattle.card.proofs.Progress.{find-header}
use Rattle.card.specs.Rooms.{length-bytes}
use Rattle.card.specs.Batches.{Several, before, some_from}
use Rattle.card.specs.InTurn.{place_after, Bytes, AsCalls}

card-bytes : (v : View) → Bytes v → (f d : ℕ) (p : Found) → find v f d ≡ Some p → bytes_from v p.at (3 + p.len)
    ≡ packet_bytes (packet_from v p.at p.endpoint p.len)
unfolding bytes_from
card-bytes v small f d p h =
    let at = p.at in
    let n = p.len in
    let header = find-header v f d p h in
    let long = length-bytes v n (at + 3) in
    let low : v.byte at ≡ length (bytes_from v (at + 3) n) % 256 = omega (arith, small at, header.1, long) in
    let high : v.byte (at + 1) ≡ length (bytes_from v (at + 3) n) / 256 = omega (arith, small at, header.1, long) in
    let two : at + 1 + 1 ≡ at + 2 = omega arith in
    let three : at + 2 + 1 ≡ at + 3 = omega arith in
    let e : 3 + n ≡ suc (suc (suc n)) = omega arith in
    rw (e, two, three, ← low, ← high, header.0)

in-turn : (v : View) (n d : ℕ) (p : Found) → find v (total v) d ≡ Some p
    → (in_turn v (suc n) d ≡ packet_from v p.at p.endpoint p.len ∷ in_turn v n (p.at + 3 + p.len))
    × (place_after v (suc n) d ≡ place_after v n (p.at + 3 + p.len))
unfolding in_turn place_after
in-turn v n d p h = (rw (h, in_turn), rw (h, place_after))

more : (v : View) → Bytes v → (d : ℕ) (p : Found) (s : Several) → find v (total v) d ≡ Some p
    → AsCalls v (p.at + (3 + p.len)) s
    → AsCalls v d (before (bytes_from v p.at (3 + p.len)) s)
unfolding data_of
more v small d p s h c =
    let e : p.at + (3 + p.len) ≡ p.at + 3 + p.len = omega arith in
    let turn = in-turn v s.count d p h in
    let bytes = rw e at c.bytes in
    let place = rw e at c.at in
    record {
      bytes = ap₂ (λ (x y : List ℕ). x ++ y) (card-bytes v small (total v) d p h) bytes
          ∙ sym (ap data_of turn.0);
      at = place ∙ sym turn.1;
    }

pub as-calls : (v : View) → Bytes v → (n d room : ℕ) → AsCalls v d (some_from v n d room)
unfolding some_from in_turn data_of place_after
as-calls v small zero d room = record { bytes = refl; at = refl }
as-calls v small (suc n) d room = go (find v (total v) d) refl (λ e left. as-calls v small n e left)
  where
    go : (f : Option Found) → find v (total v) d ≡ f → ((e left : ℕ) → AsCalls v e (some_from v n e left))
        → AsCalls v d (some_from v (suc n) d room)
    go None e i = rw (e, some_from) (record { bytes = refl; at = refl })
    go (Some p) e i = elim (dec_lt room (3 + p.len)) [
      | yes l ↦ rw (e, some_from, lt-ltb room (3 + p.len) l) (record { bytes = refl; at = refl })
      | no l ↦ rw (e, some_from, le-ltb room (3 + p.len) (omega arith))
          (more v small d p (some_from v n (p.at + (3 + p.len)) (room - (3 + p.len))) e
          (i (p.at + (3 + p.len)) (room - (3 + p.len))))
    ]
