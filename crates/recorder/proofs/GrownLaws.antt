-- What the recorder's calls leave in the ring: the packets that were there, the new one and its padding.
use Rattle.std.specs.Prelude.{◌≡◌, refl, Bool, true, false, cond, List, [], ◌∷◌, ◌++◌, ℕ, ◌+◌, ◌-◌, ◌≤◌, ◌<◌, ltb, length, replicate}
use Rattle.std.proofs.Common.{sym, ap, subst, ◌∙◌, append_assoc, arith, lt-ltb, le-ltb}
use Rattle.std.proofs.Math.Decide.{dec_lt}
use Rattle.std.proofs.lemmas.List.{length-replicate}
use Rattle.card.specs.Packet.{Packet, Writable, All, none, more, data_of}
use Rattle.card.specs.Kept.{first_in}
use Rattle.card.specs.Writing.{new_writer}
use Rattle.card.proofs.StreamLaws.{length-snoc}
use Rattle.recorder.specs.Ring.{Ring, ring_of, packet_ring, padding_of, padding, record_ring}
use Rattle.recorder.specs.Filled.{InRing}
use Rattle.recorder.proofs.FilledLaws.{packet-ring}
use Rattle.recorder.specs.Survives.{last_block_of, last_used, filled_up, padded, Front}
use Rattle.recorder.specs.Sound.{Written}

-- ---- packets that may be written

pub all_append : {xs ys : List Packet} → All xs → All ys → All (xs ++ ys)
all_append none b = b
all_append (more h a) b = more h (all_append a b)

pub all_snoc : {xs : List Packet} {p : Packet} → All xs → Writable p → All (xs ++ (p ∷ []))
all_snoc a h = all_append a (more h none)

pub padding-writable : (used : ℕ) → Writable (padding used)
padding-writable used = record {
  numbered = omega arith;
  small = omega arith;
  short = omega (arith, length-replicate {A = ℕ} (padding_of used) 0);
}

-- ---- the ring

-- before the first packet
pub empty-ring : (room : List ℕ) → length room ≡ 2048 → InRing [] (ring_of new_writer room) 0 (length (data_of [])) 0 []
unfolding data_of first_in
empty-ring room l = record {
  long = l;
  number = refl;
  used = refl;
  done = refl;
  first = refl;
  full = λ k x y. absurd (omega arith);
  held = λ i x. absurd (omega arith);
}

-- how far padding reaches
pub padding-far : (xs : List Packet) → (last_block_of (filled_up xs) ≡ last_block_of xs + 1) × (last_used (filled_up xs) ≤ 488)
padding-far xs =
    let l = length-snoc xs (padding (last_used xs)) in
    let n : length (replicate {A = ℕ} (padding_of (last_used xs)) 0) ≡ 501 - last_used xs =
    length-replicate {A = ℕ} (padding_of (last_used xs)) 0 in
    (omega arith, omega arith)

-- padding behind the packets
pub padding-ring : (xs : List Packet) (g : Ring) (n : ℕ) → All xs → InRing xs g n (length (data_of xs)) 0 xs
    → n ≤ last_block_of xs → last_block_of xs < n + 3
    → Written (filled_up xs) (packet_ring 4 (padding g.writer.used) g) n
padding-ring xs g n fine r low high =
    let far = padding-far xs in
    let l = length-snoc xs (padding (last_used xs)) in
    let u : g.writer.used ≡ last_used xs = r.used in
    record {
      ring = subst (λ (x : ℕ). InRing (filled_up xs) (packet_ring 4 (padding x) g) n (length (data_of (filled_up xs))) 0
          (filled_up xs)) (sym u)
          (packet-ring xs (padding (last_used xs)) g n (padding-writable (last_used xs)) r low (omega (arith, far.0)));
      fine = all_snoc fine (padding-writable (last_used xs));
      fits = far.1;
      low = omega (arith, far.0);
      high = omega (arith, far.0);
    }

-- a packet behind the packets, and padding where it is needed
pub record-ring : (xs : List Packet) (p : Packet) (g : Ring) (n : ℕ) → Writable p → Written xs g n → n ≡ last_block_of xs
    → Written (padded (xs ++ (p ∷ []))) (record_ring p g) n
unfolding record_ring padded
record-ring xs p g n w r e =
    let ys = xs ++ (p ∷ []) in
    let l = length-snoc xs p in
    let fine : All (xs ++ (p ∷ [])) = all_snoc r.fine w in
    let q = packet-ring xs p g n w r.ring r.low (omega (arith, w.short, r.fits)) in
    let u : (packet_ring 4 p g).writer.used ≡ last_used (xs ++ (p ∷ [])) = q.used in
    elim (dec_lt 488 (last_used (xs ++ (p ∷ [])))) [
      | yes h ↦ rw (lt-ltb 488 (packet_ring 4 p g).writer.used (omega arith), lt-ltb 488 (last_used (xs ++ (p ∷ []))) h)
          (padding-ring (xs ++ (p ∷ [])) (packet_ring 4 p g) n fine q (omega arith) (omega (arith, w.short, r.fits)))
      | no h ↦ rw (
        le-ltb 488 (packet_ring 4 p g).writer.used (omega arith),
        le-ltb 488 (last_used (xs ++ (p ∷ [])))
            (omega arith),
      )
          (record {
            ring = q;
            fine = fine;
            fits = omega arith;
            low = omega arith;
            high =
                omega (arith, w.short, r.fits);
          })
    ]

-- ---- fronts

pub front-more : (xs zs ys : List Packet) → Front xs zs → Front xs (zs ++ ys)
front-more xs zs ys f = (f.0 ++ ys, ap (λ (l : List Packet). l ++ ys) f.1 ∙ append_assoc xs f.0 ys)

pub padded-front : (xs zs : List Packet) → Front xs zs → Front xs (padded zs)
unfolding padded
padded-front xs zs f = go (ltb 488 (last_used zs))
  where
    go : (t : Bool) → Front xs (cond t (filled_up zs) zs)
    go true = front-more xs zs (padding (last_used zs) ∷ []) f
    go false = f
