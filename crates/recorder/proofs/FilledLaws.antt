-- Laws on the definitions of Filled.antt: packets go into the ring as they stand in the stream, and so does an end
-- record.
use Rattle.std.specs.Prelude.{◌≡◌, refl, Bool, true, false, cond, ℕ, zero, suc, ◌+◌, ◌-◌, ◌*◌, ◌/◌, ◌%◌, ◌≤◌, ◌<◌, min, take, drop}
use Rattle.std.proofs.Math.Path.{sym, ap}
use Rattle.std.proofs.Common.{subst, ◌∙◌, eq-eqb, ne_eqb, drop-drop}
use mathlib.Core.List.{List, [], ◌∷◌, ◌++◌}
use native.Mathlib.Omega.{arith}
use Rattle.std.proofs.Math.Decide.{ℕ_discrete, dec_lt}
use Rattle.std.proofs.Math.ListN.{length, get_or, get_or-append}
use Rattle.card.specs.Packet.{Packet, Writable, packet_bytes, size, data_of}
use Rattle.card.specs.Kept.{first_in}
use Rattle.card.specs.Written.{block_of, blocks_from}
use Rattle.card.specs.Places.{length-block, block-data}
use Rattle.card.proofs.Begins.{data-append, data-at, closed_is}
use Rattle.card.specs.declared.writer.Writer.{Writer}
use Rattle.card.specs.Writing.{used_of, writer_of, full_of, whole_of, piece_of, done_after, first_of, closed, piece_in}
use Rattle.card.specs.Writing.{block_of_piece, last_of}
use Rattle.card.specs.Pieces.{block-full, done-whole, done-part, finish-last}
use Rattle.card.specs.WriterRuns.{Desk, Lends, after}
use Rattle.card.specs.Stream.{So, begun}
use Rattle.card.proofs.StreamLaws.{piece-bounds, used-is, done-is, full_is, whole_is, closes, after_call}
use Rattle.card.proofs.StreamLaws.{length-snoc, desk_filled_up, filled-long, filled-held}
use Rattle.recorder.specs.Ring.{Ring, ring_of, slot_in, put_in, piece_ring, packet_ring, filled_room, end_room}
use Rattle.recorder.specs.RingLaws.{slot-long, ring-whole, ring-part}
use Rattle.recorder.proofs.FlushLaws.{mid-same, mid-other, mid-long, block_settled}
use Rattle.recorder.specs.Filled.{InRing}

-- ---- slots

drop-twice : (a : ℕ) (room : List ℕ) → drop 512 (drop a room) ≡ drop (a + 512) room
drop-twice a room = drop-drop 512 a room

put_is : (room : List ℕ) (k : ℕ) (b : List ℕ) → put_in room k b ≡ take (k % 4 * 512) room
    ++ (b ++ drop (k % 4 * 512 + 512) room)
unfolding put_in
put_is room k b = ap (λ (l : List ℕ). take (k % 4 * 512) room ++ (b ++ l)) (drop-twice (k % 4 * 512) room)

room-long : (room : List ℕ) (k : ℕ) (b : List ℕ) → length room ≡ 2048 → length b ≡ 512 → length (put_in room k b) ≡ 2048
room-long room k b h l = ap length (put_is room k b) ∙ mid-long room b (k % 4 * 512) (omega arith) l ∙ h

slot_same : (room : List ℕ) (k : ℕ) (b : List ℕ) → length room ≡ 2048 → length b ≡ 512 → slot_in (put_in room k b) k ≡ b
slot_same room k b h l =
    ap (λ (x : List ℕ). take 512 (drop (k % 4 * 512) x)) (put_is room k b)
    ∙ mid-same room b (k % 4 * 512) (omega arith) l

slot-other : (room : List ℕ) (k j : ℕ) (b : List ℕ) → length room ≡ 2048 → length b ≡ 512 → (k % 4 ≡ j % 4 → ⊥)
    → slot_in (put_in room k b) j ≡ slot_in room j
slot-other room k j b h l n =
    ap (λ (x : List ℕ). take 512 (drop (j % 4 * 512) x)) (put_is room k b)
    ∙ mid-other room b (k % 4 * 512) (j % 4 * 512) (omega arith) (omega arith) l (apart (k % 4) (j % 4) n)
  where
    apart : (x y : ℕ) → (x ≡ y → ⊥) → x * 512 < y * 512 + 512 → x * 512 + 512 ≤ y * 512
    apart x y o z = elim (dec_lt x y) [
      | yes q ↦ omega arith
      | no q ↦ absurd (o (omega arith))
    ]

-- ---- a piece

after-writer : (lend : Lends) (d : Desk) (w : Writer) (t : Bool) (b : List ℕ) → (after lend d w t b).writer ≡ w
after-writer lend d w true b = refl
after-writer lend d w false b = refl

pub in-ring-as : (ps : List Packet) (g h : Ring) (n m m' j j' : ℕ) (pre pre' : List Packet) → g ≡ h → m ≡ m' → j ≡ j'
    → pre ≡ pre'
    → InRing ps g n m j pre → InRing ps h n m' j' pre'
in-ring-as ps g h n m m' j j' pre pre' a b c d r =
    subst (λ (x : List Packet). InRing ps h n m' j' x) d
    (subst (λ (x : ℕ). InRing ps h n m' x pre) c
    (subst (λ (x : ℕ). InRing ps h n x j pre) b
    (subst (λ (x : Ring). InRing ps x n m j pre) a r)))

abbrev desk_of : List Packet → Ring → ℕ → Desk
desk_of ps g m = record {
  writer = g.writer;
  block = slot_in g.room (m / 504);
  count = 0;
  stored
      = blocks_from ps 0 (m / 504);
}

as-desk : (ps : List Packet) (g : Ring) (n m j : ℕ) (pre : List Packet) → InRing ps g n m j pre
    → So ps (desk_of ps g m) m j pre
as-desk ps g n m j pre r = record {
  long = slot-long g.room (m / 504) r.long;
  stored = refl;
  number = r.number;
  used = r.used;
  done = r.done;
  first = r.first;
  held = r.held;
}

part-sum : (d j q s pc : ℕ) → d ≡ j → j < s → pc ≡ q → min d s + pc ≡ j + q
part-sum d j q s pc a l b = omega arith

less_left : (j q s : ℕ) → j + q ≤ s → (j + q ≡ s → ⊥) → j + q < s
less_left j q s l w = omega arith

some_left : (j q : ℕ) → 0 < q → 0 < j + q
some_left j q l = omega arith

low-left : (d j q n : ℕ) → n ≤ (d + j) / 504 → n ≤ (d + (j + q)) / 504
low-left d j q n l = omega arith

-- a piece that does not end the packet fills the block
fills : (u q j s : ℕ) → u < 504 → q ≡ min (504 - u) (s - j) → j < s → (j + q ≡ s → ⊥) → q + u ≡ 504
fills u q j s h e l w = omega arith

aligned : (x q : ℕ) → q + x % 504 ≡ 504 → (x + q) % 504 ≡ 0
aligned x q h = omega arith

fuel-left : (d j q s f : ℕ) → q ≡ min (504 - (d + j) % 504) (s - j) → j < s → (j + q ≡ s → ⊥) → s + (d + j) % 504 ≤ j
    + suc f * 504
    → s + (d + (j + q)) % 504 ≤ j + q + f * 504
fuel-left d j q s f e l w h =
    let full : q + (d + j) % 504 ≡ 504 = fills ((d + j) % 504) q j s (omega arith) e l w in
    let x : d + (j + q) ≡ d + j + q = omega arith in
    let z : (d + (j + q)) % 504 ≡ 0 = rw x (aligned (d + j) q full) in
    last (d + j) z full
  where
    last : (x : ℕ) → (d + (j + q)) % 504 ≡ 0 → q + (d + j) % 504 ≡ 504 → s + (d + (j + q)) % 504 ≤ j + q + f * 504
    last x z full = finish ((d + j) % 504) ((d + (j + q)) % 504) z full h
      where
        finish : (u v : ℕ) → v ≡ 0 → q + u ≡ 504 → s + u ≤ j + suc f * 504 → s + v ≤ j + q + f * 504
        finish u v a b c = omega arith

module _ (ps xs : List Packet) (p : Packet) (fine : Writable p)
    (bytes : (i : ℕ) → i < size p → get_or (packet_bytes p) i 0 ≡ get_or (data_of ps) (length (data_of xs) + i) 0)
    (settled : (k : ℕ) → (k + 1) * 504 ≤ length (data_of xs) + size p → first_in k 0 ps ≡ first_in k 0 (xs ++ (p ∷ [])))
    (n : ℕ) where
  module _ (g : Ring) (j q : ℕ) (r : InRing ps g n (length (data_of xs) + j) j (begun xs p j)) (l : j < size p)
      (e : q ≡ min (504 - (length (data_of xs) + j) % 504) (size p - j)) (low : n ≤ (length (data_of xs) + j) / 504)
      (high : (length (data_of xs) + j) / 504 < n + 4) where
    abbrev m : ℕ
    m = length (data_of xs) + j

    abbrev w : Writer
    w = g.writer

    abbrev size_of : ℕ
    size_of = length p.bytes

    abbrev b : List ℕ
    b = block_of_piece w p (slot_in g.room (m / 504))

    abbrev lend : Lends
    lend k = slot_in g.room (m / 504)

    lends : (k : ℕ) → length (lend k) ≡ 512
    lends k = slot-long g.room (m / 504) r.long

    bounds : (0 < q) × (m % 504 + q ≤ 504) × (j + q ≤ size p)
    bounds = piece-bounds (m % 504) j (size p) q (omega arith) l e

    so : So ps (desk_of ps g m) m j (begun xs p j)
    so = as-desk ps g n m j (begun xs p j) r

    piece : piece_of w size_of ≡ q
    piece =
        let u = used-is lend lends ps xs p fine bytes settled (desk_of ps g m) j so in
        let v = done-is lend lends ps xs p fine bytes settled (desk_of ps g m) j so l in
        rw (u, v) (sym e)

    next : So ps (after lend (desk_of ps g m) (writer_of w size_of) (full_of w size_of) b) (m + q) (done_after w size_of)
        (xs ++ (p ∷ []))
    next = after_call lend lends ps xs p fine bytes settled (desk_of ps g m) j q so l piece bounds.1 bounds.2

    writer-is : (after lend (desk_of ps g m) (writer_of w size_of) (full_of w size_of) b).writer ≡ writer_of w size_of
    writer-is = after-writer lend (desk_of ps g m) (writer_of w size_of) (full_of w size_of) b

    room-is : (piece_ring p g).room ≡ put_in g.room (m / 504) b
    unfolding piece_ring put_in
    room-is = let same : w.number % 4 ≡ m / 504 % 4 = omega (arith, r.number) in rw same

    -- the block is full, or not
    is-full : m % 504 + q ≡ 504 → b ≡ block_of ps (m / 504)
    is-full x =
        let f = full_is lend lends ps xs p fine bytes settled (desk_of ps g m) j q so l piece bounds.1 bounds.2
        ∙ eq-eqb (m % 504 + q) 504 x in
        sym (block-full w p (slot_in g.room (m / 504)) (piece_in w p (slot_in g.room (m / 504)))
        (closed w.number (first_of w size_of) (piece_in w p (slot_in g.room (m / 504)))) (first_of w size_of) f refl
        refl refl)
        ∙ closes lend lends ps xs p fine bytes settled (desk_of ps g m) j q so l piece bounds.1 bounds.2 x

    is-part : (m % 504 + q ≡ 504 → ⊥) → (after lend (desk_of ps g m) (writer_of w size_of) (full_of w size_of) b).block ≡ b
    is-part x =
        let f = full_is lend lends ps xs p fine bytes settled (desk_of ps g m) j q so l piece bounds.1 bounds.2
        ∙ ne_eqb (m % 504 + q) 504 x in
        ap (λ (t : Bool). (after lend (desk_of ps g m) (writer_of w size_of) t b).block) f

    b-long : length b ≡ 512
    b-long = elim (ℕ_discrete (m % 504 + q) 504) [
      | yes x ↦ ap length (is-full x) ∙ length-block ps (m / 504)
      | no x ↦ ap length (sym (is-part x)) ∙ next.long
    ]

    here : slot_in (piece_ring p g).room (m / 504) ≡ b
    here = ap (λ (y : List ℕ). slot_in y (m / 504)) room-is ∙ slot_same g.room (m / 504) b r.long b-long

    before : (k : ℕ) → n ≤ k → k < m / 504 → slot_in (piece_ring p g).room k ≡ block_of ps k
    before k x y =
        ap (λ (z : List ℕ). slot_in z k) room-is
        ∙ slot-other g.room (m / 504) k b r.long b-long (λ z. omega arith) ∙ r.full k x y

    pub step : InRing ps (piece_ring p g) n (m + q) (done_after w size_of) (xs ++ (p ∷ []))
    unfolding piece_ring
    step = record {
      long = ap length room-is ∙ room-long g.room (m / 504) b r.long b-long;
      number = ap (λ (y : Writer). y.number) (sym writer-is) ∙ next.number;
      used = ap (λ (y : Writer). y.used) (sym writer-is) ∙ next.used;
      done = ap (λ (y : Writer). y.done) (sym writer-is) ∙ next.done;
      first = ap (λ (y : Writer). y.first) (sym writer-is) ∙ next.first;
      full = λ k x y. elim (dec_lt k (m / 504)) [
        | yes z ↦ before k x z
        | no z ↦ (let at : k ≡ m / 504 = omega (arith, bounds.1) in
            let whole : m % 504 + q ≡ 504 = omega (arith, bounds.1) in
            rw at (here ∙ is-full whole))
      ];
      held = λ i x.
          let part : m % 504 + q ≡ 504 → ⊥ = λ z. omega arith in
          let at : (m + q) / 504 ≡ m / 504 = omega (arith, bounds.1, below part) in
          ap (λ (k : ℕ). get_or (slot_in (piece_ring p g).room k) (6 + i) 0) at
          ∙ ap (λ (y : List ℕ). get_or y (6 + i) 0) (here ∙ sym (is-part part)) ∙ next.held i x;
    }
      where
        below : (m % 504 + q ≡ 504 → ⊥) → m % 504 + q < 504
        below z = elim (dec_lt (m % 504 + q) 504) [
          | yes y ↦ y
          | no y ↦ absurd (z (omega (arith, bounds.1)))
        ]

  -- ---- a packet

  pub packet-run : (f : ℕ) (g : Ring) (j : ℕ) → InRing ps g n (length (data_of xs) + j) j (begun xs p j) → j < size p
      → size p + (length (data_of xs) + j) % 504 ≤ j + f * 504 → n ≤ (length (data_of xs) + j) / 504
      → (length (data_of xs) + size p) / 504 < n + 4
      → InRing ps (packet_ring f p g) n (length (data_of xs) + size p) 0 (xs ++ (p ∷ []))
  packet-run zero g j r l h low high = absurd (omega arith)
  packet-run (suc f) g j r l h low high =
      go (min (504 - (length (data_of xs) + j) % 504) (size p - j)) refl
      (λ i a c k x y. packet-run f (piece_ring p g) i a c k x high)
    where
      go : (q : ℕ) → q ≡ min (504 - (length (data_of xs) + j) % 504) (size p - j)
          → ((i : ℕ) → InRing ps (piece_ring p g) n (length (data_of xs) + i) i (begun xs p i) → i < size p
          → size p + (length (data_of xs) + i) % 504 ≤ i + f * 504 → n ≤ (length (data_of xs) + i) / 504 → 0 < i
          → InRing ps (packet_ring f p (piece_ring p g)) n (length (data_of xs) + size p) 0 (xs ++ (p ∷ [])))
          → InRing ps (packet_ring (suc f) p g) n (length (data_of xs) + size p) 0 (xs ++ (p ∷ []))
      go q e ih =
          let most : (length (data_of xs) + j) / 504 < n + 4 = omega arith in
          let k = bounds g j q r l e low most in
          let done = step g j q r l e low most in
          let is = whole_is (lend g j q r l e low most) (lends g j q r l e low most) ps xs p fine bytes settled
          (desk_of ps g (length (data_of xs) + j)) j q (so g j q r l e low most) l (piece g j q r l e low most) k.1
          k.2 in
          elim (ℕ_discrete (j + q) (size p)) [
            | yes w ↦ (let t = is ∙ eq-eqb (j + q) (size p) w in
                in-ring-as ps (piece_ring p g) (packet_ring (suc f) p g) n _ _ _ 0 (xs ++ (p ∷ [])) _
                (ring-whole (suc f) p g (omega arith) t) (omega arith)
                (sym (done-whole g.writer (length p.bytes) t)) refl done)
            | no w ↦ (let t = is ∙ ne_eqb (j + q) (size p) w in
                let one : suc f - 1 ≡ f = omega arith in
                let begins : xs ++ (p ∷ []) ≡ begun xs p (j + q) = some (j + q) (omega (arith, k.0)) in
                let part : done_after g.writer (length p.bytes) ≡ j + q =
                sym (done-part g.writer (length p.bytes) t)
                ∙ both (used-part g r) in
                in-ring-as ps (packet_ring f p (piece_ring p g)) (packet_ring (suc f) p g) n _ _ 0 0 (xs ++ (p ∷ [])) _
                (ap (λ (x : ℕ). packet_ring x p (piece_ring p g)) (sym one) ∙ ring-part (suc f) p g (omega arith) t) refl
                refl refl
                (ih (j + q) (in-ring-as ps (piece_ring p g) (piece_ring p g) n _ _ _ (j + q) (xs ++ (p ∷ [])) _ refl
                (omega arith) part begins done)
                (less_left j q (size p) k.2 w) (fuel-left (length (data_of xs)) j q (size p) f e l w h)
                (low-left (length (data_of xs)) j q n low) (some_left j q k.0)))
          ]
        where
          some : (i : ℕ) → 0 < i → xs ++ (p ∷ []) ≡ begun xs p i
          some zero h = absurd (omega arith)
          some (suc i) h = refl

          both : (g.writer.done ≡ j) → min g.writer.done (3 + length p.bytes)
              + piece_of g.writer (length p.bytes) ≡ j + q
          both d = part-sum g.writer.done j q (size p) _ d l (piece g j q r l e low most)
            where
              most : (length (data_of xs) + j) / 504 < n + 4
              most = omega (arith, l, high)

          used-part : (h : Ring) → InRing ps h n (length (data_of xs) + j) j (begun xs p j) → h.writer.done ≡ j
          used-part h a = a.done

-- ---- packets, one behind the other

-- more packets may follow
pub more-ring : (xs qs : List Packet) (g : Ring) (n : ℕ) → InRing xs g n (length (data_of xs)) 0 xs
    → InRing (xs ++ qs) g n (length (data_of xs)) 0 xs
more-ring xs qs g n r = record {
  long = r.long;
  number = r.number;
  used = r.used;
  done = r.done;
  first = r.first;
  full = λ k x y. r.full k x y ∙ sym (block_settled xs qs k (omega arith));
  held = λ i x. r.held i x
      ∙ sym (ap (λ (l : List ℕ). get_or l (length (data_of xs) / 504 * 504 + i) 0) (data-append xs qs)
      ∙ get_or-append (data_of xs) (data_of qs) 0 (length (data_of xs) / 504 * 504 + i) (omega arith));
}

-- a packet behind those that are there
pub packet-ring : (xs : List Packet) (p : Packet) (g : Ring) (n : ℕ) → Writable p
    → InRing xs g n (length (data_of xs)) 0 xs
    → n ≤ length (data_of xs) / 504 → (length (data_of xs) + size p) / 504 < n + 4
    → InRing (xs ++ (p ∷ [])) (packet_ring 4 p g) n (length (data_of (xs ++ (p ∷ [])))) 0 (xs ++ (p ∷ []))
packet-ring xs p g n fine r low high =
    let start = in-ring-as (xs ++ (p ∷ [])) g g n (length (data_of xs)) (length (data_of xs) + 0) 0 0 xs xs refl
    (omega arith) refl refl
    (more-ring xs (p ∷ []) g n r) in
    in-ring-as (xs ++ (p ∷ [])) _ _ n _ _ 0 0 _ _ refl (length-snoc xs p) refl refl
    (packet-run (xs ++ (p ∷ [])) xs p fine (λ i l. data-at xs p [] i l) (λ k l. refl) n 4 g 0 start (omega arith)
    (omega (arith, fine.short)) (omega arith) high)

-- ---- the end

ring-one : (p : Packet) (g : Ring) → packet_ring 1 p g ≡ piece_ring p g
unfolding packet_ring
ring-one p g = go (whole_of g.writer (length p.bytes))
  where
    go : (t : Bool) → cond t (piece_ring p g) (piece_ring p g) ≡ piece_ring p g
    go true = refl
    go false = refl

-- the room with an end record behind the packets xs: its blocks are those of the stream of xs and the end
module _ (xs : List Packet) (e : Packet) (g : Ring) (n : ℕ) (fine : Writable e) (short : length e.bytes ≡ 10)
    (r : InRing xs g n (length (data_of xs)) 0 xs) (fits : length (data_of xs) % 504 ≤ 488)
    (low : n ≤ length (data_of xs) / 504)
    (high : length (data_of xs) / 504 < n + 4) where
  abbrev all : List Packet
  all = xs ++ (e ∷ [])

  abbrev last_block : ℕ
  last_block = length (data_of xs) / 504

  start : InRing all g n (length (data_of xs) + 0) 0 xs
  start =
      in-ring-as all g g n (length (data_of xs)) (length (data_of xs) + 0) 0 0 xs xs refl (omega arith) refl refl
      (more-ring xs (e ∷ []) g n r)

  length-all : length (data_of xs) + size e ≡ length (data_of all)
  length-all = length-snoc xs e

  -- the end record takes one piece
  placed_end : InRing all (piece_ring e g) n (length (data_of all)) 0 all
  placed_end =
      in-ring-as all (packet_ring 1 e g) (piece_ring e g) n _ _ 0 0 all all (ring-one e g) length-all refl refl
      (packet-run all xs e fine (λ i l. data-at xs e [] i l) (λ k l. refl) n 1 g 0 start (omega arith)
      (omega (arith, short, fits))
      (omega arith) (omega (arith, short, fits, high)))

  abbrev desk_end : Desk
  desk_end = desk_of all (piece_ring e g) (length (data_of all))

  abbrev lend_none : Lends
  lend_none k = slot_in g.room 0

  lends_none : (k : ℕ) → length (lend_none k) ≡ 512
  lends_none k = slot-long g.room 0 r.long

  so-end : So all desk_end (length (data_of all)) 0 all
  so-end = as-desk all (piece_ring e g) n (length (data_of all)) 0 all placed_end

  same_block : length (data_of all) / 504 ≡ last_block
  same_block = omega (arith, length-all, short, fits)

  -- the block with the end record, filled with zeros
  last-is-end : last_of (piece_ring e g).writer (slot_in (piece_ring e g).room (length (data_of all) / 504))
      ≡ block_of all (length (data_of all) / 504)
  last-is-end =
      let d = desk_end in
      let b = desk_filled_up lend_none lends_none all d in
      let u : length (data_of all) % 504 ≡ used_of d.writer = omega (arith, so-end.used) in
      let z : length (data_of all) % 504 ≡ 0 → ⊥ = λ x. omega (arith, length-all, short, fits) in
      let f = finish-last d.writer d.block b (closed d.writer.number d.writer.first b)
      (length (data_of all) % 504) so-end.long u z refl refl in
      sym f.1 ∙ ap (λ (x : ℕ). closed x d.writer.first b) so-end.number
      ∙ closed_is all (length (data_of all) / 504) d.writer.first b (filled-long lend_none lends_none all d so-end)
      so-end.first
      (filled-held lend_none lends_none all d so-end)

  end-room-is : end_room e g ≡ put_in (piece_ring e g).room last_block (block_of all last_block)
  unfolding end_room filled_room put_in
  end-room-is =
      let same : g.writer.number % 4 ≡ length (data_of all) / 504 % 4 = omega (arith, r.number, same_block) in
      rw (same, last-is-end, same_block)

  -- every block from the first unfinished one to the end's is as it stands in the stream of the packets and the end
  pub end-ring : (k : ℕ) → n ≤ k → k ≤ last_block → slot_in (end_room e g) k ≡ block_of all k
  end-ring k x y = ap (λ (l : List ℕ). slot_in l k) end-room-is ∙ elim (ℕ_discrete k last_block) [
    | yes z ↦ rw z (slot_same (piece_ring e g).room last_block (block_of all last_block) placed_end.long
        (length-block all last_block))
    | no z ↦ slot-other (piece_ring e g).room last_block k (block_of all last_block) placed_end.long
        (length-block all last_block) (λ q. omega arith)
        ∙ placed_end.full k x (omega (arith, same_block))
  ]

  -- the writer stays before the end, and the room still has what is written
  pub end_stays : InRing xs (ring_of g.writer (end_room e g)) n (length (data_of xs)) 0 xs
  end_stays = record {
    long = ap length end-room-is
        ∙ room-long (piece_ring e g).room last_block (block_of all last_block) placed_end.long
        (length-block all last_block);
    number = r.number;
    used = r.used;
    done = r.done;
    first = r.first;
    full = λ k x y. end-ring k x (omega arith) ∙ block_settled xs (e ∷ []) k (omega arith);
    held = λ i x.
        ap (λ (l : List ℕ). get_or l (6 + i) 0) (end-ring last_block low (omega arith))
        ∙ block-data all last_block i (omega arith)
        ∙ ap (λ (l : List ℕ). get_or l (last_block * 504 + i) 0) (data-append xs (e ∷ []))
        ∙ get_or-append (data_of xs) (data_of (e ∷ [])) 0 (last_block * 504 + i) (omega arith);
  }
