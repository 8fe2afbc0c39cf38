-- Laws on the definitions of Ring.antt, as the code meets them.
use Rattle.std.specs.Prelude.{◌≡◌, refl, Bool, true, false, List, ◌∷◌, ◌++◌, ℕ, zero, suc, ◌+◌, ◌-◌, ◌*◌, ◌%◌, ◌≤◌, ◌<◌}
use Rattle.std.specs.Prelude.{length, take, drop, replicate, Result, Ok, Err}
use Rattle.std.proofs.Common.{sym, ap, ◌∙◌, arith, le-ltb, lt-ltb, length-drop, length-take-le}
use Rattle.card.specs.Packet.{Packet, Writable}
use Rattle.card.specs.declared.writer.Writer.{Writer}
use Rattle.card.specs.declared.writer.Piece.{Piece}
use Rattle.card.specs.declared.refusal.Refusal.{Refusal}
use Rattle.card.specs.Writing.{writer_of, whole_of, unfit, piece_wrote, write_of, written_of, block_of_piece, last_of}
use Rattle.card.specs.Pieces.{fit}
use Rattle.recorder.specs.Ring.{Ring, ring_of, slot_in, put_in, piece_ring, packet_ring, padding, record_ring}
use Rattle.recorder.specs.Ring.{filled_room, end_room}

pub slot-long : (room : List ℕ) (k : ℕ) → length room ≡ 2048 → length (slot_in room k) ≡ 512
slot-long room k h = length-take-le 512 (drop (k % 4 * 512) room) (omega (arith, length-drop (k % 4 * 512) room))

-- how the code has it: from its start up to its end
abbrev pub slot_size : ℕ → ℕ
slot_size k = k % 4 * 512 + 512 - k % 4 * 512

slot-size : (k : ℕ) → slot_size k ≡ 512
slot-size k = omega arith

-- ---- a piece

pub piece-wrote : (w : Writer) (p : Packet) (room ys : List ℕ) (r : Result Piece Refusal) → length room ≡ 2048
    → Writable p
    → r ≡ write_of w p (take (slot_size w.number) (drop (w.number % 4 * 512) room))
    → ys ≡ written_of w p (take (slot_size w.number) (drop (w.number % 4 * 512) room))
    → (r ≡ Ok (piece_wrote w p))
    × (take (w.number % 4 * 512) room ++ (ys ++ drop (slot_size w.number) (drop (w.number % 4 * 512) room))
    ≡ (piece_ring p (ring_of w room)).room)
unfolding write_of written_of piece_ring put_in
piece-wrote w p room ys r long fine x y =
    let e : slot_size w.number ≡ 512 = slot-size w.number in
    let b = slot_in room w.number in
    let u : unfit p b ≡ false =
    fit p b (slot-long room w.number long) fine.short (λ z. omega (arith, fine.numbered)) fine.small in
    let same : take (slot_size w.number) (drop (w.number % 4 * 512) room) ≡ b = rw e in
    let x' : r ≡ Ok (piece_wrote w p) = x ∙ rw same (rw u) in
    let y' : ys ≡ block_of_piece w p b = y ∙ rw same (rw u) in
    (x', rw (e, y'))

pub not-refused : (w : Writer) (p : Packet) (why : Refusal) → ◌≡◌ {A = Result Piece Refusal} (Err why)
    (Ok (piece_wrote w p))
    → ⊥
not-refused w p why e = cc

pub piece-parts : (w : Writer) (p : Packet) (next : Writer) (full done : Bool)
    → ◌≡◌ {A = Result Piece Refusal} (Ok (record { next = next; full = full; done = done })) (Ok (piece_wrote w p))
    → (next ≡ writer_of w (length p.bytes)) × (done ≡ whole_of w (length p.bytes))
piece-parts w p next full done e =
    let same : record { next = next; full = full; done = done } ≡ piece_wrote w p = cc in
    (ap (λ (x : Piece). x.next) same, ap (λ (x : Piece). x.done) same)

pub ring-piece : (p : Packet) (g : Ring) (next : Writer) (room : List ℕ) → next
    ≡ writer_of g.writer (length p.bytes)
    → room ≡ (piece_ring p g).room → ring_of next room ≡ piece_ring p g
unfolding piece_ring
ring-piece p g next room a b = rw (a, b)

-- ---- a packet

pub ring-whole : (n : ℕ) (p : Packet) (g : Ring) → 0 < n → whole_of g.writer (length p.bytes) ≡ true
    → piece_ring p g ≡ packet_ring n p g
unfolding packet_ring
ring-whole zero p g h t = absurd (omega arith)
ring-whole (suc n) p g h t = rw t

pub ring-part : (n : ℕ) (p : Packet) (g : Ring) → 0 < n → whole_of g.writer (length p.bytes) ≡ false
    → packet_ring (n - 1) p (piece_ring p g) ≡ packet_ring n p g
unfolding packet_ring
ring-part zero p g h t = absurd (omega arith)
ring-part (suc n) p g h t = let e : suc n - 1 ≡ n = omega arith in rw (e, t)

pub ring-none : (n : ℕ) (p : Packet) (g : Ring) → n ≡ 0 → g ≡ packet_ring n p g
unfolding packet_ring
ring-none n p g h = rw h

-- ---- a packet and padding

pub record-padded : (p : Packet) (g h r : Ring) → h ≡ packet_ring 4 p g → 488 < h.writer.used
    → r ≡ packet_ring 4 (padding h.writer.used) h → r ≡ record_ring p g
unfolding record_ring
record-padded p g h r a l e =
    let same : packet_ring 4 p g ≡ h = sym a in
    e ∙ rw (same, lt-ltb 488 h.writer.used l)

pub record-plain : (p : Packet) (g h : Ring) → h ≡ packet_ring 4 p g → h.writer.used ≤ 488 → h ≡ record_ring p g
unfolding record_ring
record-plain p g h a l =
    let same : packet_ring 4 p g ≡ h = sym a in
    rw (same, le-ltb 488 h.writer.used l)

-- ---- the end

pub fill_is : (w : Writer) (number : ℕ) (room ys : List ℕ) → ys
    ≡ last_of w (take (slot_size number) (drop (number % 4 * 512) room))
    → take (number % 4 * 512) room ++ (ys ++ drop (slot_size number) (drop (number % 4 * 512) room))
    ≡ filled_room w number room
unfolding filled_room put_in
fill_is w number room ys x = let e : slot_size number ≡ 512 = slot-size number in rw (x, e)

pub end_is : (e : Packet) (g : Ring) (next : Writer) (room r : List ℕ) → next ≡ writer_of g.writer (length e.bytes)
    → room ≡ (piece_ring e g).room → r ≡ filled_room next g.writer.number room → r ≡ end_room e g
unfolding end_room piece_ring
end_is e g next room r a b x = x ∙ rw (a, b)

-- ---- zeros

pub zeros-part : (n m : ℕ) → n ≤ m → take {A = ℕ} (n - 0) (drop 0 (replicate m 0)) ≡ replicate n 0
zeros-part n m h = let e : n - 0 ≡ n = omega arith in rw e (zeros n m h)
  where
    zeros : (i j : ℕ) → i ≤ j → take {A = ℕ} i (replicate j 0) ≡ replicate i 0
    zeros zero j l = refl
    zeros (suc i) zero l = absurd (omega arith)
    zeros (suc i) (suc j) l = ap (λ (x : List ℕ). 0 ∷ x) (zeros i j (omega arith))
