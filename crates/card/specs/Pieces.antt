-- The writer's definitions by cases.
use Rattle.std.specs.Prelude.{◌≡◌, ℕ, ◌+◌, ◌-◌, ◌%◌, ◌^◌, ◌<◌, ◌≤◌, Bool, true, false, List, length, drop, replicate, ◌≢◌, Ok, Err}
use Rattle.std.proofs.Common.{◌∙◌, eq-eqb, ne_eqb, lt-ltb, le-ltb}
use Rattle.std.proofs.Math.Seq.{paste}
use Rattle.card.specs.Packet.{Packet, packet_bytes}
use Rattle.card.specs.declared.writer.Writer.{Writer}
use Rattle.card.specs.declared.refusal.Refusal.TheVariants.{Card}
use Rattle.card.specs.Writing.{used_of, done_of, piece_of, first_of, full_of, whole_of, done_after, writer_of}
use Rattle.card.specs.Writing.{closed, piece_in, block_of_piece, unfit, write_of, written_of, finish_of}
use Rattle.card.specs.Writing.{last_of}

-- ---- the first packet that begins in the block

pub first-under-way : (w : Writer) (n : ℕ) → (done_of w n ≢ 0) → w.first ≡ first_of w n
unfolding first_of
first-under-way w n h = rw (ne_eqb (done_of w n) 0 h)

pub first-named : (w : Writer) (n : ℕ) → done_of w n ≡ 0 → (w.first ≢ 65535) → w.first ≡ first_of w n
unfolding first_of
first-named w n h f = rw (eq-eqb (done_of w n) 0 h, ne_eqb w.first 65535 f)

pub first-here : (w : Writer) (n : ℕ) → done_of w n ≡ 0 → w.first ≡ 65535 → used_of w < 504 → 6 + used_of w ≡ first_of w n
unfolding first_of
first-here w n h f u = rw (eq-eqb (done_of w n) 0 h, eq-eqb w.first 65535 f, lt-ltb (used_of w) 504 u)

pub first-full : (w : Writer) (n : ℕ) → done_of w n ≡ 0 → w.first ≡ 65535 → 504 ≤ used_of w → w.first ≡ first_of w n
unfolding first_of
first-full w n h f u = rw (eq-eqb (done_of w n) 0 h, eq-eqb w.first 65535 f, le-ltb (used_of w) 504 u)

-- ---- the writer after a piece

pub done-whole : (w : Writer) (n : ℕ) → whole_of w n ≡ true → 0 ≡ done_after w n
done-whole w n h = rw h

pub done-part : (w : Writer) (n : ℕ) → whole_of w n ≡ false → done_of w n + piece_of w n ≡ done_after w n
done-part w n h = rw h

pub writer-full : (w : Writer) (n k d : ℕ) → full_of w n ≡ true → k ≡ (w.number + 1) % 2 ^ 32 → d ≡ done_after w n
    → record { number = k; used = 0; first = 65535; done = d } ≡ writer_of w n
unfolding writer_of
writer-full w n k d f x y = rw (f, x, y)

pub writer-part : (w : Writer) (n u f d : ℕ) → full_of w n ≡ false → u ≡ used_of w + piece_of w n → f ≡ first_of w n → d
    ≡ done_after w n
    → record { number = w.number; used = u; first = f; done = d } ≡ writer_of w n
unfolding writer_of
writer-part w n u f d g x y z = rw (g, x, y, z)

-- ---- the block after a piece

pub piece-in : (w : Writer) (p : Packet) (b r : List ℕ) (u d n : ℕ) → u ≡ used_of w → d ≡ done_of w (length p.bytes)
    → n ≡ piece_of w (length p.bytes)
    → r ≡ paste b (6 + u) (drop d (packet_bytes p)) n → r ≡ piece_in w p b
piece-in w p b r u d n x y z e = e ∙ rw (x, y, z)

pub block-full : (w : Writer) (p : Packet) (b c r : List ℕ) (f : ℕ) → full_of w (length p.bytes) ≡ true → c
    ≡ piece_in w p b
    → f ≡ first_of w (length p.bytes) → r ≡ closed w.number f c → r ≡ block_of_piece w p b
unfolding block_of_piece
block-full w p b c r f g x y e = e ∙ rw (g, x, y)

pub block-part : (w : Writer) (p : Packet) (b c : List ℕ) → full_of w (length p.bytes) ≡ false → c ≡ piece_in w p b → c
    ≡ block_of_piece w p b
unfolding block_of_piece
block-part w p b c g x = x ∙ rw g

-- ---- what is not taken

pub unfit-block : (p : Packet) (b : List ℕ) → (length b ≢ 512) → unfit p b ≡ true
unfit-block p b h = rw (ne_eqb (length b) 512 h)

pub unfit-long : (p : Packet) (b : List ℕ) → length b ≡ 512 → 1024 < length p.bytes → unfit p b ≡ true
unfit-long p b h l = rw (eq-eqb (length b) 512 h, lt-ltb 1024 (length p.bytes) l)

pub unfit-zero : (p : Packet) (b : List ℕ) → length b ≡ 512 → length p.bytes ≤ 1024 → p.endpoint ≡ 0 → unfit p b
    ≡ true
unfit-zero p b h l z = rw (eq-eqb (length b) 512 h, le-ltb 1024 (length p.bytes) l, eq-eqb p.endpoint 0 z)

pub unfit-high : (p : Packet) (b : List ℕ) → length b ≡ 512 → length p.bytes ≤ 1024 → (p.endpoint ≢ 0) → 15
    < p.endpoint → unfit p b ≡ true
unfit-high p b h l z e = rw (
  eq-eqb (length b) 512 h,
  le-ltb 1024 (length p.bytes) l,
  ne_eqb p.endpoint 0 z,
  lt-ltb 15 p.endpoint e,
)

pub fit : (p : Packet) (b : List ℕ) → length b ≡ 512 → length p.bytes ≤ 1024 → (p.endpoint ≢ 0) → p.endpoint
    ≤ 15 → unfit p b ≡ false
fit p b h l z e = rw (
  eq-eqb (length b) 512 h,
  le-ltb 1024 (length p.bytes) l,
  ne_eqb p.endpoint 0 z,
  le-ltb 15
      p.endpoint e,
)

pub write-unfit : (w : Writer) (p : Packet) (b : List ℕ) → unfit p b ≡ true → (Err Card ≡ write_of w p b)
    × (b ≡ written_of w p b)
unfolding write_of written_of
write-unfit w p b h = (rw h, rw h)

pub write-answer : (w : Writer) (p : Packet) (b : List ℕ) (x : Writer) (f g : Bool) → unfit p b ≡ false
    → x ≡ writer_of w (length p.bytes) → f ≡ full_of w (length p.bytes) → g ≡ whole_of w (length p.bytes)
    → Ok (record { next = x; full = f; done = g }) ≡ write_of w p b
unfolding write_of
write-answer w p b x f g h a c d = rw (h, a, c, d)

pub write-block : (w : Writer) (p : Packet) (b r : List ℕ) → unfit p b ≡ false → r ≡ block_of_piece w p b → r
    ≡ written_of w p b
unfolding written_of
write-block w p b r h e = e ∙ rw h

-- ---- the last block

pub finish-refused : (w : Writer) (b : List ℕ) → (length b ≢ 512) → (Err Card ≡ finish_of w b)
    × (b ≡ last_of w b)
unfolding finish_of last_of
finish-refused w b h = (rw (ne_eqb (length b) 512 h), rw (ne_eqb (length b) 512 h))

pub finish-nothing : (w : Writer) (b : List ℕ) → length b ≡ 512 → used_of w ≡ 0 → (Ok false ≡ finish_of w b)
    × (b ≡ last_of w b)
unfolding finish_of last_of
finish-nothing w b h u =
    (rw (eq-eqb (length b) 512 h, eq-eqb (used_of w) 0 u), rw (eq-eqb (length b) 512 h, eq-eqb (used_of w) 0 u))

pub finish-last : (w : Writer) (b c r : List ℕ) (u : ℕ) → length b ≡ 512 → u ≡ used_of w → (u ≢ 0) → c
    ≡ paste b (6 + u) (replicate (504 - u) 0) (504 - u)
    → r ≡ closed w.number w.first c → (Ok true ≡ finish_of w b) × (r ≡ last_of w b)
unfolding finish_of last_of
finish-last w b c r u h x z e g =
    let n : used_of w ≡ 0 → ⊥ = λ y. z (x ∙ y) in (
      rw (eq-eqb (length b) 512 h, ne_eqb (used_of w) 0 n),
      g ∙ rw (eq-eqb (length b) 512 h, ne_eqb (used_of w) 0 n, e, x),
    )
