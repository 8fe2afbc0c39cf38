-- From the definitions of the card's calls: a writer's numbers are read back, so that calls from C go on as those of
-- `req_card_writer` do, and any number may be brought as an endpoint. Assumes nothing.
use Rattle.std.specs.Prelude.{◌≡◌, Bool, true, false, cond, List, ℕ, ◌+◌, ◌%◌, ◌^◌, ◌<◌, ◌≤◌, min}
use Rattle.std.proofs.Math.Bool.{or-true}
use Rattle.std.proofs.Common.{arith, lt-ltb}
use Rattle.std.proofs.Math.Decide.{dec_lt}
use Rattle.card.specs.Packet.{Packet, packet_of}
use Rattle.card.specs.declared.writer.Writer.{Writer}
use Rattle.card.specs.Writing.{new_writer, used_of, done_of, piece_of, begins_first, first_of, full_of, whole_of, done_after}
use Rattle.card.specs.Writing.{writer_of, unfit, write_of}
use Rattle.card.specs.Writing.{written_of}
use Rattle.survey_c.specs.Card.{writer_in, numbers_of}

-- ---- the writer's numbers

pub record Short (w : Writer) : Type 0 where
  pub used : w.used < 65536
  pub first : w.first < 65536
  pub done : w.done < 65536

pub writer-back : (w : Writer) → Short w → writer_in (numbers_of w) ≡ w
unfolding writer_in numbers_of
writer-back w h =
    let u : w.used % 65536 ≡ w.used = omega (arith, h.used) in
    let f : w.first % 65536 ≡ w.first = omega (arith, h.first) in
    let d : w.done % 65536 ≡ w.done = omega (arith, h.done) in
    rw (u, f, d)

pub new-short : Short new_writer
new-short = record { used = omega arith; first = omega arith; done = omega arith }

either-short : (t : Bool) (a b : ℕ) → a < 65536 → b < 65536 → cond t a b < 65536
either-short true a b h l = h
either-short false a b h l = l

-- a writer stays so, whatever is written
pub next-short : (w : Writer) (n : ℕ) → n ≤ 1024 → Short w → Short (writer_of w n)
unfolding writer_of first_of
next-short w n l h = by (full_of w n)
  where
    done-short : (t : Bool) → cond t 0 (done_of w n + piece_of w n) < 65536
    done-short t = either-short t 0 (done_of w n + piece_of w n) (omega arith) (omega arith)

    by : (t : Bool) → Short (cond t
        (record { number = (w.number + 1) % 2 ^ 32; used = 0; first = 65535; done = done_after w n })
        (record { number = w.number; used = used_of w + piece_of w n; first = first_of w n; done = done_after w n }))
    by true = record { used = omega arith; first = omega arith; done = done-short (whole_of w n) }
    by false = record {
      used = omega arith;
      first = either-short (begins_first w n) (6 + used_of w) w.first (omega arith) h.first;
      done = done-short (whole_of w n);
    }

-- ---- endpoints

-- an endpoint above 15 is refused, whichever it is
unfit-high : (p : Packet) (b : List ℕ) → 15 < p.endpoint → unfit p b ≡ true
unfit-high p b h = rw (lt-ltb 15 p.endpoint h, or-true, or-true, or-true)

pub write-any : (w : Writer) (e : ℕ) (bytes b : List ℕ) (n : ℕ) → n ≡ min e 16 → write_of w (packet_of n bytes) b
    ≡ write_of w (packet_of e bytes) b
unfolding write_of
write-any w e bytes b n h = elim (dec_lt e 16) [
  | yes l ↦ (let m : n ≡ e = omega arith in rw m)
  | no l ↦ rw (unfit-high (packet_of n bytes) b (omega arith), unfit-high (packet_of e bytes) b (omega arith))
]

pub written-any : (w : Writer) (e : ℕ) (bytes b : List ℕ) (n : ℕ) → n ≡ min e 16 → written_of w (packet_of n bytes) b
    ≡ written_of w (packet_of e bytes) b
unfolding written_of
written-any w e bytes b n h = elim (dec_lt e 16) [
  | yes l ↦ (let m : n ≡ e = omega arith in rw m)
  | no l ↦ rw (unfit-high (packet_of n bytes) b (omega arith), unfit-high (packet_of e bytes) b (omega arith))
]
