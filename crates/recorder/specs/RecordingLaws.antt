-- Laws on the definitions of Recording.antt, as the code meets them.
use Rattle.std.specs.Prelude.{◌≡◌, true, false, List, ℕ, ◌+◌, ◌-◌, ◌≤◌, ◌<◌, min, length, Ok, Err}
use Rattle.std.proofs.Common.{sym, ◌∙◌, arith, eq-eqb, ne_eqb, lt-ltb, le-ltb}
use Rattle.recorder.specs.declared.recorder.Recorder.{Recorder}
use Rattle.card.specs.Packet.{Packet}
use Rattle.card.specs.declared.refusal.Refusal.TheVariants.{Card}
use Rattle.recorder.specs.Ring.{Ring, record_ring, end_record, end_room}
use Rattle.recorder.specs.Recording.{left_of, after, begun, begin_ring, begin_of, begin_room, busy, refuses, ring_in}
use Rattle.recorder.specs.Recording.{record_of, record_room}
use Rattle.recorder.specs.Recording.{padded_ring, finish_of, finish_room, stored_of}

pub left-none : (number from : ℕ) → number ≡ from → 0 ≡ left_of number from
unfolding left_of
left-none number from h = rw (eq-eqb number from h)

pub left-low : (number from : ℕ) → number < from → 1 ≡ left_of number from
unfolding left_of
left-low number from h =
    let m : min (number - from) 3 ≡ 0 = omega arith in
    rw (ne_eqb number from (λ e. omega arith), m)

pub left-some : (number from r : ℕ) → from < number → (number - from < 3) × (r ≡ number - from + 1) → r ≡ left_of number from
unfolding left_of
left-some number from r h e =
    let m : min (number - from) 3 ≡ number - from = omega (arith, e.0) in
    rw (ne_eqb number from (λ z. omega arith), m) e.1

pub left-many : (number from : ℕ) → from + 3 ≤ number → 4 ≡ left_of number from
unfolding left_of
left-many number from h =
    let m : min (number - from) 3 ≡ 3 = omega arith in
    rw (ne_eqb number from (λ z. omega arith), m)

-- ---- a store

pub stored-none : (r : Recorder) → r.left ≡ 0 → r ≡ stored_of r
unfolding stored_of
stored-none r h = rw (eq-eqb r.left 0 h)

pub stored_last : (r : Recorder) → r.left ≡ 1
    → record { number = r.number; used = r.used; first = r.first; from = r.number; left = 0; survey = r.survey }
    ≡ stored_of r
unfolding stored_of
stored_last r h = rw (ne_eqb r.left 0 (λ e. omega arith), eq-eqb r.left 1 h)

pub stored_one : (r : Recorder) → (r.left ≡ 0 → ⊥) → (r.left ≡ 1 → ⊥)
    → record {
      number = r.number;
      used = r.used;
      first = r.first;
      from = r.from;
      left = r.left - 1;
      survey
          = r.survey;
    } ≡ stored_of r
unfolding stored_of
stored_one r h l = rw (ne_eqb r.left 0 h, ne_eqb r.left 1 l)

-- ---- what is not taken

pub busy-room : (r : Recorder) (room : List ℕ) → (length room ≡ 2048 → ⊥) → busy r room ≡ true
busy-room r room h = rw (ne_eqb (length room) 2048 h)

pub busy-left : (r : Recorder) (room : List ℕ) → length room ≡ 2048 → (r.left ≡ 0 → ⊥) → busy r room ≡ true
busy-left r room h l = rw (eq-eqb (length room) 2048 h, ne_eqb r.left 0 l)

pub not-busy : (r : Recorder) (room : List ℕ) → length room ≡ 2048 → r.left ≡ 0 → busy r room ≡ false
not-busy r room h l = rw (eq-eqb (length room) 2048 h, eq-eqb r.left 0 l)

pub refuses-busy : (r : Recorder) (p : Packet) (room : List ℕ) → busy r room ≡ true → refuses r p room ≡ true
refuses-busy r p room h = rw h

pub refuses-long : (r : Recorder) (p : Packet) (room : List ℕ) → busy r room ≡ false → 1024 < length p.bytes
    → refuses r p room ≡ true
refuses-long r p room h l = rw (h, lt-ltb 1024 (length p.bytes) l)

pub refuses-zero : (r : Recorder) (p : Packet) (room : List ℕ) → busy r room ≡ false → length p.bytes ≤ 1024
    → p.endpoint ≡ 0
    → refuses r p room ≡ true
refuses-zero r p room h l z = rw (h, le-ltb 1024 (length p.bytes) l, eq-eqb p.endpoint 0 z)

pub refuses-high : (r : Recorder) (p : Packet) (room : List ℕ) → busy r room ≡ false → length p.bytes ≤ 1024
    → (p.endpoint ≡ 0 → ⊥)
    → 15 < p.endpoint → refuses r p room ≡ true
refuses-high r p room h l z e =
    rw (h, le-ltb 1024 (length p.bytes) l, ne_eqb p.endpoint 0 z, lt-ltb 15 p.endpoint e)

pub taken : (r : Recorder) (p : Packet) (room : List ℕ) → busy r room ≡ false → length p.bytes ≤ 1024
    → (p.endpoint ≡ 0 → ⊥)
    → p.endpoint ≤ 15 → refuses r p room ≡ false
taken r p room h l z e =
    rw (h, le-ltb 1024 (length p.bytes) l, ne_eqb p.endpoint 0 z, le-ltb 15 p.endpoint e)

-- ---- a packet

pub record-refused : (r : Recorder) (p : Packet) (overruns : ℕ) (room : List ℕ) → refuses r p room ≡ true
    → (Err Card ≡ record_of r p room) × (room ≡ record_room r p overruns room)
unfolding record_of record_room
record-refused r p overruns room h = (rw h, rw h)

pub record-kept : (r s : Recorder) (p : Packet) (overruns : ℕ) (room : List ℕ) (g : Ring) → refuses r p room ≡ false
    → g ≡ record_ring p (ring_in r room) → g.writer.number ≡ r.from → s ≡ after r g.writer 0
    → (Ok s ≡ record_of r p room) × (g.room ≡ record_room r p overruns room)
unfolding record_of record_room left_of
record-kept r s p overruns room g h e n x =
    let same : record_ring p (ring_in r room) ≡ g = sym e in
    let first = eq-eqb g.writer.number r.from n in
    (rw (h, same, x, first), rw (h, same, first))

pub record-flushed : (r s : Recorder) (p : Packet) (overruns : ℕ) (room after-end : List ℕ) (g : Ring) (left : ℕ)
    → refuses r p room ≡ false
    → g ≡ record_ring p (ring_in r room) → (g.writer.number ≡ r.from → ⊥) → after-end ≡ end_room (end_record 0 r.survey overruns) g
    → left ≡ left_of g.writer.number r.from → s ≡ after r g.writer left
    → (Ok s ≡ record_of r p room) × (after-end ≡ record_room r p overruns room)
unfolding record_of record_room
record-flushed r s p overruns room after-end g left h e n b l x =
    let same : record_ring p (ring_in r room) ≡ g = sym e in
    let later = ne_eqb g.writer.number r.from n in
    (rw (h, same, x, l), b ∙ rw (h, same, later))

-- ---- the begin and the finish

pub begin-refused : (survey : ℕ) (room : List ℕ) → (length room ≡ 2048 → ⊥)
    → (Err Card ≡ begin_of survey room) × (room ≡ begin_room survey room)
unfolding begin_of begin_room
begin-refused survey room h = (rw (ne_eqb (length room) 2048 h), rw (ne_eqb (length room) 2048 h))

pub begin-is : (survey : ℕ) (room after-end : List ℕ) (g : Ring) → length room ≡ 2048 → g ≡ begin_ring survey room
    → after-end ≡ end_room (end_record 0 survey 0) g
    → (Ok (begun survey g.writer) ≡ begin_of survey room) × (after-end ≡ begin_room survey room)
unfolding begin_of begin_room
begin-is survey room after-end g h e b =
    let same : begin_ring survey room ≡ g = sym e in
    (rw (eq-eqb (length room) 2048 h, same), b ∙ rw (eq-eqb (length room) 2048 h, same))

pub finish-refused : (r : Recorder) (overruns : ℕ) (room : List ℕ) → busy r room ≡ true
    → (Err Card ≡ finish_of r room) × (room ≡ finish_room r overruns room)
unfolding finish_of finish_room
finish-refused r overruns room h = (rw h, rw h)

pub finish-is : (r s : Recorder) (overruns : ℕ) (room after-end : List ℕ) (g : Ring) (left : ℕ) → busy r room ≡ false
    → g ≡ padded_ring r room → after-end ≡ end_room (end_record 1 r.survey overruns) g
    → left ≡ left_of g.writer.number r.from → s ≡ after r g.writer left
    → (Ok s ≡ finish_of r room) × (after-end ≡ finish_room r overruns room)
unfolding finish_of finish_room
finish-is r s overruns room after-end g left h e b l x =
    let same : padded_ring r room ≡ g = sym e in
    (rw (h, same, x, l), b ∙ rw (h, same))
