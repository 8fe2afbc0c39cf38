-- Laws on the definitions of Recorder.antt: numbers are read back, and any number may be brought as an endpoint.
-- Assumes nothing.
use Rattle.std.specs.Prelude.{◌≡◌, true, List, ℕ, ◌%◌, ◌<◌, min}
use Rattle.std.proofs.Math.Bool.{or-true}
use Rattle.std.proofs.Common.{arith, lt-ltb}
use Rattle.std.proofs.Math.Decide.{dec_lt}
use Rattle.card.specs.Packet.{Packet, packet_of}
use Rattle.recorder.specs.declared.recorder.Recorder.{Recorder}
use Rattle.recorder.specs.Recording.{refuses, record_of, record_room}
use Rattle.survey_c.specs.Recorder.{recorder_in, recorder_numbers}

pub recorder-back : (r : Recorder) → r.used < 65536 → r.first < 65536 → recorder_in (recorder_numbers r) ≡ r
unfolding recorder_in recorder_numbers
recorder-back r h l =
    let u : r.used % 65536 ≡ r.used = omega arith in
    let f : r.first % 65536 ≡ r.first = omega arith in
    rw (u, f)

-- an endpoint above 15 is refused, whichever it is
refuses-high : (r : Recorder) (p : Packet) (room : List ℕ) → 15 < p.endpoint → refuses r p room ≡ true
refuses-high r p room h = rw (lt-ltb 15 p.endpoint h, or-true, or-true, or-true)

pub record-any : (r : Recorder) (e : ℕ) (bytes room : List ℕ) (n : ℕ) → n ≡ min e 16
    → record_of r (packet_of n bytes) room ≡ record_of r (packet_of e bytes) room
unfolding record_of
record-any r e bytes room n h = elim (dec_lt e 16) [
  | yes l ↦ (let m : n ≡ e = omega arith in rw m)
  | no l ↦ rw (
    refuses-high r (packet_of n bytes) room (omega arith),
    refuses-high r (packet_of e bytes) room
        (omega arith),
  )
]

pub room-any : (r : Recorder) (e overruns : ℕ) (bytes room : List ℕ) (n : ℕ) → n ≡ min e 16
    → record_room r (packet_of n bytes) overruns room ≡ record_room r (packet_of e bytes) overruns room
unfolding record_room
room-any r e overruns bytes room n h = elim (dec_lt e 16) [
  | yes l ↦ (let m : n ≡ e = omega arith in rw m)
  | no l ↦ rw (
    refuses-high r (packet_of n bytes) room (omega arith),
    refuses-high r (packet_of e bytes) room
        (omega arith),
  )
]
