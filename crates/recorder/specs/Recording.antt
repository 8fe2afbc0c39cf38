-- What the recorder's calls do.
use Rattle.std.specs.Prelude.{Bool, cond, ◌||◌, not, List, ◌∷◌, ℕ, ◌+◌, ◌-◌, min, ltb, eqb, length, Result, Ok, Err}
use Rattle.card.specs.Packet.{Packet, packet_of}
use Rattle.card.specs.declared.writer.Writer.{Writer}
use Rattle.card.specs.Writing.{new_writer}
use Rattle.recorder.specs.declared.recorder.Recorder.{Recorder}
use Rattle.card.specs.declared.refusal.Refusal.{Refusal}
use Rattle.card.specs.declared.refusal.Refusal.TheVariants.{Card}
use Rattle.recorder.specs.Ring.{Ring, ring_of, packet_ring, record_ring, padding, bytes_of, end_record, end_room}

abbrev pub writer_of : Recorder → Writer
writer_of r = record { number = r.number; used = r.used; first = r.first; done = 0 }

-- how many blocks are to be stored when block `number` has the end
unfoldable pub left_of : ℕ → ℕ → ℕ
left_of number from = cond (eqb number from) 0 (min (number - from) 3 + 1)

abbrev pub after : Recorder → Writer → ℕ → Recorder
after r w left =
    record { number = w.number; used = w.used; first = w.first; from = r.from; left = left; survey = r.survey }

-- ---- the begin

abbrev pub begin_bytes : ℕ → List ℕ
begin_bytes survey = 1 ∷ 0 ∷ bytes_of survey

abbrev pub begin_record : ℕ → Packet
begin_record survey = packet_of 15 (begin_bytes survey)

abbrev pub begin_ring : ℕ → List ℕ → Ring
begin_ring survey room = packet_ring 4 (begin_record survey) (ring_of new_writer room)

abbrev pub begun : ℕ → Writer → Recorder
begun survey w = record { number = w.number; used = w.used; first = w.first; from = 0; left = 1; survey = survey }

unfoldable pub begin_of : ℕ → List ℕ → Result Recorder Refusal
begin_of survey room = cond (eqb (length room) 2048) (Ok (begun survey (begin_ring survey room).writer)) (Err Card)

unfoldable pub begin_room : ℕ → List ℕ → List ℕ
begin_room survey room = cond (eqb (length room) 2048) (end_room (end_record 0 survey 0) (begin_ring survey room)) room

-- ---- a packet

-- a room and a recorder that are not taken: blocks are left to be stored
abbrev pub busy : Recorder → List ℕ → Bool
busy r room = not (eqb (length room) 2048) || not (eqb r.left 0)

abbrev pub refuses : Recorder → Packet → List ℕ → Bool
refuses r p room = busy r room || (ltb 1024 (length p.bytes) || (eqb p.endpoint 0 || ltb 15 p.endpoint))

abbrev pub ring_in : Recorder → List ℕ → Ring
ring_in r room = ring_of (writer_of r) room

abbrev pub flushed : Recorder → Writer → Recorder
flushed r w = after r w (left_of w.number r.from)

unfoldable pub record_of : Recorder → Packet → List ℕ → Result Recorder Refusal
record_of r p room = cond (refuses r p room) (Err Card) (Ok (flushed r (record_ring p (ring_in r room)).writer))

unfoldable pub record_room : Recorder → Packet → ℕ → List ℕ → List ℕ
record_room r p overruns room =
    let g = record_ring p (ring_in r room) in
    cond (refuses r p room) room (cond (eqb g.writer.number r.from) g.room (end_room (end_record 0 r.survey overruns) g))

-- ---- the finish

abbrev pub padded_ring : Recorder → List ℕ → Ring
padded_ring r room = packet_ring 4 (padding r.used) (ring_in r room)

unfoldable pub finish_of : Recorder → List ℕ → Result Recorder Refusal
finish_of r room = cond (busy r room) (Err Card) (Ok (flushed r (padded_ring r room).writer))

unfoldable pub finish_room : Recorder → ℕ → List ℕ → List ℕ
finish_room r overruns room = cond (busy r room) room (end_room (end_record 1 r.survey overruns) (padded_ring r room))

-- ---- a store

-- behind the last store the block that has the end is the first that is not stored for good
unfoldable pub stored_of : Recorder → Recorder
stored_of r =
    cond (eqb r.left 0) r
    (cond (eqb r.left 1)
    (record { number = r.number; used = r.used; first = r.first; from = r.number; left = 0; survey = r.survey })
    (record {
      number = r.number;
      used = r.used;
      first = r.first;
      from = r.from;
      left = r.left - 1;
      survey
          = r.survey;
    }))
