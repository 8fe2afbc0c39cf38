-- The recorder's calls keep what Sound.antt says: a begin, a packet, a finish.
use Rattle.std.specs.Prelude.{◌≡◌, refl, Bool, true, false, cond, ◌||◌, not, List, [], ◌∷◌, ◌++◌, ℕ, suc, ◌+◌, ◌-◌, ◌%◌, ◌≤◌, ◌<◌, min, ltb, eqb, length, Result, Ok, Err}
use Rattle.std.proofs.Common.{sym, ap, ap₂, subst, ◌∙◌, true≢false, arith, ltb-false, eq-eqb, ne_eqb, eqb-true}
use Rattle.std.proofs.lemmas.Bool.{false≢true, eqb-false, not-false}
use Rattle.std.proofs.Math.Decide.{ℕ_discrete, dec_lt}
use Rattle.card.specs.Packet.{Packet, Writable, none, more, data_of}
use Rattle.card.specs.Written.{block_of}
use Rattle.card.specs.Writing.{new_writer}
use Rattle.card.specs.declared.writer.Writer.{Writer}
use Rattle.recorder.specs.declared.recorder.Recorder.{Recorder}
use Rattle.card.specs.declared.refusal.Refusal.{Refusal}
use Rattle.card.specs.declared.refusal.Refusal.TheVariants.{Card}
use Rattle.recorder.specs.Ring.{Ring, ring_of, slot_in, record_ring, end_record, end_room}
use Rattle.recorder.specs.Recording.{left_of, after, flushed, begin_record, begin_ring, begun, busy, refuses, ring_in}
use Rattle.recorder.specs.Recording.{padded_ring}
use Rattle.recorder.specs.RecordingLaws.{record-refused, record-kept, record-flushed, begin-is, finish-refused}
use Rattle.recorder.specs.RecordingLaws.{finish-is}
use Rattle.recorder.specs.Flush.{OnCard}
use Rattle.recorder.specs.Filled.{InRing}
use Rattle.recorder.proofs.FilledLaws.{packet-ring, end-ring, end_stays}
use Rattle.recorder.specs.Survives.{Call, begin, packet, finish, answered, room_after, recorder_after, Held}
use Rattle.recorder.specs.Survives.{blocks_of, call, stepped, last_block_of, filled_up, padded, Book, first_left, left_by}
use Rattle.recorder.specs.Survives.{grown, turned, noted_call, Front}
use Rattle.recorder.specs.Sound.{Written, Sound}
use Rattle.recorder.proofs.GrownLaws.{empty-ring, padding-ring, record-ring, padding-far, padded-front, front-more}

-- ---- the book's numbers

pub first-old : (b : Book) → b.fresh ≡ false → first_left b ≡ last_block_of b.kept
first-old b f = rw f

pub first-new : (b : Book) → b.fresh ≡ true → first_left b ≡ 0
first-new b f = rw f

abbrev pub held_of : Recorder → List ℕ → List ℕ → Held
held_of r room card = record { recorder = r; room = room; card = card }

-- the first block that is left has a number of 32 bits, and so have the three behind it
pub low_first : (h : Held) (b : Book) → Sound h b → first_left b < 4294967292
low_first h b s = go b.fresh refl
  where
    go : (t : Bool) → b.fresh ≡ t → first_left b < 4294967292
    go true e = omega (arith, first-new b e)
    go false e = omega (arith, first-old b e, (s.on (s.front e).0).inside, s.small)

pub number_is : (ps : List Packet) (g : Ring) (n : ℕ) → Written ps g n → n < 4294967292
    → g.writer.number ≡ last_block_of ps
number_is ps g n w l = omega (arith, w.ring.number, w.high)

left_is : (number from : ℕ) → from ≤ number → number < from + 4
    → left_of number from ≡ cond (eqb number from) 0 (suc (number - from))
unfolding left_of
left_is number from l h = let e : min (number - from) 3 + 1 ≡ suc (number - from) = omega arith in rw e

-- ---- an end behind the packets

-- the recorder takes the writer as it is, between two packets
abbrev rested : Writer → Writer
rested w = record { number = w.number; used = w.used; first = w.first; done = 0 }

rests-same : (xs : List Packet) (w : Writer) (room : List ℕ) (n : ℕ)
    → InRing xs (ring_of w room) n (length (data_of xs)) 0 xs
    → InRing xs (ring_of (rested w) room) n (length (data_of xs)) 0 xs
rests-same xs w room n r = record {
  long = r.long;
  number = r.number;
  used = r.used;
  done = refl;
  first = r.first;
  full = r.full;
  held = r.held;
}

pub later-ring : (xs : List Packet) (g : Ring) (n m : ℕ) → n ≤ m → InRing xs g n (length (data_of xs)) 0 xs
    → InRing xs g m (length (data_of xs)) 0 xs
later-ring xs g n m l r = record {
  long = r.long;
  number = r.number;
  used = r.used;
  done = r.done;
  first = r.first;
  full = λ k x y. r.full k (omega arith) y;
  held = r.held;
}

written-rested : (xs : List Packet) (g : Ring) (n : ℕ) → Written xs g n
    → Written xs (ring_of (rested g.writer) g.room) n
written-rested xs g n w = record {
  ring = rests-same xs g.writer g.room n w.ring;
  fine = w.fine;
  fits = w.fits;
  low = w.low;
  high = w.high;
}

written-ended : (xs : List Packet) (e : Packet) (g : Ring) (n : ℕ) → Writable e → length e.bytes ≡ 10
    → Written xs g n
    → Written xs (ring_of (rested g.writer) (end_room e g)) n
written-ended xs e g n fine short w = record {
  ring = rests-same xs g.writer (end_room e g) n
      (end_stays xs e g n fine short w.ring w.fits w.low w.high);
  fine = w.fine;
  fits = w.fits;
  low = w.low;
  high = w.high;
}

ended-ready : (xs : List Packet) (e : Packet) (g : Ring) (n : ℕ) → Writable e → length e.bytes ≡ 10 → Written xs g n
    → (k : ℕ) → n ≤ k → k ≤ last_block_of xs → slot_in (end_room e g) k ≡ block_of (xs ++ (e ∷ [])) k
ended-ready xs e g n fine short w k x y = end-ring xs e g n fine short w.ring w.fits w.low w.high k x y

end-writable : (finished survey overruns : ℕ) → Writable (end_record finished survey overruns)
end-writable finished survey overruns = record { numbered = omega arith; small = omega arith; short = omega arith }

end_short : (finished survey overruns : ℕ) → length (end_record finished survey overruns).bytes ≡ 10
end_short finished survey overruns = refl

-- ---- a begin

begin-writable : (survey : ℕ) → Writable (begin_record survey)
begin-writable survey = record { numbered = omega arith; small = omega arith; short = omega arith }

begin-written : (survey : ℕ) (room : List ℕ) → length room ≡ 2048
    → Written (begin_record survey ∷ []) (begin_ring survey room) 0
unfolding data_of
begin-written survey room l = record {
  ring = packet-ring [] (begin_record survey) (ring_of new_writer room) 0 (begin-writable survey) (empty-ring room l)
      (omega arith) (omega arith);
  fine = more (begin-writable survey) none;
  fits = omega arith;
  low = omega arith;
  high = omega arith;
}

begin-block : (survey : ℕ) → last_block_of (begin_record survey ∷ []) ≡ 0
unfolding data_of
begin-block survey = omega arith

-- Whatever was recorded before. A card with an earlier survey keeps it until the begin's block is stored.
pub begin-sound : (h : Held) (b : Book) (survey : ℕ) → length h.room ≡ 2048 → length h.card % 512 ≡ 0
    → blocks_of h.card ≤ 4294967292
    → (b.begun ≡ true → OnCard h.card b.kept b.end)
    → Sound (stepped (call (begin survey)) h) (noted_call (begin survey) b)
unfolding stepped noted_call
begin-sound h b survey long whole small on =
    let g = begin_ring survey h.room in
    let e = end_record 0 survey 0 in
    let w : Written (begin_record survey ∷ []) (begin_ring survey h.room) 0 = begin-written survey h.room long in
    let is = begin-is survey h.room (end_room e g) g long refl refl in
    let same : held_of (begun survey g.writer) (end_room e g) h.card ≡ stepped (call (begin survey)) h =
    ap₂ (λ (x : Result Recorder Refusal) (y : List ℕ). held_of (recorder_after x h.recorder) y h.card) is.0 is.1 in
    let none : last_block_of (begin_record survey ∷ []) ≡ 0 = begin-block survey in
    subst (λ (x : Held). Sound x (noted_call (begin survey) b)) same
    (record {
      whole = whole;
      small = small;
      left = refl;
      survey = refl;
      from = refl;
      written = written-ended (begin_record survey ∷ []) e g 0 (end-writable 0 survey 0) (end_short 0 survey 0) w;
      on = on;
      idle = λ z. absurd (omega arith);
      front = λ f. absurd (true≢false f);
      flush = λ z. record {
        few = omega arith;
        short = end_short 0 survey 0;
        fine = end-writable 0 survey 0;
        ready = ended-ready (begin_record survey ∷ []) e g 0 (end-writable 0 survey 0) (end_short 0 survey 0) w;
        stored = λ k x y. absurd (omega arith);
        inside = λ x. absurd (omega arith);
        later = λ f. absurd (true≢false f);
        once = λ f. (refl, none);
      };
    })

-- ---- packets that are taken

-- the packets ps stand in the ring g, from the first block that is not stored for good on; those recorded so far are
-- the front
record Grows (h : Held) (b : Book) (ps : List Packet) (g : Ring) : Type 0 where
  sound : Sound h b
  quiet : b.left ≡ 0
  front : Front b.kept ps
  written : Written ps g (first_left b)

old : (h : Held) (b : Book) → Sound h b → b.left ≡ 0 → first_left b ≡ last_block_of b.kept
old h b s q = first-old b (s.idle q).0

-- the numbers that the recorder compares are those of the book
grows-left : (h : Held) (b : Book) (ps : List Packet) (g : Ring) → Grows h b ps g
    → left_of g.writer.number h.recorder.from ≡ left_by b.kept ps
grows-left h b ps g w =
    let n : g.writer.number ≡ last_block_of ps = number_is ps g (first_left b) w.written (low_first h b w.sound) in
    let f : h.recorder.from ≡ last_block_of b.kept = w.sound.from ∙ old h b w.sound w.quiet in
    let e = old h b w.sound w.quiet in
    ap₂ left_of n f
    ∙ left_is (last_block_of ps) (last_block_of b.kept) (omega (arith, w.written.low)) (omega (arith, w.written.high))

-- no block is full yet
grow-kept : (h : Held) (b : Book) (ps : List Packet) (g : Ring) (e : Packet) → Grows h b ps g
    → g.writer.number ≡ h.recorder.from
    → Sound (held_of (after h.recorder g.writer 0) g.room h.card) (grown b ps e)
unfolding grown
grow-kept h b ps g e w same =
    let s = w.sound in
    let n : g.writer.number ≡ last_block_of ps = number_is ps g (first_left b) w.written (low_first h b s) in
    let f : h.recorder.from ≡ last_block_of b.kept = s.from ∙ old h b s w.quiet in
    let is : last_block_of ps ≡ last_block_of b.kept = sym n ∙ same ∙ f in
    let zero_left : left_by b.kept ps ≡ 0 = rw (eq-eqb (last_block_of ps) (last_block_of b.kept) is) in
    record {
      whole = s.whole;
      small = s.small;
      left = sym zero_left;
      survey = s.survey;
      from = s.from;
      written = written-rested ps g (first_left b) w.written;
      on = s.on;
      idle = λ z. ((s.idle w.quiet).0, is);
      front = λ z. ((s.front z).0, w.front);
      flush = λ z. absurd (z zero_left);
    }

-- a block is full: the end goes behind the packets, and the blocks are to be stored
grow-flush : (h : Held) (b : Book) (ps : List Packet) (g : Ring) (e : Packet) → Grows h b ps g
    → (g.writer.number ≡ h.recorder.from → ⊥)
    → Writable e → length e.bytes ≡ 10 → Sound (held_of (flushed h.recorder g.writer) (end_room e g) h.card)
    (grown b ps e)
unfolding grown
grow-flush h b ps g e w other fine short =
    let s = w.sound in
    let n : g.writer.number ≡ last_block_of ps = number_is ps g (first_left b) w.written (low_first h b s) in
    let first : first_left b ≡ last_block_of b.kept = old h b s w.quiet in
    let f : h.recorder.from ≡ last_block_of b.kept = s.from ∙ first in
    let apart : last_block_of ps ≡ last_block_of b.kept → ⊥ = λ z. other (n ∙ z ∙ sym f) in
    let some : left_by b.kept ps ≡ suc (last_block_of ps - last_block_of b.kept) =
    rw (ne_eqb (last_block_of ps) (last_block_of b.kept) apart) in
    let low = w.written.low in
    record {
      whole = s.whole;
      small = s.small;
      left = grows-left h b ps g w;
      survey = s.survey;
      from = s.from;
      written = written-ended ps e g (first_left b) fine short w.written;
      on = s.on;
      idle = λ z. absurd (omega arith);
      front = λ z. ((s.front z).0, w.front);
      flush = λ z. record {
        few = omega arith;
        short = short;
        fine = fine;
        ready = ended-ready ps e g (first_left b) fine short w.written;
        stored = λ k x y. absurd (omega arith);
        inside = λ x. absurd (omega arith);
        later = λ x. later_by (last_block_of b.kept) (last_block_of ps) (omega arith) apart;
        once = λ x. absurd (false≢true (sym (s.idle w.quiet).0 ∙ x));
      };
    }
  where
    later_by : (x y : ℕ) → x ≤ y → (y ≡ x → ⊥) → x < y
    later_by x y l a = elim (dec_lt x y) [
      | yes z ↦ z
      | no z ↦ absurd (a (omega arith))
    ]

-- ---- a packet

either-false : (x y : Bool) → (x || y) ≡ false → (x ≡ false) × (y ≡ false)
either-false true y h = absurd (true≢false h)
either-false false y h = (refl, h)

taken-parts : (b : Book) (p : Packet) → turned b p ≡ false → (b.left ≡ 0) × Writable p
taken-parts b p t =
    let x = either-false (not (eqb b.left 0)) _ t in
    let y = either-false (ltb 1024 (length p.bytes)) _ x.1 in
    let z = either-false (eqb p.endpoint 0) (ltb 15 p.endpoint) y.1 in
    let q : b.left ≡ 0 = eqb-true b.left 0 (not-false (eqb b.left 0) x.0) in (
      q,
      record {
        numbered = some p.endpoint (eqb-false p.endpoint 0 z.0);
        small = ltb-false 15 p.endpoint z.1;
        short = ltb-false 1024 (length p.bytes) y.0;
      },
    )
  where
    some : (n : ℕ) → (n ≡ 0 → ⊥) → 0 < n
    some n a = elim (ℕ_discrete n 0) [
      | yes z ↦ absurd (a z)
      | no z ↦ omega arith
    ]

refuses-as : (h : Held) (b : Book) (p : Packet) → Sound h b → refuses h.recorder p h.room ≡ turned b p
refuses-as h b p s =
    ap₂ (λ (x y : Bool). (not x || not y) ||
    (ltb 1024 (length p.bytes) || (eqb p.endpoint 0 || ltb 15 p.endpoint)))
    (eq-eqb (length h.room) 2048 s.written.ring.long) (ap (λ (n : ℕ). eqb n 0) s.left)

-- a call's answer and its room make the next step
as_answered : (h : Held) (c : Call) (r : Recorder) (room : List ℕ) → Ok r ≡ answered c h.recorder h.room
    → room ≡ room_after c h.recorder h.room → held_of r room h.card ≡ stepped (call c) h
unfolding stepped
as_answered h c r room x y = ap₂ (λ (a : Result Recorder Refusal) (z : List ℕ). held_of
    (recorder_after a h.recorder) z h.card) x y

as-refused : (h : Held) (c : Call) → Err Card ≡ answered c h.recorder h.room
    → h.room ≡ room_after c h.recorder h.room → h ≡ stepped (call c) h
unfolding stepped
as-refused h c x y = ap₂ (λ (a : Result Recorder Refusal) (z : List ℕ). held_of
    (recorder_after a h.recorder) z h.card) x y

pub packet-sound : (h : Held) (b : Book) (p : Packet) (overruns : ℕ) → Sound h b
    → Sound (stepped (call (packet p overruns)) h) (noted_call (packet p overruns) b)
unfolding noted_call
packet-sound h b p overruns s = go (turned b p) refl
  where
    go : (t : Bool) → turned b p ≡ t
        → Sound (stepped (call (packet p overruns)) h)
        (cond (turned b p) b (grown b (padded (b.all ++ (p ∷ []))) (end_record 0 b.survey overruns)))
    go true t =
        let is = record-refused h.recorder p overruns h.room (refuses-as h b p s ∙ t) in
        rw t (subst (λ (x : Held). Sound x b) (as-refused h (packet p overruns) is.0 is.1) s)
    go false t =
        let parts = taken-parts b p t in
        let r = h.recorder in
        let g = record_ring p (ring_in h.recorder h.room) in
        let ps = padded (b.all ++ (p ∷ [])) in
        let no-refusal : refuses h.recorder p h.room ≡ false = refuses-as h b p s ∙ t in
        let w : Grows h b (padded (b.all ++ (p ∷ []))) (record_ring p (ring_in h.recorder h.room)) = record {
          sound = s;
          quiet = parts.0;
          front = padded-front b.kept (b.all ++ (p ∷ []))
              (front-more b.kept b.all (p ∷ []) (s.front (s.idle parts.0).0).1);
          written = record-ring b.all p (ring_in h.recorder h.room) (first_left b) parts.1 s.written
              (old h b s parts.0 ∙ sym (s.idle parts.0).1);
        } in
        let e = end_record 0 b.survey overruns in
        let same_end : end_record 0 h.recorder.survey overruns ≡ end_record 0 b.survey overruns =
        ap (λ (n : ℕ). end_record 0 n overruns) s.survey in
        rw t (elim (ℕ_discrete g.writer.number r.from) [
          | yes z ↦ (let is = record-kept r (after r g.writer 0) p overruns h.room g no-refusal refl z refl in
              subst (λ (x : Held). Sound x (grown b ps e)) (as_answered h (packet p overruns) _ _ is.0 is.1)
              (grow-kept h b ps g e w z))
          | no z ↦ (let is = record-flushed r (flushed r g.writer) p overruns h.room
              (end_room (end_record 0 r.survey overruns) g) g
              (left_of g.writer.number r.from) no-refusal refl z refl refl refl in
              subst (λ (x : Held). Sound x (grown b ps e)) (as_answered h (packet p overruns) _ _ is.0 is.1)
              (subst (λ (x : Packet). Sound (held_of (flushed r g.writer) (end_room x g) h.card) (grown b ps e))
              (sym same_end)
              (grow-flush h b ps g e w z (end-writable 0 b.survey overruns) (end_short 0 b.survey overruns))))
        ])

-- ---- a finish

pub finish-sound : (h : Held) (b : Book) (overruns : ℕ) → Sound h b
    → Sound (stepped (call (finish overruns)) h) (noted_call (finish overruns) b)
unfolding noted_call
finish-sound h b overruns s = go (not (eqb b.left 0)) refl
  where
    busy-as : busy h.recorder h.room ≡ not (eqb b.left 0)
    busy-as =
        ap₂ (λ (x y : Bool). not x || not y) (eq-eqb (length h.room) 2048 s.written.ring.long)
        (ap (λ (n : ℕ). eqb n 0) s.left)

    go : (t : Bool) → not (eqb b.left 0) ≡ t
        → Sound (stepped (call (finish overruns)) h)
        (cond (not (eqb b.left 0)) b (grown b (filled_up b.all) (end_record 1 b.survey overruns)))
    go true t =
        let is = finish-refused h.recorder overruns h.room (busy-as ∙ t) in
        rw t (subst (λ (x : Held). Sound x b) (as-refused h (finish overruns) is.0 is.1) s)
    go false t =
        let q : b.left ≡ 0 = eqb-true b.left 0 (not-false (eqb b.left 0) t) in
        let r = h.recorder in
        let g = padded_ring h.recorder h.room in
        let ps = filled_up b.all in
        let e = end_record 1 b.survey overruns in
        let here : first_left b ≡ last_block_of b.all = old h b s q ∙ sym (s.idle q).1 in
        let w : Grows h b (filled_up b.all) (padded_ring h.recorder h.room) = record {
          sound = s;
          quiet = q;
          front = front-more b.kept b.all _ (s.front (s.idle q).0).1;
          written = padding-ring b.all (ring_in h.recorder h.room) (first_left b) s.written.fine
              s.written.ring (omega arith) (omega arith);
        } in
        let far = padding-far b.all in
        let n : g.writer.number ≡ last_block_of ps = number_is ps g (first_left b) w.written (low_first h b s) in
        let other : g.writer.number ≡ r.from → ⊥ = λ z. omega (arith, far.0, s.from) in
        let is = finish-is r (flushed r g.writer) overruns h.room (end_room (end_record 1 r.survey overruns) g) g
        (left_of g.writer.number r.from) (busy-as ∙ t) refl refl refl refl in
        let same_end : end_record 1 h.recorder.survey overruns ≡ end_record 1 b.survey overruns =
        ap (λ (x : ℕ). end_record 1 x overruns) s.survey in
        rw t (subst (λ (x : Held). Sound x (grown b ps e)) (as_answered h (finish overruns) _ _ is.0 is.1)
        (subst (λ (x : Packet). Sound (held_of (flushed r g.writer) (end_room x g) h.card) (grown b ps e))
        (sym same_end)
        (grow-flush h b ps g e w other (end-writable 1 b.survey overruns) (end_short 1 b.survey overruns))))
