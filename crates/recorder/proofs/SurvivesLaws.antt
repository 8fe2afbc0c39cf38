-- Laws on the definitions of Survives.antt: whatever the calls, a reader of the card gives what the book says, and
-- nothing older.
use Rattle.std.specs.Prelude.{◌≡◌, refl, Bool, true, false, cond, List, [], ◌∷◌, ◌++◌, ℕ, ◌+◌, ◌/◌, ◌≤◌, ◌<◌, ltb, eqb, length, Result}
use Rattle.std.proofs.Common.{sym, ap, subst, ◌∙◌, arith, ltb-true, eq-eqb, ne_eqb}
use Rattle.std.proofs.lemmas.Bool.{false≢true}
use Rattle.std.proofs.Math.Decide.{ℕ_discrete}
use Rattle.card.specs.Packet.{Packet, data_of}
use Rattle.card.specs.Kept.{kept_from}
use Rattle.card.specs.Reading.{block_end}
use Rattle.card.specs.Written.{block_of}
use Rattle.card.specs.Streams.{block_at, good_block, view}
use Rattle.card.specs.Runs.{read_run}
use Rattle.card.proofs.StreamLaws.{length-snoc}
use Rattle.card.specs.declared.refusal.Refusal.{Refusal}
use Rattle.recorder.specs.declared.recorder.Recorder.{Recorder}
use Rattle.recorder.specs.RingLaws.{slot-long}
use Rattle.recorder.specs.Recording.{stored_of}
use Rattle.recorder.specs.RecordingLaws.{record-refused, begin-refused, finish-refused, busy-room, refuses-busy}
use Rattle.recorder.specs.Flush.{put_block, Torn, OnCard}
use Rattle.recorder.proofs.FlushLaws.{put-long, block-good, reads_end, on-card-gives}
use Rattle.recorder.specs.Survives.{Call, begin, packet, finish, recorder_after, Held, store_of, blocks_of, Act}
use Rattle.recorder.specs.Survives.{call, misled, store, stepped, run, last_block_of, Book, first_left, noted_call}
use Rattle.recorder.specs.Survives.{noted, book, blank, outside, given_at, Survives, AlwaysSurvives}
use Rattle.recorder.specs.KeptLaws.{kept-good, kept-outside, outside-last}
use Rattle.recorder.specs.Sound.{Sound}
use Rattle.recorder.proofs.GrownLaws.{all_snoc}
use Rattle.recorder.proofs.CallsLaws.{first-old, held_of, begin-sound, packet-sound, finish-sound}
use Rattle.recorder.proofs.StoresLaws.{store-sound, flushing, at_place, not-fresh, u-long, u_same, last-inside}
use Rattle.recorder.proofs.StoresLaws.{still-on, others_are, asked}

-- ---- a call that is lent another room

misled-same : (h : Held) (c : Call) (room : List ℕ) (n : length room ≡ 2048 → ⊥) → h ≡ stepped (misled c room n) h
unfolding stepped
misled-same h (begin survey) room n =
    ap (λ (a : Result Recorder Refusal). held_of (recorder_after a h.recorder) h.room h.card)
    (begin-refused survey room n).0
misled-same h (packet p overruns) room n =
    ap (λ (a : Result Recorder Refusal). held_of (recorder_after a h.recorder) h.room h.card)
    (record-refused h.recorder p overruns room
    (refuses-busy h.recorder p room (busy-room h.recorder room n))).0
misled-same h (finish overruns) room n =
    ap (λ (a : Result Recorder Refusal). held_of (recorder_after a h.recorder) h.room h.card)
    (finish-refused h.recorder overruns room (busy-room h.recorder room n)).0

-- ---- a list

call-sound : (h : Held) (b : Book) (c : Call) → Sound h b → Sound (stepped (call c) h) (noted_call c b)
call-sound h b (begin survey) s = begin-sound h b survey s.written.ring.long s.whole s.small s.on
call-sound h b (packet p overruns) s = packet-sound h b p overruns s
call-sound h b (finish overruns) s = finish-sound h b overruns s

pub act-sound : (h : Held) (b : Book) (a : Act) → Sound h b → Sound (stepped a h) (noted (blocks_of h.card) a b)
unfolding noted
act-sound h b (call c) s = call-sound h b c s
act-sound h b (misled c room n) s = subst (λ (x : Held). Sound x b) (misled-same h c room n) s
act-sound h b store s = store-sound h b s

-- a card keeps its length
pub same_blocks : (h : Held) (b : Book) (a : Act) → Sound h b → blocks_of (stepped a h).card ≡ blocks_of h.card
unfolding stepped
same_blocks h b (call c) s = refl
same_blocks h b (misled c room n) s = refl
same_blocks h b store s = go (eqb h.recorder.left 0) (ltb (store_of h).place (blocks_of h.card)) refl
  where
    go : (t v : Bool) → ltb (store_of h).place (blocks_of h.card) ≡ v
        → blocks_of (cond t (held_of (stored_of h.recorder) h.room h.card)
        (cond v (held_of (stored_of h.recorder) h.room (put_block h.card (store_of h).place (store_of h).block))
        h)).card ≡ blocks_of h.card
    go true v e = refl
    go false false e = refl
    go false true e =
        ap (λ (x : ℕ). x / 512) (put-long h.card (store_of h).place (store_of h).block
        (ltb-true (store_of h).place (blocks_of h.card) e)
        (slot-long h.room (store_of h).place s.written.ring.long))

pub run_sound : (acts : List Act) (h : Held) (b : Book) (blocks : ℕ) → blocks ≡ blocks_of h.card → Sound h b
    → Sound (run acts h) (book blocks acts b)
unfolding run book
run_sound [] h b blocks e s = s
run_sound (a ∷ acts) h b blocks e s =
    run_sound acts (stepped a h) (noted blocks a b) blocks (e ∙ sym (same_blocks h b a s))
    (subst (λ (x : ℕ). Sound (stepped a h) (noted x a b)) (sym e) (act-sound h b a s))

-- ---- what a reader gives

-- of a card on which the packets are, with their end
on-gives : (s reads : List ℕ) (xs : List Packet) (e : Packet) → OnCard s xs e → 1024 ≤ length reads
    → read_run s reads ≡ xs ++ (e ∷ [])
on-gives s reads xs e c r =
    let l = length-snoc xs e in
    on-card-gives s reads xs e c r
    ∙ kept-good (view s) (xs ++ (e ∷ [])) 0
    (λ k m. block-good s (xs ++ (e ∷ [])) k (omega (arith, c.short, c.fits, c.inside))
    (c.written k (omega (arith, c.short, c.fits))))

-- of a card in which a store of the last block that is left was cut
module _ (h : Held) (b : Book) (s : Sound h b) (some : b.left ≡ 0 → ⊥) (one : b.left ≡ 1)
    (inside : (store_of h).place < blocks_of h.card)
    (torn : List ℕ) (t : Torn h.card (store_of h) torn) (reads : List ℕ) (r : 1024 ≤ length reads) where
  abbrev cut_card : List ℕ
  cut_card = put_block h.card (store_of h).place torn

  abbrev all_with_end : List Packet
  all_with_end = b.all ++ (b.next ∷ [])

  cut-long : length cut_card ≡ length h.card
  cut-long = u-long h b s some inside torn t.long

  cut-other : (k : ℕ) → ((store_of h).place ≡ k → ⊥) → k ≤ last_block_of b.all
      → block_at cut_card k ≡ block_of all_with_end k
  cut-other k n l = others_are h b s some inside torn t.long one k n l

  cut_inside : last_block_of b.all < blocks_of cut_card
  cut_inside = omega (arith, cut-long, last-inside h b s some inside torn t.long one)

  -- the block at the cut, where it is good
  cut-whole : good_block cut_card (store_of h).place ≡ true
      → block_at cut_card (store_of h).place ≡ block_of all_with_end (store_of h).place
  cut-whole g =
      u_same h b s some inside torn t.long ∙ t.either (λ bad. false≢true (sym bad ∙ g)) ∙ asked h b s some

  cut-written : (k : ℕ) → k ≤ last_block_of b.all → good_block cut_card k ≡ true
      → block_at cut_card k ≡ block_of all_with_end k
  cut-written k l g = elim (ℕ_discrete (store_of h).place k) [
    | yes z ↦ subst (λ (x : ℕ). block_at cut_card x ≡ block_of all_with_end x) z
        (cut-whole (subst (λ (x : ℕ). good_block cut_card x ≡ true) (sym z) g))
    | no z ↦ cut-other k z l
  ]

  reads_all : good_block cut_card (last_block_of b.all) ≡ true
      → read_run cut_card reads ≡ kept_from (view cut_card) 0 all_with_end
  reads_all g =
      let fl = flushing h b s some in
      reads_end cut_card reads b.all b.next (omega (arith, cut-long, s.whole))
      (all_snoc s.written.fine fl.fine) cut_inside
      fl.short s.written.fits cut-written g r

  -- the blocks of the packets and their end
  in_last : (k : ℕ) → k < block_end (0 + length (data_of all_with_end)) → k ≤ last_block_of b.all
  in_last k l =
      let fl = flushing h b s some in
      omega (arith, length-snoc b.all b.next, fl.short, s.written.fits)

  good-other : (k : ℕ) → ((store_of h).place ≡ k → ⊥) → k ≤ last_block_of b.all → good_block cut_card k ≡ true
  good-other k n l = block-good cut_card all_with_end k (omega (arith, cut_inside)) (cut-other k n l)

  gives_whole : good_block cut_card (store_of h).place ≡ true → read_run cut_card reads ≡ b.all ++ (b.next ∷ [])
  gives_whole g = reads_all (each (last_block_of b.all) (omega arith))
      ∙ kept-good (view cut_card) all_with_end 0 (λ k l. each k (in_last k l))
    where
      each : (k : ℕ) → k ≤ last_block_of b.all → good_block cut_card k ≡ true
      each k l = elim (ℕ_discrete (store_of h).place k) [
        | yes z ↦ subst (λ (x : ℕ). good_block cut_card x ≡ true) z g
        | no z ↦ good-other k z l
      ]

  gives_cut : b.fresh ≡ false → good_block cut_card (store_of h).place ≡ false
      → read_run cut_card reads ≡ outside (first_left b) 0 b.all ++ (b.next ∷ [])
  gives_cut old-one bad =
      let at : (store_of h).place ≡ first_left b = omega (arith, at_place h b s some) in
      let behind : first_left b < last_block_of b.all =
      omega (arith, first-old b old-one, (flushing h b s some).later old-one) in
      reads_all (good-other (last_block_of b.all) (λ z. omega arith) (omega arith))
      ∙ kept-outside (view cut_card) (first_left b) all_with_end 0
      (subst (λ (x : ℕ). good_block cut_card x ≡ false) at bad)
      (λ k n l. good-other k (λ z. n (sym z ∙ at)) (in_last k l))
      ∙ outside-last (first_left b) b.all b.next 0 (omega arith)

-- ---- the theorem

sound-survives : (h : Held) (b : Book) → Sound h b → Survives h b
unfolding given_at
sound-survives h b s = record {
  asks = s.left;
  front = λ e. (s.front e).1;
  little = λ e. (s.idle e).1;
  rests = λ e reads r. on-gives h.card reads b.kept b.end (s.on e) r;
  cut = λ some inside torn t whole is fresh reads r. elim (ℕ_discrete b.left 1) [
    | yes one ↦ rw (eq-eqb b.left 1 one) (by some inside torn t whole is fresh reads r one)
    | no n ↦ rw (ne_eqb b.left 1 n)
        (on-gives (put_block h.card (store_of h).place torn) reads b.kept b.end
        (still-on h b s some inside torn t.long n (s.front (not-fresh h b s some n)).0) r)
  ];
}
  where
    by : (some : b.left ≡ 0 → ⊥) (inside : (store_of h).place < blocks_of h.card) (torn : List ℕ)
        (t : Torn h.card (store_of h) torn)
        → (whole : Bool) → good_block (put_block h.card (store_of h).place torn) (store_of h).place ≡ whole
        → (b.fresh ≡ true → whole ≡ true)
        → (reads : List ℕ) → 1024 ≤ length reads → b.left ≡ 1
        → read_run (put_block h.card (store_of h).place torn) reads
        ≡ cond whole b.all (outside (first_left b) 0 b.all) ++ (b.next ∷ [])
    by some inside torn t true is fresh reads r one = gives_whole h b s some one inside torn t reads r is
    by some inside torn t false is fresh reads r one =
        gives_cut h b s some one inside torn t reads r (not_new b.fresh refl) is
      where
        not_new : (v : Bool) → b.fresh ≡ v → b.fresh ≡ false
        not_new true e = absurd (false≢true (fresh e))
        not_new false e = e

begin-card : (h : Held) (survey : ℕ) → blocks_of (stepped (call (begin survey)) h).card ≡ blocks_of h.card
unfolding stepped
begin-card h survey = refl

-- Over any older card, whatever calls follow a begin and wherever the power goes, a reader gives what the book says.
pub survives : AlwaysSurvives
unfolding run book noted
survives h long whole small survey acts =
    let first-sound = begin-sound h blank survey long whole small (λ e. absurd (false≢true e)) in
    sound-survives (run acts (stepped (call (begin survey)) h))
    (book (blocks_of h.card) acts (noted_call (begin survey) blank))
    (run_sound acts (stepped (call (begin survey)) h) (noted_call (begin survey) blank) (blocks_of h.card)
    (sym (begin-card h survey)) first-sound)
