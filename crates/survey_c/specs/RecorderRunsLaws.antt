-- The exported calls' six numbers, carried from call to call, are the recorder; so a card survives them too. Assumes
-- nothing.
use Rattle.std.specs.Prelude.{◌≡◌, refl, Bool, true, false, cond, List, [], ◌∷◌, ℕ, ◌+◌, ◌/◌, ◌<◌, ltb, eqb, length, Result, Ok, Err}
use Rattle.std.proofs.Common.{sym, ap, subst, ◌∙◌, arith, eq-eqb, ne_eqb}
use Rattle.std.proofs.lemmas.Bool.{false≢true}
use Rattle.std.proofs.Math.Decide.{ℕ_discrete}
use Rattle.card.specs.Packet.{Packet, size, data_of}
use Rattle.card.specs.Kept.{first_in}
use Rattle.recorder.specs.declared.recorder.Recorder.{Recorder}
use Rattle.card.specs.declared.refusal.Refusal.{Refusal}
use Rattle.recorder.specs.Recording.{stored_of}
use Rattle.recorder.specs.Survives.{Call, begin, answered, room_after, recorder_after, Held, blocks_of, Act, call, misled}
use Rattle.recorder.specs.Survives.{store, stepped, run}
use Rattle.recorder.specs.Flush.{put_block}
use Rattle.recorder.specs.Survives.{Book, noted_call, noted, book, blank, Survives}
use Rattle.recorder.specs.Sound.{Sound}
use Rattle.recorder.proofs.CallsLaws.{begin-sound}
use Rattle.recorder.proofs.SurvivesLaws.{act-sound, same_blocks, survives}
use Rattle.survey_c.specs.Recorder.{recorder_in, recorder_numbers, recorder_by}
use Rattle.survey_c.specs.RecorderLaws.{recorder-back}
use Rattle.survey_c.specs.RecorderRuns.{Lent, to_store, store_place, store_block, made, all_made, held, CallsSurvive}

-- ---- numbers that come back

first-low : (ps : List Packet) (k d : ℕ) → first_in k d ps < 65536
unfolding first_in
first-low [] k d = omega arith
first-low (p ∷ ps) k d = elim (ℕ_discrete (d / 504) k) [
  | yes h ↦ rw (eq-eqb (d / 504) k h) (omega arith)
  | no h ↦ rw (ne_eqb (d / 504) k h) (first-low ps k (d + size p))
]

sound_back : (h : Held) (b : Book) → Sound h b → recorder_in (recorder_numbers h.recorder) ≡ h.recorder
sound_back h b s =
    recorder-back h.recorder (omega (arith, s.written.ring.used))
    (omega (arith, s.written.ring.first, first-low b.all (length (data_of b.all) / 504) 0))

-- a recorder that was read from six numbers is small
used_low : (numbers : List ℕ) → (recorder_in numbers).used < 65536
unfolding recorder_in
used_low numbers = omega arith

first-number-low : (numbers : List ℕ) → (recorder_in numbers).first < 65536
unfolding recorder_in
first-number-low numbers = omega arith

stored_same : (r : Recorder) → ((stored_of r).used ≡ r.used) × ((stored_of r).first ≡ r.first)
unfolding stored_of
stored_same r = elim (ℕ_discrete r.left 0) [
  | yes z ↦ rw (eq-eqb r.left 0 z) (refl, refl)
  | no z ↦ elim (ℕ_discrete r.left 1) [
    | yes o ↦ rw (ne_eqb r.left 0 z, eq-eqb r.left 1 o) (refl, refl)
    | no o ↦ rw (ne_eqb r.left 0 z, ne_eqb r.left 1 o) (refl, refl)
  ]
]

stored_back : (numbers : List ℕ)
    → recorder_in (recorder_numbers (stored_of (recorder_in numbers))) ≡ stored_of (recorder_in numbers)
stored_back numbers =
    let same = stored_same (recorder_in numbers) in
    recorder-back (stored_of (recorder_in numbers)) (omega (arith, same.0, used_low numbers))
    (omega (arith, same.1, first-number-low numbers))

-- ---- an act

-- an answer that is stored is read back, where the recorder that it gives is small
answer_back : (numbers : List ℕ) (a : Result Recorder Refusal)
    → recorder_in (recorder_numbers (recorder_after a (recorder_in numbers))) ≡ recorder_after a (recorder_in numbers)
    → recorder_in (recorder_by a numbers) ≡ recorder_after a (recorder_in numbers)
answer_back numbers (Ok r) e = e
answer_back numbers (Err why) e = refl

abbrev lent_of : List ℕ → List ℕ → List ℕ → Lent
lent_of numbers room card = record { numbers = numbers; room = room; card = card }

abbrev held_of : Recorder → List ℕ → List ℕ → Held
held_of r room card = record { recorder = r; room = room; card = card }

call_same : (h : Lent) (c : Call) (b : Book) → Sound (stepped (call c) (held h)) b
    → held (made (call c) h) ≡ stepped (call c) (held h)
unfolding made stepped
call_same h c b s =
    ap (λ (r : Recorder). held_of r (room_after c (recorder_in h.numbers) h.room) h.card)
    (answer_back h.numbers (answered c (recorder_in h.numbers) h.room)
    (sound_back (stepped (call c) (held h)) b s))

misled-made : (h : Lent) (c : Call) (room : List ℕ) (n : length room ≡ 2048 → ⊥) (b : Book)
    → Sound (stepped (misled c room n) (held h)) b
    → held (made (misled c room n) h) ≡ stepped (misled c room n) (held h)
unfolding made stepped
misled-made h c room n b s =
    ap (λ (r : Recorder). held_of r h.room h.card)
    (answer_back h.numbers (answered c (recorder_in h.numbers) room)
    (sound_back (stepped (misled c room n) (held h)) b s))

store_same : (h : Lent) → held (made store h) ≡ stepped store (held h)
unfolding made stepped recorder_in
store_same h = go (eqb (to_store h.numbers) 0) (ltb (store_place h.numbers) (blocks_of h.card))
  where
    new : List ℕ
    new = recorder_numbers (stored_of (recorder_in h.numbers))

    put : List ℕ
    put = put_block h.card (store_place h.numbers) (store_block h.numbers h.room)

    go : (t v : Bool)
        → held (cond t (lent_of new h.room h.card) (cond v (lent_of new h.room put) h))
        ≡ cond t (held_of (stored_of (recorder_in h.numbers)) h.room h.card)
        (cond v (held_of (stored_of (recorder_in h.numbers)) h.room put) (held h))
    go true v = ap (λ (r : Recorder). held_of r h.room h.card) (stored_back h.numbers)
    go false true = ap (λ (r : Recorder). held_of r h.room put) (stored_back h.numbers)
    go false false = refl

act-same : (h : Lent) (a : Act) (b : Book) → Sound (stepped a (held h)) b → held (made a h) ≡ stepped a (held h)
act-same h (call c) b s = call_same h c b s
act-same h (misled c room n) b s = misled-made h c room n b s
act-same h store b s = store_same h

-- ---- a list

made-blocks : (h : Lent) (a : Act) (b : Book) → Sound (held h) b
    → Sound (stepped a (held h)) (noted (blocks_of h.card) a b)
    → blocks_of (made a h).card ≡ blocks_of h.card
made-blocks h a b s n = ap (λ (x : Held). blocks_of x.card) (act-same h a _ n) ∙ same_blocks (held h) b a s

all_same : (acts : List Act) (h : Lent) (b : Book) (blocks : ℕ) → blocks ≡ blocks_of h.card → Sound (held h) b
    → held (all_made acts h) ≡ run acts (held h)
unfolding all_made run
all_same [] h b blocks e s = refl
all_same (a ∷ acts) h b blocks e s =
    let next = act-sound (held h) b a s in
    let same = act-same h a (noted (blocks_of h.card) a b) next in
    all_same acts (made a h) (noted (blocks_of h.card) a b) blocks (e ∙ sym (made-blocks h a b s next))
    (subst (λ (x : Held). Sound x (noted (blocks_of h.card) a b)) (sym same) next)
    ∙ ap (run acts) same

-- The exported calls, over any older card: whatever calls follow a begin and wherever the power goes, a reader gives
-- what the book says.
pub calls-survive : CallsSurvive
unfolding all_made run
calls-survive h long whole small survey acts =
    let next = begin-sound (held h) blank survey long whole small (λ e. absurd (false≢true e)) in
    let same = call_same h (begin survey) (noted_call (begin survey) blank) next in
    let list : held (all_made (call (begin survey) ∷ acts) h) ≡ run (call (begin survey) ∷ acts) (held h) =
    all_same acts (made (call (begin survey)) h) (noted_call (begin survey) blank)
    (blocks_of (made (call (begin survey)) h).card) refl
    (subst (λ (x : Held). Sound x (noted_call (begin survey) blank)) (sym same) next)
    ∙ ap (run acts) same in
    subst (λ (x : Held). Survives x (book (blocks_of h.card) (call (begin survey) ∷ acts) blank)) (sym list)
    (survives (held h) long whole small survey acts)
