-- Packet data copied into a room.
use Rattle.std.specs.Prelude.{◌≡◌, ℕ, zero, suc, ◌+◌, ◌-◌, ◌*◌, ◌/◌, ◌%◌, ◌<◌, ◌≤◌, List, ◌∷◌, ◌++◌, length, take, drop, ◌≢◌, slice_index, refl, Option, Some, None, Result, Ok, Err}
use Rattle.std.proofs.Common.{sym, ap, ap₂, ◌∙◌, append_assoc, zero-add, arith, drop-cons, take_all, take-add, drop-drop, length-drop, length-take-le, lt-ltb, le-ltb, eq-eqb, ne_eqb}
use Rattle.std.proofs.Math.Decide.{ℕ_discrete}
use Rattle.std.proofs.lemmas.List.Edits.{take-paste, drop-paste}
use Rattle.std.proofs.Math.Seq.{paste}
use Rattle.std.proofs.lemmas.Slice.{put_mid-paste}
use borrow.Rule.Slice.PartMut.{put_mid}
use Rattle.card.specs.declared.stream.Found.{Found}
use Rattle.card.specs.declared.reader.Packet.{Packet}
use Rattle.card.specs.declared.refusal.Refusal.{Refusal}
use Rattle.card.specs.declared.refusal.Refusal.TheVariants.{Card}
use Rattle.card.specs.Calls.{in_blocks, found_from, given, put, next_given, next_put, next_of, room_of}
use Rattle.card.specs.Reading.{View, total, bytes_from}
use Rattle.card.specs.Streams.{view, data_byte}

pub length-bytes : (v : View) (n d : ℕ) → length (bytes_from v d n) ≡ n
unfolding bytes_from
length-bytes v zero d = refl
length-bytes v (suc n) d = ap suc (length-bytes v n (d + 1))

bytes-first : (v : View) (k m d : ℕ) → take k (bytes_from v d (k + m)) ≡ bytes_from v d k
unfolding bytes_from
bytes-first v zero m d = refl
bytes-first v (suc k) m d =
    let e : suc k + m ≡ suc (k + m) = omega arith in
    rw e (ap (λ (l : List ℕ). v.byte d ∷ l) (bytes-first v k m (d + 1)))

-- some of more places: k from the i-th on
pub bytes-part : (v : View) (i k m d : ℕ) → take k (drop i (bytes_from v d (i + (k + m)))) ≡ bytes_from v (d + i) k
unfolding bytes_from
bytes-part v zero k m d =
    let e : 0 + (k + m) ≡ k + m = omega arith in
    let f : d + 0 ≡ d = omega arith in
    rw (e, f) (bytes-first v k m d)
bytes-part v (suc i) k m d =
    let e : suc i + (k + m) ≡ suc (i + (k + m)) = omega arith in
    let f : d + suc i ≡ d + 1 + i = omega arith in
    rw (e, f) (bytes-part v i k m (d + 1))

-- places of one block lie together
pub run-bytes : (s : List ℕ) (k d : ℕ) → d % 504 + k ≤ 504 → d + k ≤ total (view s)
    → take k (drop (d / 504 * 512 + (6 + d % 504)) s) ≡ bytes_from (view s) d k
unfolding bytes_from data_byte
run-bytes s zero d h l = refl
run-bytes s (suc zero) d h l = rw (drop-cons s (d / 504 * 512 + (6 + d % 504)) 0 (omega arith))
run-bytes s (suc (suc k)) d h l =
    let p = d / 504 * 512 + (6 + d % 504) in
    let e : suc p ≡ (d + 1) / 504 * 512 + (6 + (d + 1) % 504) = omega arith in
    ap (λ (l : List ℕ). take (suc (suc k)) l) (drop-cons s p 0 (omega arith))
    ∙ ap (λ (j : ℕ). slice_index s p ∷ take (suc k) (drop j s)) e
    ∙ ap (λ (l : List ℕ). slice_index s p ∷ l) (run-bytes s (suc k) (d + 1) (omega arith) (omega arith))

-- ---- copies

pub paste-run : (r s x : List ℕ) (at i k : ℕ) → at + (i + k) ≤ length r → i + k ≤ length s → take k x
    ≡ take k (drop i s)
    → paste (paste r at s i) (at + i) x k ≡ paste r at s (i + k)
paste-run r s x at i k hr hs e =
    let head = take-paste r at s i (omega arith) (omega arith) in
    let far : at + i + k ≡ at + (i + k) = omega arith in
    let tail : drop (at + i + k) (paste r at s i) ≡ drop (at + (i + k)) r =
    sym (drop-drop k (at + i) (paste r at s i))
    ∙ ap (λ (l : List ℕ). drop k l) (drop-paste r at s i (omega arith) (omega arith))
    ∙ drop-drop k (at + i) r
    ∙ ap (λ (j : ℕ). drop j r) far in
    let middle : take at r ++ take i s ++ take k x ≡ take at r ++ take (i + k) s =
    ap (λ (l : List ℕ). take at r ++ take i s ++ l) e
    ∙ append_assoc (take at r) (take i s) (take k (drop i s))
    ∙ ap (λ (l : List ℕ). take at r ++ l) (sym (take-add i k s)) in
    ap₂ (λ (a b : List ℕ). a ++ b) (ap (λ (l : List ℕ). l ++ take k x) head ∙ middle) tail

-- the run of places from d + i on, of n from d on
pub paste-places : (s r : List ℕ) (d at i k n : ℕ) → at + n ≤ length r → i + k ≤ n → d + n ≤ total (view s)
    → (d + i) % 504 + k ≤ 504
    → paste (paste r at (bytes_from (view s) d n) i) (at + i) (drop ((d + i) / 504 * 512 + (6 + (d + i) % 504)) s) k
    ≡ paste r at (bytes_from (view s) d n) (i + k)
paste-places s r d at i k n hr hk hd h =
    let v = view s in
    let e : i + (k + (n - (i + k))) ≡ n = omega arith in
    let part : take k (drop i (bytes_from v d n)) ≡ bytes_from v (d + i) k = rw e at (bytes-part v i k (n - (i + k)) d) in
    paste-run r (bytes_from v d n) _ at i k (omega arith) (omega (arith, length-bytes v n d))
    (run-bytes s k (d + i) h (omega arith) ∙ sym part)

-- a part of lent bytes filled with packet data
pub part-bytes : (v : View) (d : ℕ) (lent now : List ℕ) (a k n : ℕ) → k ≡ n → a + n ≤ length lent
    → now ≡ bytes_from v d (length (take k (drop a lent))) → put_mid a k lent now ≡ paste lent a (bytes_from v d n) n
part-bytes v d lent now a k n e h is =
    let long : length (take k (drop a lent)) ≡ n =
    length-take-le k (drop a lent) (omega (arith, length-drop a lent)) ∙ e in
    put_mid-paste a k lent now (bytes_from v d n) n (is ∙ ap (λ (m : ℕ). bytes_from v d m) long) (sym e)
    (sym (length-bytes v n d))

-- ---- a packet that was found, given into a room

pub given-short : (f : Found) (room : ℕ) → room < f.len → Err Card ≡ given f room
unfolding given
given-short f room h = rw (lt-ltb room f.len h)

pub given-fits : (f : Found) (room : ℕ) → f.len ≤ room
    → Ok (record { endpoint = f.endpoint; len = f.len; then = record { at = f.at + 3 + f.len } }) ≡ given f room
unfolding given
given-fits f room h = rw (le-ltb room f.len h)

pub put-short : (v : View) (f : Found) (room : List ℕ) → length room < f.len → room ≡ put v f room
unfolding put
put-short v f room h = rw (lt-ltb (length room) f.len h)

pub put-fits : (v : View) (f : Found) (room r : List ℕ) → f.len ≤ length room
    → r ≡ bytes_from v (f.at + 3) f.len ++ drop f.len room → r ≡ put v f room
unfolding put
put-fits v f room r h e = rw (le-ltb (length room) f.len h) e

-- places copied to the room's front
pub paste-front : (v : View) (d n : ℕ) (room : List ℕ) → paste room 0 (bytes_from v d n) n ≡ bytes_from v d n
    ++ drop n room
paste-front v d n room =
    let all : take n (bytes_from v d n) ≡ bytes_from v d n = take_all n _ (omega (arith, length-bytes v n d)) in
    ap₂ (λ (l : List ℕ) (k : ℕ). l ++ drop k room) all (zero-add n)

-- ---- the answer to a call

-- where a stream is refused, and where it is not, by what in_blocks answers
pub torn : (s : List ℕ) (e : Refusal) → in_blocks s ≡ Err e → (length s % 512 ≢ 0) × (e ≡ Card)
unfolding in_blocks
torn s e h = elim (ℕ_discrete (length s % 512) 0) [
  | yes z ↦ (let x : ◌≡◌ {A = Result (Unit {0}) Refusal} (Ok tt) (Err e) = rw (eq-eqb (length s % 512) 0 z) at h in cc)
  | no z ↦ (let x : ◌≡◌ {A = Result (Unit {0}) Refusal} (Err Card) (Err e) = rw (ne_eqb
      (length s % 512) 0 z) at h in (z, cc))
]

pub untorn : (s : List ℕ) → in_blocks s ≡ Ok tt → length s % 512 ≡ 0
unfolding in_blocks
untorn s h = elim (ℕ_discrete (length s % 512) 0) [
  | yes z ↦ z
  | no z ↦ (let x : ◌≡◌ {A = Result (Unit {0}) Refusal} (Err Card) (Ok tt) = rw (ne_eqb
      (length s % 512) 0 z) at h in cc)
]

pub next-torn : (s : List ℕ) (at room : ℕ) → (length s % 512 ≢ 0) → Err Card ≡ next_of s at room
unfolding next_of
next-torn s at room h = rw (ne_eqb (length s % 512) 0 h)

pub room-torn : (s : List ℕ) (at : ℕ) (room : List ℕ) → (length s % 512 ≢ 0) → room ≡ room_of s at room
unfolding room_of
room-torn s at room h = rw (ne_eqb (length s % 512) 0 h)

pub next_found : (s : List ℕ) (at room : ℕ) (f : Option Found) → length s % 512 ≡ 0 → found_from s at ≡ f
    → next_given f room ≡ next_of s at room
unfolding next_of
next_found s at room f h e = rw (eq-eqb (length s % 512) 0 h, e)

pub room-found : (s : List ℕ) (at : ℕ) (room : List ℕ) (f : Option Found) → length s % 512 ≡ 0 → found_from s at ≡ f
    → next_put (view s) f room ≡ room_of s at room
unfolding room_of
room-found s at room f h e = rw (eq-eqb (length s % 512) 0 h, e)

pub given_nothing : (room : ℕ) → Ok None ≡ next_given None room
unfolding next_given
given_nothing room = refl

pub given_found : (f : Found) (room : ℕ) (p : Packet) → Ok p ≡ given f room → Ok (Some p) ≡ next_given (Some f) room
unfolding next_given
given_found f room p e = rw (← e, next_given)

pub given_refused : (f : Found) (room : ℕ) (e : Refusal) → Err e ≡ given f room → Err e ≡ next_given (Some f) room
unfolding next_given
given_refused f room e h = rw (← h, next_given)

pub put_nothing : (v : View) (room : List ℕ) → room ≡ next_put v None room
unfolding next_put
put_nothing v room = refl

pub put_found : (v : View) (f : Found) (room : List ℕ) → put v f room ≡ next_put v (Some f) room
unfolding next_put
put_found v f room = refl
