-- Laws on the definitions of Runs.antt
use Rattle.std.specs.Prelude.{◌≡◌, ℕ, zero, suc, ◌+◌, ◌%◌, ◌≤◌, Bool, true, false, cond, List, [], ◌∷◌, ◌++◌, length, take, drop, refl, Option, Some, None, Ok}
use Rattle.std.proofs.Common.{sym, ap, ap₂, ◌∙◌, arith, eq-eqb, length-append, length-drop, take_at}
use Rattle.card.specs.Packet.{Packet, packet_of, All, none, more, size}
use Rattle.card.specs.Reading.{View, total, seek_from, bytes_from, packet_from, find, in_turn}
use Rattle.card.specs.Kept.{wholly, kept_from}
use Rattle.card.specs.Streams.{view}
use Rattle.card.specs.Whole.{AsInStream}
use Rattle.card.specs.Turns.{by_calls}
use Rattle.card.proofs.TurnsLaws.{calls-give}
use Rattle.card.specs.declared.stream.Found.{Found}
use Rattle.card.specs.declared.reader.Packet.{Packet as Given}
use Rattle.card.specs.Calls.{start_of, found_from, next_of, room_of}
use Rattle.card.specs.Rooms.{length-bytes, given_nothing, given_found, given-fits, put-fits, put_found, next_found, room-found}
use Rattle.card.specs.Runs.{next_run, read_run}

-- ---- one call

next-end : (s room : List ℕ) (n at : ℕ) → next_of s at (length room) ≡ Ok None → next_run s room (suc n) at ≡ []
unfolding next_run
next-end s room n at h = rw (h, next_run)

next_more : (s room : List ℕ) (n at : ℕ) (p : Given) → next_of s at (length room) ≡ Ok (Some p)
    → next_run s room (suc n) at ≡ packet_of p.endpoint (take p.len (room_of s at room))
    ∷ next_run s (room_of s at room) n p.then.at
unfolding next_run
next_more s room n at p h = rw (h, next_run)

in-turn-end : (v : View) (n d : ℕ) → find v (total v) d ≡ None → in_turn v (suc n) d ≡ []
unfolding in_turn
in-turn-end v n d h = rw (h, in_turn)

in-turn-more : (v : View) (n d : ℕ) (f : Found) → find v (total v) d ≡ Some f
    → in_turn v (suc n) d ≡ packet_from v f.at f.endpoint f.len ∷ in_turn v n (f.at + 3 + f.len)
unfolding in_turn
in-turn-more v n d f h = rw (h, in_turn)

head-short : (p : Packet) (l m : List Packet) → p ∷ l ≡ m → All m → length p.bytes ≤ 1024
head-short p l [] e a = absurd (let z : ◌≡◌ {A = ℕ} 0 1 = cc in omega arith)
head-short p l (q ∷ m) e (more h t) = let x : p ≡ q = cc in rw x h.short

tail_all : (p : Packet) (l m : List Packet) → p ∷ l ≡ m → All m → All l
tail_all p l [] e a = absurd (let z : ◌≡◌ {A = ℕ} 0 1 = cc in omega arith)
tail_all p l (q ∷ m) e (more h t) = let x : l ≡ m = cc in rw x t

-- ---- all calls

pub run-in-turn : (s : List ℕ) → length s % 512 ≡ 0 → (n at : ℕ) (room : List ℕ) → 1024 ≤ length room
    → All (in_turn (view s) n at)
    → next_run s room n at ≡ in_turn (view s) n at
unfolding next_run in_turn
run-in-turn s w zero at room r a = refl
run-in-turn s w (suc n) at room r a = go (found_from s at) refl (λ d q l b. run-in-turn s w n d q l b)
  where
    go : (f : Option Found) → found_from s at ≡ f
        → ((d : ℕ) (q : List ℕ) → 1024 ≤ length q → All (in_turn (view s) n d) → next_run s q n d ≡ in_turn (view s) n d)
        → next_run s room (suc n) at ≡ in_turn (view s) (suc n) at
    go None e ih =
        next-end s room n at (sym (given_nothing (length room) ∙ next_found s at (length room) None w e))
        ∙ sym (in-turn-end (view s) n at e)
    go (Some f) e ih =
        let b = f.at in
        let len = f.len in
        let t = in-turn-more (view s) n at f e in
        let h : len ≤ 1024 = omega (
          arith,
          length-bytes (view s) len (b + 3),
          head-short (packet_from (view s) b f.endpoint len) _ _ (sym t) a,
        ) in
        let x = given_found f (length room) _ (given-fits f (length room) (omega arith))
        ∙ next_found s at (length room) (Some f) w e in
        let y : room_of s at room ≡ bytes_from (view s) (b + 3) len ++ drop len room =
        sym (put-fits (view s) f room _ (omega arith) refl ∙ put_found (view s) f room
        ∙ room-found s at room (Some f) w e) in
        let k : take len (room_of s at room) ≡ bytes_from (view s) (b + 3) len =
        rw y (take_at (bytes_from (view s) (b + 3) len) (drop len room) len (length-bytes (view s) len (b + 3))) in
        let z : length (room_of s at room) ≡ length room =
        ap length y ∙ omega (
          arith,
          length-append (bytes_from (view s) (b + 3) len) (drop len room),
          length-bytes (view s) len (b + 3),
          length-drop len room,
        ) in
        next_more s room n at _ (sym x)
        ∙ ap₂ (λ (a : List ℕ) (b : List Packet). packet_of f.endpoint a ∷ b) k
        (ih (b + 3 + len) (room_of s at room) (omega arith)
        (tail_all (packet_from (view s) b f.endpoint len) _ _ (sym t) a))
        ∙ sym t

pub kept-all : (v : View) (ps : List Packet) (d : ℕ) → All ps → All (kept_from v d ps)
unfolding kept_from
kept-all v [] d none = none
kept-all v (p ∷ ps) d (more h t) = go (wholly v d (d + size p)) (kept-all v ps (d + size p) t)
  where
    go : (b : Bool) → All (kept_from v (d + size p) ps)
        → All (cond b (p ∷ kept_from v (d + size p) ps) (kept_from v (d + size p) ps))
    go true a = more h a
    go false a = a

-- A room of 1,024 bytes is never too short; the stream may be cut short, and blocks that are not good may follow.
pub run-gives : (ps : List Packet) → All ps → (s room : List ℕ) → length s % 512 ≡ 0 → AsInStream s ps → 1024
    ≤ length room
    → read_run s room ≡ kept_from (view s) 0 ps
unfolding read_run start_of
run-gives ps fine s room w h r =
    let g = calls-give ps fine s h in
    let a : All (by_calls s) = rw g (kept-all (view s) ps 0 fine) in
    rw (eq-eqb (length s % 512) 0 w, read_run) (run-in-turn s w (total (view s)) (seek_from (view s) 0) room r a ∙ g)
