-- Laws on the definitions of Brought.antt; and a book of some calls, worked out by the check.
use Rattle.std.specs.Prelude.{◌≡◌, refl, Bool, true, false, cond, not, List, [], ◌∷◌, ◌++◌, ℕ, ◌+◌, ◌-◌, eqb, ltb}
use Rattle.std.proofs.Common.{sym, ap, ◌∙◌, eq-eqb, ne_eqb}
use Rattle.std.proofs.Math.Decide.{ℕ_discrete}
use Rattle.card.specs.Packet.{Packet, packet_of, data_of}
use Rattle.recorder.specs.Ring.{padding, end_record}
use Rattle.recorder.specs.Recording.{begin_record}
use Rattle.recorder.specs.Survives.{Call, begin, packet, finish, Act, call, misled, store, last_used, filled_up}
use Rattle.recorder.specs.Survives.{padded, Book, first_left, grown, turned, noted_call, one_stored, noted, book}
use Rattle.recorder.specs.Survives.{blank}
use Rattle.recorder.specs.Brought.{streams, taken_by, brought_by, brought, AsBrought}

streams-append : (xs ys : List Packet) → streams (xs ++ ys) ≡ streams xs ++ streams ys
unfolding streams
streams-append [] ys = refl
streams-append (x ∷ xs) ys = go (eqb x.endpoint 15) (streams-append xs ys)
  where
    go : (t : Bool) → streams (xs ++ ys) ≡ streams xs ++ streams ys
        → cond t (streams (xs ++ ys)) (x ∷ streams (xs ++ ys)) ≡ cond t (streams xs) (x ∷ streams xs) ++ streams ys
    go true e = e
    go false e = ap (λ (l : List Packet). x ∷ l) e

same-append : (xs ys zs : List Packet) → streams xs ≡ streams ys → streams (xs ++ zs) ≡ streams (ys ++ zs)
same-append xs ys zs e =
    streams-append xs zs ∙ ap (λ (l : List Packet). l ++ streams zs) e ∙ sym (streams-append ys zs)

nil-behind : (l : List Packet) → l ++ [] ≡ l
nil-behind [] = refl
nil-behind (x ∷ l) = ap (λ (z : List Packet). x ∷ z) (nil-behind l)

-- padding is the recorder's own
streams-filled : (xs : List Packet) → streams (filled_up xs) ≡ streams xs
unfolding streams
streams-filled xs = streams-append xs (padding (last_used xs) ∷ []) ∙ nil-behind (streams xs)

streams-padded : (xs : List Packet) → streams (padded xs) ≡ streams xs
unfolding padded
streams-padded xs = go (ltb 488 (last_used xs))
  where
    go : (t : Bool) → streams (cond t (filled_up xs) xs) ≡ streams xs
    go true = streams-filled xs
    go false = refl

call-brought : (c : Call) (b : Book) (qs : List Packet) → streams b.all ≡ streams qs
    → streams (noted_call c b).all ≡ streams (taken_by c b qs)
unfolding noted_call taken_by grown streams
call-brought (begin survey) b qs e = refl
call-brought (packet p overruns) b qs e = go (turned b p)
  where
    go : (t : Bool)
        → streams (cond t b (grown b (padded (b.all ++ (p ∷ []))) (end_record 0 b.survey overruns))).all
        ≡ streams (cond t qs (qs ++ (p ∷ [])))
    go true = e
    go false = streams-padded (b.all ++ (p ∷ [])) ∙ same-append b.all qs (p ∷ []) e
call-brought (finish overruns) b qs e = go (not (eqb b.left 0))
  where
    go : (t : Bool)
        → streams (cond t b (grown b (filled_up b.all) (end_record 1 b.survey overruns))).all ≡ streams qs
    go true = e
    go false = streams-filled b.all ∙ e

stored-all : (b : Book) → (one_stored b).all ≡ b.all
unfolding one_stored
stored-all b = elim (ℕ_discrete b.left 1) [
  | yes z ↦ rw (eq-eqb b.left 1 z)
  | no z ↦ rw (ne_eqb b.left 1 z)
]

act-brought : (blocks : ℕ) (a : Act) (b : Book) (qs : List Packet) → streams b.all ≡ streams qs
    → streams (noted blocks a b).all ≡ streams (brought_by a b qs)
unfolding noted brought_by
act-brought blocks (call c) b qs e = call-brought c b qs e
act-brought blocks (misled c room n) b qs e = e
act-brought blocks store b qs e = go (eqb b.left 0) (ltb (first_left b + b.left - 1) blocks)
  where
    go : (t v : Bool) → streams (cond t b (cond v (one_stored b) b)).all ≡ streams qs
    go true v = e
    go false true = ap streams (stored-all b) ∙ e
    go false false = e

all-brought : (blocks : ℕ) (acts : List Act) (b : Book) (qs : List Packet) → streams b.all ≡ streams qs
    → streams (book blocks acts b).all ≡ streams (brought blocks acts b qs)
unfolding book brought
all-brought blocks [] b qs e = e
all-brought blocks (a ∷ acts) b qs e =
    all-brought blocks acts (noted blocks a b) (brought_by a b qs) (act-brought blocks a b qs e)

pub as-brought : AsBrought
as-brought blocks acts = all-brought blocks acts blank [] refl

-- ---- some calls

-- a packet of three bytes, a begin and its store, the packet, a finish and its two stores, on a card of 64 blocks
abbrev three : Packet
three = packet_of 1 (7 ∷ 8 ∷ 9 ∷ [])

abbrev some_calls : List Act
some_calls = call (begin 5) ∷ store ∷ call (packet three 0) ∷ call (finish 2) ∷ store ∷ store ∷ []

-- the begin record, the packet and the padding are stored for good, with the end record of a finished survey
pub some-kept : ((book 64 some_calls blank).kept ≡ begin_record 5 ∷ three ∷ padding 15 ∷ [])
    × ((book 64 some_calls blank).end ≡ end_record 1 5 2)
unfolding book noted noted_call one_stored grown data_of padded
some-kept = (refl, refl)
