-- The packets that the caller brought, beside the book of Survives.antt, which has the recorder's own records among
-- them. BroughtLaws.antt proves: the book leaves none of them out and makes none up.
use Rattle.std.specs.Prelude.{◌≡◌, cond, List, [], ◌∷◌, ◌++◌, ℕ, eqb}
use Rattle.card.specs.Packet.{Packet}
use Rattle.recorder.specs.Survives.{Call, begin, packet, finish, Act, call, misled, store, Book, turned, noted}
use Rattle.recorder.specs.Survives.{book, blank}

-- the packets of the streams: those that are not on the recorder's endpoint
unfoldable pub streams : List Packet → List Packet
streams [] = []
streams (p ∷ ps) = cond (eqb p.endpoint 15) (streams ps) (p ∷ streams ps)

-- what a call adds to those that were taken since the last begin
unfoldable pub taken_by : Call → Book → List Packet → List Packet
taken_by (begin survey) b qs = []
taken_by (packet p overruns) b qs = cond (turned b p) qs (qs ++ (p ∷ []))
taken_by (finish overruns) b qs = qs

unfoldable pub brought_by : Act → Book → List Packet → List Packet
brought_by (call c) b qs = taken_by c b qs
brought_by (misled c room n) b qs = qs
brought_by store b qs = qs

unfoldable pub brought : ℕ → List Act → Book → List Packet → List Packet
brought blocks [] b qs = qs
brought blocks (a ∷ acts) b qs = brought blocks acts (noted blocks a b) (brought_by a b qs)

-- all packets of the book's streams are those that the calls took since the last begin, in order
abbrev pub AsBrought : Type 0
AsBrought = (blocks : ℕ) (acts : List Act)
    → streams (book blocks acts blank).all ≡ streams (brought blocks acts blank [])
