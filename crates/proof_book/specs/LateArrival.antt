-- Request Eight in the call that decides an arrival: a packet that was stored alone since its slot was armed joins
-- those waiting as it was received, where this interrupt does not tell its length. The length that the call records
-- (LengthIs, FrontPage.antt) is the one that the history of stores tells (TrueLength, Watched.antt). Definitions; the
-- theorem is `late-arrivals` (LateArrivalLaws.antt)
use Rattle.std.specs.Prelude.{true, List, [], ◌∷◌, ◌++◌, ◌≡◌, ℕ, ◌≤◌, length}
use Rattle.ring.specs.Finds.{LastDiffers}
use Rattle.script.specs.Answers.{Answer}
use Rattle.script.specs.Machine.{Buf, Machine}
use Rattle.proof_book.specs.Pages.{Packet, Pages}
use Rattle.proof_book.specs.Lengths.{Readings, Known, learnt, length_of}
use Rattle.proof_book.specs.FrontPage.{CallRecord, Decides}
use Rattle.proof_book.specs.FrontPage as page
use Rattle.proof_book.specs.Watched.{Watch, WatchedBook, most, Whole}
use Rattle.proof_book.specs.Watched as watched

-- this interrupt's readings tell no length of OUT e: it goes by the marks, whatever they say
abbrev pub ByMarks : Readings → ℕ → Type 0
ByMarks h e = (m : ℕ) → length_of h e m ≡ m

-- OUT e's slot was armed for the k-th time, and no receive address was handed out since; the packet lies in it whole,
-- within the maximum, and its last byte, if it has one, differs from the mark's byte at its place
pub record StoredWhole (e k : ℕ) (packet : List ℕ) (w : Watch) (t : Pages) (lent : Buf) : Type 0 where
  pub armed : w.armed ≡ true
  pub armings : w.armings ≡ k
  pub small : length packet ≤ most e t
  pub whole : Whole e packet t lent
  pub last : LastDiffers (length packet) packet

-- call m, the book n before it, what the operation under way was brought, and the count of armings
abbrev pub JoinsAsReceived : ℕ → ℕ → List ℕ → CallRecord → Machine Answer Pages → Known → Machine Answer WatchedBook
    → Type 0
JoinsAsReceived e k packet m n f y = Decides m.event.call n m.answer e → ByMarks f.readings e
    → StoredWhole e k packet y.st.watch n.st m.event.lent → (q : Packet)
    → ((page.book_after m n).1.st.outs e).waiting ≡ (n.st.outs e).waiting ++ (q ∷ []) → q.bytes ≡ packet

-- of each call of a list
abbrev pub JoinEach : ℕ → ℕ → List ℕ → Machine Answer Pages → Known → Machine Answer WatchedBook → List CallRecord
    → Type 0
JoinEach e k packet n f y [] = Unit {0}
JoinEach e k packet n f y (m ∷ ms) =
    let l = learnt m.event.call m.answer f in
    JoinsAsReceived e k packet m n l y
    × JoinEach e k packet (page.book_after m n).1 l (watched.noted e m.answer m.event.call y m.event.lent).1
    ms
