-- A late packet of real samples is whole. You send 16-bit samples, lowest byte first, whole ones in each packet. If
-- no sample's high byte is A5 or 5A, each packet is found in its slot, and it is shown as it was received: where its
-- length did not come with the interrupt too. 12-bit samples meet that always. Definitions; the theorems are
-- `samples-whole` and `twelve-bits` (SamplesLaws.antt)
use Rattle.std.specs.Prelude.{true, List, [], ◌∷◌, ◌++◌, ◌⊎◌, ◌≢◌, ◌≡◌, ℕ, zero, ◌+◌, ◌/◌, ◌%◌, ◌≤◌, ◌<◌, length, get_or}
use Rattle.script.specs.Answers.{Answer}
use Rattle.script.specs.Calls.{Config, calls, start_row}
use Rattle.script.specs.Machine.{Buf, start, Machine, fed, started}
use Rattle.proof_book.specs.Pages.{Packet, Pages}
use Rattle.proof_book.specs.Book.{receiving}
use Rattle.proof_book.specs.Lengths.{Readings, Known, learnt, length_of}
use Rattle.proof_book.specs.FrontPage.{CallRecord, Decides}
use Rattle.proof_book.specs.FrontPage as page
use Rattle.proof_book.specs.Arrivals.{changed_in}
use Rattle.proof_book.specs.Watched.{Watch, WatchedBook, watched, RunLent}
use Rattle.proof_book.specs.Watched as watch
use Rattle.proof_book.specs.LateArrival.{ByMarks}
use Rattle.proof_stale.specs.Stale.{maximum}

-- ---- samples in bytes

-- the two bytes of a sample
abbrev pub low_byte : ℕ → ℕ
low_byte v = v % 256

abbrev pub high_byte : ℕ → ℕ
high_byte v = v / 256 % 256

-- the packet: whole samples, lowest byte first
abbrev pub packed : List ℕ → List ℕ
packed [] = []
packed (v ∷ vs) = low_byte v ∷ (high_byte v ∷ packed vs)

-- P of every sample
abbrev pub Each : (ℕ → Type 0) → List ℕ → Type 0
Each P [] = Unit {0}
Each P (v ∷ vs) = P v × Each P vs

-- the mark has A5 and 5A at the places of high bytes
abbrev pub Unmarked : ℕ → Type 0
Unmarked v = (high_byte v ≢ 0xA5) × (high_byte v ≢ 0x5A)

-- ---- 12-bit samples in 16 bits, by a number v below 4096

-- v itself; v - 2048, in two's complement; v above 0x8000
abbrev pub unsigned : ℕ → ℕ
unsigned v = v

abbrev pub signed : ℕ → ℕ
signed v = (v + 0xF800) % 0x10000

abbrev pub offset : ℕ → ℕ
offset v = 0x8000 + v

abbrev pub coded : (ℕ → ℕ) → List ℕ → List ℕ
coded f [] = []
coded f (v ∷ vs) = f v ∷ coded f vs

-- ---- over lists of calls

-- the samples lie whole in OUT e's armed slot, within the maximum
pub record SamplesIn (e : ℕ) (vs : List ℕ) (t : Pages) (lent : Buf) : Type 0 where
  pub small : length (packed vs) ≤ maximum e t
  pub whole : (k : ℕ) → k < length (packed vs) → get_or lent ((t.outs e).slot + k) 0 ≡ get_or (packed vs) k 0

-- late: this interrupt tells no length of OUT e, and the marks do; else it tells n, the received one
abbrev pub LateOrNot : Readings → ℕ → ℕ → Type 0
LateOrNot h e n = ByMarks h e ⊎ ((m : ℕ) → length_of h e m ≡ n)

-- never short: where call m decides an arrival on OUT e, whose slot was armed for the k-th time and holds the samples,
-- what joins those waiting is these samples, all of them
abbrev pub NeverShort : ℕ → ℕ → List ℕ → CallRecord → Machine Answer Pages → Known → Watch → Type 0
NeverShort e k vs m n f w = Decides m.event.call n m.answer e → LateOrNot f.readings e (length (packed vs))
    → w.armed ≡ true → w.armings ≡ k → SamplesIn e vs n.st m.event.lent → (q : Packet)
    → ((page.book_after m n).1.st.outs e).waiting ≡ (n.st.outs e).waiting ++ (q ∷ []) → q.bytes ≡ packed vs

-- never lost to the mark: where call m, whose buffer is as long as the run's, finds the samples in the armed slot of an
-- enabled isochronous OUT, its first word is not the mark, so that a packet has arrived (Arrivals.antt)
abbrev pub NeverLost : ℕ → List ℕ → Buf → CallRecord → Machine Answer Pages → Type 0
NeverLost e vs a m n = receiving n.st e ≡ true → 0 < length vs → length m.event.lent ≡ length a
    → SamplesIn e vs n.st m.event.lent → changed_in n.st m.event.lent e ≡ true

abbrev pub SamplesEach : ℕ → ℕ → List ℕ → Buf → Machine Answer Pages → Known → Machine Answer WatchedBook
    → List CallRecord
    → Type 0
SamplesEach e k vs a n f y [] = Unit {0}
SamplesEach e k vs a n f y (m ∷ ms) =
    let l = learnt m.event.call m.answer f in
    let y' = (watch.noted e m.answer m.event.call y m.event.lent).1 in
    NeverShort e k vs m n l y.st.watch × NeverLost e vs a m n
    × SamplesEach e k vs m.slots (page.book_after m n).1 l y' ms

-- any bytes, a start-up that rows 1 and 2 do not stop, and then any calls of demand 3's premise and request Eight's:
-- after arming k of OUT e, up to its next receive address, the chip stores bytes of this packet alone in the slot
abbrev pub SamplesWhole : Type 0
SamplesWhole = (e k : ℕ) (vs : List ℕ) → Each Unmarked vs
    → (c : Config) (b : Buf) → start_row c b ≡ zero → (xs : List ℕ) (a : Buf) (n : Machine Answer Pages)
    (y : Machine Answer WatchedBook) (first : CallRecord) → first.event ≡ record { call = start c; lent = b }
    → (ms : List CallRecord)
    → page.Calls xs a n (first ∷ ms)
    → let z = started calls (watched e).driver (fed (watched e) first.answer) c zero y b in
    RunLent e k (packed vs) first.bytes first.slots z.1 ms → (f : Known)
    → SamplesEach e k vs first.slots (page.book_after first n).1 (learnt first.event.call first.answer f)
    z.1 ms
