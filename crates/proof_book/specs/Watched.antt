-- Request Eight over a list of calls: "For an arrival within the maximum, stored alone since its slot was armed, this
-- length is the received one whenever the packet's last byte differs from the mark's byte at its place". Definitions;
-- the theorem is in WatchedLaws
use Rattle.std.specs.Prelude.{Bool, true, false, cond, List, [], ◌∷◌, ◌⊎◌, ◌≡◌, ℕ, zero, suc, ◌+◌, ◌%◌, ◌≤◌, ◌<◌, eqb, length, get_or}
use Rattle.regs.specs.declared.Dir.TheVariants.{Out, In}
use Rattle.state.specs.Driver.{Driver, ep_on}
use Rattle.state.specs.State.{view}
use Rattle.ring.specs.Marks.{marked_len}
use Rattle.ring.specs.Copies.{bytes_at}
use Rattle.ring.specs.Finds.{LastDiffers}
use Rattle.script.specs.Answers.{Answer}
use Rattle.script.specs.Script.{Act}
use Rattle.script.specs.Script.{DmaStep, arrive, send, place}
use Rattle.script.specs.Script.{place0, Burst, switch, bus_reset_lem}
use Rattle.script.specs.Calls.{Config, Op, calls}
use Rattle.script.specs.Machine as machine
use Rattle.script.specs.Machine.{Buf, Call, start, begin, continue, question, Event, Ans, Machine, misfit, fed, call}
use Rattle.machine.specs.Suspended.{driver_of, drive, machine_of}
use Rattle.proof_book.specs.Pages.{Pages}
use Rattle.proof_book.specs.Book.{Bk, receiving, iso_of, get_b, put_b, is_b, look_b, fetch_b, act_b, hand_b, row_b}
use Rattle.proof_book.specs.Book.{fresh_pages, question_b, feed_b, book}
use Rattle.proof_book.specs.FrontPage.{CallRecord, CallStep, Chip, when_not}
use Rattle.script.specs.TransferKinds.{allocates}

-- ---- how often a slot of OUT e was armed

-- so often since the start-up; whether its last receive address was handed out by an arming, and no allocation and no
-- reset came after it
pub record Watch : Type 0 where
  pub armings : ℕ
  pub armed : Bool

-- the book beside it
pub record WatchedBook : Type 0 where
  pub pages : Pages
  pub watch : Watch

-- a receive address is handed out: by an arming, or not
abbrev pub arms_by : Bool → Watch → Watch
arms_by true w = record { armings = w.armings + 1; armed = true }
arms_by false w = record { armings = w.armings; armed = false }

-- an arrival arms the head's slot, whether its packet is admitted or turned away; another receive address arms none
abbrev pub watch_hand : ℕ → DmaStep → Pages → Watch → Watch
watch_hand e (arrive f n) t w = cond (eqb (e % 16) (f % 16)) (arms_by (receiving t f) w) w
watch_hand e (place Out f) t w = cond (eqb (e % 16) (f % 16)) (arms_by false w) w
watch_hand e (place In f) t w = w
watch_hand e (send f) t w = w
watch_hand e place0 t w = w

-- enabling and disabling arm each slot
abbrev pub watch_row : ℕ → Burst → ℕ → Pages → Watch → Watch
watch_row e (switch f onn) zero t w = w
watch_row e (switch f onn) (suc zero) t w = w
watch_row e (switch f onn) (suc (suc zero)) t w = w
watch_row e (switch f onn) (suc (suc (suc k))) t w = cond (eqb (e % 16) (f % 16)) (arms_by (iso_of t Out f) w) w
watch_row e bus_reset_lem n t w = arms_by false w

-- an allocation may place another buffer
abbrev pub watch_act : Act → Watch → Watch
watch_act q w = cond (allocates q) (arms_by false w) w

abbrev pub book_of : WatchedBook × Buf → Bk
book_of s = (s.0.pages, s.1)

abbrev pub seen_by : Watch → Bk → WatchedBook × Buf
seen_by w z = (record { pages = z.0; watch = w }, z.1)

abbrev pub watched : ℕ → machine.Book Config WatchedBook
watched e = record {
  driver = record {
    ops = record {
      get = λ c s. get_b c (book_of s);
      put = λ c v s. seen_by s.0.watch (put_b c v (book_of s));
      is = λ q s. is_b q (book_of s);
      look = λ q s. look_b q (book_of s);
      fetch = λ q s. fetch_b q (book_of s);
      act = λ q s. seen_by (watch_act q s.0.watch) (act_b q (book_of s));
      hand = λ q s. ((hand_b q (book_of s)).0, seen_by (watch_hand e q s.0.pages s.0.watch) (hand_b q (book_of s)).1);
      row = λ g n s. (
        (row_b g n (book_of s)).0,
        seen_by (watch_row e g n s.0.pages s.0.watch)
            (row_b g n (book_of s)).1,
      );
    };
    fresh = λ c. record { pages = fresh_pages c; watch = record { armings = 0; armed = false } };
    size = λ s. book.driver.size s.pages;
    question = λ q s. question_b q s.pages;
  };
  feed = λ q s. record { pages = feed_b q s.pages; watch = s.watch };
}

-- ---- the chip's stores since an arming

-- where OUT e's armed slot begins, and its maximum
abbrev pub slot_at : ℕ → Pages → ℕ
slot_at e t = (t.outs e).slot

abbrev pub most : ℕ → Pages → ℕ
most e t = (t.kept.plain Out e).max_len

-- between two calls nothing is stored in it but bytes of this packet, at their places
abbrev pub Alone : ℕ → List ℕ → Pages → Buf → Buf → Type 0
Alone e packet t b b' = (k : ℕ) → k < most e t
    → (get_or b' (slot_at e t + k) 0 ≡ get_or b (slot_at e t + k) 0) ⊎ ((k < length packet) × (get_or b' (slot_at e t + k) 0 ≡ get_or packet k 0))

-- the chip's stores between two calls: those of demand 3's premise, and after arming n of OUT e, up to its next receive
-- address, of this packet alone
pub record Stored (e n : ℕ) (packet : List ℕ) (s : WatchedBook) (b b' : Buf) : Type 0 where
  pub chip : Chip s.pages b b'
  pub alone : s.watch.armed ≡ true → s.watch.armings ≡ n → Alone e packet s.pages b b'

-- ---- the length by the marks is the received one

-- the packet is stored whole
abbrev pub Whole : ℕ → List ℕ → Pages → Buf → Type 0
Whole e packet t b = (k : ℕ) → k < length packet → get_or b (slot_at e t + k) 0 ≡ get_or packet k 0

-- after a call that left the lent bytes b and the driver d; b': what the next call is lent
abbrev pub TrueLength : ℕ → ℕ → List ℕ → Driver → Buf → WatchedBook → Type 0
TrueLength e n packet d b s = (b' : Buf) → Stored e n packet s b b' → s.watch.armed ≡ true → s.watch.armings ≡ n
    → length packet ≤ (ep_on d Out e).max_len → Whole e packet s.pages b' → LastDiffers (length packet) packet
    → (marked_len b' (ep_on d Out e).armed_slot (ep_on d Out e).max_len ≡ length packet) × (bytes_at b' (ep_on d Out e).armed_slot (length packet) ≡ packet)

-- ---- runs

abbrev pub noted : ℕ → Ans Answer → Call Config Op → Machine Answer WatchedBook → Buf → Ans Answer
    × Machine Answer WatchedBook
noted e a c n b = call calls (watched e).driver (fed (watched e) a) c n b

-- the premise, of one call: to a start-up, or where the length is wrong (row 1), any buffer is lent; else the one that
-- the last call left, but for the chip's stores
abbrev pub LentBy : ℕ → ℕ → List ℕ → Call Config Op → Machine Answer Driver → Machine Answer WatchedBook → Buf → Type 0
LentBy e n packet (start c) m y b = Unit {0}
LentBy e n packet (begin o) m y b = when_not (cond (calls.slots o) (misfit calls driver_of m.st b) false)
    (Stored e n packet y.st m.buf b)
LentBy e n packet (continue v) m y b = when_not (misfit calls driver_of m.st b) (Stored e n packet y.st m.buf b)
LentBy e n packet (question q) m y b = Stored e n packet y.st m.buf b

abbrev pub AllLent : ℕ → ℕ → List ℕ → List (Event Config Op) → Machine Answer Driver → Machine Answer WatchedBook
    → Type 0
AllLent e n packet [] m y = Unit {0}
AllLent e n packet (v ∷ vs) m y =
    let x = drive v.call m v.lent in
    LentBy e n packet v.call m y v.lent × AllLent e n packet vs x.1 (noted e x.0 v.call y v.lent).1

abbrev pub TrueLengths : ℕ → ℕ → List ℕ → List (Event Config Op) → Machine Answer Driver → Machine Answer WatchedBook
    → Type 0
TrueLengths e n packet [] m y = Unit {0}
TrueLengths e n packet (v ∷ vs) m y =
    let x = drive v.call m v.lent in
    let z = noted e x.0 v.call y v.lent in
    TrueLength e n packet x.1.st x.1.buf z.1.st × TrueLengths e n packet vs x.1 z.1

-- calls of the code one after the other, each as its contract says and lent so
abbrev pub RunLent : ℕ → ℕ → List ℕ → List ℕ → Buf → Machine Answer WatchedBook → List CallRecord → Type 0
RunLent e n packet xs a y [] = Unit {0}
RunLent e n packet xs a y (m ∷ ms) = CallStep xs a m × LentBy e n packet m.event.call (machine_of xs a) y
    m.event.lent
    × RunLent e n packet m.bytes m.slots (noted e m.answer m.event.call y m.event.lent).1 ms

abbrev pub TrueLengthsMade : ℕ → ℕ → List ℕ → Machine Answer WatchedBook → List CallRecord → Type 0
TrueLengthsMade e n packet y [] = Unit {0}
TrueLengthsMade e n packet y (m ∷ ms) =
    let z = (noted e m.answer m.event.call y m.event.lent).1 in
    TrueLength e n packet (view m.bytes) m.slots z.st × TrueLengthsMade e n packet z ms
