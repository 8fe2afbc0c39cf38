-- "No slot being sent is written", between two moments of a list of calls (FrontPage.antt: `SlotsStay`): from what
-- holds after each call
use Rattle.std.specs.Prelude.{List, [], ◌∷◌, ◌++◌, ◌≡◌, refl, ℕ, ◌+◌, ◌≤◌, ◌<◌, length}
use Rattle.std.proofs.Common.{ap, sym, ◌∙◌, arith, length-append}
use Rattle.ring.specs.Waiting.{Same}
use Rattle.script.specs.Answers.{Answer}
use Rattle.script.specs.Machine.{Buf, Machine}
use Rattle.proof_book.specs.Pages.{Pages}
use Rattle.proof_book.specs.FrontPage.{CallRecord, book_after, Chip, slot_size, BeingSent, Unwritten, Sends, still}
use Rattle.proof_book.specs.FrontPage.{passed_by}
use Rattle.proof_book.specs.FrontPage.{emptied, EmptiedIn, AfterEach, slots_after, book_after_all, NotEnded}
use Rattle.proof_book.specs.FrontPage.{SlotsStay}
use Rattle.proof_book.proofs.FrontPageLaws.{demand-3}

-- of the calls from one on
from : (ks ms : List CallRecord) (n : Machine Answer Pages) → AfterEach n (ks ++ ms) → AfterEach (book_after_all n ks) ms
from [] ms n h = h
from (k ∷ ks) ms n h = from ks ms (book_after k n).1 h.1

-- the chip may store nothing
nothing_stored : (t : Pages) (b : Buf) → Chip t b b
nothing_stored t b = record { long = refl; others = λ k _. refl }

module _ (e : ℕ) where
  -- what was shown of the packet being sent
  abbrev Shown : Pages → Buf → Type 0
  Shown t b = Same (t.ins e).source ((t.ins e).source + slot_size t) (t.ins e).shown b

  one_more : {X : Type 0} (w : List (List ℕ)) (v : List ℕ) → w ≡ w ++ (v ∷ []) → X
  one_more w v h = absurd (omega (arith, ap (λ (l : List (List ℕ)). length l) h, length-append w (v ∷ [])))

  goes_on_lem : (t t' : Pages) → Sends e t t' → (t'.ins e).passed ≡ (t.ins e).passed → (EmptiedIn (t'.ins e) → ⊥)
      → BeingSent t' e × ((b : Buf) → Shown t' b → Shown t b)
  goes_on_lem t t' (still s source shown size) p x = (s, λ b h. rw (source, shown, size) at h)
  goes_on_lem t t' (passed_by v q) p x = one_more (t.ins e).passed v (sym p ∙ q)
  goes_on_lem t t' (emptied z) p x = absurd (x z)

  stays : (ms : List CallRecord) (n : Machine Answer Pages) (b : Buf)
      → ((b' : Buf) → Chip n.st b b' → Unwritten n.st b') → BeingSent n.st e
      → AfterEach n ms → NotEnded e n ms → (b' : Buf) → Chip (book_after_all n ms).st (slots_after b ms) b'
      → Shown n.st b'
  stays [] n b w s a k b' c = w b' c e s
  stays (m ∷ ms) n b w s a k b' c =
      let t' = (book_after m n).1.st in
      let z = goes_on_lem n.st t' (a.0.sentences.sending_ends e s) k.0 k.1 in
      z.1 b' (stays ms (book_after m n).1 m.slots a.0.sentences.unwritten z.0 a.1 k.2 b' c)

pub slots-stay : SlotsStay
slots-stay c b row xs a n first is before hands further run e x answer load not-ended b' chip =
    let all = from (first ∷ before) (hands ∷ further) n
    (demand-3 c b row xs a n first is (before ++ (hands ∷ further)) run).0 in
    let sent = all.0.sentences in
    let t = (book_after hands (book_after_all n (first ∷ before))).1.st in
    let at = sent.load_tells e x answer load in
    let then = sent.unwritten hands.slots (nothing_stored t hands.slots) e at.0 in
    let now = stays e further (book_after hands (book_after_all n (first ∷ before))).1 hands.slots sent.unwritten
    at.0 all.1 not-ended b' chip in
    λ k l h.
    let l' : (t.ins e).source ≤ k = omega (arith, at.1, l) in
    let h' : k < (t.ins e).source + slot_size t = omega (arith, at.1, h) in
    now k l' h' ∙ sym (then k l' h')
