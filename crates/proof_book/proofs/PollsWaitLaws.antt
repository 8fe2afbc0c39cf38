-- A read's poll of an isochronous OUT that is "not yet" done finds none waiting (prototype of a clause of Compared)
use Rattle.std.specs.Prelude.{Bool, true, false, not, cond, List, [], ◌∷◌, take, ◌≡◌, refl, ℕ, eqb}
use Rattle.std.proofs.Common.{true≢false, ap, subst, sym, ◌∙◌}
use Rattle.regs.specs.declared.Dir.TheVariants.{Out}
use Rattle.regs.specs.Enables as enables
use Rattle.script.specs.Tree as tree
use Rattle.script.specs.Tree.{ends, asks}
use Rattle.script.specs.Cells.{ep-cell}
use Rattle.script.specs.Script.{run, ret, bind, test, get, is, act, fetch, waiting, oldest, take_oldest, ◌>>◌}
use Rattle.script.specs.Statics.{is_on, with_ready, modify_ep}
use Rattle.script.specs.Answers.{Answer, Refused, End, NotYet, Done, Shown, named, unless, is_allocated}
use Rattle.script.specs.Endpoint.{ends_request, take_iso, take_ready, polled, poll_read}
use Rattle.script.specs.Calls.{Config, Op, slotted, PollRead, calls}
use Rattle.script.specs.Machine.{Buf, Call, begin, Ans, ended, handed, told, blank_a, Pending, idle, busy, Machine}
use Rattle.script.specs.Machine.{misfit, stay, fed, halt}
use Rattle.script.specs.Machine as machine
use Rattle.proof_book.specs.Pages.{Packet, bytes_of, Pages}
use Rattle.proof_book.specs.Book.{Bk, some, iso_of, book_ops, book}
use Rattle.proof_book.specs.FrontPage.{book_step}
use Rattle.proof_book.proofs.PollsWholeLaws.{ended_same}

abbrev is_not_yet : Answer → Bool
is_not_yet (Refused n) = false
is_not_yet (End n ws) = false
is_not_yet NotYet = true
is_not_yet (Done bytes) = false
is_not_yet (Shown bytes stamp) = false

abbrev not_yet : Ans Answer → Bool
not_yet (ended z) = is_not_yet z
not_yet (handed q) = false
not_yet (told n) = false

none_waits : (w : List Packet) → some (bytes_of w) ≡ false → w ≡ []
none_waits [] h = refl
none_waits (p ∷ w) h = absurd (true≢false h)

module _ (t : Pages) (b : Buf) (e n : ℕ) (iso : is_on (t.kept.plain Out e).iso ≡ true) where
  abbrev Waits : tree.Out Bk Answer → Type 0
  Waits (ends a s) = is_not_yet a ≡ true → (t.outs e).waiting ≡ []
  Waits (asks q s k) = Unit {0}

  other : (a : Answer) (s : Bk) → is_not_yet a ≡ false → Waits (ends a s)
  other a s h q = absurd (true≢false (sym q ∙ h))

  waiting_by : (u : Bool) → some (bytes_of (t.outs e).waiting) ≡ u
      → Waits (run {i = false} book_ops
      (test u (bind (fetch (oldest e)) (λ bytes. act (take_oldest e) >> ends_request Out e (Done (take n bytes)))) (ret NotYet)) (t, b))
  waiting_by true h = λ q. absurd (true≢false (sym q))
  waiting_by false h = λ _. none_waits (t.outs e).waiting h

  enabled_by : (u : Bool) → Waits
      (run {i = false} book_ops (test u (bind (is (waiting Out e))
      (λ b. test b (bind (fetch (oldest e)) (λ bytes. act (take_oldest e) >> ends_request Out e (Done (take n bytes)))) (ret NotYet)))
      (ends_request Out e (Refused 9))) (t, b))
  enabled_by true = waiting_by (some (bytes_of (t.outs e).waiting)) refl
  enabled_by false = λ q. absurd (true≢false (sym q))

  iso_by : (u : Bool) → u ≡ true → Waits (run {i = false} book_ops
      (test u (take_iso e n) (take_ready e n (t.kept.plain Out e))) (t, b))
  iso_by true h = enabled_by (enables.is_on t.kept.globals.ep_config Out e)
  iso_by false h = absurd (true≢false (sym h))

  length_by : (u : Bool) → Waits
      (run {i = false} book_ops (test u (bind (get (ep-cell Out e))
      (λ s. test (is_on s.iso) (take_iso e n) (take_ready e n s)))
      (modify_ep Out e (with_ready 0) >> ends_request Out e (Refused 10))) (t, b))
  length_by true = iso_by (is_on (t.kept.plain Out e).iso) iso
  length_by false = λ q. absurd (true≢false (sym q))

  begun_by_lem : (u : Bool) → Waits
      (run {i = false} book_ops (unless (not u) 15 (test (eqb (t.kept.requests Out e).length n)
      (bind (get (ep-cell Out e)) (λ s. test (is_on s.iso) (take_iso e n) (take_ready e n s)))
      (modify_ep Out e (with_ready 0) >> ends_request Out e (Refused 10)))) (t, b))
  begun_by_lem true = length_by (eqb (t.kept.requests Out e).length n)
  begun_by_lem false = λ q. absurd (true≢false (sym q))

  named_by : (u : Bool) → Waits
      (run {i = false} book_ops (test u (polled Out e n (λ s. test (is_on s.iso) (take_iso e n) (take_ready e n s)))
      (ret (Refused 5))) (t, b))
  named_by true = begun_by_lem (is_on (t.kept.requests Out e).begun)
  named_by false = λ q. absurd (true≢false (sym q))

  staged_by : (u : Bool) → Waits
      (run {i = false} book_ops
      (test u (named Out e (polled Out e n (λ s. test (is_on s.iso) (take_iso e n) (take_ready e n s))))
      (ret (Refused 4))) (t, b))
  staged_by true = named_by (is_allocated t.kept.allocator Out e)
  staged_by false = λ q. absurd (true≢false (sym q))

  abbrev Answers : Ans Answer × Machine Answer Pages → Type 0
  Answers y = not_yet y.0 ≡ true → (t.outs e).waiting ≡ []

  halted : (f : Pages → Pages) (o : tree.Out Bk Answer) → Waits o → Answers (halt calls book.driver f false o)
  halted f (ends a s) g q = g q
  halted f (asks q s k) g h = absurd (true≢false (sym h))

  begun_answers : (f : Pages → Pages) (m : Machine Answer Pages) → m.st ≡ t
      → (w : Pending Answer Pages) → Answers (machine.begun calls book.driver f (slotted (PollRead e n)) m w b)
  begun_answers f m h idle =
      subst (λ (z : Pages). Answers (halt calls book.driver f false (run book_ops (poll_read {i = false} e n) (z, b))))
      (sym h) (halted f (run book_ops (poll_read {i = false} e n) (t, b)) (staged_by (eqb t.kept.globals.stage 2)))
  begun_answers f m h (busy true a k) = λ q. absurd (true≢false (sym q))
  begun_answers f m h (busy false a k) = λ q. absurd (true≢false (sym q))

-- a: the driver's answer, which is the book's but for addresses
pub poll_waits : (a : Ans Answer) (e k : ℕ) (n : Machine Answer Pages) (b : Buf) → let c : Call Config Op
    = begin (slotted (PollRead e k)) in
    blank_a a ≡ blank_a (book_step a c n b).0 → a ≡ ended NotYet → iso_of n.st Out e ≡ true → (n.st.outs e).waiting
    ≡ []
poll_waits a e k n b same is iso =
    by (misfit calls book.driver n.st b)
    (ap not_yet (ended_same (book_step a (begin (slotted (PollRead e k))) n b).0 NotYet (sym (ap blank_a is) ∙ same)))
  where
    by : (u : Bool) → not_yet (cond u (stay calls book.driver 1 n)
        (machine.begun calls book.driver (fed book a) (slotted (PollRead e k)) n n.under_way_lem b)).0
        ≡ true → (n.st.outs e).waiting ≡ []
    by true q = absurd (true≢false (sym q))
    by false q = begun_answers n.st b e k iso (fed book a) n refl n.under_way_lem q
