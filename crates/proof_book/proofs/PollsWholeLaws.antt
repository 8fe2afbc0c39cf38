-- A read's poll that is done gives the first waiting packet whole: its begin was brought a length of at least the
-- endpoint's maximum, and no packet that waits is longer
use Rattle.std.specs.Prelude.{Bool, true, false, not, cond, List, [], ◌∷◌, ◌≡◌, refl, ℕ, ◌≤◌, eqb, length, take}
use Rattle.std.proofs.Common.{true≢false, ap, subst, sym, ◌∙◌, arith, eqb-true, take_all}
use Rattle.regs.specs.declared.Dir.TheVariants.{Out}
use Rattle.regs.specs.Enables as enables
use Rattle.state.specs.declared.Request.{Request}
use Rattle.state.specs.Driver.{Driver, ep_on, request_on}
use Rattle.script.specs.Tree as tree
use Rattle.script.specs.Tree.{ends, asks}
use Rattle.script.specs.Simulates.{Phase}
use Rattle.script.specs.Cells.{ep-cell}
use Rattle.script.specs.Script.{run, ret, bind, test, get, is, act, fetch, waiting, oldest, take_oldest, ◌>>◌}
use Rattle.script.specs.Statics.{is_on, with_ready, modify_ep}
use Rattle.script.specs.Answers.{Answer, Refused, NotYet, Done, named, unless, is_allocated}
use Rattle.script.specs.Endpoint.{ends_request, take_iso, take_ready, polled, poll_read}
use Rattle.script.specs.Calls.{Config, Op, slotted, PollRead, calls}
use Rattle.script.specs.Machine.{Buf, Call, begin, Ans, ended, handed, told, blank_a, Pending, idle, busy, Machine}
use Rattle.script.specs.Machine.{misfit, stay, fed, halt}
use Rattle.script.specs.Machine as machine
use Rattle.script.specs.Agree.{After}
use Rattle.machine.specs.Suspended.{driver_of, drive}
use Rattle.proof_book.specs.Pages.{Packet, bytes_of, Pages, with_out}
use Rattle.proof_book.specs.Book.{Bk, some, first, iso_of, read_out, book_ops, book}
use Rattle.proof_book.specs.Coupling.{Short, Coupling}
use Rattle.proof_book.specs.FrameLaws.{out-same}
use Rattle.proof_book.proofs.AgreesLaws.{agree}
use Rattle.proof_book.specs.ReadRoomLaws.{ReadRoom}
use Rattle.proof_book.specs.FrontPage.{is_done, ReadsFirst, book_step}
use Rattle.proof_book.proofs.AsidesLaws.{answered, reads_first}
use Rattle.proof_book.specs.RefusingLaws.{on_answer}

-- ---- answers told apart

abbrev done_bytes : Answer → List ℕ
done_bytes a = on_answer (λ _. []) (λ _ _. []) [] (λ bytes. bytes) (λ _ _. []) a

not_done : {X : Type 0} (a : Answer) (bytes : List ℕ) → is_done a ≡ false → a ≡ Done bytes → X
not_done a bytes h q = absurd (true≢false (sym (ap is_done q) ∙ h))

abbrev kind_of : Ans Answer → Bool
kind_of (ended a) = true
kind_of (handed q) = false
kind_of (told n) = false

-- an answer that ends is the same but for no address
pub ended_same : (z : Ans Answer) (a : Answer) → ended a ≡ blank_a z → z ≡ ended a
ended_same (ended b) a h = ap (λ (x : Answer). ended x) (sym (ap answered h))
ended_same (handed q) a h = absurd (true≢false (ap kind_of h))
ended_same (told n) a h = absurd (true≢false (ap kind_of h))

-- ---- the book's run of a poll

module _ (t : Pages) (b : Buf) (e n : ℕ) (iso : is_on (t.kept.plain Out e).iso ≡ true) where
  record Facts (bytes : List ℕ) (t' : Pages) : Type 0 where
    begun : is_on (t.kept.requests Out e).begun ≡ true
    room : (t.kept.requests Out e).length ≡ n
    one : some (bytes_of (t.outs e).waiting) ≡ true
    given : bytes ≡ take n (first (bytes_of (t.outs e).waiting))
    page : t'.outs e ≡ read_out (t.outs e)

  abbrev Gives : tree.Out Bk Answer → Type 0
  Gives (ends a s) = (bytes : List ℕ) → a ≡ Done bytes → Facts bytes s.0
  Gives (asks q s k) = Unit {0}

  refused : (a : Answer) (s : Bk) → is_done a ≡ false → Gives (ends a s)
  refused a s h bytes q = not_done a bytes h q

  page_by : (u : Bool) → u ≡ true → (cond u (with_out t e (read_out (t.outs e))) t).outs e ≡ read_out (t.outs e)
  page_by true h = out-same t e (read_out (t.outs e))
  page_by false h = absurd (true≢false (sym h))

  module _ (r : is_on (t.kept.requests Out e).begun ≡ true) (l : (t.kept.requests Out e).length ≡ n) where
    waiting_by : (u : Bool) → some (bytes_of (t.outs e).waiting) ≡ u
        → Gives
        (run {i = false} book_ops
        (test u (bind (fetch (oldest e)) (λ bytes. act (take_oldest e) >> ends_request Out e (Done (take n bytes))))
        (ret NotYet)) (t, b))
    waiting_by true h = λ bytes q. record {
      begun = r;
      room = l;
      one = h;
      given = sym (ap done_bytes q);
      page = page_by (some (bytes_of (t.outs e).waiting)) h;
    }
    waiting_by false h = refused NotYet (t, b) refl

    enabled_by : (u : Bool) → Gives
        (run {i = false} book_ops (test u (bind (is (waiting Out e))
        (λ b. test b (bind (fetch (oldest e)) (λ bytes. act (take_oldest e) >> ends_request Out e
        (Done (take n bytes)))) (ret NotYet)))
        (ends_request Out e (Refused 9))) (t, b))
    enabled_by true = waiting_by (some (bytes_of (t.outs e).waiting)) refl
    enabled_by false = λ bytes q. not_done (Refused 9) bytes refl q

    iso_by : (u : Bool) → u ≡ true → Gives (run {i = false} book_ops
        (test u (take_iso e n) (take_ready e n (t.kept.plain Out e))) (t, b))
    iso_by true h = enabled_by (enables.is_on t.kept.globals.ep_config Out e)
    iso_by false h = absurd (true≢false (sym h))

  length_by : is_on (t.kept.requests Out e).begun ≡ true → (u : Bool) → eqb (t.kept.requests Out e).length n ≡ u
      → Gives
      (run {i = false} book_ops (test u (bind (get (ep-cell Out e))
      (λ s. test (is_on s.iso) (take_iso e n) (take_ready e n s)))
      (modify_ep Out e (with_ready 0) >> ends_request Out e (Refused 10))) (t, b))
  length_by r true h = iso_by r (eqb-true (t.kept.requests Out e).length n h) (is_on (t.kept.plain Out e).iso) iso
  length_by r false h = λ bytes q. not_done (Refused 10) bytes refl q

  begun_by_lem : (u : Bool) → is_on (t.kept.requests Out e).begun ≡ u
      → Gives
      (run {i = false} book_ops (unless (not u) 15 (test (eqb (t.kept.requests Out e).length n)
      (bind (get (ep-cell Out e)) (λ s. test (is_on s.iso) (take_iso e n) (take_ready e n s)))
      (modify_ep Out e (with_ready 0) >> ends_request Out e (Refused 10)))) (t, b))
  begun_by_lem true h = length_by h (eqb (t.kept.requests Out e).length n) refl
  begun_by_lem false h = λ bytes q. not_done (Refused 15) bytes refl q

  named_by : (u : Bool) → Gives
      (run {i = false} book_ops (test u (polled Out e n (λ s. test (is_on s.iso) (take_iso e n) (take_ready e n s)))
      (ret (Refused 5))) (t, b))
  named_by true = begun_by_lem (is_on (t.kept.requests Out e).begun) refl
  named_by false = λ bytes q. not_done (Refused 5) bytes refl q

  staged_by : (u : Bool) → Gives
      (run {i = false} book_ops
      (test u (named Out e (polled Out e n (λ s. test (is_on s.iso) (take_iso e n) (take_ready e n s))))
      (ret (Refused 4))) (t, b))
  staged_by true = named_by (is_allocated t.kept.allocator Out e)
  staged_by false = λ bytes q. not_done (Refused 4) bytes refl q

  poll_gives : Gives (run book_ops (poll_read {i = false} e n) (t, b))
  poll_gives = staged_by (eqb t.kept.globals.stage 2)

  -- of the call
  abbrev Answers : Ans Answer × Machine Answer Pages → Type 0
  Answers y = (bytes : List ℕ) → y.0 ≡ ended (Done bytes) → Facts bytes y.1.st

  halted : (f : Pages → Pages) (o : tree.Out Bk Answer) → Gives o → Answers (halt calls book.driver f false o)
  halted f (ends a s) g bytes q = g bytes (ap answered q)
  halted f (asks q s k) g bytes h = absurd (true≢false (sym (ap kind_of h)))

  stayed : (k : ℕ) (m : Machine Answer Pages) → Answers (stay calls book.driver k m)
  stayed k m bytes q = not_done (Refused k) bytes refl (ap answered q)

  begun_answers : (f : Pages → Pages) (m : Machine Answer Pages) → m.st ≡ t
      → (w : Pending Answer Pages) → Answers (machine.begun calls book.driver f (slotted (PollRead e n)) m w b)
  begun_answers f m h idle =
      subst (λ (z : Pages). Answers (halt calls book.driver f false (run book_ops (poll_read {i = false} e n) (z, b))))
      (sym h) (halted f (run book_ops (poll_read {i = false} e n) (t, b)) poll_gives)
  begun_answers f m h (busy true a k) = stayed 3 (machine.lent_to calls book.driver m b)
  begun_answers f m h (busy false a k) = stayed 3 (machine.lent_to calls book.driver m b)

  call_answers : (f : Pages → Pages) (m : Machine Answer Pages) → m.st ≡ t → (g : Bool)
      → Answers (cond g (stay calls book.driver 1 m)
      (machine.begun calls book.driver f (slotted (PollRead e n)) m m.under_way_lem b))
  call_answers f m h true = stayed 1 m
  call_answers f m h false = begun_answers f m h m.under_way_lem

-- ---- one call

module _ {φ : Phase} {b : Buf} {d : Driver} {t : Pages} (R : Coupling φ b d t) (k : ReadRoom d) (e n : ℕ) where
  same-request : request_on d Out e ≡ t.kept.requests Out e
  same-request = R.same.requests Out e

  whole : {b' : Buf} {iso : is_on (t.kept.plain Out e).iso ≡ true} {bytes : List ℕ} {t' : Pages}
      → Facts t b' e n iso bytes t'
      → (q : Packet) × (bytes ≡ q.bytes) × ReadsFirst (t.outs e) (t'.outs e) q
  whole {bytes = bytes} {t' = t'} f = by (t.outs e).waiting refl (R.outs e).short
    where
      m : (ep_on d Out e).max_len ≤ n
      m = omega (
        arith,
        (k.reads e (ap (λ (r : Request). is_on r.begun) same-request ∙ f.begun)).1,
        ap
            (λ (r : Request). r.length) same-request,
        f.room,
      )

      by : (w : List Packet) → (t.outs e).waiting ≡ w → Short (ep_on d Out e).max_len w
          → (q : Packet) × (bytes ≡ q.bytes) × ReadsFirst (t.outs e) (t'.outs e) q
      by [] h s = absurd (true≢false (sym f.one ∙ ap (λ (w : List Packet). some (bytes_of w)) h))
      by (q ∷ qs) h s = (
        q,
        f.given ∙ ap (λ (w : List Packet). take n (first (bytes_of w))) h
            ∙ take_all n q.bytes (omega (arith, s.0, m)),
        reads_first h f.page,
      )

-- a call's answer that is a read's poll done
pub one-call : {φ : Phase} (c : Call Config Op) (l : Buf) (m : Machine Answer Driver) (n : Machine Answer Pages)
    → Coupling φ m.buf m.st n.st → ReadRoom m.st
    → let x = drive c m l in let y = book_step x.0 c n l in After driver_of book agree calls x y
    → (e len : ℕ) (bytes : List ℕ)
    → c ≡ begin (slotted (PollRead e len)) → x.0 ≡ ended (Done bytes) → iso_of n.st Out e ≡ true
    → (q : Packet) × (bytes ≡ q.bytes) × ReadsFirst (n.st.outs e) (y.1.st.outs e) q
one-call c l m n R k a e len bytes p q iso =
    let x = drive c m l in
    let s : (book_step x.0 c n l).0 ≡ ended (Done bytes)
    = ended_same (book_step x.0 c n l).0 (Done bytes) (sym (ap blank_a q) ∙ a.same) in
    let z : (bytes : List ℕ) → (book_step x.0 (begin (slotted (PollRead e len))) n l).0 ≡ ended (Done bytes)
    → Facts n.st l e len iso bytes (book_step x.0 (begin (slotted (PollRead e len))) n l).1.st
    = call_answers n.st l e len iso (fed book x.0) n refl (misfit calls book.driver n.st l) in
    subst (λ (c : Call Config Op). (r : Packet) × (bytes ≡ r.bytes)
    × ReadsFirst (n.st.outs e) ((book_step x.0 c n l).1.st.outs e) r) (sym p)
    (whole R k e len (z bytes (subst (λ (c : Call Config Op). (book_step x.0 c n l).0 ≡ ended (Done bytes)) p s)))
