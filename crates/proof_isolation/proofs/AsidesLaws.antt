-- The calls that pass during an interrupt: of other endpoints the same in both runs; the channel's own change nothing
-- but its data
use Rattle.std.specs.Prelude.{Bool, List, ◌≢◌, ◌≡◌, ℕ, ◌+◌, ◌*◌, ◌%◌, ◌≤◌, ◌<◌, length, get_or, set}
use Rattle.std.proofs.Math.Bool.{true, false, cond}
use Rattle.std.proofs.Math.Path.{refl, ap, subst}
use Rattle.std.proofs.Common.{sym, ◌∙◌, arith}
use Rattle.regs.specs.declared.Dir.{Dir}
use Rattle.regs.specs.declared.Dir.TheVariants.{Out, In}
use Rattle.state.specs.declared.EpState.{EpState}
use Rattle.state.specs.Driver.{Driver, key, no_ep, with_eps, ep_on, with_on, len_on, with_len_on, stamp_on, stamp_key}
use Rattle.state.specs.Laws.{key_apart, key-same, ep_on-same, ep_on-other}
use Rattle.ring.specs.Only.{Same, Only}
use Rattle.ring.specs.OnlyLaws.{only-refl}
use Rattle.ring.specs.Copies.{copied, bytes_at}
use Rattle.ring.specs.Slot.{slot_of, slot_addr, has_waiting, joined_of}
use Rattle.ring.specs.Out.{opened_of, closed_of}
use Rattle.ring.specs.Waiting.{SamePlace, Ring}
use Rattle.ring.specs.Slots.{slot-in, slot-from, slot-upto}
use Rattle.ring.specs.Window.{window-is, window_same}
use Rattle.script.specs.Cells.{EpCore, globals-cell, allocator-cell, ep-cell}
use Rattle.script.specs.Script.{run, Act, waiting, room, opened, oldest, next_stamp_lem, open_oldest, close_oldest, enqueue}
use Rattle.script.specs.Statics.{is_on}
use Rattle.script.specs.Calls.{Aside, Open, Close, Queue, aside_code}
use Rattle.script.specs.Simulates.{quiet}
use Rattle.script_ops.specs.Rings.{St, waiting_on, room_on, room_in, opened_on, next_stamp, oldest_at, oldest_on, open_on}
use Rattle.script_ops.specs.Rings.{close_on, queued_on, enqueue_on, next_len}
use Rattle.script_ops.specs.Concrete.{concrete, is_of, look_of, fetch_of, act_on}
use Rattle.proof_book.specs.Coupling.{end_of, lens_of, slot_stamps, Held}
use Rattle.proof_book.specs.LensLaws.{stamps-at, lens-at, lens-length, lens-set, lens-mod, ep-len}
use Rattle.proof_book.specs.FrameLaws.{changed-on, changed-len, same_place}
use Rattle.proof_book.proofs.OutsLaws.{Inner}
use Rattle.proof_book.proofs.OutsLaws.{Inner}
use Rattle.proof_isolation.specs.EqualExcept.{EqualExcept, Beside, Lawful, Channel, LowEquiv, Touched}
use Rattle.proof_isolation.specs.Apart.{Pair}
use Rattle.proof_isolation.specs.LikesLaws.{inner-stays, own-changed, but-refl, touched-refl, touched-trans}
use Rattle.proof_isolation.specs.PairsLaws.{Eq, p_ret, p-same, p-then, p_test, p_get, p_is, p_look, p_fetch}
use Rattle.proof_isolation.specs.PairsLaws.{p-act}
use Rattle.proof_isolation.specs.ButsLaws.{but-on, but-changed, like-made, lawful-act, others_same}
use Rattle.proof_isolation.proofs.ValuesLaws.{in-other, p-globals, p-plain, p-plain-in}
use Rattle.proof_isolation.specs.Answers.{SameAnswer, same}
use Rattle.proof_isolation.proofs.AnswersLaws.{p-staged, p-named}
use Rattle.proof_isolation.specs.BytesLaws.{copied-like, only-like}
use Rattle.proof_isolation.specs.Ending.{Finished}
use Rattle.proof_isolation.specs.EndingLaws.{Brief, b-ret, b-bind, b-test, b-get, b-is, b-look, b-fetch, b-act}
use Rattle.proof_isolation.proofs.InRingsLaws.{len-mod, next-same, out-changed}
use Rattle.proof_isolation.specs.Asides.{Others, Mine}

-- ---- of another OUT endpoint

mod-mod : (i : ℕ) → i % 16 % 16 ≡ i % 16
mod-mod i = omega arith

stamp-mod : (d : Driver) (e i : ℕ) → stamp_on d e i ≡ stamp_on d e (i % 16)
unfolding stamp_on stamp_key
stamp-mod d e i = ap (λ j. get_or d.stamps (e % 16 * 16 + j) 0) (sym (mod-mod i))

pub stamp-any : (d d' : Driver) (e i : ℕ) → slot_stamps d e ≡ slot_stamps d' e → stamp_on d e i ≡ stamp_on d' e i
stamp-any d d' e i h =
    stamp-mod d e i ∙ sym (stamps-at d e (i % 16) (omega arith))
    ∙ ap (λ l. get_or l (i % 16) 0) h ∙ stamps-at d' e (i % 16) (omega arith) ∙ sym (stamp-mod d' e i)

pub bytes_same : (b c : List ℕ) (at n : ℕ) → length c ≡ length b → at + n ≤ length b → Same at (at + n) b c
    → bytes_at b at n ≡ bytes_at c at n
bytes_same b c at n long fits s = sym (window-is b at n fits) ∙ sym (window_same b c at n s)
    ∙ window-is c at n (omega (arith, long))

module _ (c : Channel) (e : ℕ) (n : key Out e ≢ key Out c.number) (s t : St) (l : LowEquiv c quiet s t) where
  abbrev h : ep_on s.0 Out e ≡ ep_on t.0 Out e
  h = l.but.eps Out e n

  pub waiting-out : is_of (waiting Out e) s ≡ is_of (waiting Out e) t
  unfolding waiting_on
  waiting-out = ap has_waiting h

  opened_out : is_of (opened e) s ≡ is_of (opened e) t
  unfolding opened_on
  opened_out = ap (λ (r : EpState). is_on r.«open») h

  stamp-out : look_of (next_stamp_lem e) s ≡ look_of (next_stamp_lem e) t
  unfolding next_stamp
  stamp-out =
      ap (λ (r : EpState). cond (has_waiting r) (stamp_on s.0 e (slot_of r r.tail)) 0) h
      ∙ ap (λ k. cond (has_waiting (ep_on t.0 Out e)) k 0)
      (stamp-any s.0 t.0 e (slot_of (ep_on t.0 Out e) (ep_on t.0 Out e).tail) (l.but.stamps e n))

  opens : LowEquiv c quiet (act_on (open_oldest e) s) (act_on (open_oldest e) t)
  unfolding open_on
  opens = out-changed c e n has_waiting opened_of s t l (lawful-act c (open_oldest e) refl l.left)
      (lawful-act c (open_oldest e) refl l.right)

  closes : LowEquiv c quiet (act_on (close_oldest e) s) (act_on (close_oldest e) t)
  unfolding close_on
  closes = out-changed c e n (λ r. is_on r.«open») closed_of s t l
      (lawful-act c (close_oldest e) refl l.left) (lawful-act c (close_oldest e) refl l.right)

-- the bytes of its oldest packet
len-capped : (d : Driver) (dir : Dir) (e most : ℕ) (i : ℕ) → Ring most (ep_on d dir e) (lens_of d dir e) → len_on d dir e i
    ≤ (ep_on d dir e).stride
len-capped d dir e most i g = rw (len-mod d dir e i ∙ sym (lens-at d dir e (i % 16) (omega arith))) (g.capped (i % 16))

pub next-capped : (d : Driver) (dir : Dir) (e most : ℕ) → Ring most (ep_on d dir e) (lens_of d dir e) → next_len d dir e
    ≤ (ep_on d dir e).stride
unfolding next_len
next-capped d dir e most g = by (has_waiting (ep_on d dir e))
  where
    by : (u : Bool) → cond u (len_on d dir e (slot_of (ep_on d dir e) (ep_on d dir e).tail)) 0 ≤ (ep_on d dir e).stride
    by true = len-capped d dir e most _ g
    by false = omega arith

-- where its record, its lengths and the bytes of its slots are the same
pub oldest-by : (s t : St) (e : ℕ) {most : ℕ} {w : List (List ℕ)}
    → Held most s.1 (ep_on s.0 Out e) (lens_of s.0 Out e) w
    → length t.1 ≡ length s.1
    → ((lo hi : ℕ) → (ep_on s.0 Out e).base ≤ lo → hi ≤ end_of (ep_on s.0 Out e) → Same lo hi s.1 t.1)
    → ep_on s.0 Out e ≡ ep_on t.0 Out e → lens_of s.0 Out e ≡ lens_of t.0 Out e → oldest_on s.0 e s.1
    ≡ oldest_on t.0 e t.1
unfolding oldest_on oldest_at
oldest-by s t e f long alike g ls =
    let r = ep_on s.0 Out e in
    let k = next-capped s.0 Out e _ f.ring in
    let u = slot-upto f.placed r.tail in
    bytes_same s.1 t.1 (slot_addr r r.tail) (next_len s.0 Out e) long (omega (arith, k, u, f.placed.inside))
    (alike _ _ (slot-from f.placed r.tail) (omega (arith, k, u)))
    ∙ ap (λ (r : EpState). bytes_at t.1 (slot_addr r r.tail) (next_len s.0 Out e)) g
    ∙ ap (λ k. bytes_at t.1 (slot_addr (ep_on t.0 Out e) (ep_on t.0 Out e).tail) k)
    (next-same s.0 t.0 Out e g ls)

module _ (c : Channel) (e : ℕ) (n : key Out e ≢ key Out c.number) (s t : St) (l : LowEquiv c quiet s t) where
  pub oldest-out : fetch_of (oldest e) s ≡ fetch_of (oldest e) t
  oldest-out = oldest-by s t e (l.left.rest.outs e).held l.bytes.long
      (λ lo hi. others_same l Out e lo hi n) (l.but.eps Out e n) (l.but.lens Out e n)

-- ---- of an IN endpoint

module _ (c : Channel) (e : ℕ) (bytes : List ℕ) (s t : St) (l : LowEquiv c quiet s t) where
  pub room_in_lem : (n : ℕ) → is_of (room e n) s ≡ is_of (room e n) t
  unfolding room_on
  room_in_lem n = ap (λ r. room_in r n) (l.but.eps In e (in-other c.number e))

  abbrev r : EpState
  r = ep_on s.0 In e

  abbrev same_r : ep_on s.0 In e ≡ ep_on t.0 In e
  same_r = l.but.eps In e (in-other c.number e)

  head_in : slot_of r r.head < 16
  head_in = let f = (l.left.rest.ins e).held in omega
      (arith, slot-in f.placed r.head, f.ring.whole, lens-length s.0 In e)

  longer : EqualExcept c.number (with_len_on s.0 In e (slot_of r r.head) (length bytes))
      (with_len_on t.0 In e (slot_of r r.head) (length bytes))
  longer =
      let i = slot_of r r.head in
      let z = l.left.rest.sized in
      let z' = l.right.rest.sized in
      let lens = lens-set s.0 In e z i (length bytes) head_in
      ∙ ap (λ m. set m i (length bytes)) (l.but.lens In e (in-other c.number e))
      ∙ sym (lens-set t.0 In e z' i (length bytes) head_in) in
      but-changed l.but In e (in-other c.number e) (changed-len z In e i (length bytes))
      (changed-len z' In e i (length bytes))
      (ep-len s.0 In e i (length bytes) In e ∙ same_r ∙ sym (ep-len t.0 In e i (length bytes) In e))
      (λ a f p. by lens a f p) (λ f p. absurd (key_apart f e p))
    where
      by : lens_of (with_len_on s.0 In e (slot_of r r.head) (length bytes)) In e
          ≡ lens_of (with_len_on t.0 In e (slot_of r r.head) (length bytes)) In e
          → (a : Dir) (f : ℕ) → key a f ≡ key In e → lens_of (with_len_on s.0 In e (slot_of r r.head) (length bytes))
          a f
          ≡ lens_of (with_len_on t.0 In e (slot_of r r.head) (length bytes)) a f
      by q In f p = lens-mod _ In f e (key-same In f e p) ∙ q ∙ sym (lens-mod _ In f e (key-same In f e p))
      by q Out f p = absurd (key_apart f e p)

  queued : EqualExcept c.number (queued_on s.0 e (length bytes)) (queued_on t.0 e (length bytes))
  unfolding queued_on
  queued =
      let i = slot_of r r.head in
      subst
      (λ (q : EpState). EqualExcept c.number (with_on (with_len_on s.0 In e i (length bytes)) In e (joined_of r))
      (with_on (with_len_on t.0 In e (slot_of q q.head) (length bytes)) In e (joined_of q))) same_r
      (but-on longer (changed-len l.left.rest.sized In e i (length bytes)).sized
      (changed-len l.right.rest.sized In e i (length bytes)).sized In e
      (joined_of r) (joined_of r) (λ _. refl) (λ p. absurd (in-other c.number e p)))

  record Kept (a b : St) : Type 0 where
    but : EqualExcept c.number a.0 b.0
    seat : SamePlace (ep_on s.0 Out c.number) (ep_on a.0 Out c.number)
    lent : Only (ep_on s.0 Out c.number).base (end_of (ep_on s.0 Out c.number)) a.1 b.1

  queued_by : (u : Bool) → Kept (cond u (queued_on s.0 e (length bytes), copied s.1 (slot_addr r r.head) bytes)
      s)
      (cond u (
        queued_on t.0 e (length bytes),
        copied t.1 (slot_addr (ep_on t.0 In e) (ep_on t.0 In e).head)
            bytes,
      ) t)
  unfolding queued_on with_on with_len_on
  queued_by true = record {
    but = queued;
    seat = rw (
      ep_on-other (with_len_on s.0 In e (slot_of r r.head) (length bytes)) In e (joined_of r) Out c.number
          (key_apart c.number e),
      ep-len s.0 In e (slot_of r r.head) (length bytes) Out c.number,
    ) (same_place (ep_on s.0 Out c.number));
    lent = subst
        (λ (q : EpState). Only (ep_on s.0 Out c.number).base (end_of (ep_on s.0 Out c.number))
        (copied s.1 (slot_addr r r.head) bytes) (copied t.1 (slot_addr q q.head) bytes)) same_r
        (only-like l.bytes (λ k a. copied-like s.1 t.1 (slot_addr r r.head) bytes k a));
  }
  queued_by false = record { but = l.but; seat = same_place (ep_on s.0 Out c.number); lent = l.bytes }

  enqueued : Kept (act_on (enqueue e bytes) s) (act_on (enqueue e bytes) t)
  unfolding enqueue_on
  enqueued = subst (λ u. Kept (enqueue_on e bytes s) (cond u (
    queued_on t.0 e (length bytes),
    copied t.1 (slot_addr (ep_on t.0 In e) (ep_on t.0 In e).head) bytes,
  ) t)) (room_in_lem (length bytes)) (queued_by (room_on s.0 e (length bytes)))

  pub enqueues : LowEquiv c quiet (act_on (enqueue e bytes) s) (act_on (enqueue e bytes) t)
  enqueues = let k = enqueued in like-made l (lawful-act c (enqueue e bytes) refl l.left)
      (lawful-act c (enqueue e bytes) refl l.right) k.but k.seat k.lent

-- ---- the calls

module _ (c : Channel) (st : ℕ) where
  pub p-aside : (o : Aside) → Others c.number o → Pair c st (SameAnswer c.number) (aside_code o) (aside_code o)
  p-aside (Open e) n = p-staged 2 (p-named Out e (p-plain c Out e n (λ p _. p_test _ (λ _. p_ret (same _))
      (λ _. p-same (p_is (waiting Out e) (waiting-out c e n)) (λ b. p_test b
      (λ _. p-then (p-act (open_oldest e) (opens c e n))
      (p-same (p_fetch (oldest e) (oldest-out c e n)) (λ w. p-same (p_look (next_stamp_lem e) (stamp-out c e n))
      (λ k. p_ret (same _)))))
      (λ _. p_ret (same _)))))))
  p-aside (Close e) n = p-staged 2 (p-named Out e (p-same (p_is (opened e) (opened_out c e n)) (λ b. p_test b
      (λ _. p-then (p-act (close_oldest e) (closes c e n)) (p_ret (same _)))
      (λ _. p_ret (same _)))))
  p-aside (Queue e bytes) n = p-staged 2 (p-named In e (p-globals c (λ g _. p_test _
      (λ _. p-same (p_get allocator-cell Eq (λ s t l. l.but.allocator)) (λ a. p_test _ (λ _. p_ret (same _))
      (λ _. p-plain-in c e (λ p _. p_test _ (λ _. p_ret (same _))
      (λ _. p-same (p_is (room e (length bytes)) (λ s t l. room_in_lem c e bytes s t l (length bytes))) (λ b. p_test b
      (λ _. p-then (p-act (enqueue e bytes) (enqueues c e bytes)) (p_ret (same _)))
      (λ _. p_ret (same _))))))))
      (λ _. p_ret (same _)))))

-- ---- the channel's own

module _ (c : Channel) (s : St) (l : Lawful c.iso quiet s) where
  abbrev x : ℕ
  x = c.number

  own_on : (r : EpState) → Inner (ep_on s.0 Out x) r → Beside x s.0 (with_on s.0 Out x r)
  own_on r k = own-changed (changed-on l.rest.sized Out x r k.place (ap (λ (q : EpCore). q.iso) k.plain))
      (inner-stays (rw (ep_on-same s.0 Out x r l.rest.sized) k))

  own-cond : (u : Bool) (r : EpState) → Inner (ep_on s.0 Out x) r
      → Beside x s.0 (cond u (with_on s.0 Out x r) s.0)
  own-cond true r k = own_on r k
  own-cond false r k = but-refl x s.0

  pub own-opens : Touched c quiet s (act_on (open_oldest x) s)
  unfolding open_on with_on opened_of
  own-opens = record {
    left = l;
    right = lawful-act c (open_oldest x) refl l;
    but = own-cond (has_waiting (ep_on s.0 Out x)) _ (record
        { place = record { base = refl; stride = refl; slots = refl }; plain = refl });
    bytes = only-refl _ _ s.1;
  }

  pub own-closes : Touched c quiet s (act_on (close_oldest x) s)
  unfolding close_on with_on closed_of Rattle.ring.specs.Slot.passed_of
  own-closes = record {
    left = l;
    right = lawful-act c (close_oldest x) refl l;
    but = own-cond (is_on (ep_on s.0 Out x).«open») _
        (record { place = record { base = refl; stride = refl; slots = refl }; plain = refl });
    bytes = only-refl _ _ s.1;
  }

-- ---- all of them end at once

-- what an aside may do
abbrev pub act_of : Aside → Act
act_of (Open e) = open_oldest e
act_of (Close e) = close_oldest e
act_of (Queue e bytes) = enqueue e bytes

brief : (K : St → Type 0) (o : Aside) → ((s : St) → K s → K (act_on (act_of o) s)) → Brief K (aside_code o)
brief K (Open e) h = b-bind (b-get globals-cell)
    (λ g. b-test _ (b-bind (b-get allocator-cell) (λ a. b-test _
    (b-bind (b-get (ep-cell Out e)) (λ p. b-test _ (b-ret _)
    (b-bind (b-is (waiting Out e)) (λ b. b-test b (b-bind (b-act (open_oldest e) h)
    (λ _. b-bind (b-fetch (oldest e)) (λ w. b-bind (b-look (next_stamp_lem e)) (λ k. b-ret _)))) (b-ret _))))) (b-ret _)))
    (b-ret _))
brief K (Close e) h = b-bind (b-get globals-cell)
    (λ g. b-test _ (b-bind (b-get allocator-cell)
    (λ a. b-test _ (b-bind (b-is (opened e)) (λ b. b-test b (b-bind (b-act (close_oldest e) h) (λ _. b-ret _))
    (b-ret _))) (b-ret _))) (b-ret _))
brief K (Queue e bytes) h = b-bind (b-get globals-cell)
    (λ g. b-test _ (b-bind (b-get allocator-cell) (λ a. b-test _ (b-bind (b-get globals-cell) (λ g. b-test _
    (b-bind (b-get allocator-cell) (λ a. b-test _ (b-ret _) (b-bind (b-get (ep-cell In e)) (λ p. b-test _ (b-ret _)
    (b-bind (b-is (room e (length bytes))) (λ b. b-test b (b-bind (b-act (enqueue e bytes) h) (λ _. b-ret _))
    (b-ret _)))))))
    (b-ret _))) (b-ret _))) (b-ret _))

pub finishes : (o : Aside) (K : St → Type 0) → ((s : St) → K s → K (act_on (act_of o) s)) → (s : St) → K s
    → Finished K (run concrete (aside_code o) s)
finishes o K h s k = (brief K o h).on s k

-- by its number, in whatever way it is brought (row 5 comes after)
open-key : (e x : ℕ) (d : Driver) → key Out e ≡ key Out x → open_on d e ≡ open_on d x
unfolding open_on ep_on with_on
open-key e x d m = ap (λ k. cond (has_waiting (get_or d.eps k no_ep))
    (with_eps d (set d.eps k (opened_of (get_or d.eps k no_ep)))) d) m

close-key : (e x : ℕ) (d : Driver) → key Out e ≡ key Out x → close_on d e ≡ close_on d x
unfolding close_on ep_on with_on
close-key e x d m = ap (λ k. cond (is_on (get_or d.eps k no_ep).«open»)
    (with_eps d (set d.eps k (closed_of (get_or d.eps k no_ep)))) d) m

own-act : (c : Channel) (o : Aside) → Mine c.number o → (s t : St) → Touched c quiet s t
    → Touched c quiet s (act_on (act_of o) t)
own-act c (Open e) m s t l = subst (λ d. Touched c quiet s (d, t.1)) (sym (open-key e c.number t.0 m))
    (touched-trans l (own-opens c t l.right))
own-act c (Close e) m s t l = subst (λ d. Touched c quiet s (d, t.1)) (sym (close-key e c.number t.0 m))
    (touched-trans l (own-closes c t l.right))
own-act c (Queue e bytes) m s t l = absurd m

-- it leaves a state that is the same but for the channel's data
pub own-finishes : (c : Channel) (o : Aside) → Mine c.number o
    → (s : St) → Lawful c.iso quiet s → Finished (Touched c quiet s) (run concrete (aside_code o) s)
own-finishes c o m s l = finishes o (Touched c quiet s) (own-act c o m s) s (touched-refl l)
