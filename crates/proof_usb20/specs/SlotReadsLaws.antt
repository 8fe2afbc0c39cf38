-- Laws on the definitions of Slots.antt, of one call each: the bytes that a read's poll gives, why it is refused with
-- 10, the bytes in the slot at a write's begin
use Rattle.std.specs.Prelude.{Bool, true, not, ◌&&◌, ◌||◌, ◌⊎◌, ◌≡◌, ℕ, zero, ◌+◌, ◌≤◌, drop}
use Rattle.std.proofs.Math.Bool.{false, cond}
use mathlib.Core.List.{List}
use Rattle.std.proofs.Math.Logic.{inl, inr}
use Rattle.std.proofs.Math.Path.{refl, ap, subst, sym}
use Rattle.std.proofs.Common.{◌∙◌, arith, length-take, length-drop}
use Rattle.std.proofs.Math.Dec.{eqb, ltb}
use Rattle.std.proofs.Math.ListN.{length, get_or}
use borrow.Author.Tests.{ltb-false}
use Rattle.regs.specs.declared.Dir.{Dir}
use Rattle.regs.specs.declared.Dir.TheVariants.{Out, In}
use Rattle.regs.specs.Enables as enables
use Rattle.state.specs.declared.EpState.{EpState}
use Rattle.state.specs.declared.Request.{Request}
use Rattle.state.specs.Driver.{key, no_request, ep_on, request_on, with_request_on}
use Rattle.state.specs.Laws.{key_apart}
use Rattle.proof_book.specs.LeavesLaws.{record-leaves}
use Rattle.ring.specs.Copies.{bytes_at, copied}
use Rattle.ring.proofs.MarksSlots.{copied-bytes}
use Rattle.script.specs.Tree as tree
use Rattle.script.specs.Cells.{EpCore, ep-cell, request-cell}
use Rattle.script.specs.Script.{run, no_wakes}
use Rattle.script.specs.Statics.{is_on, with_ready}
use Rattle.script.specs.Answers.{is_allocated}
use Rattle.script.specs.Endpoint.{begun, too_long}
use Rattle.script.specs.Calls.{slotted, PollRead, BeginWrite, code}
use Rattle.script_ops.specs.Rings.{St, filled_on}
use Rattle.script_ops.specs.Concrete.{concrete}
use Rattle.proof_usb20.specs.Sequence.{Track, with_phase, off, own}
use Rattle.proof_usb20.specs.Follow.{Fits, view, Follow}
use Rattle.proof_usb20.specs.FollowLaws as follow
use Rattle.proof_usb20.specs.Watch as watch
use Rattle.proof_usb20.specs.Watch.{at_end, Fitted, AtFirst}
use Rattle.proof_usb20.specs.WatchLaws.{watch-any, first-cond, first-bind, first_any}
use Rattle.proof_usb20.specs.ExemptLaws.{by_test, differ}
use Rattle.proof_usb20.specs.Slots.{Place, nowhere, at, Maximum, unknown, is, Deal, InSlot, Above, Reads}
use Rattle.proof_usb20.specs.Slots.{held_of, Placed, Says, AsksFor, Dealt}
use Rattle.proof_usb20.specs.ReadingLaws.{own-true, own-ep, got, iso-own}

-- n bytes of a slot that lies in the buffer
long : (b : List ℕ) (x n : ℕ) → x + n ≤ length b → length (bytes_at b x n) ≡ n
long b x n h = omega (arith, h, length-take n (drop x b), length-drop x b)

in-slot : (p : Place) (b : List ℕ) (n base : ℕ) → Placed p base → InSlot p b n (bytes_at b base n)
in-slot nowhere b n base h = tt
in-slot (at x) b n base h = ap (λ (y : ℕ). bytes_at b y n) (sym h)

above : (m : Maximum) (n most : ℕ) → Says m most → ltb most n ≡ true → Above m n
above unknown n most h l = tt
above (is m) n most h l = ap (λ (y : ℕ). ltb y n) (sym h) ∙ l

-- an own OUT is an OUT
own_out : (D : Dir) (E e : ℕ) → key Out e ≡ key D E → D ≡ Out
own_out Out E e h = refl
own_out In E e h = absurd (key_apart e E h)

asked_of : (D : Dir) (r : Request) (n : ℕ) → D ≡ Out → AsksFor D r n → is_on r.begun ≡ true → r.length ≡ n
asked_of Out r n h a = a
asked_of In r n h a = absurd (subst (λ (d : Dir). is_in d) h tt)
  where
    is_in : Dir → Type 0
    is_in Out = ⊥
    is_in In = Unit {0}

either : (a b : Bool) → a || b ≡ true → (a ≡ true) ⊎ (b ≡ true)
either true b z = inl refl
either false b z = inr z

neither : (a b : Bool) → a || b ≡ false → (a ≡ false) × (b ≡ false)
neither true b z = differ (sym z)
neither false b z = (refl, z)

was-true : (b : Bool) → not b ≡ false → b ≡ true
was-true true z = refl
was-true false z = differ (sym z)

module _ (D : Dir) (E : ℕ) (e n : ℕ) (w : Track) (u : Deal) (s : St) (r : Fits w (view D E s.0))
    (i : is_on (ep_on s.0 D E).iso ≡ false) (k : Dealt D u (held_of D E s.0)) (f : Fitted s) where
  -- a request that is begun is the last begin's
  another : key Out e ≡ key D E → is_on (request_on s.0 Out e).begun ≡ true
      → eqb (request_on s.0 Out e).length n ≡ false → eqb u.asked n ≡ false
  unfolding request_on
  another o z y =
      let same = ap (λ (x : ℕ). get_or s.0.requests x no_request) o in
      ap (λ (x : ℕ). eqb x n) (sym (asked_of D _ u.asked (own_out D E e o) k.asked
      (sym (ap (λ (q : Request). is_on q.begun) same) ∙ z)) ∙ sym (ap (λ (q : Request). q.length) same)) ∙ y

  too_long_lem : key Out e ≡ key D E → too_long n (concrete.get (ep-cell Out e) s) ≡ true
      → (ltb n w.len ≡ true) ⊎ Above u.maximum w.len
  unfolding too_long
  too_long_lem o y =
      let ep = own-ep D E s.0 Out e o in
      let len_is : (ep_on s.0 Out e).len ≡ w.len = ap (λ (p : EpState). p.len) ep ∙ r.len in
      by len_is (ap (λ (p : EpState). p.max_len) ep) (either (ltb n (ep_on s.0 Out e).len) _ y)
    where
      by : (ep_on s.0 Out e).len ≡ w.len → (ep_on s.0 Out e).max_len ≡ (ep_on s.0 D E).max_len
          → (ltb n (ep_on s.0 Out e).len ≡ true) ⊎ (ltb (ep_on s.0 Out e).max_len (ep_on s.0 Out e).len
          ≡ true)
          → (ltb n w.len ≡ true) ⊎ Above u.maximum w.len
      by l m (inl a) = inl (ap (ltb n) (sym l) ∙ a)
      by l m (inr b) = inr (above u.maximum w.len (ep_on s.0 D E).max_len k.maximum
          (sym (λ j. ltb (m j) (l j)) ∙ b))

  -- the packet
  abbrev taken : St
  taken = concrete.put (ep-cell Out e) (with_ready 0 (concrete.get (ep-cell Out e) s)) s

  given : key Out e ≡ key D E → too_long n (concrete.get (ep-cell Out e) s) ≡ false
      → let bytes = bytes_at s.1 (ep_on taken.0 Out e).base (ep_on s.0 Out e).len in
      (length bytes ≡ w.len) × InSlot u.place s.1 w.len bytes
  unfolding too_long
  given o y =
      let ep = own-ep D E s.0 Out e o in
      let len_is : (ep_on s.0 Out e).len ≡ w.len = ap (λ (p : EpState). p.len) ep ∙ r.len in
      let base-is : (ep_on taken.0 Out e).base ≡ (ep_on s.0 D E).base
      = (record-leaves {f = λ (p : EpState). p.base} {h = λ _. zero} s.0 Out e _ refl refl).each Out e
      ∙ ap (λ (p : EpState). p.base) ep in
      let most = ltb-false (ep_on s.0 Out e).max_len (ep_on s.0 Out e).len
      (neither (ltb n (ep_on s.0 Out e).len) _ y).1 in
      let bytes-are : bytes_at s.1 (ep_on taken.0 Out e).base (ep_on s.0 Out e).len
      ≡ bytes_at s.1 (ep_on s.0 D E).base w.len = λ j. bytes_at s.1 (base-is j) (len_is j) in (
        ap length bytes-are ∙ long s.1 (ep_on s.0 D E).base w.len
            (omega (arith, k.inside, f, most, len_is, ap (λ (p : EpState). p.max_len) ep)),
        subst (InSlot u.place s.1 w.len) (sym bytes-are) (in-slot u.place s.1 w.len
            (ep_on s.0 D E).base k.placed),
      )

  pub reads-law : Follow D E (λ x a _. (own D E Out e ≡ true → Reads n s.1 u a x))
      (with_phase off w) (run concrete (code (slotted (PollRead e n))) s)
  reads-law = by_test (own D E Out e)
      (λ h. let o = own-true D E Out e h in
      follow.follow-cond D E (eqb s.0.globals.stage 2)
      (λ _. follow.follow-cond D E (is_allocated s.0.allocator Out e)
      (λ _. follow.follow-cond D E (not (is_on (concrete.get (request-cell Out e) s).begun))
      (λ _. at_end (λ _ z. differ z))
      (λ b. follow.follow-cond D E (eqb (concrete.get (request-cell Out e) s).length n)
      (λ _. follow.follow-cond D E (is_on (concrete.get (ep-cell Out e) s).iso) (λ q. iso-own D E Out e s o i q)
      (λ _. follow.follow-cond D E (is_on (concrete.get (ep-cell Out e) s).ready)
      (λ q. follow.follow-cond D E (too_long n (concrete.get (ep-cell Out e) s))
      (λ y. at_end (λ _ _. inr (
        sym r.ready ∙ (sym (ap (λ (p : EpCore). is_on p.ready) (got D E Out e s o)) ∙ q),
        too_long_lem o y,
      )))
      (λ y. at_end (λ _. given o y)))
      (λ _. follow.follow-cond D E (enables.is_on s.0.globals.ep_config Out e) (λ _. at_end (λ _. tt))
      (λ _. at_end (λ _ z. differ z)))))
      (λ y. at_end (λ _ _. inl (another o (was-true _ b) y)))))
      (λ _. at_end (λ _ z. differ z)))
      (λ _. at_end (λ _ z. differ z)))
      (λ h. watch-any (λ _. Unit {0}) (λ _ _ _. tt) (λ _ _ _ _ _. tt) (λ x a _ _ z. differ (sym h ∙ z))
      (with_phase off w)
      tt (run concrete (code (slotted (PollRead e n))) s))

-- ---- a write's bytes

module _ (D : Dir) (E : ℕ) (e : ℕ) (bytes : List ℕ) (u : Deal) (s : St)
    (i : is_on (ep_on s.0 D E).iso ≡ false) (k : Dealt D u (held_of D E s.0)) (f : Fitted s) where
  abbrev asked : St
  asked = concrete.act no_wakes (concrete.put (request-cell In e) (begun (length bytes)) s)

  filled : key In e ≡ key D E → ltb (concrete.get (ep-cell In e) s).max_len (length bytes) ≡ false
      → InSlot u.place (filled_on asked.0 e bytes s.1) (length bytes) bytes
  unfolding filled_on ep_on with_request_on
  filled o few =
      let ep : ep_on s.0 In e ≡ ep_on s.0 D E = own-ep D E s.0 In e o in
      let most = ltb-false (ep_on s.0 In e).max_len (length bytes) few in
      let plain : is_on (ep_on s.0 In e).iso ≡ false = ap (λ (p : EpState). is_on p.iso) ep ∙ i in
      subst (λ (b : List ℕ). InSlot u.place b (length bytes) bytes)
      (sym (ap (λ (c : Bool). cond c s.1 (cond (ltb (ep_on s.0 In e).max_len (length bytes)) s.1
      (copied s.1 (ep_on s.0 In e).base bytes))) plain
      ∙ ap (λ (c : Bool). cond c s.1 (copied s.1 (ep_on s.0 In e).base bytes)) few))
      (lies u.place (ap (λ (p : EpState). p.base) ep) k.placed
      (omega (arith, most, k.inside, f, ap (λ (p : EpState). p.max_len) ep)))
    where
      lies : (p : Place) → (ep_on s.0 In e).base ≡ (ep_on s.0 D E).base → Placed p (ep_on s.0 D E).base
          → (ep_on s.0 D E).base + length bytes ≤ length s.1
          → InSlot p (copied s.1 (ep_on s.0 In e).base bytes) (length bytes) bytes
      lies nowhere b h l = tt
      lies (at x) b h l = (λ j. bytes_at (copied s.1 (b j) bytes) (sym h j) (length bytes))
          ∙ copied-bytes s.1 (ep_on s.0 D E).base bytes l

  pub loads-write : AtFirst (λ b. (own D E In e ≡ true → InSlot u.place b (length bytes) bytes))
      (run concrete (code (slotted (BeginWrite e bytes))) s)
  loads-write = by_test (own D E In e)
      (λ h. let o = own-true D E In e h in
      first-cond (eqb s.0.globals.stage 2) (λ _. first-cond (is_allocated s.0.allocator In e)
      (λ _. first-cond (enables.is_on s.0.globals.ep_config In e)
      (λ _. first-cond (ltb (concrete.get (ep-cell In e) s).max_len (length bytes)) (λ _. watch.ended)
      (λ few. first-bind (first-bind (first-cond (is_on (concrete.get (ep-cell In e) s).iso)
      (λ q. iso-own D E In e s o i q)
      (λ _. watch.handed (λ _. filled o few))) (λ _ _. watch.ended)) (λ _ _. watch.ended)))
      (λ _. watch.ended)) (λ _. watch.ended)) (λ _. watch.ended))
      (λ h. first_any (λ _ z. differ (sym h ∙ z)) (run concrete (code (slotted (BeginWrite e bytes))) s))
