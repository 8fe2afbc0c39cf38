-- Which endpoints are isochronous is the allocations' doing: no other call changes an endpoint's flag
use Rattle.std.specs.Prelude.{Bool, ◌&&◌, ◌||◌, ◌⊎◌, ◌≡◌, ℕ, ◌/◌, ◌%◌, eqb, ltb, leb}
use Rattle.std.proofs.Math.Bool.{true, false, not}
use mathlib.Core.List.{List, [], ◌∷◌}
use Rattle.std.proofs.Common.{inl, ap, subst, sym, ◌∙◌, eq-eqb}
use Rattle.std.proofs.Math.Logic.{inr}
use Rattle.std.proofs.Math.Path.{refl}
use Rattle.std.proofs.Math.Decide.{ℕ_discrete}
use Rattle.std.proofs.Math.ListN.{length, length-set}
use Rattle.regs.specs.declared.Dir.{Dir}
use Rattle.state.specs.declared.EpState.{EpState}
use Rattle.state.specs.declared.Allocator.{Allocator}
use Rattle.state.specs.Driver.{Driver, key, ep_on, with_on, with_allocator}
use Rattle.alloc.specs.declared.Allocation.{Allocation}
use Rattle.alloc.specs.declared.Answer as alloc
use Rattle.alloc.specs.declared.Answer.TheVariants as variant
use Rattle.alloc.specs.declared.Found.{Found}
use Rattle.alloc.specs.declared.Found.TheVariants.{Number, Nothing}
use Rattle.alloc.specs.Alloc as allocs
use Rattle.alloc.specs.Alloc.{if, is_iso, allocated, allocate_of, allocate_ep0_of, number_of, asked_of, lowest_of, is_free}
use Rattle.alloc.specs.Alloc.{dir_bit}
use Rattle.alloc.specs.Outcome.{Outcome, six, seven, eight, given}
use Rattle.alloc.proofs.OutcomeLaws.{outcome}
use Rattle.descriptor.specs.declared.Endpoint.{Endpoint}
use Rattle.descriptor.specs.declared.Answer as listing
use Rattle.descriptor.specs.declared.Answer.TheVariants as listed
use Rattle.descriptor.specs.Reading.{reading_of, list_of}
use Rattle.descriptor.specs.Trial.{direction_of, trial_of}
use Rattle.script.specs.Tree as tree
use Rattle.script.specs.Script.{Act, run, allocate, no_wakes, place, gathered}
use Rattle.script.specs.Statics.{is_on}
use Rattle.script.specs.Answers.{Answer, End, operation}
use Rattle.script.specs.Kinds.{Kind, giving, is, kind_of}
use Rattle.script.specs.Steps.{may_act}
use Rattle.script.specs.StepsRuns.{Holds, end, ask, Keeps}
use Rattle.script.specs.StepsRunsLaws.{holds-run}
use Rattle.script.proofs.StepsCalls.{call-steps}
use Rattle.script.specs.Driver.{new_endpoint, allocated_as}
use Rattle.script.specs.AllocateAll.{allocate_each, announce_all, allocate_read}
use Rattle.script.specs.Calls.{Op, interrupt, slotted, other, aside, Other, Allocate, AllocateAll, Start, BusPoll}
use Rattle.script.specs.Calls.{BusEnable, BusDisable, Microframe, SetStalled, IsStalled, SetPaced, Advance, BeginRead}
use Rattle.script.specs.Calls.{BeginSetup, PollSetup, PollDataIn, BeginAccept, PollAccept, BeginReject, BeginDataOut}
use Rattle.script.specs.Calls.{BeginAcceptSetAddress, Slotted, SetEnabled, PollRead, BeginWrite, PollWrite, PollDataOut}
use Rattle.script.specs.Calls.{BeginDataIn, code}
use Rattle.script_ops.specs.Records.{record_given, sets_given, given_to, allocated_on, started_with, allocated_ep0}
use Rattle.script_ops.specs.Rings.{St}
use Rattle.script_ops.specs.Concrete.{concrete}
use Rattle.proof_book.specs.LeavesLaws.{turns, by-act}
use Rattle.proof_book.specs.TransferKindsLaws.{put-steady, act-steady, rings-steady, hand-steady, row-steady}
use Rattle.proof_usb20.specs.Sequence.{Track, saw, off, with_phase, own, opens}
use Rattle.proof_usb20.specs.DataToggles.{asks_for, lists_iso, made_iso}
use Rattle.proof_usb20.specs.Follow.{EpSeen, view, Follow}
use Rattle.proof_usb20.specs.FollowLaws as follow
use Rattle.proof_usb20.specs.Watch.{at_end, at_ask}
use Rattle.proof_usb20.specs.ExemptLaws.{differ}
use Rattle.proof_usb20.specs.CalmLaws.{Whole, loose}
use Rattle.proof_usb20.proofs.FittingLaws.{both}
use Rattle.proof_usb20.specs.ReadingLaws.{own-with}
use Rattle.proof_usb20.specs.RestartingLaws.{q_announces}
use Rattle.proof_usb20.specs.ViewsLaws.{ep-other}

module _ (D : Dir) (E : ℕ) where
  abbrev pub NotIso : St → Type 0
  NotIso s = is_on (ep_on s.0 D E).iso ≡ false

  -- ---- all but allocations

  start-kept : (maximum : ℕ) (d : Driver) → ep_on (allocated_ep0 d maximum) D E ≡ ep_on d D E
  unfolding allocated_ep0 started_with ep_on
  start-kept maximum d =
      by (allocate_ep0_of d.allocator maximum).answer (with_allocator d (allocate_ep0_of d.allocator maximum).after)
    where
      by : (a : alloc.Answer) (y : Driver) → ep_on (started_with maximum a y) D E ≡ ep_on y D E
      by (variant.Refused n) y = refl
      by (variant.Given e base slots) y = refl

  acts : (k : Kind) → is k giving ≡ false → (q : Act) → may_act k q ≡ true → (s : St) → NotIso s
      → NotIso (concrete.act q s)
  acts k g q m s h = by-act {K = λ q d. may_act k q ≡ true → is_on (ep_on d D E).iso ≡ false} s
      (λ q d p _. ap is_on ((rings-steady (turns q) p).flags D E) ∙ h)
      (λ dir kind address maximum interval n. differ (sym g ∙ n))
      (λ maximum _. ap (λ (r : EpState). is_on r.iso) (start-kept maximum s.0) ∙ h) q m

  keeps : (k : Kind) → is k giving ≡ false → Keeps concrete NotIso k
  keeps k g = record {
    put = λ c v _ s h. ap is_on ((put-steady c v s).flags D E) ∙ h;
    act = acts k g;
    hand = λ q _ s h. ap is_on ((hand-steady q s).flags D E) ∙ h;
    row = λ r _ n s h. ap is_on ((row-steady r n s).flags D E) ∙ h;
  }

  followed : {A : Type 0} {w : Track} {o : tree.Out St A} → Holds NotIso o → Follow D E (λ _ _ t. NotIso t) w o
  followed (end h) = at_end h
  followed {A = A} {w = w} (ask {q = q} h x) =
      at_ask tt (λ v t _ k. followed {w = saw D E w q v} (x v t (ap (λ (y : EpSeen). is_on y.iso) k.0 ∙ h)))

  -- what a call makes of it
  abbrev pub Made : Op → Track → Answer → St → Type 0
  Made o w a t = (made_iso D E o a ≡ true) ⊎ NotIso t

  others : (o : Op) → is (kind_of o) giving ≡ false → (w : Track) (s : St) → NotIso s
      → Follow D E (Made o) w (run concrete (code o) s)
  others o g w s h = follow.follow-more D E (followed (holds-run (keeps (kind_of o) g) (code o) (call-steps o) s h))
      (λ _ _ _ n. inr n)

  -- ---- an allocation

  flag-says : (i : Bool) → is_on (allocs.flag i) ≡ i
  unfolding is_on
  flag-says true = refl
  flag-says false = refl

  given-iso : (d : Dir) (kind maximum interval e base slots : ℕ) (x : Driver) → length x.eps ≡ 32
      → is_on (ep_on x D E).iso ≡ false
      → let y = sets_given d kind interval e (record_given d kind maximum e base slots x) in
      ((is_iso kind && own D E d e ≡ true) ⊎ (is_on (ep_on y D E).iso ≡ false)) × (length y.eps ≡ 32)
  unfolding sets_given record_given allocated with_on ep_on
  given-iso d kind maximum interval e base slots x l h = (
    by (ℕ_discrete (key d e) (key D E))
        (is_iso kind) refl,
    length-set x.eps (key d e) _ ∙ l,
  )
    where
      r : EpState
      r = allocated (ep_on x d e) kind maximum base x.allocator.size slots

      here : is_on r.iso ≡ is_iso kind
      here = flag-says (is_iso kind)

      by : Dec (key d e ≡ key D E) → (i : Bool) → is_iso kind ≡ i
          → (is_iso kind && own D E d e ≡ true) ⊎ (is_on (ep_on (with_on x d e r) D E).iso ≡ false)
      by (yes o) true q = inl (rw (q, eq-eqb (key d e) (key D E) o) refl)
      by (yes o) false q = inr (ap (λ (z : EpState). is_on z.iso) (own-with D E x d e r o l) ∙ (here ∙ q))
      by (no o) i q = inr (ap (λ (z : EpState). is_on z.iso) (ep-other x d e r D E (λ z. o (sym z))) ∙ h)

  -- its result is the number that is given
  numbered : (d : Dir) (kind maximum e : ℕ) (P : Answer → St → Type 0) (w : Track) (s : St)
      → ((ws : List ℕ) (t : St) → view D E t.0 ≡ view D E s.0 → P (End e ws) t)
      → Follow D E (λ _ a t. P a t) w (run {i = false} concrete (operation (new_endpoint d kind maximum e)) s)
  numbered d kind maximum e P w s f = at_ask tt (λ _ t _ k.
      follow.follow-bind D E {P = λ _ n u. (n ≡ e) × (view D E u.0 ≡ view D E t.0)}
      (follow.follow-bind D E {P = λ _ _ u. view D E u.0 ≡ view D E t.0}
      (follow.follow-cond D E (not (eqb (kind % 4) 0)) (λ _. at_ask tt (λ _ u _ l. at_end (l.0
      ∙ follow.hand-view D E (place d e) t)))
      (λ _. at_end refl)) (λ _ _ u m. at_end (refl, m)))
      (λ _ n u m. at_end (subst (λ (x : ℕ). P (End x (concrete.fetch gathered u)) u) (sym m.0)
      (f (concrete.fetch gathered u) u (m.1 ∙ (k.0 ∙ follow.act-view D E no_wakes refl s))))))

  -- by the allocator's answer
  abbrev After : Dir → ℕ → alloc.Answer → Driver → Type 0
  After d kind (variant.Refused n) y = is_on (ep_on y D E).iso ≡ false
  After d kind (variant.Given e base slots) y = (is_iso kind && own D E d e ≡ true) ⊎ (is_on (ep_on y D E).iso ≡ false)

  alloc-iso : (x : Driver) (d : Dir) (kind address maximum interval : ℕ) → length x.eps ≡ 32
      → is_on (ep_on x D E).iso ≡ false
      → (a : alloc.Answer) → (allocate_of x.allocator kind address maximum d).answer ≡ a
      → After d kind a (allocated_on x d kind address maximum interval)
      × (length (allocated_on x d kind address maximum interval).eps ≡ 32)
  unfolding allocated_on given_to ep_on
  alloc-iso x d kind address maximum interval l h a q =
      let z = allocate_of x.allocator kind address maximum d in
      let y = with_allocator x z.after in
      let p = by z.answer y l h in
      (subst (λ (b : alloc.Answer). After d kind b (given_to d kind maximum interval z.answer y)) q p.0, p.1)
    where
      by : (a : alloc.Answer) (y : Driver) → length y.eps ≡ 32 → is_on (ep_on y D E).iso ≡ false
          → After d kind a (given_to d kind maximum interval a y)
          × (length (given_to d kind maximum interval a y).eps ≡ 32)
      by (variant.Refused n) y l h = (h, l)
      by (variant.Given e base slots) y l h = given-iso d kind maximum interval e base slots y l h

  law_allocate : (d : Dir) (kind address maximum interval : ℕ) (w : Track) (s : St) → Whole s → NotIso s
      → Follow D E (Made (other (Allocate d kind address maximum interval))) w (run concrete (code (other
      (Allocate d kind address maximum interval))) s)
  law_allocate d kind address maximum interval w s l h = follow.follow-cond D E (eqb s.0.globals.stage 1)
      (λ _. by (allocate_of s.0.allocator kind address maximum d).answer refl) (λ _. at_end (inr h))
    where
      t : St
      t = concrete.act (allocate d kind address maximum interval) s

      by : (a : alloc.Answer) → (allocate_of s.0.allocator kind address maximum d).answer ≡ a
          → Follow D E (Made (other (Allocate d kind address maximum interval))) w (run {i = false} concrete
          (allocated_as d kind maximum a) t)
      by (variant.Refused n) q = at_end (inr (alloc-iso s.0 d kind address maximum interval l h
          (variant.Refused n) q).0)
      by (variant.Given e base slots) q =
          numbered d kind maximum e (λ a u. Made (other (Allocate d kind address maximum interval)) w a u) w t
          (λ ws u v. made ws u v (alloc-iso s.0 d kind address maximum interval l h
          (variant.Given e base slots) q).0)
        where
          made : (ws : List ℕ) (u : St) → view D E u.0 ≡ view D E t.0
              → After d kind (variant.Given e base slots) t.0
              → Made (other (Allocate d kind address maximum interval)) w (End e ws) u
          made ws u v (inl z) = inl z
          made ws u v (inr n) = inr (ap (λ (y : EpSeen). is_on y.iso) v ∙ n)

  -- ---- the endpoints of a descriptor

  or_true : (b : Bool) → b || true ≡ true
  or_true true = refl
  or_true false = refl

  or_right : (a b : Bool) → b ≡ true → a || b ≡ true
  or_right a b h = rw h (or_true a)

  -- the number that is given is the address's
  number-given : (a : Allocator) (kind address maximum : ℕ) (dir : Dir) (e base n : ℕ)
      → (allocate_of a kind address maximum dir).answer ≡ variant.Given e base n
      → number_of a (is_iso kind) address dir ≡ Number e
  number-given a kind address maximum dir e base n h = by (allocate_of a kind address maximum dir)
      (outcome a kind address maximum dir) h
    where
      refusal : alloc.Answer → Type 0
      refusal (variant.Refused n) = Unit {0}
      refusal (variant.Given e base slots) = ⊥

      never : {X : Type 0} (k : ℕ) → ◌≡◌ {A = alloc.Answer} (variant.Refused k) (variant.Given e base n) → X
      never k q = absurd (subst refusal q tt)

      number_on : alloc.Answer → ℕ
      number_on (variant.Refused n) = n
      number_on (variant.Given e base slots) = e

      by : (z : Allocation) → Outcome a kind address maximum dir z → z.answer ≡ variant.Given e base n
          → number_of a (is_iso kind) address dir ≡ Number e
      by z (six l) q = never 6 q
      by z (seven m l) q = never 7 q
      by z (eight x m k l) q = never 8 q
      by z (given x b y c m k g) q = k ∙ ap (λ (r : alloc.Answer). Number (number_on r)) q

  number-if : (address e : ℕ) (d z l f : Bool) → if d (if z Nothing (if l Nothing (if f (Number
      (address % 128)) Nothing))) Nothing ≡ Number e
      → address % 128 ≡ e
  number-if address e d z l f h = by d z l f h
    where
      found : Found → Type 0
      found (Number n) = ⊥
      found Nothing = Unit {0}

      never : {X : Type 0} → Nothing ≡ Number e → X
      never q = absurd (subst found q tt)

      number_in : Found → ℕ
      number_in (Number n) = n
      number_in Nothing = 0

      by : (d z l f : Bool) → if d (if z Nothing (if l Nothing (if f (Number
          (address % 128)) Nothing))) Nothing ≡ Number e → address % 128 ≡ e
      by true false false true q = ap number_in q
      by true false false false q = never q
      by true false true f q = never q
      by true true l f q = never q
      by false z l f q = never q

  asked-for : (a : Allocator) (kind address : ℕ) (dir : Dir) (e : ℕ) → number_of a (is_iso kind) address dir ≡ Number e
      → own D E dir e ≡ true → asks_for D E dir address ≡ true
  unfolding number_of asked_of
  asked-for a kind address dir e h o = by (ltb address 256) h
    where
      by : (b : Bool) → if b (asked_of a (is_iso kind) address dir) (lowest_of a (is_iso kind) dir 15 1) ≡ Number e
          → own D E dir (address % 128) || not b ≡ true
      by false q = or_true (own D E dir (address % 128))
      by true q = rw (
        number-if address e (eqb (address / 128) (dir_bit dir)) (eqb (address % 128) 0) (leb 16 (address % 128))
            (is_free a (is_iso kind) dir (address % 128)) q,
        o,
      ) refl

  -- it is listed, or it is not isochronous still
  abbrev Listed : List Endpoint → St → Type 0
  Listed es t = (lists_iso D E es ≡ true) ⊎ NotIso t

  whole-after : (x : Driver) (d : Dir) (kind address maximum interval : ℕ) → length x.eps ≡ 32
      → length (allocated_on x d kind address maximum interval).eps ≡ 32
  unfolding allocated_on given_to sets_given record_given with_on
  whole-after x d kind address maximum interval l =
      by (allocate_of x.allocator kind address maximum d).answer (with_allocator x (allocate_of
      x.allocator kind address maximum d).after) l
    where
      by : (a : alloc.Answer) (y : Driver) → length y.eps ≡ 32
          → length (given_to d kind maximum interval a y).eps ≡ 32
      by (variant.Refused n) y l = l
      by (variant.Given e base slots) y l = length-set y.eps (key d e) _ ∙ l

  wholes : (es : List Endpoint) (w : Track) (s : St) → Whole s
      → Follow D E (λ x _ t. (x ≡ w) × Whole t) w (run {i = false} concrete (allocate_each es) s)
  unfolding allocate_each
  wholes [] w s l = at_end (refl, l)
  wholes (e ∷ es) w s l = wholes es w (concrete.act (allocate (direction_of e.address) e.kind e.address
      e.maximum e.interval) s)
      (whole-after s.0 (direction_of e.address) e.kind e.address e.maximum e.interval l)

  each : (es : List Endpoint) (w : Track) (s : St) → Whole s → NotIso s
      → Follow D E (λ x _ t. (x ≡ w) × Whole t × Listed es t) w (run {i = false} concrete (allocate_each es) s)
  unfolding allocate_each
  each [] w s l h = at_end (refl, l, inr h)
  each (e ∷ es) w s l h =
      by (λ k n. each es w (concrete.act (allocate (direction_of e.address) e.kind e.address e.maximum
      e.interval) s) k n)
      (allocate_of s.0.allocator e.kind e.address e.maximum (direction_of e.address)).answer refl
    where
      d : Dir
      d = direction_of e.address

      t : St
      t = concrete.act (allocate d e.kind e.address e.maximum e.interval) s

      further : (u : St) → Listed es u → Listed (e ∷ es) u
      further u (inl z) = inl (or_right (is_iso e.kind && asks_for D E d e.address) (lists_iso D E es) z)
      further u (inr n) = inr n

      Rest : Type 0
      Rest = Whole t → NotIso t → Follow D E (λ x _ u. (x ≡ w) × Whole u
          × Listed es u) w (run {i = false} concrete (allocate_each es) t)

      on : Rest → Whole t → NotIso t
          → Follow D E (λ x _ u. (x ≡ w) × Whole u × Listed (e ∷ es) u) w (run {i = false} concrete (allocate_each es) t)
      on rest k n = follow.follow-more D E (rest k n) (λ _ _ u m. (m.0, m.1, further u m.2))

      here : (n : ℕ) → number_of s.0.allocator (is_iso e.kind) e.address d ≡ Number n
          → is_iso e.kind && own D E d n ≡ true
          → lists_iso D E (e ∷ es) ≡ true
      here n q z = let p = both (is_iso e.kind) (own D E d n) z in
          rw (p.0, asked-for s.0.allocator e.kind e.address d n q p.1) refl

      split : Rest → (n base slots : ℕ) → number_of s.0.allocator (is_iso e.kind) e.address d ≡ Number n
          → Whole t
          → After d e.kind (variant.Given n base slots) t.0
          → Follow D E (λ x _ u. (x ≡ w) × Whole u × Listed (e ∷ es) u) w (run {i = false} concrete (allocate_each es) t)
      split rest n base slots q k (inl z) = follow.follow-more D E (wholes es w t k) (λ _ _ u m. (
        m.0,
        m.1,
        inl
            (here n q z),
      ))
      split rest n base slots q k (inr m) = on rest k m

      by : Rest → (a : alloc.Answer) → (allocate_of s.0.allocator e.kind e.address e.maximum d).answer ≡ a
          → Follow D E (λ x _ u. (x ≡ w) × Whole u × Listed (e ∷ es) u) w (run {i = false} concrete (allocate_each es) t)
      by rest (variant.Refused n) q =
          let z = alloc-iso s.0 d e.kind e.address e.maximum e.interval l h
          (variant.Refused n) q in on rest z.1 z.0
      by rest (variant.Given n base slots) q =
          let z = alloc-iso s.0 d e.kind e.address e.maximum e.interval l h
          (variant.Given n base slots) q in
          split rest n base slots (number-given s.0.allocator e.kind e.address
          e.maximum d n base slots q) z.1 z.0

  law_allocate_all : (bytes : List ℕ) (w : Track) (s : St) → Whole s → NotIso s
      → Follow D E (Made (other (AllocateAll bytes))) (with_phase off w) (run concrete (code (other
      (AllocateAll bytes))) s)
  law_allocate_all bytes w s l h = follow.follow-cond D E (eqb s.0.globals.stage 1) (λ _. by
      (reading_of bytes).answer) (λ _. at_end (inr h))
    where
      es : List Endpoint
      es = list_of bytes

      made : (t u : St) → view D E u.0 ≡ view D E t.0 → Listed es t → Listed es u
      made t u v (inl z) = inl z
      made t u v (inr n) = inr (ap (λ (y : EpSeen). is_on y.iso) v ∙ n)

      announced : (t : St) → Whole t → Listed es t
          → Follow D E (Made (other (AllocateAll bytes))) (with_phase off w) (run {i = false} concrete (operation
          (announce_all es)) t)
      announced t k z = follow.follow-bind D E
          ((q_announces D E es).goes (with_phase off w) (concrete.act no_wakes t) (refl, λ _ _ _ _. refl)
          (loose D E ((act-steady no_wakes refl t).places ∙ k)))
          (λ _ n u m. at_end {a = End n (concrete.fetch gathered u)} (made t u (m.1
          ∙ follow.act-view D E no_wakes refl t) z))

      by : (a : listing.Answer)
          → Follow D E (Made (other (AllocateAll bytes))) (with_phase off w) (run {i = false} concrete
          (allocate_read bytes a) s)
      by (listed.Refused n) = at_end (inr h)
      by listed.Listed = follow.follow-cond D E (eqb (trial_of s.0.allocator es).refusal 0)
          (λ _. follow.follow-bind D E (each es (with_phase off w) s l h)
          (λ x _ t m. follow.follow-at D E m.0 (announced t m.1 m.2))) (λ _. at_end (inr h))

  -- ---- every call

  of_other : (o : Other) (w : Track) (s : St) → Whole s → NotIso s
      → Follow D E (Made (other o)) (with_phase off w) (run concrete (code (other o)) s)
  of_other (Allocate d kind address maximum interval) w s l h = law_allocate d kind address maximum interval
      (with_phase off w) s l h
  of_other (AllocateAll bytes) w s l h = law_allocate_all bytes w s l h
  of_other (Start maximum) w s l h = others (other (Start maximum)) refl (with_phase off w) s h
  of_other BusPoll w s l h = others (other BusPoll) refl (with_phase off w) s h
  of_other BusEnable w s l h = others (other BusEnable) refl (with_phase off w) s h
  of_other BusDisable w s l h = others (other BusDisable) refl (with_phase off w) s h
  of_other Microframe w s l h = others (other Microframe) refl (with_phase off w) s h
  of_other (SetStalled d e on) w s l h = others (other (SetStalled d e on)) refl (with_phase off w) s h
  of_other (IsStalled d e) w s l h = others (other (IsStalled d e)) refl (with_phase off w) s h
  of_other (SetPaced e on) w s l h = others (other (SetPaced e on)) refl (with_phase off w) s h
  of_other (Advance e) w s l h = others (other (Advance e)) refl (with_phase off w) s h
  of_other (BeginRead e n) w s l h = others (other (BeginRead e n)) refl (with_phase off w) s h
  of_other BeginSetup w s l h = others (other BeginSetup) refl (with_phase off w) s h
  of_other PollSetup w s l h = others (other PollSetup) refl (with_phase off w) s h
  of_other PollDataIn w s l h = others (other PollDataIn) refl (with_phase off w) s h
  of_other BeginAccept w s l h = others (other BeginAccept) refl (with_phase off w) s h
  of_other PollAccept w s l h = others (other PollAccept) refl (with_phase off w) s h
  of_other BeginReject w s l h = others (other BeginReject) refl (with_phase off w) s h
  of_other (BeginDataOut n first) w s l h = others (other (BeginDataOut n first)) refl (with_phase off w) s h
  of_other (BeginAcceptSetAddress a) w s l h = others (other (BeginAcceptSetAddress a)) refl (with_phase off w) s h

  of-slotted : (o : Slotted) (w : Track) (s : St) → NotIso s → Follow D E (Made (slotted o)) w (run concrete (code
      (slotted o)) s)
  of-slotted (SetEnabled d e on) w s h = others (slotted (SetEnabled d e on)) refl w s h
  of-slotted (PollRead e n) w s h = others (slotted (PollRead e n)) refl w s h
  of-slotted (BeginWrite e bs) w s h = others (slotted (BeginWrite e bs)) refl w s h
  of-slotted (PollWrite e bs) w s h = others (slotted (PollWrite e bs)) refl w s h
  of-slotted (PollDataOut n) w s h = others (slotted (PollDataOut n)) refl w s h
  of-slotted (BeginDataIn bs first last) w s h = others (slotted (BeginDataIn bs first last)) refl w s h

  pub iso-made : (o : Op) (w : Track) (s : St) → Whole s → NotIso s
      → Follow D E (Made o) (opens D E o w) (run concrete (code o) s)
  iso-made interrupt w s l h = others interrupt refl (opens D E interrupt w) s h
  iso-made (slotted o) w s l h = of-slotted o (with_phase off w) s h
  iso-made (other o) w s l h = of_other o w s l h
  iso-made (aside o) w s l h = others (aside o) refl (with_phase off w) s h
