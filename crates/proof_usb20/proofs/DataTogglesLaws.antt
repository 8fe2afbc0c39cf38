-- Laws on the definitions of DataToggles.antt
use Rattle.std.specs.Prelude.{List, ◌∷◌, ◌⊎◌, ◌≡◌, ℕ, zero, ◌%◌, Bool, true, cond, ◌&&◌, ◌||◌, length, get_or, replicate, ◌<◌}
use Rattle.std.proofs.Common.{inl, inr, sym, ◌∙◌}
use Rattle.std.proofs.Math.Path.{refl, ap, subst}
use Rattle.regs.specs.declared.Dir.{Dir}
use Rattle.regs.specs.declared.Dir.TheVariants.{Out, In}
use Rattle.state.specs.Driver.{Driver, key}
use Rattle.state.specs.Laws.{key_apart, key-same}
use Rattle.script.specs.Answers.{Answer}
use Rattle.script.specs.Calls.{Config, calls, start_row, Op, interrupt, slotted, other, aside, Slotted, SetEnabled}
use Rattle.script.specs.Calls.{PollRead, BeginWrite, PollWrite, PollDataOut, BeginDataIn, Other, Allocate, AllocateAll}
use Rattle.script.specs.Calls.{Start, BusPoll, BusEnable, BusDisable, Microframe, SetStalled, IsStalled, SetPaced}
use Rattle.script.specs.Calls.{Advance, BeginRead, BeginSetup, PollSetup, PollDataIn, BeginAccept, PollAccept}
use Rattle.script.specs.Calls.{BeginReject, BeginDataOut, BeginAcceptSetAddress}
use Rattle.script.specs.Machine.{Buf, Event, Machine, started}
use Rattle.script.specs.TogglesLaws.{number}
use Rattle.script.specs.Usb20Toggles.{Pid, DATA0, DATA1}
use Rattle.machine.specs.Suspended.{driver_of}
use Rattle.proof_usb20.specs.ExemptLaws.{differ}
use Rattle.proof_usb20.specs.Sequence.{Track}
use Rattle.proof_usb20.specs.Follow.{EpSeen, Fits, Law}
use Rattle.proof_usb20.specs.CalmLaws.{Else}
use Rattle.std.proofs.Math.Bool.{false}
use Rattle.std.proofs.lemmas.List.{get_or-replicate}
use Rattle.regs.specs.declared.Reg.TheVariants.{Ctrl}
use Rattle.state.specs.declared.EpState.{EpState}
use Rattle.state.specs.Ep.{new_ep}
use Rattle.state.specs.Fresh.{fresh_driver}
use Rattle.state.specs.Laws.{key-lt}
use Rattle.state.specs.Driver.{no_ep, ep_on}
use Rattle.script.specs.Tree as tree
use Rattle.script.specs.Script.{run}
use Rattle.script.specs.Every as ways
use Rattle.script.specs.Statics.{is_on}
use Rattle.script.specs.Answers.{Refused}
use Rattle.script.specs.Calls.{code}
use Rattle.script.specs.Machine.{start, ended}
use Rattle.script_ops.specs.Rings.{St}
use Rattle.script_ops.specs.Concrete.{concrete}
use Rattle.proof_book.specs.Sorting.{Sorting}
use Rattle.proof_usb20.specs.Sequence as log
use Rattle.proof_usb20.specs.Sequence.{before, opens, EndsByReason, own, Writing, wrote, LeavesWord}
use Rattle.proof_usb20.specs.Observer.{started_by, All}
use Rattle.proof_usb20.specs.Watch.{Along, at_end, at_ask}
use Rattle.proof_usb20.specs.WatchLaws.{watch-more, watch-any, first_any, after_any}
use Rattle.proof_usb20.specs.RunsLaws.{Laws, Sees, Ups, Only, from_start}
use Rattle.proof_usb20.specs.FollowLaws as follow
use Rattle.proof_usb20.specs.Follow as following
use Rattle.proof_usb20.specs.Follow.{seen_of, view, Follow}
use Rattle.proof_usb20.specs.BesidesLaws.{aside-wakes}
use Rattle.proof_book.specs.FrontPage.{CallRecord}
use Rattle.proof_book.specs.CodeReadings.{Steps}
use Rattle.proof_usb20.specs.CodeRuns.{CodeAll}
use Rattle.proof_usb20.specs.CodeRunsLaws.{code-from-start}
use Rattle.proof_usb20.specs.CalmLaws.{Off, LeavesTrack, loose, q_resultless, q_bind, q_ret, q_write, q_wait}
use Rattle.proof_usb20.specs.CalmLaws.{q_reg, q_int_en}
use Rattle.proof_usb20.specs.ReadingLaws.{law-begin-read, law-poll-read, law-poll-write, law-begin-write}
use Rattle.proof_usb20.specs.EnablingLaws.{law-set-enabled, WordLaw, leaves-any, leaves-enabled, leaves-stalled}
use Rattle.proof_usb20.specs.EnablingLaws.{leaves-read, leaves-write, leaves-poll, among-all, never}
use Rattle.proof_usb20.specs.OthersLaws.{law-bus-enable, law-bus-disable, law-microframe, law-is-stalled}
use Rattle.proof_usb20.specs.OthersLaws.{law-set-paced, law-advance, law-aside, aside-view, law-setup}
use Rattle.proof_usb20.specs.OthersLaws.{law-poll-setup}
use Rattle.proof_usb20.specs.OthersLaws.{law-data-out, law-poll-data-out, law-data-in, law-poll-data-in}
use Rattle.proof_usb20.specs.OthersLaws.{law-accept}
use Rattle.proof_usb20.specs.OthersLaws.{law-accept-address, law-poll-accept, law-reject}
use Rattle.proof_usb20.specs.RestartingLaws.{law-set-stalled, law_bus_poll, law_allocate, law_allocate_all}
use Rattle.proof_usb20.specs.RestartingLaws.{law_start}
use Rattle.proof_usb20.proofs.TokensLaws.{law-interrupt}
use Rattle.proof_usb20.proofs.AllocatedLaws as isochronous
use Rattle.proof_usb20.proofs.AllocatedLaws.{iso-made}
use Rattle.proof_wake_ups.specs.Rooms.{Few}
use Rattle.proof_usb20.specs.DataToggles.{toggles, words}

not-ep0 : (D : Dir) (E : ℕ) → (E % 16 ≡ 0 → ⊥) → (d : Dir) → Else D E d 0
not-ep0 Out E h Out q = h (key-same Out E 0 q)
not-ep0 In E h In q = h (key-same In E 0 q)
not-ep0 Out E h In q = key_apart E 0 q
not-ep0 In E h Out q = key_apart 0 E (sym q)

module _ (D : Dir) (E : ℕ) (z : (d : Dir) → Else D E d 0) where
  of-slotted : (o : Slotted) → Law D E (slotted o)
  of-slotted (SetEnabled d e on) = law-set-enabled D E d e on
  of-slotted (PollRead e n) = law-poll-read D E e n
  of-slotted (BeginWrite e bs) = law-begin-write D E e bs
  of-slotted (PollWrite e bs) = law-poll-write D E e bs
  of-slotted (PollDataOut n) = law-poll-data-out D E z n
  of-slotted (BeginDataIn bs first last) = law-data-in D E z bs first last

  of_other : (o : Other) → Law D E (other o)
  of_other (Allocate d kind address maximum interval) = law_allocate D E d kind address maximum interval
  of_other (AllocateAll bytes) = law_allocate_all D E bytes
  of_other (Start maximum) = law_start D E maximum
  of_other BusPoll = law_bus_poll D E
  of_other BusEnable = law-bus-enable D E
  of_other BusDisable = law-bus-disable D E
  of_other Microframe = law-microframe D E
  of_other (SetStalled d e on) = law-set-stalled D E d e on
  of_other (IsStalled d e) = law-is-stalled D E d e
  of_other (SetPaced e on) = law-set-paced D E e on
  of_other (Advance e) = law-advance D E e
  of_other (BeginRead e n) = law-begin-read D E e n
  of_other BeginSetup = law-setup D E z
  of_other PollSetup = law-poll-setup D E z
  of_other PollDataIn = law-poll-data-in D E z
  of_other BeginAccept = law-accept D E z
  of_other PollAccept = law-poll-accept D E z
  of_other BeginReject = law-reject D E z
  of_other (BeginDataOut n first) = law-data-out D E z n first
  of_other (BeginAcceptSetAddress a) = law-accept-address D E z a

  ups : {P : St → Type 0} {w : Track} {o : tree.Out St Answer} → Follow D E (λ _ _ s. P s) w o → Ups (toggles D E) P o
  ups (at_end p) = at_end p
  ups (at_ask _ k) = at_ask tt (λ v t _ h. ups (k v t tt h))

  few : (o : Op) {w : Track} {out : tree.Out St Answer} → Follow D E (following.Ends D E o) w out
      → Follow D E (following.EndsFew D E o) w out
  few o x = watch-more x (λ x a t p. (p.0, λ _. p.1))

  law-of : (o : Op) (w : Track) (s : St) → Fits w (view D E s.0) → is_on (ep_on s.0 D E).iso ≡ false
      → Sorting s.0 → Follow D E (following.EndsFew D E o) (opens D E o w) (run concrete (code o) s)
  law-of interrupt w s r i k = law-interrupt D E z w s r i k
  law-of (slotted o) w s r i k = few (slotted o) (of-slotted o w s r i k)
  law-of (other o) w s r i k = few (other o) (of_other o w s r i k)
  law-of (aside o) w s r i k = few (aside o) (law-aside D E o w s r i k)

  any : (out : tree.Out St Answer) → Only (λ _. Unit {0}) out
  any (tree.ends a s) = ways.at_end tt
  any (tree.asks q s k) = ways.at_ask tt (λ v t _ _. any (k v t))

  law-new : (c : Config) → LeavesTrack D E false (Off D E) (calls.starts c)
  law-new c = q_resultless D E
      (q_bind D E (q_write D E (q_ret D E)) (λ _. q_bind D E (q_wait D E (q_ret D E))
      (λ _. q_bind D E (q_reg D E Ctrl 0 _)
      (λ _. q_bind D E (q_write D E (q_ret D E)) (λ _. q_bind D E (q_write D E (q_ret D E)) (λ _. q_int_en D E _))))))

  -- allocated as an isochronous one, or not, and then the record fits
  abbrev pub Fitting : Bool × Track → EpSeen → Type 0
  Fitting x v = (x.0 ≡ true) ⊎ ((is_on v.iso ≡ false) × Fits x.1 v)

  new-iso : (c : Config) → is_on (view D E (driver_of.fresh c)).iso ≡ false
  unfolding fresh_driver ep_on is_on
  new-iso c = fresh-iso (key D E) (key-lt D E)
    where
      fresh-iso : (k : ℕ) → k < 32 → is_on (get_or (replicate 32 new_ep) k no_ep).iso ≡ false
      fresh-iso k l = ap (λ (r : EpState). is_on r.iso) (get_or-replicate 32 k new_ep no_ep l)

  -- start-up's own script
  new-fits : (c : Config) → Fits before (view D E (driver_of.fresh c))
  unfolding fresh_driver ep_on is_on
  new-fits c = fresh-fits (key D E) (key-lt D E)
    where
      fresh-fits : (k : ℕ) → k < 32 → Fits before (seen_of (get_or (replicate 32 new_ep) k no_ep) 1)
      fresh-fits k l = subst (λ (r : EpState). Fits before (seen_of r 1)) (sym (get_or-replicate 32 k new_ep no_ep l))
          (record { tog = refl; ready = refl; len = refl; armed = refl; early = λ _. (refl, refl, refl) })

  new-places : (c : Config) → length (driver_of.fresh c).eps ≡ 32
  unfolding fresh_driver
  new-places c = refl

  new : (c : Config) (b : Buf)
      → Follow D E (λ _ _ s. Fitting (false, before) (view D E s.0)) before (run concrete (calls.starts c)
      (driver_of.fresh c, b))
  new c b = follow.follow-more D E ((law-new c).goes before (driver_of.fresh c, b) (refl, λ _ _ _ _. refl)
      (loose D E (new-places c)))
      (λ _ _ s m. inr (
        ap (λ (y : EpSeen). is_on y.iso) m.1
            ∙ new-iso c,
        subst (Fits before) (sym m.1) (new-fits c),
      ))

  last : (b : Bool) (x y : Track) → cond (b && false) x y ≡ y
  last true x y = refl
  last false x y = refl

  unlent : (o : Op) → calls.slots o ≡ true → (w : Track) (v : EpSeen) → Fits w v
      → Fits (log.closes D E o (Refused 1) (log.opens D E o w)) v
  unlent interrupt h w v r = r
  unlent (slotted (SetEnabled d e on)) h w v r =
      rw (last (log.own D E d e) (log.renewed D E (log.arms_at D E d on) (log.with_phase log.off w))
      (log.with_phase log.off w)) r
  unlent (slotted (PollRead e n)) h w v r = rw (last (log.own D E Out e) (log.taken D E (log.with_phase log.off w))
      (log.with_phase log.off w)) r
  unlent (slotted (BeginWrite e bs)) h w v r = rw (last (log.own D E In e) (log.loaded D E (log.with_phase log.off w))
      (log.with_phase log.off w)) r
  unlent (slotted (PollWrite e bs)) h w v r = rw (last (log.own D E In e) (log.taken D E (log.with_phase log.off w))
      (log.with_phase log.off w)) r
  unlent (slotted (PollDataOut n)) h w v r = r
  unlent (slotted (BeginDataIn bs first final)) h w v r = r
  unlent (other o) h w v r = differ h
  unlent (aside o) h w v r = r

  fair-refused : (o : Op) (n : ℕ) (w : Track) → EndsByReason D E o (Refused n) w
  fair-refused interrupt n w = tt
  fair-refused (slotted (SetEnabled d e on)) n w = tt
  fair-refused (slotted (PollRead e m)) n w = λ _. tt
  fair-refused (slotted (BeginWrite e bs)) n w = tt
  fair-refused (slotted (PollWrite e bs)) n w = λ _. tt
  fair-refused (slotted (PollDataOut m)) n w = tt
  fair-refused (slotted (BeginDataIn bs first last)) n w = tt
  fair-refused (other o) n w = tt
  fair-refused (aside o) n w = tt

  or_true : (b : Bool) → b || true ≡ true
  or_true true = refl
  or_true false = refl

  -- a log beside it that no access changes
  beside : {A : Type 0} {P : Track → A → St → Type 0} {b : Bool} {w : Track} {o : tree.Out St A} → Follow D E P w o
      → Sees (toggles D E) (λ _ _. Unit {0}) (λ x a t. (x.0 ≡ b) × P x.1 a t) (b, w) o
  beside (at_end p) = at_end (refl, p)
  beside (at_ask _ k) = at_ask tt (λ v t _ h. beside (k v t tt h))

  both_of : {A : Type 0} {P Q : Track → A → St → Type 0} {w : Track} {o : tree.Out St A} → Follow D E P w o
      → Follow D E Q w o
      → Follow D E (λ x a t. P x a t × Q x a t) w o
  both_of (at_end p) (at_end q) = at_end (p, q)
  both_of (at_ask _ f) (at_ask _ g) = at_ask tt (λ v t _ k. both_of (f v t tt k) (g v t tt k))

  abbrev Ended : Op → Bool × Track → Answer → St → Type 0
  Ended o x a t = Fitting ((toggles D E).closes o a x) (view D E t.0)
      × (Few (ended a) → (toggles D E).EndsByReason o a x)

  silent : (o : Op) (x : Bool × Track) → x.0 ≡ true → (out : tree.Out St Answer)
      → Sees (toggles D E) (λ _ _. Unit {0}) (Ended o) x out
  silent o x h out = watch-any (λ y. y.0 ≡ true) (λ _ _ _. tt) (λ _ _ _ _ g. g)
      (λ y a t g. (inl (rw g refl), λ _ z. differ (sym z ∙ g))) x h out

  pub heard : (o : Op) (x : Bool × Track) (s : St) → Fitting x (view D E s.0) → Sorting s.0
      → Sees (toggles D E) (λ _ _. Unit {0}) (Ended o) ((toggles D E).opens o s.1 x) (run concrete (code o) s)
  heard o x s (inl h) q = silent o ((toggles D E).opens o s.1 x) h (run concrete (code o) s)
  heard o x s (inr (i, f)) q = watch-more (beside (both_of (law-of o x.1 s f i q) (iso-made D E o x.1 s
      q.places i)))
      (λ y a t p. (after y a t p.0 p.1.0.0 p.1.1, λ few _. p.1.0.1 few))
    where
      after : (y : Bool × Track) (a : Answer) (t : St) → y.0 ≡ x.0
          → Fits (log.closes D E o a y.1) (view D E t.0)
          → isochronous.Made D E o y.1 a t → Fitting ((toggles D E).closes o a y) (view D E t.0)
      after y a t e g (inl m) = inl (rw m (or_true y.0))
      after y a t e g (inr n) = inr (n, g)

  unlent-too : (o : Op) → calls.slots o ≡ true → (b : Buf) (x : Bool × Track) (v : EpSeen) → Fitting x v
      → Fitting ((toggles D E).closes o (Refused 1) ((toggles D E).opens o b x)) v
  unlent-too o h b x v (inl e) = inl (rw e refl)
  unlent-too o h b x v (inr (i, f)) = inr (i, unlent o h x.1 v f)

  pub laws : Laws (toggles D E) Fitting
  laws = record {
    stands = λ x v r h. fits-of r h;
    call = λ o x s r q _. heard o x s r q;
    asks = λ o s. any (run concrete (code o) s);
    besides = λ o d b a t q h. (aside-view D E o d b a t q h, aside-wakes o d b a t h);
    new = λ c b. ups (new c b);
    unlent = unlent-too;
    fair_1 = λ o _ x _. fair-refused o 1 x.1;
    loads = λ o _ s _ _. first_any (λ _. tt) (run concrete (code o) s);
    spares = λ o s. after_any (λ _ _. tt) (run concrete (code o) s);
  }
    where
      fits-of : {b : Bool} {X Y : Type 0} → (b ≡ true) ⊎ (X × Y) → b ≡ false → Y
      fits-of (inl e) h = differ (sym h ∙ e)
      fits-of (inr r) h = r.1

-- after each call, of an endpoint that no call has allocated as an isochronous one: a poll is done exactly if a packet
-- with another sequence bit was served since (or a cleared halt finished its write); an interrupt that ends with a
-- token
-- of the endpoint has read its control word; where nothing is under way, the record has the bit with the last new
-- packet, or DATA0 since it was enabled, its halt cleared, the bus reset; whether a completion is there; its length.
-- Whatever the chip answers
pub data-toggles : (D : Dir) (E : ℕ) → (E % 16 ≡ 0 → ⊥) → (c : Config) (b : Buf) → start_row c b ≡ zero
    → (es : List (Event Config Op)) (m : Machine Answer Driver)
    → let y = started calls driver_of (λ s. s) c zero m b in All (toggles D E) es y.1 (started_by (toggles D E) y.0)
data-toggles D E h c b row es m = from_start (toggles D E) (laws D E (not-ep0 D E h)) c b row es m

-- of the Rattle code: any bytes, a start-up that rows 1 and 2 do not stop, and then any calls, each as its contract
-- says
pub code-data-toggles : (D : Dir) (E : ℕ) → (E % 16 ≡ 0 → ⊥) → (c : Config) (b : Buf) → start_row c b ≡ zero
    → (xs : List ℕ) (a : Buf) (first : CallRecord) → first.event ≡ record { call = start c; lent = b }
    → (ms : List CallRecord)
    → Steps xs a (first ∷ ms) → CodeAll (toggles D E) ms (started_by (toggles D E) first.answer)
code-data-toggles D E h c b row xs a first e ms s =
    code-from-start (toggles D E) (laws D E (not-ep0 D E h)) c b row xs a first e ms s

-- DECISIONS 111, of such an endpoint, where nothing is under way
pub tog-is-bit : (w : Track) (x : EpSeen) → Fits w x → (x.tog ≡ 0) ⊎ (x.tog ≡ 1)
tog-is-bit w x r = by w.bit r.tog
  where
    by : (b : Pid) → x.tog ≡ number b → (x.tog ≡ 0) ⊎ (x.tog ≡ 1)
    by DATA0 h = inl h
    by DATA1 h = inr h

module _ (D : Dir) (E : ℕ) (h : E % 16 ≡ 0 → ⊥) where
  word-law : (o : Op) → WordLaw D E o
  word-law interrupt = leaves-any D E interrupt (λ _ _. tt)
  word-law (slotted (SetEnabled d e on)) = leaves-enabled D E d e on
  word-law (slotted (PollRead e n)) = leaves-any D E (slotted (PollRead e n)) (λ _ _. tt)
  word-law (slotted (BeginWrite e bs)) = leaves-write D E e bs
  word-law (slotted (PollWrite e bs)) = leaves-any D E (slotted (PollWrite e bs)) (λ _ _. tt)
  word-law (slotted (PollDataOut n)) = leaves-any D E (slotted (PollDataOut n)) (λ _ _. tt)
  word-law (slotted (BeginDataIn bs first last)) = leaves-any D E (slotted (BeginDataIn bs first last)) (λ _ _. tt)
  word-law (other (Allocate d kind address maximum interval))
      = leaves-any D E (other (Allocate d kind address maximum interval)) (λ _ _. tt)
  word-law (other (AllocateAll bytes)) = leaves-any D E (other (AllocateAll bytes)) (λ _ _. tt)
  word-law (other (Start maximum)) = leaves-any D E (other (Start maximum)) (λ _ _. tt)
  word-law (other BusPoll) = leaves-poll D E (among-all D E h)
  word-law (other BusEnable) = leaves-any D E (other BusEnable) (λ _ _. tt)
  word-law (other BusDisable) = leaves-any D E (other BusDisable) (λ _ _. tt)
  word-law (other Microframe) = leaves-any D E (other Microframe) (λ _ _. tt)
  word-law (other (SetStalled d e on)) = leaves-stalled D E d e on
  word-law (other (IsStalled d e)) = leaves-any D E (other (IsStalled d e)) (λ _ _. tt)
  word-law (other (SetPaced e on)) = leaves-any D E (other (SetPaced e on)) (λ _ _. tt)
  word-law (other (Advance e)) = leaves-any D E (other (Advance e)) (λ _ _. tt)
  word-law (other (BeginRead e n)) = leaves-read D E e n
  word-law (other BeginSetup) = leaves-any D E (other BeginSetup) (λ _ _. tt)
  word-law (other PollSetup) = leaves-any D E (other PollSetup) (λ _ _. tt)
  word-law (other PollDataIn) = leaves-any D E (other PollDataIn) (λ _ _. tt)
  word-law (other BeginAccept) = leaves-any D E (other BeginAccept) (λ _ _. tt)
  word-law (other PollAccept) = leaves-any D E (other PollAccept) (λ _ _. tt)
  word-law (other BeginReject) = leaves-any D E (other BeginReject) (λ _ _. tt)
  word-law (other (BeginDataOut n first)) = leaves-any D E (other (BeginDataOut n first)) (λ _ _. tt)
  word-law (other (BeginAcceptSetAddress a)) = leaves-any D E (other (BeginAcceptSetAddress a)) (λ _ _. tt)
  word-law (aside o) = leaves-any D E (aside o) (λ _ _. tt)

  -- two logs of one outcome
  together : {A : Type 0} {P : Bool × Track → A → St → Type 0} {Q : Writing → A → St
      → Type 0} {x : Bool × Track} {u : Writing}
      {o : tree.Out St A} → Sees (toggles D E) (λ _ _. Unit {0}) P x o
      → Along (λ u q x _. wrote D E u q x) (λ _ _ _. Unit {0}) (following.Between D E) (λ _ _. Unit {0}) Q u o
      → Sees (words D E) (λ _ _. Unit {0}) (λ y a t. P (y.0, y.1) a t × Q y.2 a t) (x.0, x.1, u) o
  together (at_end p) (at_end q) = at_end (p, q)
  together (at_ask _ f) (at_ask _ g) = at_ask tt (λ v t b k. together (f v t tt k) (g v t tt k))

  refused_leaves : (o : Op) (u : Writing) → LeavesWord D E o (Refused 1) u
  refused_leaves interrupt u = tt
  refused_leaves (slotted (SetEnabled d e on)) u = λ k. never (own D E d e) k
  refused_leaves (slotted (PollRead e n)) u = tt
  refused_leaves (slotted (BeginWrite e bs)) u = λ k. never (own D E In e) k
  refused_leaves (slotted (PollWrite e bs)) u = tt
  refused_leaves (slotted (PollDataOut n)) u = tt
  refused_leaves (slotted (BeginDataIn bs first last)) u = tt
  refused_leaves (other o) u = of_others o
    where
      of_others : (o : Other) → LeavesWord D E (other o) (Refused 1) u
      of_others (Allocate d kind address maximum interval) = tt
      of_others (AllocateAll bytes) = tt
      of_others (Start maximum) = tt
      of_others BusPoll = λ k. never true k
      of_others BusEnable = tt
      of_others BusDisable = tt
      of_others Microframe = tt
      of_others (SetStalled d e true) = λ k. never (own D E d e) k
      of_others (SetStalled d e false) = λ k. never (own D E d e) k
      of_others (IsStalled d e) = tt
      of_others (SetPaced e on) = tt
      of_others (Advance e) = tt
      of_others (BeginRead e n) = λ k. never (own D E Out e) k
      of_others BeginSetup = tt
      of_others PollSetup = tt
      of_others PollDataIn = tt
      of_others BeginAccept = tt
      of_others PollAccept = tt
      of_others BeginReject = tt
      of_others (BeginDataOut n first) = tt
      of_others (BeginAcceptSetAddress a) = tt
  refused_leaves (aside o) u = tt

  abbrev WordEnds : Op → Bool × Track × Writing → Answer → St → Type 0
  WordEnds o x a t = Fitting D E (not-ep0 D E h) ((toggles D E).closes o a (x.0, x.1)) (view D E t.0)
      × (Few (ended a) → (words D E).EndsByReason o a x)

  word-call : (o : Op) (x : Bool × Track × Writing) (s : St) → Fitting D E (not-ep0 D E h) (x.0, x.1) (view D E
      s.0) → Sorting s.0
      → Sees (words D E) (λ _ _. Unit {0}) (WordEnds o) ((words D E).opens o s.1 x) (run concrete (code o) s)
  word-call o x s (inl e) q = watch-any (λ y. y.0 ≡ true) (λ _ _ _. tt) (λ _ _ _ _ g. g)
      (λ y a t g. (inl (rw g refl), λ _ z. differ (sym z ∙ g))) ((words D E).opens o s.1 x) e (run concrete
      (code o) s)
  word-call o x s (inr (i, f)) q =
      watch-more (together (heard D E (not-ep0 D E h) o (x.0, x.1) s (inr (i, f)) q) (word-law o x.1 s f i))
      (λ y a t p. (p.0.0, λ _ _. p.1))

  word_laws : Laws (words D E) (λ x v. Fitting D E (not-ep0 D E h) (x.0, x.1) v)
  word_laws =
      let L = laws D E (not-ep0 D E h) in
      record {
        stands = λ _ _ _. tt;
        call = λ o x s r q _. word-call o x s r q;
        asks = L.asks;
        besides = L.besides;
        new = L.new;
        unlent = λ o h b x v r. L.unlent o h b (x.0, x.1) v r;
        fair_1 = λ o _ x _. refused_leaves o x.2;
        loads = λ o _ s _ _. first_any (λ _. tt) (run concrete (code o) s);
        spares = λ o s. after_any (λ _ _. tt) (run concrete (code o) s);
      }

-- DATA0 in the chip's control word (9.1.1.5, 9.4.5), of every endpoint but 0 that no call has allocated as an
-- isochronous one, over EVERY list of calls: a set_enabled, a cleared halt and a bus reset leave it with DATA0, on ACK
-- where an OUT waits for a
-- packet, else on NAK; a begin_read that finds no packet there, and a begin_write, leave it on ACK. Whatever the chip
-- answers
pub code-control-words : (D : Dir) (E : ℕ) → (E % 16 ≡ 0 → ⊥) → (c : Config) (b : Buf) → start_row c b ≡ zero
    → (xs : List ℕ) (a : Buf) (first : CallRecord) → first.event ≡ record { call = start c; lent = b }
    → (ms : List CallRecord)
    → Steps xs a (first ∷ ms) → CodeAll (words D E) ms (started_by (words D E) first.answer)
code-control-words D E h c b row xs a first e ms s = code-from-start (words D E)
    (word_laws D E h) c b row xs a first e ms s
