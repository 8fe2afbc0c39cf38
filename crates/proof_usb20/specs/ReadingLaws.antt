-- The laws of reads and writes: the endpoint's own, and the others'
use Rattle.std.specs.Prelude.{Bool, true, not, cond, ◌&&◌, List, [], ◌≡◌, ℕ, eqb, ltb, length, set}
use Rattle.std.proofs.Math.Bool.{false, and-false}
use Rattle.std.proofs.Math.Path.{refl, ap, subst}
use Rattle.std.proofs.Common.{sym, ◌∙◌, arith, eqb-true, eq-eqb}
use Rattle.std.proofs.Math.ListN.{get_or}
use Rattle.std.proofs.Math.Seq.{get_or-set_same}
use Rattle.regs.specs.declared.Reg.TheVariants.{EpRxCtrl, EpTxCtrl}
use Rattle.regs.specs.declared.Dir.{Dir}
use Rattle.regs.specs.declared.Dir.TheVariants.{Out, In}
use Rattle.regs.specs.Enables as enables
use Rattle.state.specs.declared.EpState.{EpState}
use Rattle.state.specs.Driver.{Driver, key, no_ep, ep_on, with_on}
use Rattle.state.specs.Laws.{key-lt}
use Rattle.script.specs.Cells.{EpCore, Cell, Val, ep-cell, allocator-cell, request-cell}
use Rattle.script.specs.Script.{Script, run, no_wakes, fill}
use Rattle.script.specs.Statics.{is_on, with_ready, with_armed}
use Rattle.script.specs.Tree as tree
use Rattle.script.specs.Tree.{ends}
use Rattle.script.specs.Answers.{Answer, Refused, NotYet, Done, named, is_allocated}
use Rattle.script.specs.Endpoint.{polled, too_long, empty_request, begun}
use Rattle.script.specs.Calls.{Op, slotted, other, PollRead, BeginWrite, PollWrite, BeginRead, code}
use Rattle.script.specs.TogglesLaws.{number}
use Rattle.script.specs.Usb20Toggles.{Pid}
use Rattle.script_ops.specs.Records.{plain_of, merged}
use Rattle.script_ops.specs.Rings.{St}
use Rattle.script_ops.specs.Concrete.{concrete}
use Rattle.proof_book.specs.TransferKindsLaws.{put-steady, act-steady}
use Rattle.proof_usb20.specs.ExemptLaws.{by_test, differ}
use Rattle.proof_usb20.specs.Sequence as log
use Rattle.proof_usb20.specs.Sequence.{Track, off, with_phase, own, opens, closes, takes, taken, awaits, loaded}
use Rattle.proof_usb20.specs.Sequence.{EndsByReason, Polled}
use Rattle.proof_usb20.specs.FollowLaws as follow
use Rattle.proof_usb20.specs.Follow.{EpSeen, seen_of, FitsAs, Fits, view, Follow, Ends, Law}
use Rattle.proof_usb20.specs.Watch.{at_end, at_ask}
use Rattle.proof_usb20.specs.FollowLaws.{act-view}
use Rattle.proof_usb20.specs.CalmLaws.{Whole, Off, Else, LeavesTrack, loose, put_request, q_act, q_bind}
use Rattle.proof_usb20.specs.CalmLaws.{q_enabled, q_ends}
use Rattle.proof_usb20.specs.CalmLaws.{q_ep, q_fetch, q_got, q_is, q_put, q_reg, q_resultless, q_ret, q_staged}
use Rattle.proof_usb20.specs.CalmLaws.{q_test, q_write}

module _ (D : Dir) (E : ℕ) where
  -- ---- a call that tells the log nothing

  pub quiet-law : (o : Op) → (opens D E o ≡ with_phase off) → ((a : Answer) (x : Track) → closes D E o a x ≡ x)
      → ((a : Answer) (x : Track) → EndsByReason D E o a x) → LeavesTrack D E false (Off D E) (code o) → Law D E o
  quiet-law o p c f q w s r i z = subst (λ (u : Track). Follow D E (Ends D E o) u (run concrete (code o) s))
      (sym (ap (λ (g : Track → Track). g w) p))
      (follow.follow-more D E (q.goes (with_phase off w) s (refl, λ _ _ _ _. refl) (loose D E z.places))
      (λ x a u m. (
        subst (λ (y : Track). Fits y (view D E u.0)) (sym (c a x ∙ m.0)) (subst (Fits w) (sym m.1) r),
        f a x,
      )))

  -- ---- the endpoint's own record

  abbrev pub Own : Dir → ℕ → Type 0
  Own d e = key d e ≡ key D E

  pub own-ep : (x : Driver) (d : Dir) (e : ℕ) → Own d e → ep_on x d e ≡ ep_on x D E
  unfolding ep_on
  own-ep x d e h = ap (λ k. get_or x.eps k no_ep) h

  pub own-with : (x : Driver) (d : Dir) (e : ℕ) (r : EpState) → Own d e → length x.eps ≡ 32
      → ep_on (with_on x d e r) D E ≡ r
  unfolding ep_on with_on
  own-with x d e r h l = ap (λ k. get_or (set x.eps (key d e) r) k no_ep) (sym h)
      ∙ get_or-set_same x.eps (key d e) r no_ep (omega (arith, l, key-lt d e))

  abbrev pub written : EpCore → EpSeen → EpSeen
  written v x = record {
    ready = v.ready;
    len = v.len;
    armed = v.armed;
    tog = v.tog;
    iso = x.iso;
    stage
        = x.stage;
  }

  pub put-own : (d : Dir) (e : ℕ) (v : EpCore) (s : St) → Own d e → Whole s
      → view D E (concrete.put (ep-cell d e) v s).0 ≡ written v (view D E s.0)
  unfolding with_on
  put-own d e v s h l = ap (λ q. seen_of q s.0.globals.stage) (own-with s.0 d e (merged (ep_on s.0 d e) v) h l)
      ∙ ap (λ (q : EpState). seen_of (merged q v) s.0.globals.stage) (own-ep s.0 d e h)

  pub got : (d : Dir) (e : ℕ) (s : St) → Own d e → concrete.get (ep-cell d e) s ≡ plain_of (ep_on s.0 D E)
  got d e s h = ap plain_of (own-ep s.0 d e h)

  pub whole-put : (c : Cell) (v : Val c) (s : St) → Whole s → Whole (concrete.put c v s)
  whole-put c v s h = (put-steady c v s).places ∙ h

  -- after EP0's start
  pub fits-2 : {b : Pid} {t : Bool} {n : ℕ} {a : Bool} {x : EpSeen} → eqb x.stage 2 ≡ true → x.tog ≡ number b
      → is_on x.ready ≡ t → x.len ≡ n → is_on x.armed ≡ a → FitsAs b t n a x
  fits-2 h p q r g = record { tog = p; ready = q; len = r; armed = g; early = λ k. differ (sym k ∙ h) }

  -- a change of its record
  pub changed : (d : Dir) (e : ℕ) (f : EpCore → EpCore) (s : St) → Own d e → Whole s
      → view D E (concrete.put (ep-cell d e) (f (concrete.get (ep-cell d e) s)) s).0
      ≡ written (f (plain_of (ep_on s.0 D E))) (view D E s.0)
  changed d e f s h l = put-own d e (f (concrete.get (ep-cell d e) s)) s h l
      ∙ ap (λ (p : EpCore). written (f p) (view D E s.0)) (got d e s h)

  -- `own` by its answer
  pub own-true : (d : Dir) (e : ℕ) → own D E d e ≡ true → Own d e
  own-true d e h = eqb-true (key d e) (key D E) h

  pub own-false : (d : Dir) (e : ℕ) → own D E d e ≡ false → Else D E d e
  own-false d e h q = let z : true ≡ false = sym (eq-eqb (key d e) (key D E) (sym q)) ∙ h in differ (sym z)

  pub not-and : (b a : Bool) (x y : Track) → b ≡ false → cond (b && a) x y ≡ y
  not-and b a x y h = rw h refl

  -- ---- rows that a call meets

  pub q-named : {P : Track → Type 0} {i : Bool} (d : Dir) (e : ℕ) {p : Script i Answer} → LeavesTrack D E false P p
      → LeavesTrack D E false P (named d e p)
  q-named d e x = (q_bind D E) ((q_got D E) allocator-cell) (λ a. (q_test D E) x (q_ret D E))

  q-polled : {i : Bool} (d : Dir) (e n : ℕ) → Else D E d e → {p : EpCore → Script i Answer}
      → ((s : EpCore) → LeavesTrack D E false (Off D E) (p s)) → LeavesTrack D E false (Off D E) (polled d e n p)
  q-polled d e n m x = (q_bind D E) ((q_got D E) (request-cell d e))
      (λ r. (q_test D E) (q_ret D E) ((q_test D E) ((q_bind D E) ((q_got D E) (ep-cell d e)) (λ s. x s))
      ((q_bind D E) ((q_ep D E) d e (with_ready 0) m) (λ _. (q_ends D E) d e (Refused 10)))))

  -- ---- reads and writes

  off-begin-read : (e n : ℕ) → own D E Out e ≡ false → Law D E (other (BeginRead e n))
  off-begin-read e n h =
      quiet-law (other (BeginRead e n)) refl (λ a x. not-and (own D E Out e) (log.ended D E a) (awaits D E x) x h)
      (λ _ _. tt)
      ((q_staged D E) 2
      (q-named Out e ((q_enabled D E) Out e (q_ret D E)
      ((q_bind D E) ((q_got D E) (ep-cell Out e)) (λ s. (q_test D E) (q_ret D E)
      ((q_bind D E) ((q_put D E) (put_request D E Out e (begun n)) (q_ret D E))
      (λ _. (q_resultless D E) ((q_test D E) (q_ret D E)
      ((q_test D E) (q_ret D E) ((q_bind D E) ((q_ep D E) Out e (with_armed 1) (own-false Out e h))
      (λ _. (q_reg D E) EpRxCtrl e _)))))))))))

  off-poll-read : (e n : ℕ) → own D E Out e ≡ false → Law D E (slotted (PollRead e n))
  off-poll-read e n h = quiet-law (slotted (PollRead e n)) refl
      (λ a x. not-and (own D E Out e) (takes D E a) (taken D E x) x h)
      (λ a x k. differ (sym h ∙ k)) ((q_staged D E) 2 (q-named Out e
      (q-polled Out e n (own-false Out e h) (λ s. (q_test D E)
      ((q_enabled D E) Out e ((q_ends D E) Out e (Refused 9))
      ((q_bind D E) ((q_is D E) (λ _. (q_ret D E))) (λ b. (q_test D E) ((q_bind D E) ((q_fetch D E) (λ _. (q_ret D E)))
      (λ bytes. (q_bind D E) ((q_act D E) refl (q_ret D E)) (λ _. (q_ends D E) Out e _))) (q_ret D E))))
      ((q_test D E) ((q_bind D E) ((q_ep D E) Out e (with_ready 0) (own-false Out e h)) (λ _. (q_test D E)
      ((q_ends D E) Out e (Refused 10)) ((q_bind D E) ((q_fetch D E) (λ _. (q_ret D E)))
      (λ bytes. (q_ends D E) Out e (Done bytes)))))
      ((q_enabled D E) Out e ((q_ends D E) Out e (Refused 9)) (q_ret D E)))))))

  -- what a poll leaves that takes the completion
  took : (d : Dir) (e : ℕ) (w : Track) (s : St) → Own d e → Fits w (view D E s.0)
      → eqb s.0.globals.stage 2 ≡ true → Whole s
      → FitsAs w.bit false w.len w.armed
      (view D E (concrete.put (request-cell d e) empty_request
      (concrete.put (ep-cell d e) (with_ready 0 (concrete.get (ep-cell d e) s)) s)).0)
  unfolding is_on
  took d e w s h r q l = subst (FitsAs w.bit false w.len w.armed)
      (sym (put_request D E d e empty_request (concrete.put (ep-cell d e) (with_ready 0 (concrete.get (ep-cell d e) s)) s)
      ∙ changed d e (with_ready 0) s h l)) (fits-2 q r.tog refl r.len r.armed)

  ready-own : (d : Dir) (e : ℕ) (w : Track) (s : St) {b : Bool} → Own d e → Fits w (view D E s.0)
      → is_on (concrete.get (ep-cell d e) s).ready ≡ b → w.through ≡ b
  ready-own d e w s h r q = sym r.ready ∙ (sym (ap (λ (p : EpCore). is_on p.ready) (got d e s h)) ∙ q)

  pub iso-own : (d : Dir) (e : ℕ) (s : St) {A : Type 0} → Own d e → is_on (ep_on s.0 D E).iso ≡ false
      → is_on (concrete.get (ep-cell d e) s).iso ≡ true → A
  iso-own d e s h i q = differ (sym i ∙ (sym (ap (λ (p : EpCore). is_on p.iso) (got d e s h)) ∙ q))

  stay : (d : Dir) (e : ℕ) (a : Answer) (w : Track) (x : EpSeen) → takes D E a ≡ false → Fits w x
      → Fits (cond (own D E d e && takes D E a) (taken D E (with_phase off w)) (with_phase off w)) x
  stay d e a w x h r = rw (h, and-false (own D E d e)) r

  gone : (d : Dir) (e : ℕ) (a : Answer) (w : Track) (x : EpSeen) → own D E d e ≡ true → takes D E a ≡ true
      → FitsAs w.bit false w.len w.armed x
      → Fits (cond (own D E d e && takes D E a) (taken D E (with_phase off w)) (with_phase off w)) x
  gone d e a w x h k r = rw (h, k) r

  pub law-begin-read : (e n : ℕ) → Law D E (other (BeginRead e n))
  unfolding is_on
  law-begin-read e n w s r i z = by (own D E Out e) refl
    where
      nothing : Fits (cond (own D E Out e && false) (awaits D E (with_phase off w)) (with_phase off w)) (view D E s.0)
      nothing = rw (and-false (own D E Out e)) r

      there : (b : Bool) → w.through ≡ b → b ≡ true → cond w.through w.armed true ≡ w.armed
      there b h k = rw (h, k) refl

      not_there : w.through ≡ false → cond w.through w.armed true ≡ true
      not_there h = rw h refl

      by : (b : Bool) → own D E Out e ≡ b
          → Follow D E (Ends D E (other (BeginRead e n))) (with_phase off w)
          (run concrete (code (other (BeginRead e n))) s)
      by false h = off-begin-read e n h w s r i z
      by true h =
          let o = own-true Out e h in
          let s1 = concrete.put (request-cell Out e) (begun n) s in
          let s2 = concrete.act no_wakes s1 in
          let k : Whole s2 = (act-steady no_wakes refl s1).places
          ∙ whole-put (request-cell Out e) (begun n) s z.places in
          let v : view D E s2.0 ≡ view D E s.0 = act-view D E no_wakes refl s1
          ∙ put_request D E Out e (begun n) s in
          follow.follow-cond D E (eqb s.0.globals.stage 2)
          (λ two. follow.follow-cond D E (is_allocated s.0.allocator Out e)
          (λ _. follow.follow-cond D E (enables.is_on s.0.globals.ep_config Out e)
          (λ _. follow.follow-cond D E (ltb n (concrete.get (ep-cell Out e) s).max_len) (λ _. at_end (nothing, tt))
          (λ _. follow.follow-bind D E {P = λ y _ a. (y ≡ with_phase off w)
          × FitsAs w.bit w.through w.len (cond w.through w.armed true) (view D E a.0)}
          (follow.follow-bind D E {P = λ y _ a. (y ≡ with_phase off w)
          × FitsAs w.bit w.through w.len (cond w.through w.armed true) (view D E a.0)}
          (follow.follow-cond D E (is_on (concrete.get (ep-cell Out e) s).iso) (λ q. iso-own Out e s o i q)
          (λ _. follow.follow-cond D E (is_on (concrete.get (ep-cell Out e) s).ready)
          (λ q. let g = there w.through refl (ready-own Out e w s o r q) in at_end (
            refl,
            subst (FitsAs w.bit w.through w.len (cond w.through w.armed true))
                (sym v) (fits-2 two r.tog r.ready r.len (r.armed ∙ sym g)),
          ))
          (λ q. let g = not_there (ready-own Out e w s o r q) in
          let t = concrete.put (ep-cell Out e) (with_armed 1 (concrete.get (ep-cell Out e) s2)) s2 in
          at_ask tt (λ _ a _ p. at_ask tt (λ _ c _ m. at_end (
            refl,
            subst (FitsAs w.bit w.through w.len (cond w.through w.armed true))
                (sym (m.0 ∙ (p.0 ∙ changed Out e (with_armed 1) s2 o k)))
                (let f = subst (Fits w) (sym v) r in fits-2 (ap (λ (q : EpSeen). eqb q.stage 2) v ∙ two) f.tog
                f.ready f.len (sym g)),
          )))))) (λ y _ a m. at_end m))
          (λ y n a m. at_end (rw m.0 (rw h m.1), tt))))
          (λ _. at_end (nothing, tt))) (λ _. at_end (nothing, tt))) (λ _. at_end (nothing, tt))

  -- what a poll of either direction leaves
  abbrev EndsPoll : Dir → ℕ → Track → Answer → St → Type 0
  EndsPoll d e y a t = Fits (cond (own D E d e && takes D E a) (taken D E y) y) (view D E t.0)
      × (own D E d e ≡ true → Polled D E a y)

  -- the endpoint's own, not isochronous: a row 4, 5 or 15, with nothing yet (9 where it is disabled), of another
  -- length; what is left is that it is ready
  own-poll : (d : Dir) (e n : ℕ) (w : Track) (s : St) → own D E d e ≡ true → Fits w (view D E s.0)
      → is_on (ep_on s.0 D E).iso ≡ false → Whole s
      → (x : tree.Out St Answer) {o : tree.Out St Answer} → let at = concrete.get (ep-cell d e) s in
      let asked = concrete.get (request-cell d e) s in
      (eqb s.0.globals.stage 2 ≡ true → is_on at.ready ≡ true → Follow D E (EndsPoll d e) (with_phase off w) o)
      → Follow D E (EndsPoll d e) (with_phase off w) (cond (eqb s.0.globals.stage 2)
      (cond (is_allocated s.0.allocator d e)
      (cond (not (is_on asked.begun)) (ends (Refused 15) s) (cond (eqb asked.length n)
      (cond (is_on at.iso) x (cond (is_on at.ready) o
      (cond (enables.is_on s.0.globals.ep_config d e) (ends NotYet s)
      (ends (Refused 9) (concrete.put (request-cell d e) empty_request s)))))
      (ends (Refused 10) (concrete.put (request-cell d e) empty_request
      (concrete.put (ep-cell d e) (with_ready 0 at) s)))))
      (ends (Refused 5) s)) (ends (Refused 4) s))
  own-poll d e n w s h r i z x y =
      let o = own-true d e h in
      follow.follow-cond D E (eqb s.0.globals.stage 2)
      (λ two. follow.follow-cond D E (is_allocated s.0.allocator d e)
      (λ _. follow.follow-cond D E (not (is_on (concrete.get (request-cell d e) s).begun))
      (λ _. at_end (stay d e (Refused 15) w _ refl r, λ _. tt))
      (λ _. follow.follow-cond D E (eqb (concrete.get (request-cell d e) s).length n)
      (λ _. follow.follow-cond D E (is_on (concrete.get (ep-cell d e) s).iso) (λ q. iso-own d e s o i q)
      (λ _. follow.follow-cond D E (is_on (concrete.get (ep-cell d e) s).ready) (λ q. y two q)
      (λ q. follow.follow-cond D E (enables.is_on s.0.globals.ep_config d e)
      (λ _. at_end (stay d e NotYet w _ refl r, λ _. ready-own d e w s o r q))
      (λ _. at_end (
        stay d e (Refused 9) w _ refl (subst (Fits w) (sym (put_request D E d e empty_request s)) r),
        λ _.
            tt,
      )))))
      (λ _. at_end (gone d e (Refused 10) w _ h refl (took d e w s o r two z), λ _. tt))))
      (λ _. at_end (stay d e (Refused 5) w _ refl r, λ _. tt))) (λ _. at_end (stay d e (Refused 4) w _ refl r, λ _. tt))

  pub law-poll-read : (e n : ℕ) → Law D E (slotted (PollRead e n))
  law-poll-read e n w s r i z = by_test (own D E Out e)
      (λ h. let o = own-true Out e h in
      own-poll Out e n w s h r i z.places _
      (λ two q. follow.follow-cond D E (too_long n (concrete.get (ep-cell Out e) s))
      (λ _. at_end (gone Out e (Refused 10) w _ h refl (took Out e w s o r two z.places), λ _. tt))
      (λ _. at_end (
        gone Out e (Done []) w _ h refl (took Out e w s o r two z.places),
        λ _. ready-own Out e w s o r
            q,
      ))))
      (λ h. off-poll-read e n h w s r i z)

  off-poll-write : (e : ℕ) (bytes : List ℕ) → own D E In e ≡ false → Law D E (slotted (PollWrite e bytes))
  off-poll-write e bytes h = quiet-law (slotted (PollWrite e bytes)) refl
      (λ a x. not-and (own D E In e) (takes D E a) (taken D E x) x h) (λ a x k. differ (sym h ∙ k))
      ((q_staged D E) 2 (q-named In e (q-polled In e (length bytes) (own-false In e h) (λ s. (q_test D E)
      ((q_enabled D E) In e ((q_ends D E) In e (Refused 9)) ((q_bind D E) ((q_is D E) (λ _. (q_ret D E)))
      (λ b. (q_test D E) ((q_bind D E) ((q_act D E) refl (q_ret D E)) (λ _. (q_ends D E) In e (Done []))) (q_ret D E))))
      ((q_test D E) ((q_bind D E) ((q_ep D E) In e (with_ready 0) (own-false In e h)) (λ _. (q_ends D E) In e (Done [])))
      ((q_enabled D E) In e ((q_ends D E) In e (Refused 9)) (q_ret D E)))))))

  pub law-poll-write : (e : ℕ) (bytes : List ℕ) → Law D E (slotted (PollWrite e bytes))
  law-poll-write e bytes w s r i z = by_test (own D E In e)
      (λ h. let o = own-true In e h in
      own-poll In e (length bytes) w s h r i z.places _
      (λ two q. at_end (
        gone In e (Done []) w _ h refl (took In e w s o r two z.places),
        λ _. ready-own In e w s o r
            q,
      )))
      (λ h. off-poll-write e bytes h w s r i z)

  off-begin-write : (e : ℕ) (bytes : List ℕ) → own D E In e ≡ false → Law D E (slotted (BeginWrite e bytes))
  off-begin-write e bytes h = quiet-law (slotted (BeginWrite e bytes)) refl
      (λ a x. not-and (own D E In e) (log.ended D E a) (loaded D E x) x h) (λ _ _. tt)
      ((q_staged D E) 2 (q-named In e ((q_enabled D E) In e (q_ret D E)
      ((q_bind D E) ((q_got D E) (ep-cell In e)) (λ s. (q_test D E) (q_ret D E)
      ((q_bind D E) ((q_put D E) (put_request D E In e (begun (length bytes))) (q_ret D E))
      (λ _. (q_resultless D E) ((q_test D E) (q_ret D E)
      ((q_bind D E) ((q_act D E) refl (q_ret D E)) (λ _. (q_bind D E)
      ((q_ep D E) In e (λ s. with_armed 1 (with_ready 0 s)) (own-false In e h))
      (λ _. (q_bind D E) ((q_write D E) (q_ret D E)) (λ _. (q_reg D E) EpTxCtrl e _))))))))))))

  pub law-begin-write : (e : ℕ) (bytes : List ℕ) → Law D E (slotted (BeginWrite e bytes))
  unfolding is_on
  law-begin-write e bytes w s r i z = by (own D E In e) refl
    where
      nothing : (n : ℕ)
          → Fits (cond (own D E In e && false) (loaded D E (with_phase off w)) (with_phase off w)) (view D E s.0)
      nothing n = rw (and-false (own D E In e)) r

      by : (b : Bool) → own D E In e ≡ b
          → Follow D E (Ends D E (slotted (BeginWrite e bytes))) (with_phase off w)
          (run concrete (code (slotted (BeginWrite e bytes))) s)
      by false h = off-begin-write e bytes h w s r i z
      by true h =
          let o = own-true In e h in
          let s1 = concrete.put (request-cell In e) (begun (length bytes)) s in
          let s2 = concrete.act no_wakes s1 in
          let u = concrete.act (fill e bytes) s2 in
          let t = concrete.put (ep-cell In e) (with_armed 1 (with_ready 0 (concrete.get (ep-cell In e) u))) u in
          let k : Whole u = (act-steady (fill e bytes) refl s2).places
          ∙ ((act-steady no_wakes refl s1).places ∙ whole-put (request-cell In e) (begun (length bytes)) s
          z.places) in
          let v : view D E u.0 ≡ view D E s.0 = act-view D E (fill e bytes) refl s2
          ∙ (act-view D E no_wakes refl s1 ∙ put_request D E In e (begun (length bytes)) s) in
          follow.follow-cond D E (eqb s.0.globals.stage 2)
          (λ two. follow.follow-cond D E (is_allocated s.0.allocator In e)
          (λ _. follow.follow-cond D E (enables.is_on s.0.globals.ep_config In e)
          (λ _. follow.follow-cond D E (ltb (concrete.get (ep-cell In e) s).max_len (length bytes))
          (λ _. at_end (nothing 10, tt))
          (λ _. follow.follow-bind D E {P = λ y _ a. (y ≡ with_phase off w) × (view D E a.0 ≡ view D E t.0)}
          (follow.follow-bind D E {P = λ y _ a. (y ≡ with_phase off w) × (view D E a.0 ≡ view D E t.0)}
          (follow.follow-cond D E (is_on (concrete.get (ep-cell In e) s).iso) (λ q. iso-own In e s o i q)
          (λ _. at_ask tt (λ _ a _ p. at_ask tt (λ _ b _ q. at_ask tt
          (λ _ c _ m. at_end (refl, m.0 ∙ (q.0 ∙ p.0))))))) (λ y _ a m. at_end m))
          (λ y n a m. at_end (
            rw m.0 (rw h (subst (FitsAs w.bit false w.len true)
                (sym (m.1 ∙ changed In e (λ p. with_armed 1 (with_ready 0 p)) u o k))
                (let f = subst (Fits w) (sym v) r in fits-2 (ap (λ (q : EpSeen). eqb q.stage 2) v ∙ two) f.tog
                refl f.len refl))),
            tt,
          ))))
          (λ _. at_end (nothing 9, tt))) (λ _. at_end (nothing 5, tt))) (λ _. at_end (nothing 4, tt))
