-- A part of an interrupt that ends at an access of the channel's own: what the others get may fall before it or after
-- it, unless it is a store that the part sees
use Rattle.std.specs.Prelude.{Bool, cond, ◌≡◌, refl, eqb, ◌⊎◌}
use Rattle.std.proofs.Math.Bool.{true, false}
use Rattle.std.proofs.Common.{true≢false, ap, subst, sym, ◌∙◌, arith, eqb-true, inl, inr, ⊎_elim}
use mathlib.Core.List.{List, [], ◌∷◌}
use Prim.Native.Nat.{ℕ, zero, suc, ◌≤◌, ◌<◌}
use Rattle.bits.specs.Walk.{set_bits}
use Rattle.bits.specs.WalkLaws as walk-laws
use Rattle.bits.specs.WalkLaws.{walked-set, walk-rises}
use Rattle.script.specs.SortsWalks.{among-outs}
use Rattle.proof_book.specs.TransferKindsLaws.{sorted}
use Rattle.regs.specs.declared.Access.{Access}
use Rattle.regs.specs.declared.Access.TheVariants.{Receive}
use Rattle.regs.specs.declared.Reg.{Reg}
use Rattle.regs.specs.declared.Reg.TheVariants.{IntEn, IntFg, IntSt, MisSt, RxLen, FrameNo, EpRxCtrl, EpTxCtrl, EpTLen}
use Rattle.regs.specs.declared.Dir.{Dir}
use Rattle.regs.specs.declared.Dir.TheVariants.{Out, In}
use Rattle.regs.specs.declared.Token.{Token}
use Rattle.regs.specs.declared.Token.TheVariants as tok
use Rattle.regs.specs.Registers.{ctrl_of}
use Rattle.regs.specs.Flags.{SETUP_ACT}
use Rattle.regs.specs.Status.{endpoint, token, token_numbered, is_out}
use Rattle.state.specs.declared.Globals.{Globals}
use Rattle.state.specs.Driver.{Driver, with_wakes}
use Rattle.state.specs.Wakes.{Wakes, unwoken, listed, all_woken}
use Rattle.script.specs.declared.Transfer.{Transfer}
use Rattle.script.specs.Tree as tree
use Rattle.script.specs.Tree.{ends, asks, bind_out}
use Rattle.script.specs.Cells.{Cell, Val, EpCore, globals-cell, ep-cell}
use Rattle.script.specs.Script.{Script, Act, run, ret, done, bind, test, ◌>>=◌, ◌>>◌, when, read, write, callback, get}
use Rattle.script.specs.Script.{put, is, look, fetch, act, hand}
use Rattle.script.specs.Script.{changed, waiting, marked, next_len_lem, setup_word, gathered, complete, no_wakes, waken}
use Rattle.script.specs.Script.{arrive, send}
use Rattle.script.specs.Statics.{with_ready, with_armed, with_setup, every_iso_in, iso_outs, modify, modify_ep, modify_reg}
use Rattle.script.specs.Statics.{modify_int_en, wake}
use Rattle.script.specs.Answers.{Answer}
use Rattle.script.specs.Simulates.{quiet}
use Rattle.script.specs.TransferKinds.{allocates}
use Rattle.script.specs.IsoIn.{first_in_frame, iso_in_load, iso_in_complete, unseen, sof_one, sof_walk, on_sof, late_walk}
use Rattle.script.specs.IsoOut.{arriving, entry, arrives, check_one, check_walk, iso_out_check}
use Rattle.script.specs.Handler.{looks, nak_non_iso, toggled, retake, settle, received, sent, out_arm, iso_in_arm, in_arm}
use Rattle.script.specs.Handler.{entered, framed, iso_for}
use Rattle.script.specs.Handler.{dispatch, moved_on, ep0_moved_on, served, on_transfer, take_setup, on_setup, on_interrupt}
use Rattle.script.specs.Handler.{stamped_interrupt}
use Rattle.script.specs.Calls.{Config, Op, interrupt, slotted, other, aside, calls, code, start_row, interrupt_code}
use Rattle.script.specs.Machine.{Ans, Buf, Call, start, begin, continue, question, Pending, idle, busy, Machine, over}
use Rattle.script.specs.Machine.{misfit, stay, lent_to}
use Rattle.script.specs.Machine.{during_interrupt, begun, continued, started}
use Rattle.script_ops.specs.Rings.{St}
use Rattle.script_ops.specs.Concrete.{concrete, get_on, is_of, look_of, act_on, hand_on}
use Rattle.machine.specs.Suspended.{driver_of, drive}
use Rattle.answer.specs.Goes.{StepResult}
use Rattle.proof_isolation.specs.EqualExcept.{Lawful, Channel}
use Rattle.proof_isolation.specs.Whose.{sof}
use Rattle.proof_isolation.specs.Apart.{next, Another, never, elsewhere, Its, status, receive, Without}
use Rattle.proof_isolation.specs.Apart.{without_end}
use Rattle.proof_isolation.specs.PairsLaws.{another-bind, its-bind}
use Rattle.proof_isolation.specs.WithoutLaws.{without-bind, Quiet, q_ret, q_bind, q_when, q-moved-on, q-setup}
use Rattle.proof_isolation.specs.WithoutLaws.{later-without}
use Rattle.proof_isolation.specs.Settled.{is_control}
use Rattle.proof_isolation.specs.ButsLaws.{lawful-put, lawful-act}
use Rattle.proof_isolation.specs.Late.{Light, is_store, AnyStore}
use Rattle.proof_isolation.proofs.Standing.{stops}
use Rattle.proof_isolation.specs.Does.{Does}
use Rattle.proof_isolation.proofs.DoesLaws.{does_before, does_get, does_own, does_marked, does_changed}
use Rattle.proof_isolation.proofs.DoesLaws.{does_wakes_same, does_put, does_wakes}
use Rattle.proof_isolation.proofs.DoesLaws.{does_address, does_arrive}

-- there are stores among them or not
any-store : (os : List Light) → AnyStore os ⊎ (AnyStore os → ⊥)
any-store [] = inr (λ z. z)
any-store (o ∷ os) = by (is_store o) refl (any-store os)
  where
    by : (u : Bool) → is_store o ≡ u → AnyStore os ⊎ (AnyStore os → ⊥) → AnyStore (o ∷ os) ⊎ (AnyStore (o ∷ os) → ⊥)
    by true h w = inl (inl h)
    by false h (inl w) = inl (inr w)
    by false h (inr w) = inr (⊎_elim (λ z. true≢false (sym z ∙ h)) w)

-- it hands out an access made for OUT e
pub data Made (e : ℕ) {A : Type 0} : tree.Out St A → Type 0 where
  made : {q : Access} {s : St} {k : ℕ → St → tree.Out St A} → ((t : St) → Its e q (k sof t)) → Made e (asks q s k)

made-bind : {e : ℕ} {A B : Type 0} {y : tree.Out St A} (g : A → St → tree.Out St B) → Made e y → Made e (bind_out y g)
made-bind g (made h) = made (λ t. its-bind g (h t))

module _ (c : Channel) where
  -- one script's outcomes from a state, and from that state with what the others get (`Does`): both end or hand out the
  -- same access and continue on alike, and the others may as well get it then; or the first hands out an access that is
  -- not made for the channel; or, where `m` is true, a store is seen: the second hands out an access made for another
  -- isochronous
  -- OUT endpoint, e, and the first none any more that is made for e or for one below it
  pub data Slid (os : List Light) (us : List (Ans Answer)) {A : Type 0} : Bool → tree.Out St A → tree.Out St A
      → Type 0 where
    slid_end : {m : Bool} {a : A} {s t : St} → Does c os us s t → Slid os us m (ends a s) (ends a t)
    slid_ask : {m : Bool} {q : Access} {s t : St} {k : ℕ → St → tree.Out St A} → Does c os us s t
        → Slid os us m (asks q s k) (asks q t k)
    slid_lost : {m : Bool} {q : Access} {s : St} {k : ℕ → St → tree.Out St A} {u : tree.Out St A}
        → ((t : St) → Another c.number q (k sof t))
        → Slid os us m (asks q s k) u
    slid_seen : {y u : tree.Out St A} (e : ℕ) → eqb e c.number ≡ false → AnyStore os → Made e u
        → ((x : ℕ) → x ≤ e → Without x y) → Slid os us true y u

  -- wherever it goes on, it goes on so
  pub data Free (m : Bool) {A : Type 0} : tree.Out St A → Type 0 where
    free_end : {a : A} {s : St} → Lawful c.iso quiet s → Free m (ends a s)
    free_ask : {q : Access} {s : St} {k : ℕ → St → tree.Out St A}
        → ((v : ℕ) (t : St) → Lawful c.iso quiet t → Free m (k v t))
        → ((os : List Light) (us : List (Ans Answer)) (v : ℕ) (s t : St) → Does c os us s t
        → Slid os us m (k v s) (k v t)) → Free m (asks q s k)

  slid_more : {m : Bool} {os : List Light} {us : List (Ans Answer)} {A : Type 0} {y u : tree.Out St A}
      → Slid os us false y u → Slid os us m y u
  slid_more (slid_end p) = slid_end p
  slid_more (slid_ask p) = slid_ask p
  slid_more (slid_lost n) = slid_lost n

  -- what is first sees none
  slid_bind : {m : Bool} {os : List Light} {us : List (Ans Answer)} {A B : Type 0} {y u : tree.Out St A}
      {g : A → St → tree.Out St B}
      → Slid os us false y u → ((a : A) (s t : St) → Does c os us s t → Slid os us m (g a s) (g a t))
      → Slid os us m (bind_out y g) (bind_out u g)
  slid_bind (slid_end p) h = h _ _ _ p
  slid_bind (slid_ask p) h = slid_ask p
  slid_bind {g = g} (slid_lost n) h = slid_lost (λ t. another-bind g (n t))

  -- or it may, and what follows hands out no access that is made for an isochronous OUT endpoint
  slid_seen_bind : {os : List Light} {us : List (Ans Answer)} {A B : Type 0} {y u : tree.Out St A}
      {g : A → St → tree.Out St B} → Slid os us true y u
      → ((a : A) (s t : St) → Does c os us s t → Slid os us false (g a s) (g a t))
      → ((x : ℕ) (a : A) (s : St) → Without x (g a s))
      → Slid os us true (bind_out y g) (bind_out u g)
  slid_seen_bind (slid_end p) h w = slid_more (h _ _ _ p)
  slid_seen_bind (slid_ask p) h w = slid_ask p
  slid_seen_bind {g = g} (slid_lost n) h w = slid_lost (λ t. another-bind g (n t))
  slid_seen_bind {g = g} (slid_seen e n b m k) h w = slid_seen e n b (made-bind g m)
      (λ x l. without-bind (k x l) (λ a s. w x a s))

  free_bind : {m : Bool} {A B : Type 0} {y : tree.Out St A} {g : A → St → tree.Out St B} → Free false y
      → ((a : A) (s : St) → Lawful c.iso quiet s → Free m (g a s))
      → ((os : List Light) (us : List (Ans Answer)) (a : A) (s t : St) → Does c os us s t
      → Slid os us m (g a s) (g a t)) → Free m (bind_out y g)
  free_bind (free_end l) h k = h _ _ l
  free_bind (free_ask f l) h k = free_ask (λ v t m. free_bind (f v t m) h k)
      (λ os us v s t p. slid_bind (l os us v s t p) (λ a s t q. k os us a s t q))

  free_more : {m : Bool} {A : Type 0} {y : tree.Out St A} → Free false y → Free m y
  free_more (free_end l) = free_end l
  free_more (free_ask f l) = free_ask (λ v t m. free_more (f v t m)) (λ os us v s t p. slid_more (l os us v s t p))

  free_seen_bind : {A B : Type 0} {y : tree.Out St A} {g : A → St → tree.Out St B} → Free true y
      → ((a : A) (s : St) → Lawful c.iso quiet s → Free false (g a s))
      → ((os : List Light) (us : List (Ans Answer)) (a : A) (s t : St) → Does c os us s t
      → Slid os us false (g a s) (g a t))
      → ((x : ℕ) (a : A) (s : St) → Without x (g a s)) → Free true (bind_out y g)
  free_seen_bind (free_end l) h k w = free_more (h _ _ l)
  free_seen_bind (free_ask f l) h k w = free_ask (λ v t m. free_seen_bind (f v t m) h k w)
      (λ os us v s t p. slid_seen_bind (l os us v s t p) (λ a s t q. k os us a s t q) w)

  -- ---- scripts

  pub record Slides (m : Bool) {A : Type 0} (p : Script true A) : Type 0 where
    pub free : (s : St) → Lawful c.iso quiet s → Free m (run concrete p s)
    pub slid : (os : List Light) (us : List (Ans Answer)) (s t : St) → Does c os us s t
        → Slid os us m (run concrete p s) (run concrete p t)

  s_ret : {see : Bool} {A : Type 0} {a : A} → Slides see (ret a)
  s_ret = record { free = λ s l. free_end l; slid = λ os us s t p. slid_end p }

  s_bind : {see : Bool} {A B : Type 0} {p : Script true A} {f : A → Script true B} → Slides false p
      → ((a : A) → Slides see (f a)) → Slides see (bind p f)
  s_bind h k = record {
    free = λ s l. free_bind (h.free s l) (λ a t m. (k a).free t m) (λ os us a s t p. (k a).slid os us s t p);
    slid = λ os us s t p. slid_bind (h.slid os us s t p) (λ a s t q. (k a).slid os us s t q);
  }

  s_then : {see : Bool} {A B : Type 0} {p : Script true A} {q : Script true B} → Slides false p → Slides see q
      → Slides see (p >> q)
  s_then h k = s_bind h (λ _. k)

  -- the checks, and what follows them
  s_seen_bind : {A B : Type 0} {p : Script true A} {f : A → Script true B} → Slides true p
      → ((a : A) → Slides false (f a))
      → ((a : A) → Quiet (f a)) → Slides true (bind p f)
  s_seen_bind h k w = record {
    free = λ s l. free_seen_bind (h.free s l) (λ a t m. (k a).free t m) (λ os us a s t p. (k a).slid os us s t p)
        (λ x a s. (w a).on x s);
    slid = λ os us s t p. slid_seen_bind (h.slid os us s t p) (λ a s t q. (k a).slid os us s t q)
        (λ x a s. (w a).on x s);
  }

  s_seen_then : {A B : Type 0} {p : Script true A} {q : Script true B} → Slides true p → Slides false q → Quiet q
      → Slides true (p >> q)
  s_seen_then h k w = s_seen_bind h (λ _. k) (λ _. w)

  s_test : {see : Bool} {A : Type 0} {p q : Script true A} (b : Bool) → Slides see p → Slides see q
      → Slides see (test b p q)
  s_test true h k = record { free = λ s l. h.free s l; slid = λ os us s t p. h.slid os us s t p }
  s_test false h k = record { free = λ s l. k.free s l; slid = λ os us s t p. k.slid os us s t p }

  s_when : {see : Bool} {p : Script true Unit} (b : Bool) → Slides see p → Slides see (when b p)
  s_when b h = s_test b h s_ret

  s_read : {see : Bool} (r : Reg) (e : ℕ) → Slides see (read r e)
  s_read r e = record {
    free = λ s l. free_ask (λ v t m. free_end m) (λ os us v s t p. slid_end p);
    slid
        = λ os us s t p. slid_ask p;
  }

  s_write : {see : Bool} (r : Reg) (e v : ℕ) → Slides see (write r e v)
  s_write r e v = record {
    free = λ s l. free_ask (λ v t m. free_end m) (λ os us v s t p. slid_end p);
    slid
        = λ os us s t p. slid_ask p;
  }

  s_callback : {see : Bool} → Slides see callback
  s_callback = record {
    free = λ s l. free_ask (λ v t m. free_end m) (λ os us v s t p. slid_end p);
    slid
        = λ os us s t p. slid_ask p;
  }

  s_get : {see : Bool} (q : Cell) → Slides see (get q)
  s_get {see} q = record {
    free = λ s l. free_end l;
    slid = λ os us s t p. subst (λ v. Slid os us see (ends (get_on q s) s) (ends v t)) (sym (does_get c p q))
        (slid_end p);
  }

  s_put : {see : Bool} (q : Cell) (v : Val q) → is_control q ≡ false → Slides see (put q v)
  s_put q v h = record {
    free = λ s l. free_end (lawful-put c q v l h);
    slid
        = λ os us s t p. slid_end (does_put c p q v h);
  }

  s_gathered : {see : Bool} → Slides see (fetch gathered)
  s_gathered {see} = record {
    free = λ s l. free_end l;
    slid = λ os us s t p. subst (λ v. Slid os us see (ends (listed s.0.wakes) s) (ends v t))
        (sym (ap listed (does_wakes_same c p))) (slid_end p);
  }

  -- a change of the wake-ups alone
  s_wakes : {see : Bool} (q : Act) (f : Wakes → Wakes) → allocates q ≡ false
      → ((s : St) → act_on q s ≡ (with_wakes s.0 (f s.0.wakes), s.1)) → Slides see (act q)
  s_wakes q f a e = record {
    free = λ s l. free_end (lawful-act c q a l);
    slid
        = λ os us s t p. slid_end (does_wakes c p q f a e);
  }

  s_waken : {see : Bool} (codes : List ℕ) → Slides see (act (waken codes))
  s_waken codes = s_wakes (waken codes) (all_woken codes) refl (λ s. refl)

  s_no_wakes : {see : Bool} → Slides see (act no_wakes)
  s_no_wakes = s_wakes no_wakes unwoken refl (λ s. refl)

  s_wake : {see : Bool} (dir : Dir) (e : ℕ) → Slides see (wake dir e)
  s_wake dir e = s_waken _

  -- an arrival on the channel; on another
  s_own_arrive : {see : Bool} (m : ℕ) → Slides see (hand (arrive c.number m))
  s_own_arrive {see} m = record {
    free = λ s l. free_ask (λ v t m. free_end m) (λ os us v s t p. slid_end p);
    slid = λ os us s t p. let w = hand_on (arrive c.number m) s in
        subst (λ y. Slid os us see (asks (Receive c.number w.0) w.1 (λ _ t. ends tt t))
        (asks (Receive c.number y) (hand_on (arrive c.number m) t).1 (λ _ t. ends tt t)))
        (sym (does_address c p m)) (slid_ask (does_arrive c p m));
  }

  s_other_arrive : {see : Bool} (e m : ℕ) → eqb e c.number ≡ false → Slides see (hand (arrive e m))
  s_other_arrive e m h = record {
    free = λ s l. free_ask (λ v t m. free_end m) (λ os us v s t p. slid_end p);
    slid = λ os us s t p. slid_lost (λ _. never h);
  }

  -- ---- a completion: an access that is not the channel's comes before anything else

  data Lost {A : Type 0} : tree.Out St A → Type 0 where
    lost : {q : Access} {s : St} {k : ℕ → St → tree.Out St A} → ((t : St) → Another c.number q (k sof t))
        → Lost (asks q s k)

  lost_slid : {see : Bool} {os : List Light} {us : List (Ans Answer)} {A : Type 0} {y u : tree.Out St A} → Lost y
      → Slid os us see y u
  lost_slid (lost n) = slid_lost n

  lost_bind : {A B : Type 0} {y : tree.Out St A} (g : A → St → tree.Out St B) → Lost y → Lost (bind_out y g)
  lost_bind g (lost n) = lost (λ t. another-bind g (n t))

  abbrev loads : ℕ → Bool → Script true Unit
  loads e b = test b (hand (send e) >> (look (next_len_lem In e) >>= λ n. write EpTLen e n)) (write EpTLen e 0)

  load_lost : (e : ℕ) (s : St) → Lost (run concrete (iso_in_load {i = true} e) s)
  load_lost e s = by (is_of (waiting In e) s)
    where
      by : (b : Bool) → Lost (run concrete (loads e b) s)
      by true = lost (λ _. never refl)
      by false = lost (λ _. never refl)

  load_free : (e : ℕ) (s : St) → Free false (run concrete (iso_in_load {i = true} e) s)
  load_free e s = by (is_of (waiting In e) s)
    where
      by : (b : Bool) → Free false (run concrete (loads e b) s)
      by true = free_ask (λ v t m. free_ask (λ v t m. free_end m) (λ os us v s t p. slid_end p))
          (λ os us v s t p. slid_lost (λ _. never refl))
      by false = free_ask (λ v t m. free_end m) (λ os us v s t p. slid_end p)

  s_complete : {see : Bool} (e : ℕ) → Slides see (iso_in_complete e)
  s_complete e = record {
    free = λ s l. free_bind (load_free e (act_on (complete e) s)) (λ a t m. (s_wake In e).free t m)
        (λ os us a s t p. (s_wake In e).slid os us s t p);
    slid = λ os us s t p. lost_slid (lost_bind (λ _ t. run concrete (wake {i = true} In e) t)
        (load_lost e (act_on (complete e) s)));
  }

  -- ---- the interrupt

  s_modify : {see : Bool} (f : Globals → Globals) → Slides see (modify f)
  s_modify f = s_bind (s_get globals-cell) (λ g. s_put globals-cell (f g) refl)

  s_modify_ep : {see : Bool} (dir : Dir) (e : ℕ) (f : EpCore → EpCore) → Slides see (modify_ep dir e f)
  s_modify_ep dir e f = s_bind (s_get (ep-cell dir e)) (λ p. s_put (ep-cell dir e) (f p) refl)

  s_modify_reg : {see : Bool} (r : Reg) (e : ℕ) (f : ℕ → ℕ) → Slides see (modify_reg r e f)
  s_modify_reg r e f = s_bind (s_read r e) (λ w. s_write r e (f w))

  s_int_en : {see : Bool} (f : ℕ → ℕ) → Slides see (modify_int_en f)
  s_int_en f = s_bind (s_get globals-cell) (λ g. s_then (s_put globals-cell _ refl) (s_write IntEn 0 _))

  s_looks : {see : Bool} (n : ℕ) → Slides see (looks n)
  unfolding looks
  s_looks zero = s_ret
  s_looks (suc n) = s_bind (s_read MisSt 0) (λ m. s_test _ s_ret (s_looks n))

  s_nak : {see : Bool} (st : ℕ) → Slides see (nak_non_iso st)
  s_nak st = s_bind (s_get (ep-cell Out (endpoint st))) (λ o. s_bind (s_get (ep-cell In (endpoint st))) (λ n.
      s_test _ (s_modify_reg EpRxCtrl (endpoint st) _) (s_when _ (s_modify_reg EpTxCtrl (endpoint st) _))))

  s_toggled : {see : Bool} (dir : Dir) (e : ℕ) → Slides see (toggled dir e)
  s_toggled dir e = s_then (s_looks 2001) (s_bind (s_read (ctrl_of dir) e)
      (λ w. s_bind (s_get (ep-cell dir e)) (λ p. s_test _
      (s_then (s_when _ (s_modify_reg (ctrl_of dir) e _)) s_ret) (s_then (s_modify_ep dir e _) s_ret))))

  s_retake : {see : Bool} (x : Transfer) → Slides see (retake x)
  s_retake x = s_bind (s_read MisSt 0) (λ m. s_test _
      (s_bind (s_read IntFg 0) (λ f. s_test _ s_ret (s_bind (s_read IntSt 0) (λ st. s_then (s_nak st) s_ret)))) s_ret)

  s_settle : {see : Bool} (x : Transfer) → Slides see (settle x)
  s_settle x = s_bind (s_get (ep-cell Out (endpoint x.st)))
      (λ o. s_bind (s_get (ep-cell In (endpoint x.st))) (λ n. s_test _
      (s_then (s_looks 2001) (s_bind (s_read IntSt 0) (λ now. s_bind (s_read RxLen 0) (λ len. s_ret))))
      (s_test _ (s_then (s_looks 2001) (s_bind (s_read RxLen 0) (λ len. s_ret)))
      (s_test x.busy (s_retake x) s_ret))))

  s_first : {see : Bool} (e frame : ℕ) → Slides see (first_in_frame e frame)
  s_first e frame = s_bind (s_get (ep-cell In e)) (λ p. s_then (s_put (ep-cell In e) _ refl) s_ret)

  s_unseen : {see : Bool} (frame e : ℕ) → Slides see (unseen frame e)
  s_unseen frame e = s_then (s_modify_ep In e _) (s_complete e)

  s_sof_one : {see : Bool} (frame e : ℕ) → Slides see (sof_one frame e)
  s_sof_one frame e = s_bind (s_get (ep-cell In e)) (λ p. s_test _ s_ret
      (s_bind (s_read MisSt 0) (λ m. s_test _ (s_unseen frame e)
      (s_bind (s_read IntSt 0) (λ st. s_test _ s_ret (s_unseen frame e))))))

  s_sof_walk : {see : Bool} (frame : ℕ) (es : List ℕ) → Slides see (sof_walk frame es)
  unfolding sof_walk
  s_sof_walk frame [] = s_ret
  s_sof_walk frame (e ∷ es) = s_then (s_sof_one frame e) (s_sof_walk frame es)

  s_on_sof : {see : Bool} (frame : ℕ) → Slides see (on_sof frame)
  s_on_sof frame = s_then (s_modify _) (s_bind (s_get globals-cell)
      (λ g. s_then (s_sof_walk frame (set_bits (every_iso_in g)))
      (s_bind (s_get globals-cell) (λ g. s_when _ s_callback))))

  s_late_walk : {see : Bool} (frame : ℕ) (es : List ℕ) → Slides see (late_walk frame es)
  unfolding late_walk
  s_late_walk frame [] = s_ret
  s_late_walk frame (e ∷ es) = s_then (s_bind (s_first e frame) (λ b. s_when b (s_complete e))) (s_late_walk frame es)

  s_arrives : {see : Bool} (e n : ℕ) → Slides false (hand (arrive e n)) → Slides see (arrives e n)
  s_arrives e n h = s_then h (s_wake Out e)

  -- its own
  s_own_check : {see : Bool} (x : Transfer) (iso : Bool) → Slides see (check_one x iso c.number)
  s_own_check x iso = s_bind changes (λ b. s_when b (s_test _ (s_arrives c.number x.len (s_own_arrive x.len))
      (s_bind (s_read IntSt 0) (λ st. s_test _ s_ret (s_bind looks_len
      (λ len. s_arrives c.number len (s_own_arrive len)))))))
    where
      changes : Slides false (is (changed c.number))
      changes = record {
        free = λ s l. free_end l;
        slid = λ os us s t p. subst (λ v. Slid os us false (ends (is_of (changed c.number) s) s) (ends v t))
            (sym (does_own c p)) (slid_end p);
      }

      looks_len : Slides false (look (marked c.number))
      looks_len = record {
        free = λ s l. free_end l;
        slid = λ os us s t p. subst (λ v. Slid os us false (ends (look_of (marked c.number) s) s) (ends v t))
            (sym (does_marked c p)) (slid_end p);
      }

  -- another's: with its first word changed an access made for it is next
  module _ (x : Transfer) (iso : Bool) (e : ℕ) (n : eqb e c.number ≡ false) where
    abbrev rest_of : ℕ → Script true Unit
    rest_of v = test (arriving v e) done (look (marked e) >>= λ len. arrives e len)

    abbrev body : Bool → Script true Unit
    body u = test u (arrives e x.len) (read IntSt 0 >>= rest_of)

    s_other_arrives : {see : Bool} (m : ℕ) → Slides see (arrives e m)
    s_other_arrives m = s_arrives e m (s_other_arrive e m n)

    s_rest : {see : Bool} (v : ℕ) → Slides see (rest_of v)
    s_rest v = s_test (arriving v e) s_ret (record {
      free = λ s l. (s_other_arrives (look_of (marked e) s)).free s l;
      slid = λ os us s t p. slid_lost (λ _. never n);
    })

    s_body : {see : Bool} (u : Bool) → Slides see (body u)
    s_body u = s_test u (s_other_arrives x.len) (s_bind (s_read IntSt 0) s_rest)

    lost_body : (u : Bool) (s : St) → Lost (run concrete (body u) s)
    unfolding arriving is_out token token_numbered
    lost_body true s = lost (λ _. never n)
    lost_body false s = lost (λ _. elsewhere (next n))

    made_body : (u : Bool) (s : St) → Made e (run concrete (body u) s)
    unfolding arriving is_out token token_numbered
    made_body true s = made (λ _. receive)
    made_body false s = made (λ _. status)

    -- and what follows it: `f`, which hands out no access any more that is made for e or for one below it
    checks_by : (u v w : Bool) {p : Script true Unit} → Slides true p
        → ((x : ℕ) → x ≤ e → (s : St) → Without x (run concrete p s))
        → {os : List Light} {us : List (Ans Answer)} {s t : St} → Does c os us s t → (v ≡ w) ⊎ AnyStore os
        → Slid os us true (run {i = true} concrete (when v (body u) >> p) s)
        (run {i = true} concrete (when w (body u) >> p) t)
    checks_by u true true k l d h = slid_bind ((s_body u).slid _ _ _ _ d) (λ _ s t d. k.slid _ _ s t d)
    checks_by u false false k l d h = k.slid _ _ _ _ d
    checks_by u true false {p = p} k l {s = s} d h = lost_slid (lost_bind (λ _ t. run concrete p t) (lost_body u s))
    checks_by u false true k l d (inl h) = absurd (true≢false (sym h))
    checks_by u false true {p = p} k l {s = s} {t = t} d (inr h) =
        slid_seen e n h (made-bind (λ _ t. run concrete p t) (made_body u t)) (λ x y. l x y s)

    s_other_check : c.iso Out e ≡ true → {p : Script true Unit} → Slides true p
        → ((x : ℕ) → x ≤ e → (s : St) → Without x (run concrete p s))
        → Slides true (check_one x iso e >> p)
    s_other_check i k l = record {
      free = λ s m. free_bind ((s_when (is_of (changed e) s) (s_body (entry x iso e))).free s m) (λ _ t m. k.free t m)
          (λ os us _ s t d. k.slid os us s t d);
      slid = λ os us s t d. checks_by (entry x iso e) (is_of (changed e) s) (is_of (changed e) t) k l d
          (⊎_elim (λ w. inr w) (λ w. inl (sym (does_changed c d w e i))) (any-store os));
    }

  s_check : (x : Transfer) (iso : Bool) (e : ℕ) → c.iso Out e ≡ true → {p : Script true Unit} → Slides true p
      → ((x : ℕ) → x ≤ e → (s : St) → Without x (run concrete p s)) → Slides true (check_one x iso e >> p)
  s_check x iso e i {p} k l = by (eqb e c.number) refl
    where
      by : (b : Bool) → eqb e c.number ≡ b → Slides true (check_one x iso e >> p)
      by true h = s_then (subst (λ a. Slides false (check_one x iso a)) (sym (eqb-true e c.number h))
          (s_own_check x iso)) k
      by false h = s_other_check x iso e h i k l

  s_check_walk : (x : Transfer) (iso : Bool) (i : ℕ) (es : List ℕ) → walk-laws.Rising i es
      → ((e : ℕ) → walk-laws.In e es → c.iso Out e ≡ true)
      → Slides true (check_walk x iso es)
  unfolding check_walk
  s_check_walk x iso i [] r f = s_ret
  s_check_walk x iso i (e ∷ es) r f = s_check x iso e (f e (inl refl))
      (s_check_walk x iso (suc e) es r.1 (λ a m. f a (inr m)))
      (λ y l s. later-without y x iso (suc e) es r.1 (omega (arith, l)) s)

  -- of a lawful state: each of the walk is isochronous
  walk_isos : (s : St) → Lawful c.iso quiet s → (e : ℕ) → walk-laws.In e (set_bits (iso_outs s.0.globals))
      → c.iso Out e ≡ true
  walk_isos s l e m = let w = walked-set (iso_outs s.0.globals) e m in
      among-outs (c.iso Out) s.0.globals ((sorted c.iso c.ep0).shows globals-cell s l.has).0 e w.0
      w.1

  s_iso_out : (x : Transfer) (iso : Bool) → Slides true (iso_out_check x iso)
  s_iso_out x iso = record {
    free = λ s l. (s_check_walk x iso 0 (set_bits (iso_outs s.0.globals)) (walk-rises (iso_outs s.0.globals))
        (walk_isos s l)).free s l;
    slid = λ os us s t p. subst (λ (g : Globals). Slid os us true
        (run {i = true} concrete (check_walk x iso (set_bits (iso_outs s.0.globals))) s)
        (run {i = true} concrete (check_walk x iso (set_bits (iso_outs g))) t)) (sym (does_get c p globals-cell))
        ((s_check_walk x iso 0 (set_bits (iso_outs s.0.globals)) (walk-rises (iso_outs s.0.globals))
        (walk_isos s (does_before c p))).slid os us s t p);
  }

  s_received : {see : Bool} (e n : ℕ) → Slides see (received e n)
  s_received e n = s_then (s_modify_ep Out e _) (s_wake Out e)

  s_sent : {see : Bool} (e : ℕ) → Slides see (sent e)
  s_sent e = s_then (s_modify_ep In e _) (s_wake In e)

  s_out_arm : {see : Bool} (x : Transfer) (iso : Bool) → Slides see (out_arm x iso)
  s_out_arm x iso = s_test iso s_ret (s_test _ (s_when _ (s_then (s_modify_reg EpRxCtrl 0 _) (s_received 0 _)))
      (s_bind (s_toggled Out (endpoint x.st)) (λ b. s_when b (s_received _ _))))

  s_iso_in : {see : Bool} (e frame : ℕ) → Slides see (iso_in_arm e frame)
  s_iso_in e frame = s_bind (s_get globals-cell) (λ g. s_test _ s_ret
      (s_bind (s_first e frame) (λ b. s_when b (s_complete e))))

  s_in_arm : {see : Bool} (x : Transfer) (iso : Bool) (frame : ℕ) → Slides see (in_arm x iso frame)
  s_in_arm x iso frame = s_test iso (s_iso_in _ frame)
      (s_test _ (s_then (s_modify_reg EpTxCtrl 0 _) (s_then (s_modify_ep In 0 _) (s_sent 0)))
      (s_bind (s_toggled In (endpoint x.st)) (λ b. s_when b (s_sent _))))

  s_dispatch : {see : Bool} (t : Token) (x : Transfer) (iso : Bool) (frame : ℕ) → Slides see (dispatch t x iso frame)
  s_dispatch tok.Sof x iso frame = s_bind (s_get globals-cell) (λ g. s_when _ (s_on_sof frame))
  s_dispatch tok.Out x iso frame = s_out_arm x iso
  s_dispatch tok.In x iso frame = s_in_arm x iso frame
  s_dispatch tok.Setup x iso frame = s_ret

  s_moved : {see : Bool} (dir : Dir) → Slides see (moved_on dir)
  s_moved dir = s_bind (s_get (ep-cell dir 0)) (λ p. s_when _
      (s_then (s_modify_reg (ctrl_of dir) 0 _) (s_then (s_modify_ep dir 0 _) (s_wake dir 0))))

  s_moved_on : {see : Bool} (t : Token) → Slides see (ep0_moved_on t)
  s_moved_on tok.Out = s_moved In
  s_moved_on tok.In = s_moved Out
  s_moved_on tok.Sof = s_ret
  s_moved_on tok.Setup = s_ret

  s_served : (x : Transfer) (iso : Bool) (frame : ℕ) → Slides true (served x iso frame)
  s_served x iso frame = s_bind (s_get globals-cell) (λ g.
      s_then (s_when _ (s_on_sof frame))
      (s_then (s_when x.late (s_bind (s_get globals-cell) (λ g. s_late_walk frame (set_bits (every_iso_in g)))))
      (s_then (s_when _ (s_dispatch (token x.st) x iso frame))
      (s_seen_then (s_when _ (s_iso_out x iso))
      (s_when _ (s_moved_on (token x.st))) (q_when _ (q-moved-on (token x.st)))))))

  s_transfer : Slides true on_transfer
  s_transfer = s_bind (s_read MisSt 0) (λ m. s_bind (s_read IntSt 0) (λ st. s_bind (s_read RxLen 0) (λ n.
      s_then (s_when _ (s_nak st))
      (s_then (s_write IntFg 0 _)
      (s_bind (s_settle (entered m st n)) (λ x.
      s_bind (s_get (ep-cell Out (endpoint x.st))) (λ o. s_bind (s_get (ep-cell In (endpoint x.st))) (λ n.
      s_bind (s_read FrameNo 0) (λ frame. s_bind (s_get globals-cell) (λ g.
      s_served (framed x (iso_for (token x.st) o n) g.sof_frame frame) (iso_for (token x.st) o n)
      frame))))))))))

  -- the setup packet may be another; a write that is not the channel's comes next
  abbrev setup_taken : ℕ → ℕ → Script true Unit
  setup_taken low high = modify_ep Out 0 (λ s. with_armed 0 (with_ready 0 s)) >>
      (modify_ep In 0 (λ s. with_armed 0 (with_ready 0 s))
      >> (modify (with_setup 1 low high) >> (write IntFg 0 SETUP_ACT >> (wake Out 0 >> wake In 0))))

  s_setup_taken : {see : Bool} (low high : ℕ) → Slides see (setup_taken low high)
  s_setup_taken low high = s_then (s_modify_ep Out 0 _) (s_then (s_modify_ep In 0 _) (s_then (s_modify _)
      (s_then (s_write IntFg 0 _) (s_then (s_wake Out 0) (s_wake In 0)))))

  s_take_setup : {see : Bool} → Slides see take_setup
  s_take_setup = record {
    free = λ s l. (s_setup_taken (look_of (setup_word 0) s) (look_of (setup_word 1) s)).free s l;
    slid = λ os us s t p. slid_lost (λ _. never refl);
  }

  s_setup : {see : Bool} → Slides see on_setup
  s_setup = s_then (s_write EpRxCtrl 0 _) (s_then (s_write EpTxCtrl 0 _) s_take_setup)

  s_interrupt : Slides true on_interrupt
  s_interrupt = s_bind (s_read IntFg 0) (λ flag.
      s_then (s_when _ (s_then (s_int_en _) (s_waken _)))
      (s_then (s_when _ (s_then (s_int_en _) (s_waken _)))
      (s_then (s_when _ (s_write IntFg 0 _))
      (s_then (s_when _ (s_write IntFg 0 _))
      (s_seen_then (s_when _ s_transfer)
      (s_when _ s_setup) (q_when _ q-setup))))))

  s_stamped : Slides true stamped_interrupt
  s_stamped = s_then (s_bind (s_read FrameNo 0) (λ frame. s_modify _)) s_interrupt

  s_call : Slides true interrupt_code
  s_call = s_bind (s_get globals-cell) (λ g. s_test _
      (s_then s_no_wakes (s_seen_bind (s_seen_then s_stamped s_ret q_ret) (λ n. s_bind s_gathered (λ w. s_ret))
      (λ n. q_bind (record { on = λ x s. without_end }) (λ w. q_ret)))) s_ret)

  -- ---- the machine of calls: it holds of what is under way after every call

  abbrev pub FreeWay : Pending Answer Driver → Type 0
  FreeWay idle = Unit {0}
  FreeWay (busy false a k) = Unit {0}
  FreeWay (busy true a k) = ((v : ℕ) (t : St) → Lawful c.iso quiet t → Free true (k v t))
      × ((os : List Light) (us : List (Ans Answer)) (v : ℕ) (s t : St) → Does c os us s t
      → Slid os us true (k v s) (k v t))

  abbrev FreeAfter : StepResult → Type 0
  FreeAfter x = FreeWay x.1.under_way_lem

  pub halt_free : {o : tree.Out St Answer} → Free true o → FreeAfter (stops true o)
  halt_free (free_end l) = tt
  halt_free (free_ask f l) = (f, l)

  pub halt_late : (o : tree.Out St Answer) → FreeAfter (stops false o)
  halt_late (ends a s) = tt
  halt_late (asks q s k) = tt

  either_free : (b : Bool) (x y : StepResult) → FreeAfter x → (b ≡ false → FreeAfter y) → FreeAfter (cond b x y)
  either_free true x y h k = h
  either_free false x y h k = k refl

  beside_free : (m : Machine Answer Driver) → FreeWay m.under_way_lem → (o : tree.Out St Answer)
      → FreeAfter (during_interrupt calls driver_of m o)
  beside_free m f (ends a s) = f
  beside_free m f (asks q s k) = f

  -- the state with the buffer that is lent is lawful where an interrupt begins or goes on
  abbrev pub Needs : Pending Answer Driver → Type 0 → Type 0
  Needs idle L = L
  Needs (busy true q k) L = L
  Needs (busy false q k) L = Unit {0}

  begins_free : (o : Op) (m : Machine Answer Driver) → FreeWay m.under_way_lem → (w : Pending Answer Driver) (b : Buf)
      → (o ≡ interrupt → w ≡ idle → Lawful c.iso quiet (m.st, b))
      → FreeAfter (begun calls driver_of (λ s. s) o m w b)
  begins_free interrupt m f idle b l = halt_free (s_call.free (m.st, b) (l refl refl))
  begins_free (slotted o) m f idle b l = halt_late (run concrete (code (slotted o)) (m.st, b))
  begins_free (other o) m f idle b l = halt_late (run concrete (code (other o)) (m.st, b))
  begins_free (aside o) m f idle b l = halt_late (run concrete (code (aside o)) (m.st, b))
  begins_free o m f (busy i q k) b l = either_free (cond i (calls.aside o) false)
      (during_interrupt calls driver_of (lent_to calls driver_of m b) (run concrete (code o) (m.st, b)))
      (stay calls driver_of 3 (lent_to calls driver_of m b))
      (beside_free (lent_to calls driver_of m b) f (run concrete (code o) (m.st, b))) (λ _. f)

  goes_free : (v : ℕ) (m : Machine Answer Driver) → FreeWay m.under_way_lem → (w : Pending Answer Driver) → FreeWay w
      → (b : Buf)
      → Needs w (Lawful c.iso quiet (m.st, b)) → FreeAfter (continued calls driver_of (λ s. s) v m w b)
  goes_free v m f idle h b l = f
  goes_free v m f (busy true q k) h b l = either_free (over calls q v)
      (stay calls driver_of 16 (lent_to calls driver_of m b))
      (stops true (k v (m.st, b))) f (λ _. halt_free (h.0 v (m.st, b) l))
  goes_free v m f (busy false q k) h b l = either_free (over calls q v)
      (stay calls driver_of 16 (lent_to calls driver_of m b))
      (stops false (k v (m.st, b))) f (λ _. halt_late (k v (m.st, b)))

  starts_free : (k : Config) (n : ℕ) (m : Machine Answer Driver) → FreeWay m.under_way_lem → (b : Buf)
      → FreeAfter (started calls driver_of (λ s. s) k n m b)
  starts_free k zero m f b = halt_late (run concrete (calls.starts k) (driver_of.fresh k, b))
  starts_free k (suc n) m f b = f

  abbrev pub LentLawful : Call Config Op → Machine Answer Driver → Buf → Type 0
  LentLawful (start k) m b = Unit {0}
  LentLawful (begin o) m b = o ≡ interrupt → m.under_way_lem ≡ idle → Lawful c.iso quiet (m.st, b)
  LentLawful (continue v) m b = misfit calls driver_of m.st b ≡ false
      → Needs m.under_way_lem (Lawful c.iso quiet (m.st, b))
  LentLawful (question q) m b = Unit {0}

  pub drive_free : (d : Call Config Op) (m : Machine Answer Driver) (b : Buf) → FreeWay m.under_way_lem
      → LentLawful d m b → FreeAfter (drive d m b)
  drive_free (start k) m b f l = starts_free k (start_row k b) m f b
  drive_free (begin o) m b f l = either_free (cond (calls.slots o) (misfit calls driver_of m.st b) false)
      (stay calls driver_of 1 m)
      (begun calls driver_of (λ s. s) o m m.under_way_lem b) f
      (λ _. begins_free o m f m.under_way_lem b l)
  drive_free (continue v) m b f l = either_free (misfit calls driver_of m.st b) (stay calls driver_of 1 m)
      (continued calls driver_of (λ s. s) v m m.under_way_lem b) f (λ x. goes_free v m f m.under_way_lem f b (l x))
  drive_free (question q) m b f l = f
