-- Laws on the definitions of Does.antt: what an interrupt reads, assigns and does for the channel may come before or
-- after
use Rattle.std.specs.Prelude.{Bool, true, false, cond, List, ◌∷◌, ◌≡◌, refl, ℕ}
use Rattle.std.proofs.Common.{inl, inr, ap, subst, sym, ◌∙◌}
use Rattle.regs.specs.declared.Dir.TheVariants.{Out}
use Rattle.state.specs.Wakes.{Wakes}
use Rattle.state.specs.Driver.{with_wakes}
use Rattle.script.specs.Cells.{Cell, Val}
use Rattle.script.specs.Script.{Act, changed, marked, arrive}
use Rattle.script.specs.TransferKinds.{allocates}
use Rattle.script.specs.Answers.{Answer}
use Rattle.script.specs.Simulates.{quiet}
use Rattle.script.specs.Machine.{Ans}
use Rattle.script_ops.specs.Rings.{St}
use Rattle.script_ops.specs.Concrete.{get_on, put_on, is_of, look_of, act_on, hand_on}
use Rattle.proof_isolation.specs.EqualExcept.{Lawful, Channel}
use Rattle.proof_isolation.specs.Settled.{is_control}
use Rattle.proof_isolation.specs.ButsLaws.{lawful-put, lawful-act, lawful-hand}
use Rattle.proof_isolation.proofs.OwnStepsLaws.{own_arrives}
use Rattle.proof_isolation.specs.Late.{Light, is_store, AnyStore, Other}
use Rattle.proof_isolation.specs.Lights.{done_by, seen, taken, answered, done_at}
use Rattle.proof_isolation.proofs.LightsLaws.{get-done, put-done, changed-own, marked-own, changed-done}
use Rattle.proof_isolation.proofs.LightsLaws.{wakes-same, wakes-done, arrive-done}
use Rattle.proof_isolation.proofs.LightsLaws.{seen-put, seen-wakes, seen_arrive, still_other, but_reach, put_reach}
use Rattle.proof_isolation.proofs.LightsLaws.{wakes_reach}
use Rattle.proof_isolation.specs.Does.{Did, Does, did_none, did_more}

module _ (c : Channel) where
  -- ---- one of them

  -- read before it and after it
  stays_at : {X : Type 0} (f : St → X) (o : Light) (s : St) → f (done_by o s) ≡ f s → f (done_at o s) ≡ f s
  stays_at f o s h = by (taken o (seen o s))
    where
      by : (u : Bool) → f (cond u (done_by o s) s) ≡ f s
      by true = h
      by false = refl

  -- done before it and after it
  moves-at : (f : St → St) (o : Light) (s : St) → f (done_by o s) ≡ done_by o (f s) → seen o (f s) ≡ seen o s
      → f (done_at o s) ≡ done_at o (f s)
  moves-at f o s h e = by (taken o (seen o s)) ∙ ap (λ z. cond (taken o z) (done_by o (f s)) (f s)) (sym e)
    where
      by : (u : Bool) → f (cond u (done_by o s) s) ≡ cond u (done_by o (f s)) (f s)
      by true = h
      by false = refl

  did-stays : {X : Type 0} (f : St → X) {o : Light} {a : Ans Answer} {s t : St} → Did c o a s t → f (done_by o s) ≡ f s
      → f t ≡ f s
  did-stays f {o} {s = s} d h = ap f d.is ∙ stays_at f o s h

  did-put : {o : Light} {a : Ans Answer} {s t : St} → Did c o a s t → (q : Cell) (v : Val q) → is_control q ≡ false
      → Did c o a (put_on q v s) (put_on q v t)
  did-put {o} {s = s} d q v h =
      let e = seen-put o q v s d.before.rest.sized in
      record {
        before = lawful-put c q v d.before h;
        after = lawful-put c q v d.after h;
        other = still_other c d.before (put_reach c q v s d.before.rest.sized) o d.other;
        is = ap (put_on q v) d.is ∙ moves-at (put_on q v) o s (put-done c o s d.before q v) e;
        told = ap (answered o) e ∙ d.told;
      }

  did_wakes : {o : Light} {a : Ans Answer} {s t : St} → Did c o a s t → (q : Act) (f : Wakes → Wakes) → allocates q
      ≡ false
      → ((s : St) → act_on q s ≡ (with_wakes s.0 (f s.0.wakes), s.1)) → Did c o a (act_on q s) (act_on q t)
  did_wakes {o} {s = s} {t = t} d q f n e =
      let w = f s.0.wakes in
      let z = ap (seen o) (e s) ∙ seen-wakes o s w in
      record {
        before = lawful-act c q n d.before;
        after = lawful-act c q n d.after;
        other = subst (λ (x : St). late_other o x) (sym (e s))
            (still_other c d.before (wakes_reach c s.0 w) o d.other);
        is = ap (act_on q) d.is ∙ moves-at (act_on q) o s (e (done_by o s)
            ∙ ap (λ v. (with_wakes (done_by o s).0 (f v), (done_by o s).1)) (wakes-same c o s d.before)
            ∙ wakes-done c o s d.before w ∙ ap (done_by o) (sym (e s))) z;
        told = ap (answered o) z ∙ d.told;
      }
    where
      late_other : Light → St → Type 0
      late_other o x = Other c o x.0

  record Arrives (o : Light) (a : Ans Answer) (m : ℕ) (s t : St) : Type 0 where
    address : (hand_on (arrive c.number m) t).0 ≡ (hand_on (arrive c.number m) s).0
    on : Did c o a (hand_on (arrive c.number m) s).1 (hand_on (arrive c.number m) t).1

  did_arrive : {o : Light} {a : Ans Answer} {s t : St} → Did c o a s t → (m : ℕ) → Arrives o a m s t
  did_arrive {o} {s = s} {t = t} d m =
      let w = hand_on (arrive c.number m) in
      let e = arrive-done c o s d.other d.before m in
      let z = seen_arrive c o s d.other d.before m in
      record {
        address = did-stays (λ x. (w x).0) d (ap (λ (y : ℕ × St). y.0) e);
        on = record {
          before = lawful-hand c (arrive c.number m) d.before;
          after = lawful-hand c (arrive c.number m) d.after;
          other = still_other c d.before (but_reach c (own_arrives c m s d.before).but) o d.other;
          is = ap (λ x. (w x).1) d.is ∙ moves-at (λ x. (w x).1) o s (ap (λ (y : ℕ × St). y.1) e) z;
          told = ap (answered o) z ∙ d.told;
        };
      }

  -- ---- a list of them

  pub does_before : {os : List Light} {us : List (Ans Answer)} {s t : St} → Does c os us s t → Lawful c.iso quiet s
  does_before (did_none l) = l
  does_before (did_more d k e) = d.before

  pub does_after : {os : List Light} {us : List (Ans Answer)} {s t : St} → Does c os us s t → Lawful c.iso quiet t
  does_after (did_none l) = l
  does_after (did_more d k e) = does_after k

  pub does_get : {os : List Light} {us : List (Ans Answer)} {s t : St} → Does c os us s t → (q : Cell) → get_on q t
      ≡ get_on q s
  does_get (did_none l) q = refl
  does_get (did_more {o = o} {s = s} d k e) q = does_get k q ∙ did-stays (get_on q) d (get-done c o s d.before q)

  pub does_own : {os : List Light} {us : List (Ans Answer)} {s t : St} → Does c os us s t → is_of (changed c.number) t
      ≡ is_of (changed c.number) s
  does_own (did_none l) = refl
  does_own (did_more {o = o} {s = s} d k e) = does_own k
      ∙ did-stays (is_of (changed c.number)) d (changed-own c o s d.before d.other)

  pub does_marked : {os : List Light} {us : List (Ans Answer)} {s t : St} → Does c os us s t
      → look_of (marked c.number) t ≡ look_of (marked c.number) s
  does_marked (did_none l) = refl
  does_marked (did_more {o = o} {s = s} d k e) = does_marked k
      ∙ did-stays (look_of (marked c.number)) d (marked-own c o s d.before d.other)

  -- or there are stores among them
  pub does_changed : {os : List Light} {us : List (Ans Answer)} {s t : St} → Does c os us s t → (AnyStore os → ⊥)
      → (a : ℕ) → c.iso Out a ≡ true → is_of (changed a) t ≡ is_of (changed a) s
  does_changed (did_none l) n a i = refl
  does_changed (did_more {o = o} {s = s} d k e) n a i =
      does_changed k (λ z. n (inr z)) a i ∙ did-stays (is_of (changed a)) d
      (changed-done c o (by (is_store o) refl) s d.before a i)
    where
      by : (u : Bool) → is_store o ≡ u → is_store o ≡ false
      by true h = absurd (n (inl h))
      by false h = h

  pub does_wakes_same : {os : List Light} {us : List (Ans Answer)} {s t : St} → Does c os us s t → t.0.wakes
      ≡ s.0.wakes
  does_wakes_same (did_none l) = refl
  does_wakes_same (did_more {o = o} {s = s} d k e) = does_wakes_same k
      ∙ did-stays (λ (x : St). x.0.wakes) d (wakes-same c o s d.before)

  pub does_put : {os : List Light} {us : List (Ans Answer)} {s t : St} → Does c os us s t → (q : Cell) (v : Val q)
      → is_control q ≡ false
      → Does c os us (put_on q v s) (put_on q v t)
  does_put (did_none l) q v h = did_none (lawful-put c q v l h)
  does_put (did_more d k e) q v h = did_more (did-put d q v h) (does_put k q v h) e

  pub does_wakes : {os : List Light} {us : List (Ans Answer)} {s t : St} → Does c os us s t
      → (q : Act) (f : Wakes → Wakes) → allocates q ≡ false
      → ((s : St) → act_on q s ≡ (with_wakes s.0 (f s.0.wakes), s.1)) → Does c os us (act_on q s) (act_on q t)
  does_wakes (did_none l) q f n h = did_none (lawful-act c q n l)
  does_wakes (did_more d k e) q f n h = did_more (did_wakes d q f n h) (does_wakes k q f n h) e

  pub does_address : {os : List Light} {us : List (Ans Answer)} {s t : St} → Does c os us s t → (m : ℕ)
      → (hand_on (arrive c.number m) t).0 ≡ (hand_on (arrive c.number m) s).0
  does_address (did_none l) m = refl
  does_address (did_more d k e) m = does_address k m ∙ (did_arrive d m).address

  pub does_arrive : {os : List Light} {us : List (Ans Answer)} {s t : St} → Does c os us s t → (m : ℕ)
      → Does c os us (hand_on (arrive c.number m) s).1 (hand_on (arrive c.number m) t).1
  does_arrive (did_none l) m = did_none (lawful-hand c (arrive c.number m) l)
  does_arrive (did_more d k e) m = did_more (did_arrive d m).on (does_arrive k m) e
