-- Where a store is seen the two runs do not line up (`Parts`, Seen.antt). The late run's continue came to an access of
-- the channel's own; with the stores before it, as the other run got them, it comes to an access made for another
-- isochronous
-- OUT endpoint, whose first word they changed. That endpoint's check is behind the late run: the walk rises
use Rattle.std.specs.Prelude.{Bool, true, false, cond, ◌&&◌, List, [], ◌∷◌, ◌≡◌, refl, ℕ, zero, suc, ◌≤◌, ◌<◌}
use Rattle.std.proofs.Common.{true≢false, ap, subst, sym, ◌∙◌, arith}
use Rattle.std.proofs.Math.Decide.{dec_lt}
use Rattle.regs.specs.declared.Access.{Access}
use Rattle.regs.specs.declared.Access.TheVariants.{Read, Write, Receive, Transmit, Ep0Dma, Wait, Callback}
use Rattle.regs.specs.declared.Reg.TheVariants.{IntSt}
use Rattle.script.specs.Every.{same_reg}
use Rattle.state.specs.Driver.{Driver}
use Rattle.script.specs.Tree as tree
use Rattle.script.specs.Tree.{ends, asks}
use Rattle.script.specs.Script.{run}
use Rattle.script.specs.Answers.{Answer, Refused}
use Rattle.script.specs.Calls.{Config, Op, calls, code, start_row}
use Rattle.script.specs.Machine.{Buf, Call, start, begin, continue, question, Event, Ans, ended, awaited, Pending, idle}
use Rattle.script.specs.Machine.{busy, Machine, over, misfit, stay, lent_to}
use Rattle.script.specs.Machine.{during_interrupt, begun, continued, started}
use Rattle.script_ops.specs.Rings.{St}
use Rattle.script_ops.specs.Concrete.{concrete}
use Rattle.machine.specs.Suspended.{driver_of, drive}
use Rattle.answer.specs.Goes.{StepResult}
use Rattle.calls.specs.Sharing.{going, sort_of, time_after, turned_down}
use Rattle.proof_isolation.specs.EqualExcept.{Channel}
use Rattle.proof_isolation.specs.Whose.{sof, made_for, own, own_way}
use Rattle.proof_isolation.specs.Apart.{status_read, same_next, Matched, plain, nexts}
use Rattle.proof_isolation.specs.Apart.{Another, gone, waits, Without, without_end, without_ask, end, both, left}
use Rattle.proof_isolation.specs.Apart.{right, owns}
use Rattle.proof_isolation.specs.Schedule.{Run, Two, access_of, called, wide, at_own, SameStand}
use Rattle.proof_isolation.proofs.Standing.{stops, run_of, own-yes, own-no, its-made, another-made, At, at}
use Rattle.proof_isolation.specs.Late.{Light, Item, lights_of, AnyStore, Serving, Continues, Before, lits}
use Rattle.proof_isolation.specs.Late as late
use Rattle.proof_isolation.specs.Seen.{StandsFor, NoneFor, Parts}
use Rattle.proof_isolation.specs.Does.{Does}
use Rattle.proof_isolation.proofs.DoesLaws.{does_before, does_after}
use Rattle.proof_isolation.proofs.SlidesLaws.{made, Slid, slid_end, slid_ask, slid_lost, slid_seen, FreeWay}
use Rattle.proof_isolation.proofs.CrossingLaws.{gone-is, Gets, gets_at, OwnSome, own_some, does_lits}
use Rattle.proof_isolation.proofs.LateRunsLaws.{own-now, reach}

-- ---- no access made for OUT e comes any more

module _ (e : ℕ) where
  -- of what is under way, at access q
  abbrev Silent : Access → Pending Answer Driver → Type 0
  Silent q idle = Unit {0}
  Silent q (busy false a k) = Unit {0}
  Silent q (busy true a k) = ((t : St) → Another e q (k sof t)) × ((v : ℕ) (t : St) → Without e (k v t))

  silent-own : (q : Access) (w : Pending Answer Driver) (s : St) → Silent q w → own_way e q w s ≡ false
  silent-own q idle s h = refl
  silent-own q (busy false a k) s h = refl
  silent-own q (busy true a k) s h = another-made (h.0 s)

  abbrev SilentAfter : Access → StepResult → Type 0
  SilentAfter q x = Silent (access_of x.0 q) x.1.under_way_lem

  halt-silent : {y : tree.Out St Answer} → Without e y → (q : Access) → SilentAfter q (stops true y)
  halt-silent without_end q = tt
  halt-silent (without_ask n k) q = (n, k)

  halt-other : (y : tree.Out St Answer) (q : Access) → SilentAfter q (stops false y)
  halt-other (ends a s) q = tt
  halt-other (asks p s k) q = tt

  either-silent : (q : Access) (b : Bool) (x y : StepResult) → SilentAfter q x → SilentAfter q y
      → SilentAfter q (cond b x y)
  either-silent q true x y h k = h
  either-silent q false x y h k = k

  beside-silent : (q : Access) (m : Machine Answer Driver) → Silent q m.under_way_lem → (y : tree.Out St Answer)
      → SilentAfter q (during_interrupt calls driver_of m y)
  beside-silent q m f (ends a s) = f
  beside-silent q m f (asks p s k) = f

  begins-silent : (q : Access) (o : Op) (m : Machine Answer Driver) → Silent q m.under_way_lem
      → (w : Pending Answer Driver) → Serving w → (b : Buf)
      → SilentAfter q (begun calls driver_of (λ s. s) o m w b)
  begins-silent q o m f idle i b = absurd i
  begins-silent q o m f (busy false a k) i b = absurd i
  begins-silent q o m f (busy true a k) i b = either-silent q (calls.aside o)
      (during_interrupt calls driver_of (lent_to calls driver_of m b) (run concrete (code o) (m.st, b)))
      (stay calls driver_of 3 (lent_to calls driver_of m b))
      (beside-silent q (lent_to calls driver_of m b) f (run concrete (code o) (m.st, b))) f

  goes_silent : (q : Access) (v : ℕ) (m : Machine Answer Driver) → Silent q m.under_way_lem → (w : Pending Answer Driver)
      → Silent q w → Serving w → (b : Buf)
      → SilentAfter q (continued calls driver_of (λ s. s) v m w b)
  goes_silent q v m f idle h i b = absurd i
  goes_silent q v m f (busy false a k) h i b = absurd i
  goes_silent q v m f (busy true a k) h i b = either-silent q (over calls a v)
      (stay calls driver_of 16 (lent_to calls driver_of m b))
      (stops true (k v (m.st, b))) f (halt-silent (h.1 v (m.st, b)) q)

  starts-silent : (q : Access) (k : Config) (r : ℕ) (m : Machine Answer Driver) → Silent q m.under_way_lem → (b : Buf)
      → SilentAfter q (started calls driver_of (λ s. s) k r m b)
  starts-silent q k zero m f b = halt-other (run concrete (calls.starts k) (driver_of.fresh k, b)) q
  starts-silent q k (suc r) m f b = f

  drive-silent : (q : Access) (d : Call Config Op) (m : Machine Answer Driver) (b : Buf) → Silent q m.under_way_lem
      → Serving m.under_way_lem
      → SilentAfter q (drive d m b)
  drive-silent q (start k) m b f i = starts-silent q k (start_row k b) m f b
  drive-silent q (begin o) m b f i = either-silent q (cond (calls.slots o) (misfit calls driver_of m.st b) false)
      (stay calls driver_of 1 m)
      (begun calls driver_of (λ s. s) o m m.under_way_lem b) f (begins-silent q o m f m.under_way_lem i b)
  drive-silent q (continue v) m b f i = either-silent q (misfit calls driver_of m.st b) (stay calls driver_of 1 m)
      (continued calls driver_of (λ s. s) v m m.under_way_lem b) f (goes_silent q v m f m.under_way_lem f i b)
  drive-silent q (question x) m b f i = f

  module _ (share : Bool) (n : ℕ) where
    called-silent : (d : Call Config Op) (b : Buf) (r : Run) → Silent r.access r.machine.under_way_lem
        → Serving r.machine.under_way_lem
        → Silent (called share n d b r).access (called share n d b r).machine.under_way_lem
    called-silent d b r f i = by (turned_down n (sort_of d) (drive d r.machine b).0 r.machine.st r.time
        && share)
        (time_after n (sort_of d) (drive d r.machine b).0 r.machine.st r.time)
      where
        by : (u : Bool) (t : List ℕ) → SilentAfter r.access (cond {A = StepResult × List ℕ} u
            ((ended (Refused 19), lent_to calls driver_of r.machine b), r.time) (drive d r.machine b, t)).0
        by true t = f
        by false t = drive-silent r.access d r.machine b f i

    none-for : (ds : List (Event Config Op)) (r : Run) → Silent r.access r.machine.under_way_lem
        → Serving r.machine.under_way_lem → NoneFor share n e ds r
    none-for [] r f i = silent-own r.access r.machine.under_way_lem (r.machine.st, r.machine.buf) f
    none-for (d ∷ ds) r f i = (
      silent-own r.access r.machine.under_way_lem (r.machine.st, r.machine.buf) f,
      λ j. none-for ds (called share n d.call d.lent r) (called-silent d.call d.lent r f i) j,
    )

-- ---- two runs, of which the first stands at an access made for an endpoint below the channel: the second stands at
-- the same

same-access : (c : Channel) {w : Two} → At c w → (e : ℕ) → e < c.number → own e w.first.access w.first.machine
    ≡ true
    → at_own c w.first ≡ false → SameStand w.first.machine.under_way_lem w.second.machine.under_way_lem
    w.first.access w.second.access
same-access c (at st i (end x l) q q' h k k' t) e b m n = absurd (true≢false (sym m))
same-access c (at st i (both φ z p p' l f) q q' h k k' t) e b m n = refl
same-access c (at st i (left {s = s} {k = g} w p z f) q q' h k k' t) e b m n
    = absurd (true≢false (sym (own-yes c.number g s w) ∙ n))
same-access c (at st i (right w gone z f) q q' h k k' t) e b m n = absurd (true≢false (sym m))
same-access c (at st i (right w (waits {s = s} {k = g} y) z f) q q' h k k' t) e b m n =
    absurd (true≢false (sym m ∙ own-no e g {i = i} s (λ _. y e (omega (arith, b)))))
same-access c (at st i (owns {s = s} {k = g} w w' l f f') q q' h k k' t) e b m n
    = absurd (true≢false (sym (own-yes c.number g s w) ∙ n))

-- and whose it is
matched-made : {A B : Type 0} {q : Access} {o : tree.Out St A} {u : tree.Out St B} → Matched q o u → (x : ℕ)
    → made_for x q o ≡ made_for x q u
matched-made {q = q} {o = o} {u = u} (plain h) x = by q h
  where
    by : (q : Access) → status_read q ≡ false → made_for x q o ≡ made_for x q u
    by (Read r e) h = rw h refl
    by (Receive e y) h = refl
    by (Write r e y) h = refl
    by (Transmit e y) h = refl
    by (Ep0Dma y) h = refl
    by (Wait n) h = refl
    by Callback h = refl
matched-made {q = q} (nexts (same_next {q = p} {q' = p'} {s = s} {t = t} {k = k} {k' = k'} h)) x = by q
  where
    by : (q : Access) → made_for x q (asks p s k) ≡ made_for x q (asks p' t k')
    by (Read r e) = ap (λ b. same_reg r IntSt && b) (h x)
    by (Receive e y) = refl
    by (Write r e y) = refl
    by (Transmit e y) = refl
    by (Ep0Dma y) = refl
    by (Wait n) = refl
    by Callback = refl

same-owner : (c : Channel) {w : Two} → At c w → (e : ℕ) → e < c.number → own e w.first.access w.first.machine
    ≡ true
    → at_own c w.first ≡ false → own e w.second.access w.second.machine ≡ true
same-owner c (at st i (end x l) q q' h k k' t) e b m n = absurd (true≢false (sym m))
same-owner c (at st true (both {s = s} {t = t} φ z p p' l f) q q' h k k' u) e b m n
    = sym (matched-made (z.1 refl s t) e) ∙ m
same-owner c (at st false (both φ z p p' l f) q q' h k k' t) e b m n = absurd (true≢false (sym m))
same-owner c (at st i (left {s = s} {k = g} w p z f) q q' h k k' t) e b m n
    = absurd (true≢false (sym (own-yes c.number g s w) ∙ n))
same-owner c (at st i (right w gone z f) q q' h k k' t) e b m n = absurd (true≢false (sym m))
same-owner c (at st i (right w (waits {s = s} {k = g} y) z f) q q' h k k' t) e b m n =
    absurd (true≢false (sym m ∙ own-no e g {i = i} s (λ _. y e (omega (arith, b)))))
same-owner c (at st i (owns {s = s} {k = g} w w' l f f') q q' h k k' t) e b m n
    = absurd (true≢false (sym (own-yes c.number g s w) ∙ n))

-- ---- a store that is seen

module _ (c : Channel) (share : Bool) (n : ℕ) where
  record Seen (v : ℕ) (os : List Light) (r : Run) : Type 0 where
    stores : AnyStore os
    endpoint : ℕ
    below : endpoint < c.number
    stands : StandsFor endpoint (late.gone share n v (lits share n os r))
    none : (ds : List (Event Config Op)) → NoneFor share n endpoint ds (late.gone share n v r)

  module _ (p : Access) (g : ℕ → St → tree.Out St Answer) (q : Access) (a : Ans Answer) (τ : List ℕ) {os : List Light}
      {us : List (Ans Answer)} {s t : St}
      (d : Does c os us s t) (f : FreeWay c (busy true (awaited p) g)) (v : ℕ) (w : wide (busy true (awaited p) g) v
      ≡ false) where
    abbrev r : Run
    r = run_of true (asks p s g) q a τ

    abbrev outcome : St → tree.Out St Answer → Run
    outcome z y = run_of true y p (stops true y).0 (time_after n going (stops true y).0 z.0 τ)

    early : late.gone share n v (lits share n os r) ≡ outcome t (g v t)
    early = ap (λ z. late.gone share n v z) (does_lits c share n p g q a τ d)
        ∙ gone-is c share n v p t g q a τ (does_after c d) w

    later : late.gone share n v r ≡ outcome s (g v s)
    later = gone-is c share n v p s g q a τ (does_before c d) w

    -- the channel's own access is still to come
    not_behind : {y : tree.Out St Answer} → Without c.number y → OwnSome c share n (outcome s y) → ⊥
    not_behind without_end h = true≢false (sym h.is)
    not_behind (without_ask n k) h = true≢false (sym h.is ∙ another-made (n h.state))

    nothing : (e : ℕ) {y : tree.Out St Answer} → Without e y → OwnSome c share n (outcome s y)
        → (ds : List (Event Config Op))
        → NoneFor share n e ds (outcome s y)
    nothing e without_end h ds = absurd (true≢false (sym h.is))
    nothing e {y} (without_ask x k) h ds = none-for e share n ds (outcome s y) (x, k) tt

    seen_by_lem : {y u : tree.Out St Answer} → Slid c os us true y u → g v s ≡ y → g v t ≡ u
        → OwnSome c share n (outcome s y)
        → (OwnSome c share n (late.gone share n v (lits share n os r)) → ⊥) → Seen v os r
    seen_by_lem (slid_end x) ey eu h m = absurd (true≢false (sym h.is))
    seen_by_lem (slid_lost x) ey eu h m = absurd (true≢false (sym h.is ∙ another-made (x h.state)))
    seen_by_lem (slid_ask x) ey eu h m =
        absurd (m (subst (OwnSome c share n) (sym (early ∙ ap (outcome t) eu))
        (record { state = h.state; is = h.is })))
    seen_by_lem (slid_seen e z b (made {s = s1} x) k) ey eu h m = record {
      stores = b;
      endpoint = e;
      below = elim (dec_lt e c.number) [ yes l ↦ l | no l ↦ absurd (not_behind (k c.number (omega arith)) h) ];
      stands = record {
        is = subst (λ (r : Run). own e r.access r.machine ≡ true)
            (sym (early ∙ ap (outcome t) eu)) (its-made (x s1));
      };
      none = λ ds. subst (NoneFor share n e ds) (sym (later ∙ ap (outcome s) ey)) (nothing e (k e (omega arith)) h ds);
    }

    seen_at : OwnSome c share n (late.gone share n v r)
        → (OwnSome c share n (late.gone share n v (lits share n os r)) → ⊥) → Seen v os r
    seen_at h m = seen_by_lem (f.1 os us v s t d) refl refl (subst (OwnSome c share n) later h) m

  seen : {os : List Light} {us : List (Ans Answer)} {r : Run} → Gets c share n os us r → (v : ℕ)
      → wide r.machine.under_way_lem v ≡ false
      → OwnSome c share n (late.gone share n v r) → (OwnSome c share n (late.gone share n v (lits share n os r)) → ⊥)
      → Seen v os r
  seen (gets_at p g q a τ d f) v w h m = seen_at p g q a τ d f v w h m

  pub seen_parts : {w : Two} → At c w → FreeWay c w.first.machine.under_way_lem
      → FreeWay c w.second.machine.under_way_lem → (v v' : ℕ) (es : List Item)
      → Continues c w.status v v' w.first w.second → Before c share n es w.second
      → at_own c (late.gone share n v w.first) ≡ true
      → at_own c (late.gone share n v (lits share n (lights_of es) w.first)) ≡ false
      → Parts share n c v v' es w
  seen_parts {w} a f f' v v' es m o h k =
      let y = reach c share n a f f' v v' es m o in
      let z = seen y.gets v m.within (own_some c share n (late.gone share n v w.first) h)
      (λ z. true≢false (sym (own-now share n y.stand z) ∙ k)) in
      record {
        stores = z.stores;
        endpoint = z.endpoint;
        below = z.below;
        stands = z.stands;
        other = record { is = same-owner c y.stand z.endpoint z.below z.stands.is k };
        same = same-access c y.stand z.endpoint z.below z.stands.is k;
        none = z.none;
      }
