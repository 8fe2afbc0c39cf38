-- The kind and maximum by which an endpoint is charged are those of its allocation: from when its number is taken, no
-- call changes them but the driver's next accepted start-up
use Rattle.std.specs.Prelude.{Bool, true, false, cond, ◌&&◌, ◌||◌, List, [], ◌∷◌, ◌≡◌, refl, ℕ, zero, suc, ◌%◌, eqb}
use Rattle.std.proofs.Common.{true≢false, ap, subst, sym, eqb-true}
use Rattle.std.proofs.lemmas.Bool.{eqb-false}
use Rattle.regs.specs.declared.Access.{Access}
use Rattle.regs.specs.declared.Dir.{Dir}
use Rattle.state.specs.Driver.{Driver, ep_on}
use Rattle.script.specs.Tree as tree
use Rattle.script.specs.Tree.{asks}
use Rattle.script.specs.Script.{run}
use Rattle.script.specs.Answers.{Answer, Refused}
use Rattle.script.specs.Calls as the-calls
use Rattle.script.specs.Calls.{Config, Op, slots, passes, irq, code, start_row, calls}
use Rattle.script.specs.Machine.{Buf, Call, start, begin, continue, question, Pending, idle, busy, Machine, ended}
use Rattle.script.specs.Machine.{lent_to, misfit}
use Rattle.script.specs.Machine.{stay, halt, during_interrupt, begun, continued, started, over}
use Rattle.script_ops.specs.Rings.{St}
use Rattle.script_ops.specs.Concrete.{concrete}
use Rattle.machine.specs.Suspended.{driver_of, drive}
use Rattle.answer.specs.Goes.{StepResult}
use Rattle.calls.specs.Sharing.{Sort, starting, going, op_sort, sort_of, time_after, turned_down, settled, shared_call}
use Rattle.proof_bus_time.specs.Four.{Four, Turn, called, next, after}
use Rattle.proof_bus_time.specs.History.{line_of, history}
use Rattle.proof_bus_time.specs.Enabled.{is_taken, restarts, restarts_at, restarted}
use Rattle.proof_bus_time.specs.GaveLaws.{Gave, gave-same, gave_then, Moves, to_end, to_ask, run-moves}

-- ---- one call

abbrev Sane : Pending Answer Driver → Type 0
Sane idle = Unit {0}
Sane (busy i q k) = (v : ℕ) (t : St) → Moves t.0 (k v t)

abbrev Went : Sort → Driver → StepResult → Type 0
Went x d y = Sane y.1.under_way_lem × (restarts x y.0 ≡ false → Gave d y.1.st)

went-cond : (x : Sort) (d : Driver) (b : Bool) (y z : StepResult) → Went x d y → Went x d z → Went x d (cond b y z)
went-cond x d true y z p q = p
went-cond x d false y z p q = q

halts : (x : Sort) (d : Driver) (i : Bool) {o : tree.Out St Answer} → Moves d o
    → Went x d (halt calls driver_of (λ s. s) i o)
halts x d i (to_end p) = (tt, λ _. p)
halts x d i (to_ask p r) = (r, λ _. p)

besides : (x : Sort) (m : Machine Answer Driver) {o : tree.Out St Answer} → Sane m.under_way_lem → Moves m.st o
    → Went x m.st (during_interrupt calls driver_of m o)
besides x m w (to_end p) = (w, λ _. p)
besides x m w (to_ask p r) = (w, λ _. gave-same m.st)

begins_at_lem : (o : Op) (m : Machine Answer Driver) (w : Pending Answer Driver) (b : Buf)
    → Sane m.under_way_lem → Went (op_sort o) m.st (begun calls driver_of (λ s. s) o m w b)
begins_at_lem o m idle b h = halts (op_sort o) m.st (irq o) (run-moves (code o) (m.st, b))
begins_at_lem o m (busy i q k) b h =
    let n = lent_to calls driver_of m b in
    let x = run concrete (code o) (m.st, b) in
    went-cond (op_sort o) m.st (cond i (passes o) false) (during_interrupt calls driver_of n x)
    (stay calls driver_of 3 n) (besides (op_sort o) n h (run-moves (code o) (m.st, b))) (h, λ _. gave-same m.st)

continues_at : (v : ℕ) (m : Machine Answer Driver) (w : Pending Answer Driver) (b : Buf)
    → Sane m.under_way_lem → Sane w → Went going m.st (continued calls driver_of (λ s. s) v m w b)
continues_at v m idle b h x = (h, λ _. gave-same m.st)
continues_at v m (busy i q k) b h x =
    went-cond going m.st (over calls q v) (stay calls driver_of 16 (lent_to calls driver_of m b))
    (halt calls driver_of (λ s. s) i (k v (m.st, b))) (h, λ _. gave-same m.st)
    (halts going m.st i (x v (m.st, b)))

rest_of : {d : Driver} {q : Access} {s : St} {k : ℕ → St → tree.Out St Answer} → Moves d (asks q s k) → (v : ℕ) (t : St)
    → Moves t.0 (k v t)
rest_of (to_ask p r) = r

starts_at_lem : (c : Config) (n : ℕ) (m : Machine Answer Driver) (b : Buf) → Sane m.under_way_lem
    → Went starting m.st (started calls driver_of (λ s. s) c n m b)
starts_at_lem c zero m b h = (rest_of (run-moves (the-calls.starting c) (driver_of.fresh c, b)), λ x. absurd (true≢false x))
starts_at_lem c (suc n) m b h = (h, λ _. gave-same m.st)

calls_at : (x : Call Config Op) (m : Machine Answer Driver) (b : Buf) → Sane m.under_way_lem
    → Went (sort_of x) m.st (drive x m b)
calls_at (start c) m b h = starts_at_lem c (start_row c b) m b h
calls_at (begin o) m b h =
    went-cond (op_sort o) m.st (cond (slots o) (misfit calls driver_of m.st b) false) (stay calls driver_of 1 m)
    (begun calls driver_of (λ s. s) o m m.under_way_lem b) (h, λ _. gave-same m.st) (begins_at_lem o m m.under_way_lem b h)
calls_at (continue v) m b h =
    went-cond going m.st (misfit calls driver_of m.st b) (stay calls driver_of 1 m)
    (continued calls driver_of (λ s. s) v m m.under_way_lem b) (h, λ _. gave-same m.st)
    (continues_at v m m.under_way_lem b h h)
calls_at (question q) m b h = (h, λ _. gave-same m.st)

shared_at : (j : ℕ) (x : Call Config Op) (m : Machine Answer Driver) (t : List ℕ) (b : Buf) → Sane m.under_way_lem
    → Went (sort_of x) m.st (shared_call j x m t b).0
unfolding settled
shared_at j x m t b h = by (turned_down j (sort_of x) (drive x m b).0 m.st t)
  where
    outcome : Bool → StepResult × List ℕ
    outcome z = cond z ((ended (Refused 19), lent_to calls driver_of m b), t)
        (drive x m b, time_after j (sort_of x) (drive x m b).0 m.st t)

    by : (z : Bool) → Went (sort_of x) m.st (outcome z).0
    by true = (h, λ _. gave-same m.st)
    by false = calls_at x m b h

-- ---- every list of calls

module _ (i : ℕ) where
  abbrev state : Four → Driver
  state f = (f.driver i).st

  one : (x : Turn) (f : Four) → Sane (f.driver i).under_way_lem
      → Sane ((next x f).driver i).under_way_lem × (restarts_at i (line_of x f) ≡ false → Gave (state f) (state (next x f)))
  one x f h = by (eqb (x.who % 4) i) refl (eqb i (x.who % 4)) refl
    where
      y : StepResult
      y = (called x f).0

      Now : Bool → Bool → Type 0
      Now mine to =
          let n = cond to y.1 (f.driver i) in
          Sane n.under_way_lem × ((mine && restarts (sort_of x.event.call) y.0) ≡ false → Gave (state f) n.st)

      by : (mine : Bool) → eqb (x.who % 4) i ≡ mine → (to : Bool) → eqb i (x.who % 4) ≡ to → Now mine to
      by true p true q =
          let e = eqb-true (x.who % 4) i p in
          let w = shared_at x.who x.event.call (f.driver (x.who % 4)) f.time x.event.lent
          (subst (λ n. Sane (f.driver n).under_way_lem) (sym e) h) in
          (w.0, λ z. subst (λ n. Gave (f.driver n).st y.1.st) e (w.1 z))
      by true p false q = absurd (eqb-false i (x.who % 4) q (sym (eqb-true (x.who % 4) i p)))
      by false p true q = absurd (eqb-false (x.who % 4) i p (sym (eqb-true i (x.who % 4) q)))
      by false p false q = (h, λ _. gave-same (state f))

  sane-all : (xs : List Turn) (f : Four) → Sane (f.driver i).under_way_lem → Sane ((after xs f).driver i).under_way_lem
  sane-all [] f h = h
  sane-all (x ∷ xs) f h = sane-all xs (next x f) (one x f h).0

  gave_all : (xs : List Turn) (f : Four) → Sane (f.driver i).under_way_lem → restarted i (history xs f) ≡ false
      → Gave (state f) (state (after xs f))
  gave_all [] f h z = gave-same (state f)
  gave_all (x ∷ xs) f h z =
      let r = parted (restarts_at i (line_of x f)) (restarted i (history xs (next x f))) z in
      let w = one x f h in
      gave_then (w.1 r.0) (gave_all xs (next x f) w.0 r.1)
    where
      parted : (a b : Bool) → (a || b) ≡ false → (a ≡ false) × (b ≡ false)
      parted true b z = absurd (true≢false z)
      parted false b z = (refl, z)

-- after every list of calls from a driver i with nothing under way, and then after every other one without an accepted
-- start-up of it
pub given_stays : (xs ys : List Turn) (f : Four) (i : ℕ) → (f.driver i).under_way_lem ≡ idle → let g
    = after xs f in restarted i (history ys g) ≡ false
    → (dir : Dir) (e : ℕ) → is_taken (g.driver i).st dir e ≡ true → let r = ep_on (g.driver i).st dir e in
    let r' = ep_on ((after ys g).driver i).st dir e in (r'.kind ≡ r.kind) × (r'.max_len ≡ r.max_len)
given_stays xs ys f i h z dir e t =
    let p = (gave_all i ys (after xs f) (sane-all i xs f (subst Sane (sym h) tt)) z).given dir e t in
    (ap (λ (g : ℕ × ℕ × ℕ). g.1) p, ap (λ (g : ℕ × ℕ × ℕ). g.2) p)
