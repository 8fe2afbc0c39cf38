-- An endpoint's charge over every list of calls of four drivers: what is due with nothing under way, and on every way
-- through what is left
use Rattle.std.proofs.Math.Bool.{Bool, cond}
use Rattle.std.specs.Prelude.{true, false, ◌&&◌, ◌||◌, ◌≡◌, refl, eqb, get_or}
use mathlib.Core.List.{List, [], ◌∷◌}
use Rattle.std.proofs.Common.{ap, subst, sym, ◌∙◌, arith, eqb-true}
use Prim.Native.Nat.{ℕ, zero, suc, ◌+◌, ◌*◌, ◌%◌, ◌<◌}
use Rattle.std.proofs.lemmas.Bool.{eqb-false}
use Rattle.regs.specs.declared.Access.{Access}
use Rattle.regs.specs.declared.Dir.{Dir}
use Rattle.regs.specs.declared.Dir.TheVariants.{Out, In}
use Rattle.regs.specs.Enables.{place}
use Rattle.state.specs.Driver.{Driver}
use Rattle.script.specs.Tree as tree
use Rattle.script.specs.Answers.{Answer, Refused}
use Rattle.script.specs.Calls.{Config, Op, interrupt, slotted, other, aside, SetEnabled, PollRead, BeginWrite}
use Rattle.script.specs.Calls.{PollWrite, PollDataOut, BeginDataIn, aside_code, slots, irq, start_row, calls}
use Rattle.script.specs.Machine.{Buf, Call, start, begin, continue, question, Pending, idle, busy, Awaits, Machine}
use Rattle.script.specs.Machine.{ended, lent_to}
use Rattle.script.specs.Machine.{misfit, stay, halt, during_interrupt, begun, continued, started, over}
use Rattle.script.specs.Kinds.{resetting, is, kind_of}
use Rattle.script_ops.specs.Rings.{St}
use Rattle.machine.specs.Suspended.{driver_of, drive}
use Rattle.answer.specs.Goes.{StepResult}
use Rattle.calls.specs.Sharing.{starting, op_sort, sort_of, charge_on, time_after, turned_down, settled, shared_call}
use Rattle.proof_bus_time.specs.Four.{Four, Turn, called, next, after}
use Rattle.proof_bus_time.specs.History.{Line, line_of, history, by_access, by_answer}
use Rattle.proof_bus_time.specs.Limit.{Within}
use Rattle.proof_bus_time.proofs.LimitLaws.{always-within}
use Rattle.proof_bus_time.proofs.HistoriesLaws.{each-charge, zeros}
use Rattle.proof_bus_time.specs.Enabled.{is_enabled, begins_by, last_begun, is_busy, FourAtFirst}
use Rattle.proof_bus_time.specs.Charged.{Begun, polls-bus, neither, op_begun, last_of, counted}
use Rattle.proof_bus_time.specs.Charged.{given_back, charged_by, last_after, charged_after, charged_from}
use Rattle.proof_bus_time.specs.StaysLaws.{Stays, still, stays}
use Rattle.proof_bus_time.specs.CalmCallsLaws.{of-aside}
use Rattle.proof_bus_time.specs.LeftLaws.{Left, at_end, at_ask, keeps, calm_run}
use Rattle.proof_bus_time.proofs.SwitchingLaws.{Due, due-stays}
use Rattle.proof_bus_time.proofs.BeginsLaws.{Rests, Ongoing, Opens, at_once, under_way_lem, none_rests, opens}
use Rattle.proof_bus_time.proofs.BeginsLaws.{opens_start}

module _ (dir : Dir) (e : ℕ) where
  abbrev bit : ℕ
  bit = place dir e

  -- of what is under way; `last` was begun
  abbrev pub Course : Pending Answer Driver → Driver → ℕ → Bool → Begun → Type 0
  Course idle d c u last = Rests dir e c d
  Course (busy i q k) d c u last = Ongoing dir e u last c d k

  -- after a call, from the state d and the charge c: its way goes on, and what the words written leave of the charge
  -- is what the calls say
  pub record After (x : Call Config Op) (d : Driver) (c : ℕ) (u : Bool) (last : Begun) (y : StepResult) : Type 0 where
    pub under_way_lem : Course y.1.under_way_lem y.1.st (by_answer bit (sort_of x) y.0 d c)
        (begins_by bit (sort_of x) y.0 u)
        (last_of x y.0 last)
    pub same : by_answer bit (sort_of x) y.0 d c ≡ charged_by dir e x y.0 d last c

  -- what a begin charges
  begin_same : (o : Op) (q : Access) (d : Driver) (c : ℕ)
      → by_access bit (op_sort o) q d c ≡ counted dir e (op_begun o) d c
  begin_same interrupt q d c = refl
  begin_same (slotted (SetEnabled dir' e' true)) q d c = refl
  begin_same (slotted (SetEnabled dir' e' false)) q d c = refl
  begin_same (slotted (PollRead e' n)) q d c = refl
  begin_same (slotted (BeginWrite e' bs)) q d c = refl
  begin_same (slotted (PollWrite e' bs)) q d c = refl
  begin_same (slotted (PollDataOut n)) q d c = refl
  begin_same (slotted (BeginDataIn bs first end)) q d c = refl
  begin_same (other o) q d c = by (is (kind_of (other o)) resetting)
    where
      by : (b : Bool) → c ≡ counted dir e (cond b polls-bus neither) d c
      by true = refl
      by false = refl
  begin_same (aside o) q d c = refl

  begins_so : (x : Op) (d : Driver) (c : ℕ) (u : Bool) (last : Begun) (i : Bool) {o : tree.Out St Answer}
      → Opens dir e (op_sort x) (op_begun x) d c u o
      → After (begin x) d c u last (halt calls driver_of (λ s. s) i o)
  begins_so x d c u last i (at_once r) = record { under_way_lem = r; same = refl }
  begins_so x d c u last i (under_way_lem {q = q} g) = record { under_way_lem = g; same = begin_same x q d c }

  starts_so : (x : Config) (d : Driver) (c : ℕ) (u : Bool) (last : Begun) {o : tree.Out St Answer}
      → Opens dir e starting neither d c u o
      → After (start x) d c u last (halt calls driver_of (λ s. s) false o)
  starts_so x d c u last (at_once r) = record { under_way_lem = r; same = refl }
  starts_so x d c u last (under_way_lem g) = record { under_way_lem = g; same = refl }

  goes_on_lem : (v : ℕ) (d : Driver) (c : ℕ) (u : Bool) (last : Begun) (i : Bool) {o : tree.Out St Answer}
      → Left bit (given_back dir e last) (Due dir e u) (Rests dir e) c o
      → After (continue v) d c u last (halt calls driver_of (λ s. s) i o)
  goes_on_lem v d c u last i (at_end r) = record { under_way_lem = r; same = refl }
  goes_on_lem v d c u last i (at_ask w x y) = record { under_way_lem = (x, y); same = w }

  -- an open, a close or a queue between two accesses of an interrupt
  goes_stays : (u : Bool) (last : Begun) (c : ℕ) {d d' : Driver} (k : ℕ → St → tree.Out St Answer) → Stays d d'
      → Ongoing dir e u last c d k → Ongoing dir e u last c d' k
  goes_stays u last c k x g = (due-stays dir e u c x g.0, λ v t b. g.1 v t (still x b))

  besides : (x : Call Config Op) (i : Bool) (q : Awaits) (k : ℕ → St → tree.Out St Answer) (d : Driver) (b : Buf)
      (c : ℕ) (u : Bool) (last : Begun) {o : tree.Out St Answer}
      → Left bit (λ n. n) (λ _ _. Unit {0}) (λ g d'. (g ≡ c) × Stays d d') c o → Ongoing dir e u last c d k
      → After x d c u last (during_interrupt calls driver_of (record { under_way_lem = busy i q k; st = d; buf = b }) o)
  besides x i q k d b c u last (at_end y) g = record { under_way_lem = goes_stays u last c k y.1 g; same = refl }
  besides x i q k d b c u last (at_ask w y z) g = record { under_way_lem = g; same = refl }

  after_cond : (x : Call Config Op) (d : Driver) (c : ℕ) (u : Bool) (last : Begun) (b : Bool) (y z : StepResult)
      → After x d c u last y → After x d c u last z → After x d c u last (cond b y z)
  after_cond x d c u last true y z p q = p
  after_cond x d c u last false y z p q = q

  -- one call
  module _ (d : Driver) (c : ℕ) (u : Bool) (last : Begun) (b : Buf) where
    refused : (o : Op) (i : Bool) (q : Awaits) (k : ℕ → St → tree.Out St Answer) (old : Buf)
        → Ongoing dir e u last c d k
        → After (begin o) d c u last (begun calls driver_of (λ s. s) o
        (record { under_way_lem = busy i q k; st = d; buf = old })
        (busy i q k) b)
    refused interrupt true q k old g = record { under_way_lem = g; same = refl }
    refused interrupt false q k old g = record { under_way_lem = g; same = refl }
    refused (slotted o) true q k old g = record { under_way_lem = g; same = refl }
    refused (slotted o) false q k old g = record { under_way_lem = g; same = refl }
    refused (other o) true q k old g = record { under_way_lem = g; same = refl }
    refused (other o) false q k old g = record { under_way_lem = g; same = refl }
    refused (aside o) true q k old g =
        besides (begin (aside o)) true q k d b c u last
        (calm_run (keeps (λ x y p s. still s p)) bit (λ n. n) c (λ _ _. Unit {0}) (λ _ _. tt) (aside_code o)
        (of-aside o) (d, b) (stays d)) g
    refused (aside o) false q k old g = record { under_way_lem = g; same = refl }

    begins_at_lem : (o : Op) (w : Pending Answer Driver) (old : Buf) → Course w d c u last
        → After (begin o) d c u last (begun calls driver_of (λ s. s) o (record { under_way_lem = w; st = d; buf = old }) w b)
    begins_at_lem o idle old r = begins_so o d c u last (irq o) (opens dir e o (d, b) c u r)
    begins_at_lem o (busy i q k) old g = refused o i q k old g

    continues_at : (v : ℕ) (w : Pending Answer Driver) (old : Buf) → Course w d c u last
        → After (continue v) d c u last (continued calls driver_of (λ s. s) v
        (record { under_way_lem = w; st = d; buf = old }) w b)
    continues_at v idle old r = record { under_way_lem = r; same = refl }
    continues_at v (busy i q k) old g =
        after_cond (continue v) d c u last (over calls q v) (stay calls driver_of 16
        (record { under_way_lem = busy i q k; st = d; buf = b })) (halt calls driver_of (λ s. s) i (k v (d, b)))
        (record { under_way_lem = g; same = refl }) (goes_on_lem v d c u last i (g.1 v (d, b) (stays d)))

    starts_at_lem : (x : Config) (n : ℕ) (w : Pending Answer Driver) (old : Buf) → Course w d c u last
        → After (start x) d c u last (started calls driver_of (λ s. s) x n (record { under_way_lem = w; st = d; buf = old })
        b)
    starts_at_lem x zero w old g = starts_so x d c u last (opens_start dir e x b d c u)
    starts_at_lem x (suc n) w old g = record { under_way_lem = g; same = refl }

    calls_at : (x : Call Config Op) (w : Pending Answer Driver) (old : Buf) → Course w d c u last
        → After x d c u last (drive x (record { under_way_lem = w; st = d; buf = old }) b)
    calls_at (start x) w old g = starts_at_lem x (start_row x b) w old g
    calls_at (begin o) w old g =
        let m : Machine Answer Driver = record { under_way_lem = w; st = d; buf = old } in
        after_cond (begin o) d c u last (cond (slots o) (misfit calls driver_of d b) false) (stay calls driver_of 1 m)
        (begun calls driver_of (λ s. s) o m w b)
        (record { under_way_lem = g; same = refl }) (begins_at_lem o w old g)
    calls_at (continue v) w old g =
        let m : Machine Answer Driver = record { under_way_lem = w; st = d; buf = old } in
        after_cond (continue v) d c u last (misfit calls driver_of d b) (stay calls driver_of 1 m)
        (continued calls driver_of (λ s. s) v m w b)
        (record { under_way_lem = g; same = refl }) (continues_at v w old g)
    calls_at (question q) w old g = record { under_way_lem = g; same = refl }

  shared_at : (j : ℕ) (x : Call Config Op) (m : Machine Answer Driver) (t : List ℕ) (b : Buf) (c : ℕ) (u : Bool)
      (last : Begun) → Course m.under_way_lem m.st c u last
      → After x m.st c u last (shared_call j x m t b).0
  unfolding settled
  shared_at j x m t b c u last g = by (turned_down j (sort_of x) (drive x m b).0 m.st t)
    where
      outcome : Bool → StepResult × List ℕ
      outcome z = cond z ((ended (Refused 19), lent_to calls driver_of m b), t)
          (drive x m b, time_after j (sort_of x) (drive x m b).0 m.st t)

      by : (z : Bool) → After x m.st c u last (outcome z).0
      by true = record { under_way_lem = g; same = refl }
      by false = calls_at m.st c u last b x m.under_way_lem m.buf g

  -- ---- every list of calls

  place_lt : place dir e < 32
  place_lt = by dir
    where
      by : (x : Dir) → place x e < 32
      by Out = omega arith
      by In = omega arith

  module _ (i : ℕ) (li : i < 4) where
    abbrev at : ℕ
    at = i * 32 + bit

    -- driver i with the endpoint's charge in the record
    abbrev pub Runs : Four → Bool → Begun → Type 0
    Runs f u last = Course (f.driver i).under_way_lem (f.driver i).st (get_or f.time at 0) u last

    -- after one more call
    record Next (x : Turn) (f : Four) (u : Bool) (last : Begun) : Type 0 where
      runs : Runs (next x f) (last_begun i bit (line_of x f ∷ []) u) (last_after i (line_of x f) last)
      same : get_or (next x f).time at 0 ≡ charged_after i dir e (line_of x f) last (get_or f.time at 0)

    runs_next : (x : Turn) (f : Four) (u : Bool) (last : Begun) → Within f.time → Runs f u last → Next x f u last
    runs_next x f u last k r =
        let z = by (eqb (x.who % 4) i) refl (eqb i (x.who % 4)) refl in
        record {
          runs = subst (λ g. Course ((next x f).driver i).under_way_lem ((next x f).driver i).st g
              (last_begun i bit (line_of x f ∷ []) u) (last_after i (line_of x f) last)) (sym charge) z.0;
          same = charge ∙ z.1;
        }
      where
        c : ℕ
        c = get_or f.time at 0

        m : Machine Answer Driver
        m = f.driver (x.who % 4)

        y : StepResult
        y = (called x f).0

        call : Call Config Op
        call = x.event.call

        -- by the words written
        charge : get_or (next x f).time at 0 ≡ cond (eqb (x.who % 4) i) (by_answer bit (sort_of call) y.0 m.st c) c
        charge = each-charge (x ∷ []) f k i bit li place_lt

        Now : Bool → Bool → Type 0
        Now mine to =
            let n = cond to y.1 (f.driver i) in
            Course n.under_way_lem n.st (cond mine (by_answer bit (sort_of call) y.0 m.st c) c)
            (cond mine (begins_by bit (sort_of call) y.0 u) u) (cond mine (last_of call y.0 last) last)
            × (cond mine (by_answer bit (sort_of call) y.0 m.st c) c ≡ cond mine
            (charged_by dir e call y.0 m.st last c) c)

        by : (mine : Bool) → eqb (x.who % 4) i ≡ mine → (to : Bool) → eqb i (x.who % 4) ≡ to → Now mine to
        by true h true p =
            let z = shared_at x.who call m f.time x.event.lent c u last
            (subst (λ n. Course (f.driver n).under_way_lem (f.driver n).st c u last) (sym (eqb-true (x.who % 4) i h))
            r) in
            (z.under_way_lem, z.same)
        by true h false p = absurd (eqb-false i (x.who % 4) p (sym (eqb-true (x.who % 4) i h)))
        by false h true p = absurd (eqb-false (x.who % 4) i h (sym (eqb-true i (x.who % 4) p)))
        by false h false p = (r, refl)

    -- what was begun last, after a history
    abbrev pub last_in : List Line → Begun → Begun
    last_in [] last = last
    last_in (l ∷ ls) last = last_in ls (last_after i l last)

    pub runs_all : (xs : List Turn) (f : Four) (u : Bool) (last : Begun) → Within f.time → Runs f u last
        → Runs (after xs f) (last_begun i bit (history xs f) u) (last_in (history xs f) last)
    runs_all [] f u last k r = r
    runs_all (x ∷ xs) f u last k r =
        runs_all xs (next x f) _ _ (always-within (x ∷ []) f k) (runs_next x f u last k r).runs

    -- the record has what the calls say
    pub charged_all : (xs : List Turn) (f : Four) (u : Bool) (last : Begun) → Within f.time → Runs f u last
        → get_or (after xs f).time at 0 ≡ charged_from i dir e (history xs f) last (get_or f.time at 0)
    charged_all [] f u last k r = refl
    charged_all (x ∷ xs) f u last k r =
        let z = runs_next x f u last k r in
        charged_all xs (next x f) _ _ (always-within (x ∷ []) f k) z.runs
        ∙ ap (charged_from i dir e (history xs (next x f)) (last_after i (line_of x f) last)) z.same

    pub course_due : (w : Pending Answer Driver) (d : Driver) (c : ℕ) (u : Bool) (last : Begun) → Course w d c u last
        → c ≡ cond (is_enabled d dir e || (is_busy w && u)) (charge_on d dir e) 0
    course_due idle d c u last r = r.due
    course_due (busy j q k) d c u last g = g.0

    pub at_first : (f : Four) → FourAtFirst f → Runs f false neither
    at_first f z =
        let m = f.driver i in
        let a = z.drivers i li in
        subst (λ w. Course w m.st (get_or f.time at 0) false neither) (sym a.idles)
        (subst (λ c. Rests dir e c m.st) (sym (ap (λ (t : List ℕ). get_or t at 0) z.time ∙ zeros 128 at))
        (none_rests dir e m.st a.none))
