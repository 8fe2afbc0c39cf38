-- What each call begins: an endpoint's charge and what is left then. No operation begins with a write of ep_config
use Rattle.std.specs.Prelude.{Bool, true, false, ◌||◌, ◌≡◌, refl, ℕ, eqb}
use Rattle.std.proofs.Math.Bool.{cond}
use Rattle.std.proofs.Math.Path.{ap, sym}
use Rattle.std.proofs.Common.{subst, ◌∙◌, arith, eqb-true}
use Rattle.bits.specs.Bit.{bit_is_set}
use Rattle.regs.specs.declared.Access.{Access}
use Rattle.regs.specs.declared.Dir.{Dir}
use Rattle.regs.specs.declared.Dir.TheVariants.{Out, In}
use Rattle.regs.specs.Enables as enables
use Rattle.regs.specs.Enables.{place}
use Rattle.state.specs.declared.EpState.{EpState}
use Rattle.state.specs.Driver.{Driver, ep_on}
use Rattle.state.specs.Fresh.{fresh_driver}
use Rattle.script.specs.Tree as tree
use Rattle.script.specs.Tree.{ends, asks, bind_out}
use Rattle.script.specs.Script.{Script, ret, run, row, switch, no_wakes}
use Rattle.script.specs.Statics.{is_on, wake}
use Rattle.script.specs.Answers.{Answer, Refused, operation, resultless, is_allocated}
use Rattle.script.specs.Bus as bus
use Rattle.script.specs.Calls.{Config, Op, slotted, other, SetEnabled, code, other_code}
use Rattle.script.specs.Calls as the-calls
use Rattle.script.specs.Machine.{Buf}
use Rattle.script_ops.specs.Rings.{St}
use Rattle.script_ops.specs.Concrete.{concrete}
use Rattle.machine.specs.Suspended.{driver_of, finish}
use Rattle.proof_book.specs.CellsLaws.{ep_on-by}
use Rattle.bus_time.specs.Time.{charge_of}
use Rattle.calls.specs.Sharing.{Sort, enabling, starting, apart, op_sort, charge_on}
use Rattle.proof_bus_time.specs.History.{by_access}
use Rattle.proof_bus_time.proofs.HistoriesLaws.{none-set}
use Rattle.proof_bus_time.specs.Enabled.{is_enabled, begins}
use Rattle.proof_bus_time.specs.Charged.{Begun, enables, disables, polls-bus, neither, op_begun}
use Rattle.proof_bus_time.specs.Charged.{given_back}
use Rattle.proof_bus_time.specs.StaysLaws.{config_of, Stays, act_stays}
use Rattle.proof_bus_time.specs.Calm.{NotEpConfigWrite, NoEpConfigWrite}
use Rattle.proof_bus_time.specs.CalmCallsLaws.{Manner, calm, gives, turns, polls, manner, start-up-calm}
use Rattle.proof_bus_time.specs.LeftLaws.{Left, at_end, at_ask, left-bind, left-more, First, none, some}
use Rattle.proof_bus_time.specs.LeftLaws.{first-bind}
use Rattle.proof_bus_time.specs.LeftLaws.{first-cond, quiet, keeps, none-keeps, calm_run, calm-first}
use Rattle.proof_bus_time.proofs.SwitchingLaws.{Due, due-stays, Ended, mine, turns_back, switched}
use Rattle.proof_bus_time.proofs.PollingLaws.{polled}

-- ---- no operation begins with a write of ep_config

-- an access is handed out, and it is none
pub data Hands {A : Type 0} : tree.Out St A → Type 0 where
  hands : {q : Access} {s : St} {k : ℕ → St → tree.Out St A} → NotEpConfigWrite q → Hands (asks q s k)

first_of : {A : Type 0} {o : tree.Out St A} → Hands o → First o
first_of (hands x) = some x

turn-hands : (dir : Dir) (e : ℕ) (on : Bool) (s : St) → Hands (run concrete (resultless (bus.set_enabled dir e on)) s)
turn-hands In e on s = hands tt
turn-hands Out e on s = by (is_on (ep_on t.0 Out e).iso)
  where
    t : St
    t = concrete.act no_wakes s

    turn : Bool → tree.Out St (Unit {0})
    turn b = cond b (run concrete (row (switch e on)) t) (run concrete (bus.set_enabled_out {i = false} e on) t)

    by : (b : Bool) → Hands
        (bind_out (bind_out (bind_out (turn b) (λ _ u. run concrete (wake {i = false} Out e) u))
        (λ _ u. run concrete (ret {i = false} {A = ℕ} 0) u))
        (λ n u. run concrete (finish n) u))
    by true = hands tt
    by false = hands tt

start-hands : (c : Config) (s : St) → Hands (run concrete (the-calls.starting c) s)
start-hands c s = hands tt

pub start_first : (c : Config) (s : St) → First (run concrete (the-calls.starting c) s)
start_first c s = first_of (start-hands c s)

poll-first : (s : St) → First (run concrete (operation bus.poll) s)
poll-first s = first-bind (first-cond (is_on s.0.globals.power) (some tt) none) (λ n t. none)

pub code-first : (o : Op) (s : St) → First (run concrete (code o) s)
code-first o s = by (manner o)
  where
    by : {o : Op} → Manner o → First (run concrete (code o) s)
    by (calm o x y) = calm-first false (code o) y s
    by (gives o x y) = calm-first true (other_code o) y s
    by (turns d e on) = first-cond (eqb s.0.globals.stage 2)
        (first-cond (is_allocated s.0.allocator d e) (first_of (turn-hands d e on s)) none) none
    by polls = first-cond (eqb s.0.globals.stage 2) (poll-first s) none

-- ---- an endpoint's charge

module _ (dir : Dir) (e : ℕ) where
  abbrev bit : ℕ
  bit = place dir e

  -- with nothing under way: what is due, and before EP0's start none is enabled
  pub record Rests (c : ℕ) (d : Driver) : Type 0 where
    pub due : Due dir e false c d
    pub early : d.globals.stage ≡ 1 → config_of d ≡ 0

  pub rests_stays : (c : ℕ) (d d' : Driver) → Stays d d' → Rests c d → Rests c d'
  rests_stays c d d' x r = record {
    due = due-stays dir e false c x r.due;
    early = λ h. x.config
        ∙ r.early (sym x.stage ∙ h);
  }

  ended_rests : (c : ℕ) (d : Driver) → Ended dir e c d → Rests c d
  ended_rests c d x = record { due = x.0; early = λ h. absurd (omega (arith, h, x.1)) }

  -- none enabled, none charged
  pub none_rests : (d : Driver) → config_of d ≡ 0 → Rests 0 d
  unfolding enables.is_on
  none_rests d h = record {
    due = sym (ap (λ (w : ℕ). cond (bit_is_set w bit || false) (charge_on d dir e) 0) h
        ∙ ap (λ (b : Bool). cond (b || false) (charge_on d dir e) 0) (none-set bit));
    early = λ _. h;
  }

  -- an operation is under way, with k left of it: what is due, and on every way through; `last` was begun
  abbrev pub Ongoing : Bool → Begun → ℕ → Driver → (ℕ → St → tree.Out St Answer) → Type 0
  Ongoing u last c d k = Due dir e u c d
      × ((v : ℕ) (t : St) → Stays d t.0 → Left bit (given_back dir e last) (Due dir e u) Rests c (k v t))

  -- a call of this sort, from a charge and a state with nothing under way
  pub data Opens (x : Sort) (last : Begun) (d : Driver) (c : ℕ) (was : Bool) : tree.Out St Answer → Type 0 where
    at_once : {a : Answer} {s : St} → Rests c s.0 → Opens x last d c was (ends a s)
    under_way_lem : {q : Access} {s : St} {k : ℕ → St → tree.Out St Answer}
        → Ongoing (begins bit x was) last (by_access bit x q d c) s.0 k → Opens x last d c was (asks q s k)

  opens_calm : (last : Begun) (d : Driver) (c : ℕ) (was : Bool) {o : tree.Out St Answer}
      → Left bit (given_back dir e last) (Due dir e false) Rests c o → First o → Opens apart last d c was o
  opens_calm last d c was (at_end x) none = at_once x
  opens_calm last d c was (at_ask {q = q} {s = s} {k = k} w x y) (some z) =
      under_way_lem (
        subst (λ g. Due dir e false g s.0) (quiet bit q c z) x,
        λ v t b. subst
            (λ g. Left bit (given_back dir e last) (Due dir e false) Rests g (k v t)) (quiet bit q c z) (y v t b),
      )

  opens_hands : (x : Sort) (last : Begun) (d : Driver) (c g : ℕ) (was : Bool)
      → ((q : Access) → by_access bit x q d c ≡ g) → {o : tree.Out St Answer}
      → Left bit (given_back dir e last) (Due dir e (begins bit x was)) Rests g o → Hands o → Opens x last d c was o
  opens_hands x last d c g was h (at_ask {q = q} {s = s} {k = k} v y z) (hands w) =
      let p = quiet bit q g w ∙ sym (h q) in
      under_way_lem (
        subst (λ g. Due dir e (begins bit x was) g s.0) p y,
        λ v t b. subst
            (λ g. Left bit (given_back dir e last) (Due dir e (begins bit x was)) Rests g (k v t)) p (z v t b),
      )
  opens_hands x last d c g was h (at_end {a = a} {s = s} _) x8 = elim x8 [ ]

  opens_cond : {x : Sort} {last : Begun} {d : Driver} {c : ℕ} {was : Bool} (b : Bool) {o u : tree.Out St Answer}
      → (b ≡ true → Opens x last d c was o) → (b ≡ false → Opens x last d c was u) → Opens x last d c was (cond b o u)
  opens_cond true y z = y refl
  opens_cond false y z = z refl

  -- calm scripts
  calm_rests : {i : Bool} (back : ℕ → ℕ) (c : ℕ) (p : Script i Answer) → NoEpConfigWrite false p → (s : St)
      → Rests c s.0
      → Left bit back (Due dir e false) Rests c (run concrete p s)
  calm_rests back c p x s r =
      left-more (calm_run (keeps (rests_stays c)) bit back c (Due dir e false) (λ d k. k.due) p x s r)
      (λ g d y. subst (λ z. Rests z d) (sym y.0) y.1)

  -- allocations, before any endpoint is enabled
  uncharged : (c : ℕ) (d : Driver) → config_of d ≡ 0 → Rests c d → c ≡ 0
  uncharged c d h r = r.due ∙ sym (none_rests d h).due

  gives_rests : (back : ℕ → ℕ) (c : ℕ) (p : Script false Answer) → NoEpConfigWrite true p → (s : St) → Rests c s.0
      → config_of s.0 ≡ 0 → Left bit back (Due dir e false) Rests c (run concrete p s)
  gives_rests back c p x s r h =
      let zero_is = uncharged c s.0 h r in
      left-more (calm_run none-keeps bit back c (Due dir e false) (λ d k. zero_is ∙ (none_rests d k).due) p x s h)
      (λ g d y. subst (λ z. Rests z d) (sym (y.0 ∙ zero_is)) (none_rests d y.1))

  -- an endpoint enabled or disabled
  same_charge : (d : Driver) (dir' : Dir) (e' : ℕ) → place dir' e' ≡ place dir e → charge_on d dir' e' ≡ charge_on d dir e
  unfolding charge_on
  same_charge d dir' e' h = by dir' dir h
    where
      by : (x y : Dir) → place x e' ≡ place y e → charge_of (ep_on d x e').kind (ep_on d x e').max_len
          ≡ charge_of (ep_on d y e).kind (ep_on d y e).max_len
      by Out Out h = ap (λ (r : EpState). charge_of r.kind r.max_len) (ep_on-by d Out e' e (omega (arith, h)))
      by In In h = ap (λ (r : EpState). charge_of r.kind r.max_len) (ep_on-by d In e' e h)
      by Out In h = absurd (omega (arith, h))
      by In Out h = absurd (omega (arith, h))

  begun_due : (dir' : Dir) (e' c : ℕ) (d : Driver) → Rests c d
      → Due dir e (mine dir e dir' e' true) (cond (eqb (place dir' e') bit) (charge_on d dir' e') c) d
  begun_due dir' e' c d r = by (eqb (place dir' e') bit) refl (is_enabled d dir e) refl
    where
      by : (own : Bool) → eqb (place dir' e') bit ≡ own → (b : Bool) → is_enabled d dir e ≡ b
          → cond own (charge_on d dir' e') c ≡ cond (is_enabled d dir e || own) (charge_on d dir e) 0
      by true h true k = rw k (same_charge d dir' e' (eqb-true (place dir' e') bit h))
      by true h false k = rw k (same_charge d dir' e' (eqb-true (place dir' e') bit h))
      by false h b k = r.due

  turn_left : (dir' : Dir) (e' : ℕ) (on : Bool) (c : ℕ) (s : St) → Due dir e (mine dir e dir' e' on) c s.0
      → s.0.globals.stage ≡ 2
      → Left bit (turns_back dir e dir' e' on) (Due dir e (mine dir e dir' e' on)) Rests c
      (run concrete (resultless (bus.set_enabled dir' e' on)) s)
  turn_left dir' e' on c s due second =
      let x = act_stays no_wakes refl s in
      left-bind
      (left-bind (switched dir e dir' e' on c (concrete.act no_wakes s)
      (due-stays dir e (mine dir e dir' e' on) c x due) (x.stage ∙ second))
      (λ g _ t y. at_end y)) (λ g _ t y. at_end (ended_rests g t.0 y))

  opens_turn : (dir' : Dir) (e' : ℕ) (on : Bool) (c : ℕ) (was : Bool) (s : St) → Rests c s.0
      → Opens (op_sort (slotted (SetEnabled dir' e' on))) (op_begun (slotted (SetEnabled dir' e' on))) s.0 c was
      (run concrete (code (slotted (SetEnabled dir' e' on))) s)
  opens_turn dir' e' true c was s r = let x = enabling dir' e' in
      opens_cond (eqb s.0.globals.stage 2)
      (λ h. opens_cond (is_allocated s.0.allocator dir' e')
      (λ _. opens_hands x (enables dir' e') s.0 c (cond (eqb (place dir' e') bit) (charge_on s.0 dir' e') c) was
      (λ q. refl) (turn_left dir' e' true _ s (begun_due dir' e' c s.0 r) (eqb-true _ 2 h))
      (turn-hands dir' e' true s))
      (λ _. at_once r))
      (λ _. at_once r)
  opens_turn dir' e' false c was s r =
      opens_cond (eqb s.0.globals.stage 2)
      (λ h. opens_cond (is_allocated s.0.allocator dir' e')
      (λ _. opens_hands apart (disables dir' e') s.0 c c was (λ q. refl)
      (turn_left dir' e' false c s r.due (eqb-true _ 2 h)) (turn-hands dir' e' false s))
      (λ _. at_once r))
      (λ _. at_once r)

  -- ---- each call

  pub opens : (o : Op) (s : St) (c : ℕ) (was : Bool) → Rests c s.0
      → Opens (op_sort o) (op_begun o) s.0 c was (run concrete (code o) s)
  opens o s c was r = by (manner o)
    where
      early : (last : Begun) (p : tree.Out St Answer) (b : Bool) → eqb s.0.globals.stage 1 ≡ b
          → (eqb s.0.globals.stage 1 ≡ false → p ≡ ends (Refused 4) s)
          → (s.0.globals.stage ≡ 1 → Opens apart last s.0 c was p) → Opens apart last s.0 c was p
      early last p true h x y = y (eqb-true _ 1 h)
      early last p false h x y = subst (λ z. Opens apart last s.0 c was z) (sym (x h)) (at_once r)

      by : {o : Op} → Manner o → Opens (op_sort o) (op_begun o) s.0 c was (run concrete (code o) s)
      by (calm o x y) = subst (λ z. Opens z (op_begun o) s.0 c was (run concrete (code o) s)) (sym x)
          (opens_calm (op_begun o) s.0 c was (calm_rests (given_back dir e (op_begun o)) c (code o) y s r)
          (calm-first false (code o) y s))
      by (gives o x y) = early (op_begun (other o)) (run concrete (other_code o) s) _ refl (x s)
          (λ h. opens_calm (op_begun (other o)) s.0 c was (gives_rests (given_back dir e (op_begun (other o))) c
          (other_code o) y s r (r.early h)) (calm-first true (other_code o) y s))
      by (turns dir' e' on) = opens_turn dir' e' on c was s r
      by polls = opens_cond (eqb s.0.globals.stage 2) (λ h. opens_calm polls-bus s.0 c was
          (left-more ((polled dir e c).on s (r.due, eqb-true _ 2 h)) ended_rests) (poll-first s)) (λ _. at_once r)

  -- an accepted start-up, from whatever was before
  pub opens_start : (x : Config) (b : Buf) (d : Driver) (c : ℕ) (was : Bool)
      → Opens starting neither d c was (run concrete (the-calls.starting x) (driver_of.fresh x, b))
  unfolding fresh_driver
  opens_start x b d c was =
      opens_hands starting neither d c 0 was (λ q. refl) (calm_rests (given_back dir e neither) 0
      (the-calls.starting x) (start-up-calm x) (driver_of.fresh x, b) (none_rests (driver_of.fresh x) refl))
      (start-hands x (driver_of.fresh x, b))
