-- Before EP0's start no call looks at a slot or changes one: two runs that get the same calls there, with other bytes
-- lent, have the same driver, hand out the same accesses and answer the same
use Rattle.std.specs.Prelude.{Bool, true, false, not, cond, ◌&&◌, List, [], ◌∷◌, ◌≡◌, ℕ, zero, suc, ◌%◌, eqb, length}
use Rattle.std.proofs.Common.{true≢false, ap, subst, sym}
use Rattle.std.proofs.Math.Path.{refl}
use Rattle.regs.specs.declared.Access.{Access}
use Rattle.regs.specs.declared.Dir.{Dir}
use Rattle.regs.specs.declared.Dir.TheVariants.{Out, In}
use Rattle.regs.specs.declared.Reg.{Reg}
use Rattle.state.specs.Driver.{Driver}
use Rattle.alloc.specs.declared.Answer as alloc-answer
use Rattle.alloc.specs.declared.Answer.TheVariants as alloc
use Rattle.alloc.specs.Alloc.{allocate_of, allocate_ep0_of}
use Rattle.descriptor.specs.declared.Endpoint.{Endpoint}
use Rattle.descriptor.specs.declared.Answer as reading-answer
use Rattle.descriptor.specs.declared.Answer.TheVariants as reading
use Rattle.descriptor.specs.Reading.{reading_of, list_of}
use Rattle.descriptor.specs.Trial.{direction_of, trial_of}
use Rattle.script.specs.Tree as tree
use Rattle.script.specs.Tree.{ends, asks, bind_out}
use Rattle.script.specs.Script.{Script, run, ret, bind, test, ◌>>=◌, ◌>>◌, write}
use Rattle.script.specs.Statics.{modify_reg}
use Rattle.script.specs.Answers.{Answer, Refused, End, operation, resultless, staged, is_allocated}
use Rattle.script.specs.Driver.{start_up, new_endpoint, allocated_as, alloc_endpoint, started_as, start}
use Rattle.script.specs.AllocateAll.{allocate_each, announce, begins_at, announce_after, announce_all, allocate_read}
use Rattle.script.specs.AllocateAll.{allocate_all}
use Rattle.script.specs.Calls as script-calls
use Rattle.script.specs.Calls.{Config, Op, interrupt, slotted, other, aside, calls, start_row, Slotted, Other, Aside}
use Rattle.script.specs.Calls.{slotted_code, other_code, aside_code}
use Rattle.script.specs.Calls.{SetEnabled, PollRead, BeginWrite, PollWrite, PollDataOut, BeginDataIn}
use Rattle.script.specs.Calls.{Allocate, AllocateAll, Start, BusPoll, BusEnable, BusDisable, Microframe, SetStalled}
use Rattle.script.specs.Calls.{IsStalled, SetPaced, Advance}
use Rattle.script.specs.Calls.{BeginRead, BeginSetup, PollSetup, PollDataIn, BeginAccept, PollAccept, BeginReject}
use Rattle.script.specs.Calls.{BeginDataOut, BeginAcceptSetAddress}
use Rattle.script.specs.Calls.{Open, Close, Queue}
use Rattle.script.specs.Machine.{Buf, Call, begin, continue, question, Ans, ended, Awaits, Pending, idle, busy, Machine}
use Rattle.script.specs.Machine.{over, misfit, stay}
use Rattle.script.specs.Machine as machine
use Rattle.script.specs.Machine.{begun, continued, started}
use Rattle.script_ops.specs.Rings.{St}
use Rattle.script_ops.specs.Concrete.{concrete}
use Rattle.machine.specs.Suspended.{driver_of, drive}
use Rattle.answer.specs.Goes.{StepResult}
use Rattle.calls.specs.Sharing.{sort_of, time_after, turned_down}
use Rattle.proof_isolation.specs.Schedule.{Run, run_by, sharing, called, unfit}
use Rattle.proof_isolation.proofs.Standing.{machine_of, stops}
use Rattle.proof_isolation.proofs.Runs.{go-unfit, begin-unfit, row_one}

-- ---- outcomes

-- the same but for the buffers, which stay as they are
pub data SameOut {A : Type 0} : Buf → Buf → tree.Out St A → tree.Out St A → Type 0 where
  ends_same : {a : A} {d : Driver} {b b' : Buf} → SameOut b b' (ends a (d, b)) (ends a (d, b'))
  asks_same : {q : Access} {d : Driver} {b b' : Buf} {k k' : ℕ → St → tree.Out St A}
      → ((v : ℕ) (d : Driver) (c c' : Buf) → SameOut c c' (k v (d, c)) (k' v (d, c')))
      → SameOut b b' (asks q (d, b) k) (asks q (d, b') k')

bind-same : {A B : Type 0} {b b' : Buf} {o u : tree.Out St A} (f g : A → St → tree.Out St B) → SameOut b b' o u
    → ((a : A) (d : Driver) (c c' : Buf) → SameOut c c' (f a (d, c)) (g a (d, c')))
    → SameOut b b' (bind_out o f) (bind_out u g)
bind-same f g ends_same h = h _ _ _ _
bind-same f g (asks_same k) h = asks_same (λ v d c c'. bind-same f g (k v d c c') h)

-- ---- scripts that look at no slot and change none

record Deaf {A : Type 0} (p : Script false A) : Type 0 where
  on : (d : Driver) (b b' : Buf) → SameOut b b' (run concrete p (d, b)) (run concrete p (d, b'))

d-ret : {A : Type 0} (a : A) → Deaf (ret a)
d-ret a = record { on = λ d b b'. ends_same }

d-bind : {A B : Type 0} {p : Script false A} {f : A → Script false B} → Deaf p → ((a : A) → Deaf (f a))
    → Deaf (bind p f)
d-bind {f = f} h k = record {
  on = λ d b b'. bind-same (λ a s. run concrete (f a) s) (λ a s. run concrete (f a) s) (h.on d b b')
      (λ a d c c'. (k a).on d c c');
}

d-then : {A B : Type 0} {p : Script false A} {q : Script false B} → Deaf p → Deaf q → Deaf (p >> q)
d-then h k = d-bind h (λ _. k)

d-test : {A : Type 0} (t : Bool) {p q : Script false A} → Deaf p → Deaf q → Deaf (test t p q)
d-test true h k = record { on = λ d b b'. h.on d b b' }
d-test false h k = record { on = λ d b b'. k.on d b b' }

d-write : (r : Reg) (e v : ℕ) → Deaf (write r e v)
d-write r e v = record { on = λ d b b'. asks_same (λ v d c c'. ends_same) }

d-modify : (r : Reg) (e : ℕ) (f : ℕ → ℕ) → Deaf (modify_reg r e f)
d-modify r e f = record { on = λ d b b'. asks_same (λ v d c c'. asks_same (λ v d c c'. ends_same)) }

d-operation : {p : Script false ℕ} → Deaf p → Deaf (operation p)
d-operation h = d-then (record { on = λ d b b'. ends_same })
    (d-bind h (λ n. d-bind (record { on = λ d b b'. ends_same }) (λ w. d-ret (End n w))))

d-resultless : {p : Script false Unit} → Deaf p → Deaf (resultless p)
d-resultless h = d-operation (d-then h (d-ret 0))

d-staged : (n : ℕ) {p : Script false Answer} → Deaf p → Deaf (staged n p)
d-staged n h = d-bind (record { on = λ d b b'. ends_same }) (λ g. d-test (eqb g.stage n) h (d-ret (Refused 4)))

-- ---- start-up, allocation, EP0's start

d-start-up : (c : Bool) → Deaf (start_up c)
d-start-up c = d-resultless (d-then (d-write _ 0 _) (d-then
    (record { on = λ d b b'. asks_same (λ v d c c'. ends_same) })
    (d-then (d-modify _ 0 _) (d-then (d-write _ 0 _) (d-then (d-write _ 0 _)
    (record { on = λ d b b'. asks_same (λ v d c c'. ends_same) }))))))

d-new : (dir : Dir) (kind maximum n : ℕ) → Deaf (new_endpoint dir kind maximum n)
d-new dir kind maximum n = d-then (d-write _ n maximum)
    (d-then (d-test (not (eqb (kind % 4) 0)) (record { on = λ d b b'. asks_same (λ v d c c'. ends_same) }) (d-ret tt))
    (d-ret n))

d-as : (dir : Dir) (kind maximum : ℕ) (x : alloc-answer.Answer) → Deaf (allocated_as dir kind maximum x)
d-as dir kind maximum (alloc.Refused n) = d-ret (Refused n)
d-as dir kind maximum (alloc.Given n base slots) = d-operation (d-new dir kind maximum n)

d-allocate : (dir : Dir) (kind address maximum interval : ℕ) → Deaf (alloc_endpoint dir kind address maximum interval)
d-allocate dir kind address maximum interval = d-staged 1 (d-bind (record { on = λ d b b'. ends_same }) (λ a.
    d-then (record { on = λ d b b'. ends_same }) (d-as dir kind maximum
    (allocate_of a kind address maximum dir).answer)))

d-announce : (dir : Dir) (n : ℕ) → Deaf (announce dir n)
d-announce dir n = d-bind (record { on = λ d b b'. ends_same }) (λ s. d-new dir s.kind s.max_len n)

d-finds : (dir : Dir) (x left n : ℕ) → Deaf (begins_at dir x left n)
unfolding begins_at
d-finds dir x zero n = d-ret 0
d-finds dir x (suc left) n = d-bind (record { on = λ d b b'. ends_same })
    (λ a. d-bind (record { on = λ d b b'. ends_same }) (λ s.
    d-test (is_allocated a dir n && eqb s.base x) (d-ret n) (d-finds dir x left (suc n))))

d-after : (left total : ℕ) (dir : Dir) (n : ℕ) → Deaf (announce_after left total dir n)
unfolding announce_after
d-after zero total dir n = d-ret total
d-after (suc left) total dir n =
    d-bind (d-bind (record { on = λ d b b'. ends_same })
    (λ a. d-bind (record { on = λ d b b'. ends_same }) (λ s. d-ret _))) (λ x.
    d-bind (d-finds Out x 15 1) (λ o.
    d-test (eqb o 0) (d-bind (d-finds In x 15 1) (λ n. d-then (d-announce In n) (d-after left total In n)))
    (d-then (d-announce Out o) (d-after left total Out o))))

d-all : (es : List Endpoint) → Deaf (announce_all es)
d-all [] = d-ret 0
d-all (e ∷ es) = d-then (d-announce (direction_of e.address) (e.address % 128))
    (d-after (length es) (suc (length es)) (direction_of e.address) (e.address % 128))

d-each : (es : List Endpoint) → Deaf (allocate_each es)
unfolding allocate_each
d-each [] = d-ret tt
d-each (e ∷ es) = d-then (record { on = λ d b b'. ends_same }) (d-each es)

d-read : (bytes : List ℕ) (x : reading-answer.Answer) → Deaf (allocate_read bytes x)
d-read bytes (reading.Refused n) = d-ret (Refused n)
d-read bytes reading.Listed = d-bind (record { on = λ d b b'. ends_same }) (λ a.
    d-test (eqb (trial_of a (list_of bytes)).refusal 0)
    (d-then (d-each (list_of bytes)) (d-operation (d-all (list_of bytes)))) (d-ret _))

d-allocate-all : (bytes : List ℕ) → Deaf (allocate_all bytes)
d-allocate-all bytes = d-staged 1 (d-read bytes (reading_of bytes).answer)

d-ep0 : (maximum : ℕ) (x : alloc-answer.Answer) → Deaf (started_as maximum x)
d-ep0 maximum (alloc.Refused n) = d-ret (Refused n)
d-ep0 maximum (alloc.Given n base slots) = d-resultless
    (d-then (record { on = λ d b b'. asks_same (λ v d c c'. ends_same) })
    (d-then (d-write _ 0 maximum) (d-then (d-write _ 0 _) (d-then (d-write _ 0 _) (d-write _ 0 64)))))

d-start : (maximum : ℕ) → Deaf (start maximum)
d-start maximum = d-staged 1 (d-bind (record { on = λ d b b'. ends_same }) (λ a.
    d-then (record { on = λ d b b'. ends_same }) (d-ep0 maximum (allocate_ep0_of a maximum).answer)))

-- ---- every other call is refused with 4

module _ (d : Driver) (h : eqb d.globals.stage 2 ≡ false) (b b' : Buf) where
  slotted-same : (o : Slotted) → SameOut b b' (run concrete (slotted_code o) (d, b))
      (run concrete (slotted_code o) (d, b'))
  slotted-same (SetEnabled dir e on) = rw h ends_same
  slotted-same (PollRead e n) = rw h ends_same
  slotted-same (BeginWrite e bs) = rw h ends_same
  slotted-same (PollWrite e bs) = rw h ends_same
  slotted-same (PollDataOut n) = rw h ends_same
  slotted-same (BeginDataIn bs first last) = rw h ends_same

  other-same : (o : Other) → SameOut b b' (run concrete (other_code o) (d, b)) (run concrete (other_code o) (d, b'))
  other-same (Allocate dir kind address maximum interval) = (d-allocate dir kind address maximum interval).on d b b'
  other-same (AllocateAll bytes) = (d-allocate-all bytes).on d b b'
  other-same (Start maximum) = (d-start maximum).on d b b'
  other-same BusPoll = rw h ends_same
  other-same BusEnable = rw h ends_same
  other-same BusDisable = rw h ends_same
  other-same Microframe = rw h ends_same
  other-same (SetStalled dir e on) = rw h ends_same
  other-same (IsStalled dir e) = rw h ends_same
  other-same (SetPaced e on) = rw h ends_same
  other-same (Advance e) = rw h ends_same
  other-same (BeginRead e n) = rw h ends_same
  other-same BeginSetup = rw h ends_same
  other-same PollSetup = rw h ends_same
  other-same PollDataIn = rw h ends_same
  other-same BeginAccept = rw h ends_same
  other-same PollAccept = rw h ends_same
  other-same BeginReject = rw h ends_same
  other-same (BeginDataOut n first) = rw h ends_same
  other-same (BeginAcceptSetAddress a) = rw h ends_same

  aside_same : (o : Aside) → SameOut b b' (run concrete (aside_code o) (d, b)) (run concrete (aside_code o) (d, b'))
  aside_same (Open e) = rw h ends_same
  aside_same (Close e) = rw h ends_same
  aside_same (Queue e bs) = rw h ends_same

-- ---- the machine of calls; `P` holds of the two buffers that are lent, which are as long as each other

pub data SameWay : Pending Answer Driver → Pending Answer Driver → Type 0 where
  idle_same : SameWay idle idle
  busy_same : {a : Awaits} {k k' : ℕ → St → tree.Out St Answer}
      → ((v : ℕ) (d : Driver) (c c' : Buf) → SameOut c c' (k v (d, c)) (k' v (d, c')))
      → SameWay (busy false a k) (busy false a k')

module _ (P : Buf → Buf → Type 0) (long : (b b' : Buf) → P b b' → length b' ≡ length b) where
  pub data SameMachine : Machine Answer Driver → Machine Answer Driver → Type 0 where
    same_machine : {w w' : Pending Answer Driver} {d : Driver} {b b' : Buf} → SameWay w w' → P b b'
        → SameMachine (machine_of w (d, b)) (machine_of w' (d, b'))

  pub data SameCalled : StepResult → StepResult → Type 0 where
    same_called : {a : Ans Answer} {m m' : Machine Answer Driver} → SameMachine m m' → SameCalled (a, m) (a, m')

  halt_same : {b b' : Buf} {o u : tree.Out St Answer} → P b b' → SameOut b b' o u
      → SameCalled (stops false o) (stops false u)
  halt_same p ends_same = same_called (same_machine idle_same p)
  halt_same p (asks_same h) = same_called (same_machine (busy_same h) p)

  either_same : (u : Bool) {x y x' y' : StepResult} → SameCalled x x' → (u ≡ false → SameCalled y y')
      → SameCalled (cond u x y) (cond u x' y')
  either_same true h k = h
  either_same false h k = k refl

  pub row_same : (k : Config) (b b' : Buf) → P b b' → start_row k b ≡ start_row k b'
  unfolding start_row
  row_same k b b' p = rw (long b b' p) refl

  begun_same : (o : Op) {w w' : Pending Answer Driver} (d : Driver) (c c' b b' : Buf) → SameWay w w' → P b b'
      → (w ≡ idle → eqb d.globals.stage 2 ≡ false)
      → SameCalled (begun calls driver_of (λ s. s) o (machine_of w (d, c)) w b)
      (begun calls driver_of (λ s. s) o (machine_of w' (d, c')) w' b')
  begun_same interrupt d c c' b b' idle_same p h = rw (h refl) (same_called (same_machine idle_same p))
  begun_same (slotted o) d c c' b b' idle_same p h = halt_same p (slotted-same d (h refl) b b' o)
  begun_same (other o) d c c' b b' idle_same p h = halt_same p (other-same d (h refl) b b' o)
  begun_same (aside o) d c c' b b' idle_same p h = halt_same p (aside_same d (h refl) b b' o)
  begun_same o d c c' b b' (busy_same k) p h = same_called (same_machine (busy_same k) p)

  continued_same : (v : ℕ) {w w' : Pending Answer Driver} (d : Driver) (c c' b b' : Buf) → SameWay w w' → P b b'
      → SameCalled (continued calls driver_of (λ s. s) v (machine_of w (d, c)) w b)
      (continued calls driver_of (λ s. s) v (machine_of w' (d, c')) w' b')
  continued_same v d c c' b b' idle_same p = same_called (same_machine idle_same p)
  continued_same v d c c' b b' (busy_same {a = a} k) p =
      either_same (over calls a v) (same_called (same_machine (busy_same k) p)) (λ _. halt_same p (k v d b b'))

  pub started_same : (k : Config) (r : ℕ) {m m' : Machine Answer Driver} {b b' : Buf} → SameMachine m m' → P b b'
      → SameCalled (started calls driver_of (λ s. s) k r m b) (started calls driver_of (λ s. s) k r m' b')
  started_same k zero {b = b} {b' = b'} h p = halt_same p ((d-start-up k.callback).on (driver_of.fresh k) b b')
  started_same k (suc r) h p = same_called h

  fits_same : (d : Driver) (b b' : Buf) → P b b' → misfit calls driver_of d b ≡ misfit calls driver_of d b'
  fits_same d b b' p = ap (λ n. not (eqb n (driver_of.size d))) (sym (long b b' p))

  drive_same : (f : Call Config Op) {w w' : Pending Answer Driver} (d : Driver) (c c' b b' : Buf) → SameWay w w'
      → P c c' → P b b'
      → (w ≡ idle → eqb d.globals.stage 2 ≡ false)
      → SameCalled (drive f (machine_of w (d, c)) b) (drive f (machine_of w' (d, c')) b')
  drive_same (machine.start k) {w} {w'} d c c' b b' h q p s =
      subst (λ r. SameCalled (started calls driver_of (λ s. s) k (start_row k b) (machine_of w (d, c)) b)
      (started calls driver_of (λ s. s) k r (machine_of w' (d, c')) b')) (row_same k b b' p)
      (started_same k (start_row k b) (same_machine h q) p)
  drive_same (begin o) {w} {w'} d c c' b b' h q p s =
      subst (λ u. SameCalled (drive (begin o) (machine_of w (d, c)) b)
      (cond (cond (script-calls.slots o) u false) (stay calls driver_of 1 (machine_of w' (d, c')))
      (begun calls driver_of (λ s. s) o (machine_of w' (d, c')) w' b'))) (fits_same d b b' p)
      (either_same (cond (script-calls.slots o) (misfit calls driver_of d b) false) (same_called (same_machine h q))
      (λ _. begun_same o d c c' b b' h p s))
  drive_same (continue v) {w} {w'} d c c' b b' h q p s =
      subst (λ u. SameCalled (drive (continue v) (machine_of w (d, c)) b)
      (cond u (stay calls driver_of 1 (machine_of w' (d, c')))
      (continued calls driver_of (λ s. s) v (machine_of w' (d, c')) w' b'))) (fits_same d b b' p)
      (either_same (misfit calls driver_of d b) (same_called (same_machine h q)) (λ _. continued_same v d c c' b b' h p))
  drive_same (question x) d c c' b b' h q p s = same_called (same_machine h p)

  -- ---- runs

  pub data SameRun : Run → Run → Type 0 where
    same_run : {m m' : Machine Answer Driver} {q : Access} {a : Ans Answer} {t : List ℕ} → SameMachine m m'
        → SameRun (record { machine = m; access = q; answer = a; time = t })
        (record { machine = m'; access = q; answer = a; time = t })

  module _ (share : Bool) (n : ℕ) where
    called_as : (f : Call Config Op) (q : Access) (d : Driver) (t : List ℕ) {m m' : Machine Answer Driver}
        {x x' : StepResult} → SameMachine m m'
        → SameCalled x x' → SameRun (run_by q (cond {A = StepResult × List ℕ} (turned_down n (sort_of f) x.0 d t
        && share)
        ((ended (Refused 19), m), t) (x, time_after n (sort_of f) x.0 d t)))
        (run_by q (cond {A = StepResult × List ℕ} (turned_down n (sort_of f) x'.0 d t && share)
        ((ended (Refused 19), m'), t)
        (x', time_after n (sort_of f) x'.0 d t)))
    called_as f q d t {m = z} {m' = z'} h (same_called {a = a} {m = y} {m' = y'} k)
        = by (turned_down n (sort_of f) a d t && share)
      where
        by : (u : Bool) → SameRun (run_by q (cond {A = StepResult × List ℕ} u ((ended (Refused 19), z), t)
            ((a, y), time_after n (sort_of f) a d t)))
            (run_by q (cond {A = StepResult × List ℕ} u ((ended (Refused 19), z'), t)
            ((a, y'), time_after n (sort_of f) a d t)))
        by true = same_run h
        by false = same_run k

    pub called_same : (f : Call Config Op) (b b' : Buf) {r r' : Run} → SameRun r r' → P b b'
        → (r.machine.under_way_lem ≡ idle → eqb r.machine.st.globals.stage 2 ≡ false)
        → SameRun (called share n f b r) (called share n f b' r')
    called_same f b b' (same_run {q = q} {t = t} (same_machine {d = d} {b = c} {b' = c'} h k)) p s =
        called_as f q d t (same_machine h p) (drive_same f d c c' b b' h k p s)

    -- row 1 in both: nothing changes
    row1_same : (f : Call Config Op) (b b' : Buf) {r r' : Run} → SameRun r r' → drive f r.machine b
        ≡ (ended (Refused 1), r.machine)
        → drive f r'.machine b' ≡ (ended (Refused 1), r'.machine)
        → SameRun (called share n f b r) (called share n f b' r')
    row1_same f b b' (same_run {m = m} {m' = m'} {q = q} {a = a} {t = t} h) e e' =
        subst (λ y. SameRun (run_by q y) (called share n f b'
        (record { machine = m'; access = q; answer = a; time = t })))
        (sym (row_one share n f m t b e)) (subst (λ y. SameRun (run_by q ((ended (Refused 1), m), t)) (run_by q y))
        (sym (row_one share n f m' t b' e')) (same_run h))

    pub unfit_same : (f : Call Config Op) (b b' : Buf) {r r' : Run} → SameRun r r' → unfit f r b ≡ true → unfit f r' b'
        ≡ true
        → SameRun (called share n f b r) (called share n f b' r')
    unfit_same (machine.start k) b b' h x y = absurd (true≢false (sym x))
    unfit_same (begin o) b b' {r} {r'} h x y = row1_same (begin o) b b' h (begin-unfit r o b x) (begin-unfit r' o b' y)
    unfit_same (continue v) b b' {r} {r'} h x y = row1_same (continue v) b b' h (go-unfit r v b x) (go-unfit r' v b' y)
    unfit_same (question q) b b' h x y = absurd (true≢false (sym x))

    pub sharing_same : (f : List ℕ → List ℕ) {r r' : Run} → SameRun r r' → SameRun (sharing f r) (sharing f r')
    sharing_same f (same_run h) = same_run h
