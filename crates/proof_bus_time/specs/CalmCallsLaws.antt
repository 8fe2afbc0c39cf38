-- Which calls are calm: all but the enabling and disabling of an endpoint, the bus' poll and, in stage 1, allocations.
-- Each by the steps of its kind
use Rattle.std.specs.Prelude.{Bool, true, false, not, ◌&&◌, ◌||◌, ◌≡◌, refl, ℕ, eqb}
use Rattle.std.proofs.Common.{true≢false, sym, ◌∙◌}
use Rattle.regs.specs.declared.Access.{Access}
use Rattle.regs.specs.declared.Access.TheVariants.{Read, Write, Wait, Callback}
use Rattle.regs.specs.declared.Reg.TheVariants.{EpConfig}
use Rattle.regs.specs.declared.Dir.{Dir}
use Rattle.script.specs.Script.{Script, run, ret, bind, test, read_then, write_then, wait_then, callback_then, get_then}
use Rattle.script.specs.Script.{put_then, is_then, look_then, fetch_then, act_then, hand_then, row_then, Act, complete}
use Rattle.script.specs.Script.{reset_ring, set_enabled_lem, fill, fill0, open_oldest, close_oldest, take_oldest, enqueue}
use Rattle.script.specs.Script.{allocate, allocate0, no_wakes, waken, dma_step_ask, Burst, switch, bus_reset_lem}
use Rattle.script.specs.Calls.{Config, Op, interrupt, slotted, other, aside, Slotted, SetEnabled, PollRead, BeginWrite}
use Rattle.script.specs.Calls.{PollWrite, PollDataOut, BeginDataIn, Other, Allocate, AllocateAll, Start, BusPoll}
use Rattle.script.specs.Calls.{BusEnable, BusDisable, Microframe, SetStalled, IsStalled, SetPaced, Advance, BeginRead}
use Rattle.script.specs.Calls.{BeginSetup, PollSetup, PollDataIn, BeginAccept, PollAccept, BeginReject, BeginDataOut}
use Rattle.script.specs.Calls.{BeginAcceptSetAddress, Aside, other_code, aside_code, code}
use Rattle.script.specs.Calls as the-calls
use Rattle.script.specs.Tree.{ends}
use Rattle.script.specs.Answers.{Refused}
use Rattle.script.specs.Every.{same_reg}
use Rattle.script.specs.EveryLaws.{of-write}
use Rattle.regs.specs.Registers.{number_of}
use Rattle.proof_bus_time.specs.Enabled.{writes_config}
use Rattle.script.specs.Steps.{Kind, plain, turning, resetting, giving, starting, queueing, kind_of, is, may_ask, may_put}
use Rattle.script.specs.Steps.{may_write, may_act, may_row, Asks, Steps}
use Rattle.script.proofs.StepsCalls.{call-steps, start-up-steps}
use Rattle.script.specs.StepsRunsLaws.{if-true, if-so, Handed, writes-config}
use Rattle.script_ops.specs.Rings.{St}
use Rattle.script_ops.specs.Concrete.{concrete}
use Rattle.calls.specs.Sharing.{op_sort, apart}
use Rattle.proof_bus_time.specs.StaysLaws.{allowed}
use Rattle.proof_bus_time.specs.Calm.{When, NotEpConfigWrite, NoEpConfigWrite}

-- calm, or calm but for allocations
abbrev C : {i : Bool} {A : Type 0} → Script i A → Type 0
C p = NoEpConfigWrite false p

abbrev G : {i : Bool} {A : Type 0} → Script i A → Type 0
G p = NoEpConfigWrite true p

-- ---- the kinds of calls that are calm, or calm but for allocations

abbrev calmly : Bool → Kind → Bool
calmly gives k = not (is k turning || is k resetting) && (gives || not (is k giving || is k starting))

record Calmly (gives : Bool) (k : Kind) : Type 0 where
  turns : is k turning ≡ false
  resets : is k resetting ≡ false
  allocates : is k giving ≡ true → gives ≡ true
  starts : is k starting ≡ true → gives ≡ true

never : {X : Type 0} {b : Bool} → b ≡ false → b ≡ true → X
never h k = absurd (true≢false (sym k ∙ h))

calm-kind : (gives : Bool) (k : Kind) → calmly gives k ≡ true → Calmly gives k
calm-kind gives k h = let z = by (is k turning) (is k resetting) gives (is k giving) (is k starting) h in
    record { turns = z.0; resets = z.1; allocates = z.2; starts = z.3 }
  where
    by : (t r v g s : Bool) → (not (t || r) && (v || not (g || s))) ≡ true
        → (t ≡ false) × (r ≡ false) × (g ≡ true → v ≡ true) × (s ≡ true → v ≡ true)
    by true r v g s h = never refl h
    by false true v g s h = never refl h
    by false false true g s h = (refl, refl, λ _. refl, λ _. refl)
    by false false false true s h = never refl h
    by false false false false true h = never refl h
    by false false false false false h = (refl, refl, λ z. z, λ z. z)

module _ {gives : Bool} {k : Kind} (c : Calmly gives k) where
  -- no write of ep_config
  still : {X : Type 0} → (is k turning || is k resetting) ≡ true → X
  still h = by (is k turning) (is k resetting) c.turns c.resets h
    where
      by : {X : Type 0} (t r : Bool) → t ≡ false → r ≡ false → (t || r) ≡ true → X
      by true r p q h = never p refl
      by false r p q h = never q h

  unless-true : (b : Bool) → (b ≡ true → ⊥) → b ≡ false
  unless-true true f = absurd (f refl)
  unless-true false f = refl

  quiet-so : (b : Bool) → b ≡ false → When (not b) (Unit {0})
  quiet-so true h = absurd (true≢false h)
  quiet-so false h = tt

  quiet : (q : Access) → may_ask k q ≡ true → NotEpConfigWrite q
  quiet q h = quiet-so (writes_config q) (of-write (λ r e v. may_write k (number_of r) v) (λ r e v. same_reg r EpConfig)
      (λ r e v m. unless-true (same_reg r EpConfig) (λ g. still (writes-config k r v m g))) q h)

  quietly : (q : Access) → Asks k q → NotEpConfigWrite q
  quietly q x = quiet q (if-true (may_ask k q) (Unit {0}) x)

  acts : (q : Act) → may_act k q ≡ true → allowed gives q ≡ true
  acts (complete e) h = refl
  acts (reset_ring d e) h = refl
  acts (set_enabled_lem d e on) h = never c.turns h
  acts (fill e bytes) h = refl
  acts (fill0 bytes) h = refl
  acts (open_oldest e) h = refl
  acts (close_oldest e) h = refl
  acts (take_oldest e) h = refl
  acts (enqueue e bytes) h = refl
  acts (allocate d kind address maximum interval) h = c.allocates h
  acts (allocate0 maximum) h = c.starts h
  acts no_wakes h = refl
  acts (waken codes) h = refl

  no_row : {X : Type 0} (g : Burst) → may_row k g ≡ true → X
  no_row (switch e on) h = never c.turns h
  no_row bus_reset_lem h = never c.resets h

  then-so : {X : Type 0} (b : Bool) → b ≡ true → X → When b X
  then-so true h x = x
  then-so false h x = absurd (true≢false (sym h))

  -- a script like a call of such a kind
  steps-calm : {i : Bool} {A : Type 0} (p : Script i A) → Steps k p → NoEpConfigWrite gives p
  steps-calm (ret a) x = tt
  steps-calm (bind p f) x = (steps-calm p x.0, λ a. steps-calm (f a) (x.1 a))
  steps-calm (test b p q) x = (steps-calm p x.0, steps-calm q x.1)
  steps-calm (read_then r e f) x = (quietly (Read r e) x.0, λ v. steps-calm (f v) (x.1 v))
  steps-calm (write_then r e v p) x = (quietly (Write r e v) x.0, steps-calm p x.1)
  steps-calm (wait_then n p) x = (quietly (Wait n) x.0, steps-calm p x.1)
  steps-calm (callback_then p) x = (quietly Callback x.0, steps-calm p x.1)
  steps-calm (get_then s f) x = λ v. steps-calm (f v) (x v)
  steps-calm (put_then s v p) x = steps-calm p (if-so (may_put k s v) x)
  steps-calm (is_then q f) x = λ b. steps-calm (f b) (x b)
  steps-calm (look_then q f) x = λ n. steps-calm (f n) (x n)
  steps-calm (fetch_then q f) x = λ l. steps-calm (f l) (x l)
  steps-calm (act_then q p) x =
      then-so (allowed gives q) (acts q (if-true (may_act k q) (Steps k p) x)) (steps-calm p (if-so (may_act k q) x))
  steps-calm (hand_then q p) x =
      let y : Handed k q p = if-so (not (is k queueing)) x in
      (λ n. quietly (dma_step_ask q n) (y.0 n), steps-calm p y.1)
  steps-calm (row_then g p) x = no_row g (if-true (may_row k g) (Steps k p) x)

call-calm : (gives : Bool) (o : Op) → calmly gives (kind_of o) ≡ true → NoEpConfigWrite gives (code o)
call-calm gives o h = steps-calm (calm-kind gives (kind_of o) h) (code o) (call-steps o)

-- ---- the calls

-- before EP0's start alone, else refused with 4
abbrev pub Early : Other → Type 0
Early o = (s : St) → eqb s.0.globals.stage 1 ≡ false → run concrete (other_code o) s ≡ ends (Refused 4) s

pub data Manner : Op → Type 0 where
  calm : (o : Op) → op_sort o ≡ apart → C (code o) → Manner o
  gives : (o : Other) → Early o → G (other_code o) → Manner (other o)
  turns : (d : Dir) (e : ℕ) (on : Bool) → Manner (slotted (SetEnabled d e on))
  polls : Manner (other BusPoll)

as-apart : (o : Op) → op_sort o ≡ apart → calmly false (kind_of o) ≡ true → Manner o
as-apart o s h = calm o s (call-calm false o h)

as-given : (o : Other) → Early o → calmly true (kind_of (other o)) ≡ true → Manner (other o)
as-given o s h = gives o s (call-calm true (other o) h)

of-slotted : (o : Slotted) → Manner (slotted o)
of-slotted (SetEnabled d e on) = turns d e on
of-slotted (PollRead e n) = as-apart (slotted (PollRead e n)) refl refl
of-slotted (BeginWrite e bs) = as-apart (slotted (BeginWrite e bs)) refl refl
of-slotted (PollWrite e bs) = as-apart (slotted (PollWrite e bs)) refl refl
of-slotted (PollDataOut n) = as-apart (slotted (PollDataOut n)) refl refl
of-slotted (BeginDataIn bs first last) = as-apart (slotted (BeginDataIn bs first last)) refl refl

of_other : (o : Other) → Manner (other o)
of_other (Allocate d kind address maximum interval) = as-given (Allocate d kind address maximum interval)
    (λ s h. rw h refl) refl
of_other (AllocateAll bytes) = as-given (AllocateAll bytes) (λ s h. rw h refl) refl
of_other (Start maximum) = as-given (Start maximum) (λ s h. rw h refl) refl
of_other BusPoll = polls
of_other BusEnable = as-apart (other BusEnable) refl refl
of_other BusDisable = as-apart (other BusDisable) refl refl
of_other Microframe = as-apart (other Microframe) refl refl
of_other (SetStalled d e on) = as-apart (other (SetStalled d e on)) refl refl
of_other (IsStalled d e) = as-apart (other (IsStalled d e)) refl refl
of_other (SetPaced e on) = as-apart (other (SetPaced e on)) refl refl
of_other (Advance e) = as-apart (other (Advance e)) refl refl
of_other (BeginRead e n) = as-apart (other (BeginRead e n)) refl refl
of_other BeginSetup = as-apart (other BeginSetup) refl refl
of_other PollSetup = as-apart (other PollSetup) refl refl
of_other PollDataIn = as-apart (other PollDataIn) refl refl
of_other BeginAccept = as-apart (other BeginAccept) refl refl
of_other PollAccept = as-apart (other PollAccept) refl refl
of_other BeginReject = as-apart (other BeginReject) refl refl
of_other (BeginDataOut n first) = as-apart (other (BeginDataOut n first)) refl refl
of_other (BeginAcceptSetAddress a) = as-apart (other (BeginAcceptSetAddress a)) refl refl

pub of-aside : (o : Aside) → C (aside_code o)
of-aside o = call-calm false (aside o) refl

pub manner : (o : Op) → Manner o
manner interrupt = as-apart interrupt refl refl
manner (slotted o) = of-slotted o
manner (other o) = of_other o
manner (aside o) = calm (aside o) refl (of-aside o)

pub start-up-calm : (c : Config) → C (the-calls.starting c)
start-up-calm c = steps-calm (calm-kind false plain refl) (the-calls.starting c) (start-up-steps plain c)
