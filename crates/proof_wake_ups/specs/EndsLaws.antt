-- Laws on the definitions of Ends.antt
use Rattle.std.specs.Prelude.{Bool, true, false, cond, List, [], ℕ, eqb}
use Rattle.std.proofs.Common.{arith}
use Rattle.regs.specs.declared.Dir.{Dir}
use Rattle.regs.specs.declared.Dir.TheVariants.{Out, In}
use Rattle.state.specs.declared.Control.{Control}
use Rattle.alloc.specs.declared.Answer as alloc-answer
use Rattle.alloc.specs.declared.Answer.TheVariants as alloc
use Rattle.alloc.specs.Alloc.{allocate_of, allocate_ep0_of}
use Rattle.descriptor.specs.declared.Answer as reading-answer
use Rattle.descriptor.specs.declared.Answer.TheVariants as reading
use Rattle.descriptor.specs.Reading.{reading_of}
use Rattle.script.specs.Tree as tree
use Rattle.script.specs.Tree.{ends, asks, bind_out}
use Rattle.script.specs.Cells.{EpCore}
use Rattle.script.specs.Script.{Script, run, ret, bind, test}
use Rattle.script.specs.Answers.{Answer, Refused, Done, operation, staged, named, unless}
use Rattle.script.specs.Endpoint.{enabled_else, ends_request, polled}
use Rattle.script.specs.Control.{unless_setup, within_maximum, requested, ends_control, aborted_else, take_closing}
use Rattle.script.specs.Driver.{allocated_as, started_as}
use Rattle.script.specs.AllocateAll.{allocate_read}
use Rattle.script.specs.Calls.{Config, Slotted, SetEnabled, PollRead, BeginWrite, PollWrite, PollDataOut, BeginDataIn}
use Rattle.script.specs.Calls.{Other, Allocate, AllocateAll, Start, BusPoll, BusEnable, BusDisable, Microframe}
use Rattle.script.specs.Calls.{SetStalled, IsStalled, SetPaced, Advance, BeginRead, BeginSetup, PollSetup, PollDataIn}
use Rattle.script.specs.Calls.{BeginAccept, PollAccept, BeginReject, BeginDataOut, BeginAcceptSetAddress, Aside, Open}
use Rattle.script.specs.Calls.{Close, Queue, Op, interrupt, slotted, other, aside, slotted_code, other_code, aside_code}
use Rattle.script.specs.Calls.{code, starting}
use Rattle.script_ops.specs.Rings.{St}
use Rattle.script_ops.specs.Concrete.{concrete}
use Rattle.proof_wake_ups.specs.Ends.{Lists, Ends, end, ask}

-- of a script's, from every state
pub record Gives {i : Bool} (p : Script i Answer) : Type 0 where
  pub on : (s : St) → Ends (run concrete p s)

ends-bind : {B : Type 0} (o : tree.Out St B) (f : B → St → tree.Out St Answer) → ((b : B) (s : St) → Ends (f b s))
    → Ends (bind_out o f)
ends-bind (ends b s) f h = h b s
ends-bind (asks q s k) f h = ask (λ v t. ends-bind (k v t) f h)

module _ {i : Bool} where
  g-ret : {a : Answer} → ((w : List ℕ) → Lists a w) → Gives {i = i} (ret a)
  g-ret h = record { on = λ s. end (h _) }

  g-bind : {B : Type 0} {p : Script i B} {f : B → Script i Answer} → ((b : B) → Gives (f b)) → Gives (bind p f)
  g-bind {p = p} h = record { on = λ s. ends-bind (run concrete p s) _ (λ b t. (h b).on t) }

  g-test : {b : Bool} {p q : Script i Answer} → Gives p → Gives q → Gives (test b p q)
  g-test {b = true} x y = record { on = λ s. x.on s }
  g-test {b = false} x y = record { on = λ s. y.on s }

  -- an operation's end gives the list gathered
  g-operation : {p : Script i ℕ} → Gives (operation p)
  g-operation = g-bind (λ _. g-bind (λ n. record { on = λ s. end (omega arith) }))

  g-refused : {n : ℕ} → Gives {i = i} (ret (Refused n))
  g-refused = g-ret (λ w. tt)

  module _ {p : Script i Answer} (x : Gives p) where
    g-staged : (n : ℕ) → Gives (staged n p)
    g-staged n = g-bind (λ _. g-test x g-refused)

    g-named : (d : Dir) (e : ℕ) → Gives (named d e p)
    g-named d e = g-bind (λ _. g-test x g-refused)

    g-unless : {b : Bool} {n : ℕ} → Gives (unless b n p)
    g-unless = g-test g-refused x

    g-unless-setup : Gives (unless_setup p)
    g-unless-setup = g-bind (λ _. g-unless)

    g_within : (n : ℕ) → Gives (within_maximum n p)
    g_within n = g-bind (λ _. g-unless)

    g-enabled : (d : Dir) (e : ℕ) {q : Script i Answer} → Gives q → Gives (enabled_else d e q p)
    g-enabled d e y = g-bind (λ _. g-test x y)

  g-ends-request : {d : Dir} {e : ℕ} {a : Answer} → ((w : List ℕ) → Lists a w) → Gives {i = i} (ends_request d e a)
  g-ends-request h = g-bind (λ _. g-ret h)

  g-ends-control : {a : Answer} → ((w : List ℕ) → Lists a w) → Gives {i = i} (ends_control a)
  g-ends-control h = g-bind (λ _. g-ret h)

  g-aborted : {p : Script i Answer} → Gives p → Gives (aborted_else p)
  g-aborted x = g-bind (λ _. g-test (g-ends-control (λ w. tt)) x)

  g-requested : (sort : ℕ) {p : Control → Script i Answer} → ((c : Control) → Gives (p c)) → Gives (requested sort p)
  g-requested sort x = g-bind (λ c. g-test (x c) g-refused)

  g-polled : (d : Dir) (e n : ℕ) {p : EpCore → Script i Answer} → ((s : EpCore) → Gives (p s)) → Gives (polled d e n p)
  g-polled d e n x = g-bind (λ _. g-unless (g-test (g-bind x) (g-bind (λ _. g-ends-request (λ w. tt)))))

  g-take-closing : (now : Bool) (c : Control) → Gives {i = i} (take_closing now c)
  g-take-closing now c = g-bind (λ s. g-test (g-bind (λ _. g-bind (λ _. g-ends-control (by (eqb s.len 0)))))
      (g-aborted (g-bind (λ _. g-ret (λ w. tt)))))
    where
      by : (b : Bool) (w : List ℕ) → Lists (cond b (Done []) (Refused 10)) w
      by true w = tt
      by false w = tt

  g-allocated : (d : Dir) (kind maximum : ℕ) (a : alloc-answer.Answer) → Gives {i = i} (allocated_as d kind maximum a)
  g-allocated d kind maximum (alloc.Refused n) = g-refused
  g-allocated d kind maximum (alloc.Given ep base slots) = g-operation

  g-started : (maximum : ℕ) (a : alloc-answer.Answer) → Gives {i = i} (started_as maximum a)
  g-started maximum (alloc.Refused n) = g-refused
  g-started maximum (alloc.Given ep base slots) = g-operation

  g-read : (bytes : List ℕ) (a : reading-answer.Answer) → Gives {i = i} (allocate_read bytes a)
  g-read bytes (reading.Refused n) = g-refused
  g-read bytes reading.Listed = g-bind (λ _. g-test (g-bind (λ _. g-operation)) g-refused)

-- ---- the calls

g-slotted : (o : Slotted) → Gives (slotted_code o)
g-slotted (SetEnabled d e on) = g-staged (g-named g-operation d e) 2
g-slotted (PollRead e n) = g-staged (g-named (g-polled Out e n (λ s. g-test
    (g-enabled (g-bind (λ _. g-test (g-bind (λ _. g-bind (λ _. g-ends-request (λ w. tt)))) (g-ret (λ w. tt)))) Out e
    (g-ends-request (λ w. tt)))
    (g-test (g-bind (λ _. g-test (g-ends-request (λ w. tt)) (g-bind (λ _. g-ends-request (λ w. tt)))))
    (g-enabled (g-ret (λ w. tt)) Out e (g-ends-request (λ w. tt)))))) Out e) 2
g-slotted (BeginWrite e bs) = g-staged (g-named (g-enabled (g-bind (λ _. g-unless (g-bind (λ _. g-operation)))) In e
    g-refused) In e) 2
g-slotted (PollWrite e bs) = g-staged (g-named (g-polled In e _ (λ s. g-test
    (g-enabled (g-bind (λ _. g-test (g-bind (λ _. g-ends-request (λ w. tt))) (g-ret (λ w. tt)))) In e
    (g-ends-request (λ w. tt)))
    (g-test (g-bind (λ _. g-ends-request (λ w. tt))) (g-enabled (g-ret (λ w. tt)) In e (g-ends-request (λ w. tt)))))) In
    e) 2
g-slotted (PollDataOut n) = g-staged (g-requested _ (λ c. g-test
    (g-bind (λ _. g-test (g-bind (λ _. g-test (g-ends-control (λ w. tt)) (g-bind (λ _. g-ends-control (λ w. tt)))))
    (g-aborted (g-ret (λ w. tt)))))
    (g-bind (λ _. g-ends-control (λ w. tt))))) 2
g-slotted (BeginDataIn bs first last) = g-staged (g_within (g-unless-setup (g-bind (λ _. g-operation))) _) 2

g-other : (o : Other) → Gives (other_code o)
g-other (Allocate d kind address maximum interval) =
    g-staged (g-bind (λ a. g-bind (λ _. g-allocated d kind maximum (allocate_of a kind address maximum d).answer))) 1
g-other (AllocateAll bytes) = g-staged (g-read bytes (reading_of bytes).answer) 1
g-other (Start maximum) = g-staged (g-bind (λ a. g-bind (λ _. g-started maximum (allocate_ep0_of a maximum).answer))) 1
g-other BusPoll = g-staged g-operation 2
g-other BusEnable = g-staged g-operation 2
g-other BusDisable = g-staged g-operation 2
g-other Microframe = g-staged g-operation 2
g-other (SetStalled d e on) = g-staged (g-test g-operation (g-named g-operation d e)) 2
g-other (IsStalled d e) = g-staged (g-test g-operation (g-named g-operation d e)) 2
g-other (SetPaced e on) = g-staged (g-test (g-bind (λ _. g-ret (λ w. omega arith))) g-refused) 2
g-other (Advance e) = g-staged (g-test g-operation g-refused) 2
g-other (BeginRead e n) = g-staged (g-named (g-enabled (g-bind (λ _. g-unless (g-bind (λ _. g-operation)))) Out e
    g-refused) Out e) 2
g-other BeginSetup = g-staged (g-bind (λ _. g-operation)) 2
g-other PollSetup = g-staged (g-requested _ (λ c. g-bind
    (λ _. g-test (g-bind (λ _. g-ends-control (λ w. tt))) (g-ret (λ w. tt))))) 2
g-other PollDataIn = g-staged (g-requested _ (λ c. g-test (g-take-closing false c)
    (g-bind (λ _. g-test (g-test (g-take-closing true c) (g-bind (λ _. g-ends-control (λ w. tt))))
    (g-aborted (g-ret (λ w. tt))))))) 2
g-other BeginAccept = g-staged (g-unless-setup (g-bind (λ _. g-operation))) 2
g-other PollAccept = g-staged
    (g-requested _ (λ c. g-bind (λ _. g-test (g-bind (λ _. g-bind (λ _. g-test g-operation (g-ret (λ w. tt)))))
    (g-aborted (g-ret (λ w. tt)))))) 2
g-other BeginReject = g-staged (g-bind (λ _. g-operation)) 2
g-other (BeginDataOut n first) = g-staged (g_within (g-unless-setup (g-bind (λ _. g-operation))) n) 2
g-other (BeginAcceptSetAddress a) = g-staged (g-unless-setup (g-bind (λ _. g-operation))) 2

pub g-aside : (o : Aside) → Gives (aside_code o)
g-aside (Open e) = g-staged
    (g-named (g-bind (λ _. g-unless (g-bind (λ _. g-test (g-bind (λ _. g-bind (λ _. g-bind (λ _. g-ret (λ w. tt)))))
    g-refused)))) Out e) 2
g-aside (Close e) = g-staged (g-named (g-bind (λ _. g-test (g-bind (λ _. g-ret (λ w. omega arith))) g-refused)) Out e) 2
g-aside (Queue e bs) = g-staged
    (g-named
    (g-enabled (g-bind (λ _. g-unless (g-bind (λ _. g-unless
    (g-bind (λ _. g-test (g-bind (λ _. g-ret (λ w. omega arith))) g-refused))))))
    In e g-refused) In e) 2

pub gives : (o : Op) → Gives (code o)
gives interrupt = g-staged g-operation 2
gives (slotted o) = g-slotted o
gives (other o) = g-other o
gives (aside o) = g-aside o

pub start-up-gives : (c : Config) → Gives (starting c)
start-up-gives c = g-operation
