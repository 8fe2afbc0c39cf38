-- The begins and polls of reads, writes and control stages do what Steps.antt says of their kind. Proofs as in
-- StepsInterrupt
use Rattle.std.specs.Prelude.{Bool, true, false, List, ℕ}
use Rattle.regs.specs.declared.Dir.{Dir}
use Rattle.regs.specs.declared.Dir.TheVariants.{Out, In}
use Rattle.regs.specs.ControlWord.{ACK, DATA1, word_of, ack}
use Rattle.state.specs.declared.Control.{Control}
use Rattle.script.specs.Endpoint.{begin_read, poll_read, begin_write, poll_write}
use Rattle.script.specs.Control.{acks, take_closing}
use Rattle.script.specs.Control.{begin_data_out, poll_data_out, begin_data_in, poll_data_in}
use Rattle.script.specs.Steps.{Kind, plain, reading, receiving, queueing, Steps}
use Rattle.script.specs.StepsInterrupt.{control}

-- ---- what stands around a call's own steps, which are of type X

module _ {A B X : Type 0} where
  -- a row of refusals that stands before
  pub behind : X → (A → Unit {0}) × (B → X × Unit {0})
  behind x = (λ _. tt, λ _. (x, tt))

  -- a row that stands after its test
  pub unless : X → (A → Unit {0}) × (B → Unit {0} × X)
  unless x = (λ _. tt, λ _. (tt, x))

-- of an endpoint that is enabled, else y
chosen : {A B X Y : Type 0} → Y → X → (A → Unit {0}) × (B → X × Y)
chosen y x = (λ _. tt, λ _. (x, y))

-- after an assignment; of a record whose maximum allows it
pub noted : {A X : Type 0} → X → Unit {0} × (A → X)
noted x = (tt, λ _. x)

begins : {A B C X : Type 0} → X → (A → Unit {0}) × (B → Unit {0} × (Unit {0} × (C → X)))
begins x = (λ _. tt, λ _. (tt, (tt, λ _. x)))

-- of a request that is under way
pub asked : {A B : Type 0} {X : B → Type 0} → ((c : B) → X c) → (A → Unit {0}) × ((c : B) → X c × Unit {0})
asked x = (λ _. tt, λ c. (x c, tt))

module _ {A B C D : Type 0} where
  -- an operation, with and without a result
  pub operated : {X : Type 0} → X → Unit {0} × (A → X × (B → (C → Unit {0}) × (D → Unit {0})))
  operated x = (tt, λ _. (x, λ _. (λ _. tt, λ _. tt)))

  pub resultless : {E X : Type 0} → X → Unit {0} × (A → (X × (E → Unit {0})) × (B → (C → Unit {0}) × (D → Unit {0})))
  resultless x = (tt, λ _. ((x, λ _. tt), λ _. (λ _. tt, λ _. tt)))

-- ---- reads and writes

-- a poll, by the record, of a request with the same length
polls : {A B C D E F G H : Type 0} {X : D → Type 0} → ((s : D) → X s) → (A → Unit {0}) × (B → Unit {0}
    × (((C → Unit {0}) × ((s : D) → X s)) × (((E → Unit {0}) × (F → Unit {0})) × (G → Unit {0} × (H → Unit {0})))))
polls x = (λ _. tt, λ _. (tt, ((λ _. tt, x), ((λ _. tt, λ _. tt), λ _. (tt, λ _. tt)))))

pub of-poll-read : (e n : ℕ) → Steps plain (poll_read {i = false} e n)
of-poll-read e n = behind (behind (polls (λ s. (
  chosen (tt, λ _. tt) (λ _. tt, λ _. ((λ _. tt, λ _. (tt, λ _. (tt, λ _. tt))), tt)),
  (((λ _. tt, λ _. tt), λ _. ((tt, λ _. tt), (λ _. tt, λ _. (tt, λ _. tt)))), chosen (tt, λ _. tt) tt),
))))

pub of-poll-write : (e : ℕ) (bs : List ℕ) → Steps queueing (poll_write {i = false} e bs)
of-poll-write e bs = behind (behind (polls (λ s. (
  chosen (tt, λ _. tt) (λ _. tt, λ _. ((tt, λ _. (tt, λ _. tt)), tt)),
  (((λ _. tt, λ _. tt), λ _. (tt, λ _. tt)), chosen (tt, λ _. tt) tt),
))))

pub of-begin-read : (e n : ℕ) → Steps reading (begin_read {i = false} e n)
of-begin-read e n = behind (behind (chosen tt (begins (resultless
    (tt, (tt, ((λ _. tt, λ _. tt), λ _. ((tt, λ _. tt), λ _. (tt, tt)))))))))

pub of-begin-write : (e : ℕ) (bs : List ℕ) → Steps plain (begin_write {i = false} e bs)
of-begin-write e bs = behind (behind (chosen tt (begins (resultless
    (tt, (tt, λ _. ((λ _. tt, λ _. tt), λ _. ((tt, tt), λ _. ((tt, λ _. tt), λ _. (tt, tt))))))))))

-- ---- control stages

pub of-acks : (k : Kind) (d : Dir) (first : Bool) → Steps k (acks {i = false} d first)
of-acks k d true = (control k d (word_of ACK DATA1 false), tt)
of-acks k d false = ((tt, λ _. tt), λ w. (control k d (ack w), tt))

pub of-begin-data-out : (n : ℕ) (first : Bool) → Steps receiving (begin_data_out {i = false} n first)
of-begin-data-out n first =
    behind (unless (unless (noted (resultless ((λ _. tt, λ _. tt), λ _. of-acks receiving Out first)))))

pub of-poll-data-out : (n : ℕ) → Steps plain (poll_data_out {i = false} n)
of-poll-data-out n = behind (asked (λ c. (
  (
    λ _. tt,
    λ _. (
      ((λ _. tt, λ _. tt), λ _. ((tt, λ _. tt), (λ _. tt, λ _. (tt, λ _. tt)))),
      (λ _. tt, λ _. ((tt, λ _. tt), tt)),
    ),
  ),
  ((λ _. tt, λ _. tt), λ _. (tt, λ _. tt)),
)))

pub of-begin-data-in : (bs : List ℕ) (first last : Bool) → Steps plain (begin_data_in {i = false} bs first last)
of-begin-data-in bs first last = behind (unless (unless (noted (resultless (noted (
  (λ _. tt, λ _. tt),
  λ _. (
    (((λ _. tt, λ _. tt), λ _. (tt, tt)), tt),
    λ _.
        ((λ _. tt, λ _. tt), λ _. ((tt, tt), λ _. of-acks plain In first)),
  ),
))))))

of-closing : (now : Bool) (c : Control) → Steps plain (take_closing {i = false} now c)
of-closing now c = (
  λ _. tt,
  λ _. (
    ((λ _. tt, λ _. tt), λ _. (((λ _. tt, λ _. tt), tt), λ _. (tt, λ _. tt))),
    (λ _. tt, λ _. ((tt, λ _. tt), ((((λ _. tt, λ _. tt), λ _. tt), tt), λ _. tt))),
  ),
)

pub of-poll-data-in : Steps plain (poll_data_in {i = false})
of-poll-data-in = behind (asked (λ c. (
  of-closing false c,
  (λ _. tt, λ _. ((of-closing true c, ((λ _. tt, λ _. tt), λ _. (tt, λ _. tt))), (λ _. tt, λ _. ((tt, λ _. tt), tt)))),
)))
