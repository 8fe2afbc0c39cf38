-- What a call answers, and the checks that stand before it
use Rattle.std.specs.Prelude.{Bool, ◌&&◌, List, [], ℕ, eqb, ltb}
use Rattle.bits.specs.Bit.{bit_is_set}
use Rattle.regs.specs.declared.Dir.{Dir}
use Rattle.regs.specs.declared.Dir.TheVariants.{Out, In}
use Rattle.state.specs.declared.Allocator.{Allocator}
use Rattle.script.specs.Cells.{globals-cell, allocator-cell}
use Rattle.script.specs.Script.{Script, ret, test, ◌>>=◌, ◌>>◌, get, fetch, act, gathered, no_wakes}

pub data Answer : Type 0 where
  Refused : ℕ → Answer  -- by the row of that number
  End : ℕ → List ℕ → Answer  -- the operation's result (0 where the Rust has none) and its wake-ups, in their order
  NotYet : Answer  -- a poll
  Done : List ℕ → Answer  -- a poll, with the bytes that it brought
  Shown : List ℕ → ℕ → Answer  -- an open packet and its stamp, the microframe index of its admission

-- what an end with a result gives; any other answer gives x
abbrev pub on_end : {A : Type 0} → (ℕ → A) → A → Answer → A
on_end f x (Refused n) = x
on_end f x (End n ws) = f n
on_end f x NotYet = x
on_end f x (Done bytes) = x
on_end f x (Shown bytes stamp) = x

-- an operation: its wake-ups are gathered from none and answered at its end
abbrev pub operation : {i : Bool} → Script i ℕ → Script i Answer
operation p = do
  act no_wakes
  n ← p
  w ← fetch gathered
  ret (End n w)

abbrev pub resultless : {i : Bool} → Script i Unit → Script i Answer
resultless p = operation (do
  p
  ret 0)

-- a call without accesses that passes during an operation: it leaves the wake-ups alone
abbrev pub ok : Answer
ok = End 0 []

-- row 4: 1 after start-up, 2 after EP0's start
abbrev pub staged : {i : Bool} → ℕ → Script i Answer → Script i Answer
staged n p = do
  g ← get globals-cell
  test (eqb g.stage n) p (ret (Refused 4))

-- row 5: an endpoint's number, allocated in the direction
unfoldable pub is_number : ℕ → Bool
is_number e = ltb 0 e && ltb e 16

unfoldable pub is_allocated : Allocator → Dir → ℕ → Bool
is_allocated a Out e = is_number e && bit_is_set a.allocated_out e
is_allocated a In e = is_number e && bit_is_set a.allocated_in e

abbrev pub named : {i : Bool} → Dir → ℕ → Script i Answer → Script i Answer
named d e p = do
  a ← get allocator-cell
  test (is_allocated a d e) p (ret (Refused 5))

-- where `bad` holds, the row's refusal
abbrev pub unless : {i : Bool} → Bool → ℕ → Script i Answer → Script i Answer
unless bad n p = test bad (ret (Refused n)) p
