-- Request Three: the endpoints of a configuration descriptor, allocated as one operation
use Rattle.std.specs.Prelude.{Bool, ◌&&◌, List, [], ◌∷◌, ℕ, zero, suc, ◌+◌, ◌*◌, ◌%◌, eqb, length}
use Rattle.regs.specs.declared.Dir.{Dir}
use Rattle.regs.specs.declared.Dir.TheVariants.{Out, In}
use Rattle.alloc.specs.Alloc.{is_iso, slots_of}
use Rattle.descriptor.specs.declared.Endpoint.{Endpoint}
use Rattle.descriptor.specs.declared.Answer as reading-answer
use Rattle.descriptor.specs.declared.Answer.TheVariants as reading
use Rattle.descriptor.specs.Reading.{reading_of, list_of}
use Rattle.descriptor.specs.Trial.{direction_of, trial_of}
use Rattle.script.specs.Cells.{ep-cell, allocator-cell}
use Rattle.script.specs.Script.{Script, ret, done, test, ◌>>=◌, ◌>>◌, get, act, allocate}
use Rattle.script.specs.Answers.{Answer, Refused, operation, staged, is_allocated}
use Rattle.script.specs.Driver.{new_endpoint}

-- ---- all are allocated, in the list's order

unfoldable pub allocate_each : {i : Bool} → List Endpoint → Script i Unit
allocate_each [] = done
allocate_each (e ∷ es) = do
  act (allocate (direction_of e.address) e.kind e.address e.maximum e.interval)
  allocate_each es

-- ---- then each is announced, in that order. What is left of the operation does not keep the list: the records tell
-- it, since each endpoint's buffers begin where those of the one before it end

-- what an allocation hands out, as the endpoint's record has it
abbrev pub announce : {i : Bool} → Dir → ℕ → Script i ℕ
announce d e = do
  s ← get (ep-cell d e)
  new_endpoint d s.kind s.max_len e

-- the byte where its buffers end
abbrev pub end_of : {i : Bool} → Dir → ℕ → Script i ℕ
end_of d e = do
  a ← get allocator-cell
  s ← get (ep-cell d e)
  ret (s.base + slots_of (is_iso s.kind) d * a.size)

-- of `left` numbers from e on, the one that is allocated in this direction and whose buffers begin at byte x; 0 where
-- there is none
unfoldable pub begins_at : {i : Bool} → Dir → ℕ → ℕ → ℕ → Script i ℕ
begins_at d x zero e = ret {A = ℕ} 0
begins_at d x (suc left) e = do
  a ← get allocator-cell
  s ← get (ep-cell d e)
  test (is_allocated a d e && eqb s.base x) (ret e) (begins_at d x left (suc e))

-- as many as are left, from the one after e on; the result is how many there are in all
unfoldable pub announce_after : {i : Bool} → ℕ → ℕ → Dir → ℕ → Script i ℕ
announce_after zero total d e = ret total
announce_after (suc left) total d e = do
  x ← end_of d e
  o ← begins_at Out x 15 1
  test (eqb o 0)
      (do
        n ← begins_at In x 15 1
        announce In n
        announce_after left total In n)
      (do
        announce Out o
        announce_after left total Out o)

-- the first is given the number of its address
abbrev pub announce_all : {i : Bool} → List Endpoint → Script i ℕ
announce_all [] = ret {A = ℕ} 0
announce_all (e ∷ es) = do
  announce (direction_of e.address) (e.address % 128)
  announce_after (length es) (suc (length es)) (direction_of e.address) (e.address % 128)

-- ---- the call

-- by the refusal of the first that would be refused, 0 where all would be given: all or none
abbrev pub allocate_tried : {i : Bool} → List Endpoint → ℕ → Script i Answer
allocate_tried es refusal = test (eqb refusal 0)
    (do
      allocate_each es
      operation (announce_all es))
    (ret (Refused refusal))

-- 17 and 18 come before any allocation
abbrev pub allocate_read : {i : Bool} → List ℕ → reading-answer.Answer → Script i Answer
allocate_read bytes (reading.Refused n) = ret (Refused n)
allocate_read bytes reading.Listed = do
  a ← get allocator-cell
  allocate_tried (list_of bytes) (trial_of a (list_of bytes)).refusal

abbrev pub allocate_all : {i : Bool} → List ℕ → Script i Answer
allocate_all bytes = staged 1 (allocate_read bytes (reading_of bytes).answer)
