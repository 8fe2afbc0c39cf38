-- An allocation and EP0's start after the allocator has answered
use Rattle.std.specs.Prelude.{false, ◌≡◌, refl, ℕ}
use Rattle.std.proofs.Common.{ap, sym, ◌∙◌}
use Rattle.regs.specs.declared.Dir.{Dir}
use Rattle.alloc.specs.declared.Answer as alloc-answer
use Rattle.alloc.specs.declared.Answer.TheVariants as alloc
use Rattle.alloc.specs.Alloc.{allocate_of, allocate_ep0_of}
use Rattle.state.specs.Driver.{Driver, none_gathered}
use Rattle.script.specs.Tree.{bind_out}
use Rattle.script.specs.Cells.{allocator-cell}
use Rattle.script.specs.Script.{Script, ◌>>=◌, ◌>>◌, get, act, allocate, allocate0, run}
use Rattle.script.specs.Answers.{Answer, Refused}
use Rattle.script.specs.Calls.{other, Allocate, Start}
use Rattle.script.specs.Driver.{allocated_as, started_as}
use Rattle.script.specs.Machine.{Buf, ended, begin}
use Rattle.script_ops.specs.Records.{allocated_on, allocated_ep0}
use Rattle.script_ops.specs.Concrete.{concrete, go}
use Rattle.driver.specs.Points.{new_endpoint, start_ep0}
use Rattle.machine.specs.declared.Suspended.{Suspended}
use Rattle.machine.specs.Suspended.{machine_at, finish, drive, halts}
use Rattle.answer.specs.Goes.{StepResult}
use Rattle.machine.proofs.RowsLaws.{back, other-call, passed, Passes, answered-idle}

-- ---- allocation

abbrev pub allocating : Dir → ℕ → ℕ → ℕ → ℕ → Script false Answer
allocating dir kind address maximum interval = do
  x ← get allocator-cell
  act (allocate dir kind address maximum interval)
  allocated_as dir kind maximum (allocate_of x kind address maximum dir).answer

module _ (u : Suspended) (d : Driver) (a b : Buf) (dir : Dir) (kind address maximum interval : ℕ) where
  abbrev allocated_to : alloc-answer.Answer → StepResult
  allocated_to z = halts (run {i = false} concrete (allocated_as dir kind maximum z)
      (allocated_on d dir kind address maximum interval, b))

  allocates : Passes 1 u d → drive (begin (other (Allocate dir kind address maximum interval))) (machine_at u d a) b
      ≡ allocated_to (allocate_of d.allocator kind address maximum dir).answer
  allocates h = other-call (Allocate dir kind address maximum interval) 1 (allocating dir kind address maximum interval)
      u d a b refl
      ∙ passed 1 u d b (allocating dir kind address maximum interval) h

  pub allocate-begins :
      (e base slots : ℕ)
      → Passes 1 u d
      → (allocate_of d.allocator kind address maximum dir).answer ≡ alloc.Given e base slots
      → halts
      (bind_out (go (new_endpoint dir kind maximum e) (none_gathered (allocated_on d dir kind address maximum interval)) b)
      (λ k t. run concrete (finish k) t))
      ≡ drive (begin (other (Allocate dir kind address maximum interval))) (machine_at u d a) b
  allocate-begins e base slots h given = back (allocates h) (ap allocated_to (sym given))

  pub allocate-refused :
      (n : ℕ)
      → Passes 1 u d
      → (allocate_of d.allocator kind address maximum dir).answer ≡ alloc.Refused n
      → (ended (Refused n), machine_at u (allocated_on d dir kind address maximum interval) b)
      ≡ drive (begin (other (Allocate dir kind address maximum interval))) (machine_at u d a) b
  allocate-refused n h given = back (allocates h)
      (answered-idle 1 u d (allocated_on d dir kind address maximum interval) b (Refused n) h
      ∙ ap allocated_to (sym given))

-- ---- EP0's start

abbrev pub starting : ℕ → Script false Answer
starting maximum = do
  x ← get allocator-cell
  act (allocate0 maximum)
  started_as maximum (allocate_ep0_of x maximum).answer

module _ (u : Suspended) (d : Driver) (a b : Buf) (maximum : ℕ) where
  abbrev started_to : alloc-answer.Answer → StepResult
  started_to z = halts (run {i = false} concrete (started_as maximum z) (allocated_ep0 d maximum, b))

  starts : Passes 1 u d → drive (begin (other (Start maximum))) (machine_at u d a) b
      ≡ started_to (allocate_ep0_of d.allocator maximum).answer
  starts h = other-call (Start maximum) 1 (starting maximum) u d a b refl ∙ passed 1 u d b (starting maximum) h

  pub start-begins :
      (e base slots : ℕ)
      → Passes 1 u d
      → (allocate_ep0_of d.allocator maximum).answer ≡ alloc.Given e base slots
      → halts (bind_out (go (start_ep0 maximum) (none_gathered (allocated_ep0 d maximum)) b)
      (λ k t. run concrete (finish k) t))
      ≡ drive (begin (other (Start maximum))) (machine_at u d a) b
  start-begins e base slots h given = back (starts h) (ap started_to (sym given))

  pub start-refused :
      (n : ℕ)
      → Passes 1 u d
      → (allocate_ep0_of d.allocator maximum).answer ≡ alloc.Refused n
      → (ended (Refused n), machine_at u (allocated_ep0 d maximum) b)
      ≡ drive (begin (other (Start maximum))) (machine_at u d a) b
  start-refused n h given = back (starts h) (answered-idle 1 u d (allocated_ep0 d maximum) b (Refused n) h
      ∙ ap started_to (sym given))
