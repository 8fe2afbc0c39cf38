-- What is under way, as the saved record says it, and the machine of calls that the lent bytes are
use Rattle.std.specs.Prelude.{Bool, true, false, cond, List, ◌++◌, ◌≡◌, ℕ, ◌*◌, eqb, length}
use Rattle.regs.specs.declared.Access.{Access}
use Rattle.state.specs.declared.Saved.{Saved}
use Rattle.state.specs.Driver.{Driver}
use Rattle.state.specs.State.{view, saved}
use Rattle.state.specs.Fresh as fresh
use Rattle.script.specs.Tree.{bind_out}
use Rattle.script.specs.Script.{◌>>=◌, run}
use Rattle.script.specs.Answers.{Answer, Refused, NotYet, Done, Shown}
use Rattle.script.specs.Calls.{calls}
use Rattle.script.specs.Machine as machine
use Rattle.script.specs.Machine.{Buf, Pending, idle, busy, Machine, Ans, ended, handed, told, continued}
use Rattle.script_ops.specs.Numbers.{DRIVER, BUS, CONTROL, ENDPOINT, ADVANCE, INTERRUPT}
use Rattle.script_ops.specs.Concrete.{concrete}
use Rattle.driver.specs.Points as driver
use Rattle.driver.specs.Codec as codec
use Rattle.bus.specs.Points as bus
use Rattle.bus.specs.Codec as busCodec
use Rattle.script_ops.specs.Answers.{brought_by}
use Rattle.control.specs.Points as control
use Rattle.control.specs.Codec as controlCodec
use Rattle.endpoint.specs.Points as endpoint
use Rattle.endpoint.specs.Codec as endpointCodec
use Rattle.isochronous.specs.Advance as advance
use Rattle.isochronous.specs.Codec as advanceCodec
use Rattle.interrupt.specs.Points as handler
use Rattle.interrupt.specs.Codec as handlerCodec
use Rattle.machine.specs.declared.Suspended.{Suspended}
use Rattle.machine.specs.declared.Suspended.TheVariants as under
use Rattle.answer.specs.declared.Step.{Step}
use Rattle.answer.specs.declared.Step.TheVariants as step
pub use Rattle.answer.specs.Answering.{with_tag, finish, driver_of, config_of, drive, halts_as, halts, answer_of}

-- ---- the saved record: its tag says whose point it is, 0 or an unknown one that nothing is under way

abbrev pub as_saved : Suspended → Saved
as_saved under.Idle = fresh.nothing
as_saved (under.Driver p) = with_tag DRIVER (codec.as_numbers p)
as_saved (under.Bus p) = with_tag BUS (busCodec.as_numbers p)
as_saved (under.Control p) = with_tag CONTROL (controlCodec.as_numbers p)
as_saved (under.Endpoint p) = with_tag ENDPOINT (endpointCodec.as_numbers p)
as_saved (under.Advance p) = with_tag ADVANCE (advanceCodec.as_numbers p)
as_saved (under.Interrupt p) = with_tag INTERRUPT (handlerCodec.as_numbers p)

unfoldable pub encode : Suspended → Saved
encode u = as_saved u

unfoldable pub decode : Saved → Suspended
decode c =
    cond (eqb c.tag DRIVER) (under.Driver (codec.decode c))
    (cond (eqb c.tag BUS) (under.Bus (busCodec.decode c))
    (cond (eqb c.tag CONTROL) (under.Control (controlCodec.decode c))
    (cond (eqb c.tag ENDPOINT) (under.Endpoint (endpointCodec.decode c))
    (cond (eqb c.tag ADVANCE) (under.Advance (advanceCodec.decode c))
    (cond (eqb c.tag INTERRUPT) (under.Interrupt (handlerCodec.decode c))
    under.Idle)))))

-- ---- what is left of the call

abbrev pub way_of : Suspended → Pending Answer Driver
way_of under.Idle = idle
way_of (under.Driver p) = busy false (driver.awaits_at p) (λ v t. run concrete (driver.denote p v >>= finish) t)
way_of (under.Bus p) = busy false (bus.awaits_at p) (λ v t. bind_out (bus.denote p v t) (λ n u. run concrete (finish n) u))
way_of (under.Control p) = busy false (control.awaits_at p) (λ v t. run concrete (control.denote p v >>= finish) t)
way_of (under.Endpoint p) = busy false (endpoint.awaits_at p) (λ v t. run concrete (endpoint.denote p v >>= finish) t)
way_of (under.Advance p) = busy false (advance.awaits_at p)
    (λ v t. bind_out (advance.denote p v t) (λ n u. run concrete (finish n) u))
way_of (under.Interrupt p) = busy true (handler.awaits_at p)
    (λ v t. bind_out (handler.denote p v t) (λ n u. run concrete (finish n) u))

abbrev pub machine_at : Suspended → Driver → Buf → Machine Answer Driver
machine_at u d b = record { under_way_lem = way_of u; st = d; buf = b }

-- the lent state's bytes and the slot buffer, as a machine of calls
abbrev pub machine_of : List ℕ → Buf → Machine Answer Driver
machine_of xs b = machine_at (decode (saved xs)) (view xs) b

-- what a continue comes to, with the number brought
abbrev pub resumed : ℕ → Suspended → Driver → Buf → Ans Answer × Machine Answer Driver
resumed v u d b = continued calls driver_of (λ s. s) v (machine_at u d b) (way_of u) b

-- the access is handed out, and the operation under way
abbrev pub handed_out : Access → Suspended → Driver → Buf → Ans Answer × Machine Answer Driver
handed_out q u d b = (handed q, machine_at u d b)

-- the slice after a poll that answers so
abbrev pub lent_by : Ans Answer → List ℕ → List ℕ
lent_by (ended a) out = brought_by a out
lent_by (handed q) out = out
lent_by (told n) out = out

-- row 1: as long as the driver's buffers
unfoldable pub slots_fit : Driver → Buf → Bool
slots_fit d b = eqb (length b) (d.allocator.count * d.allocator.size)

-- the slot buffer after a call that brought it: where its length was wrong, the run's own stays
abbrev pub lent_or : Driver → Buf → Buf → Buf → Buf
lent_or d b after old = cond (slots_fit d b) after old

-- row 1: a slot buffer of a wrong length comes back as it was
abbrev pub BufferUnchangedOnRow1 : Driver → Buf → Buf → Type 0
BufferUnchangedOnRow1 d b after = slots_fit d b ≡ false → after ≡ b

-- the 22 saved bytes are canonical: the encoding of what is under way, all zero where nothing is
abbrev pub Canonical : List ℕ → Type 0
Canonical xs = saved xs ≡ encode (decode (saved xs))

-- the 22 saved bytes after a call that begins an operation, goes on with one or polls, by its answer: where it hands
-- out an access they are canonical, where an operation has ended all are zero; after all else, a refusal, they stay
abbrev pub SavedByAnswer : Step → List ℕ → List ℕ → Type 0
SavedByAnswer (step.Refused n) xs ys = saved ys ≡ saved xs
SavedByAnswer (step.Asks q) xs ys = Canonical ys
SavedByAnswer (step.Ends n k) xs ys = saved ys ≡ fresh.nothing
SavedByAnswer step.NotYet xs ys = saved ys ≡ saved xs
SavedByAnswer (step.Done n) xs ys = saved ys ≡ saved xs
SavedByAnswer (step.Setup low high) xs ys = saved ys ≡ saved xs
SavedByAnswer (step.Shown at n stamp) xs ys = saved ys ≡ saved xs

-- of an access handed out or an end: whatever was saved before
abbrev pub Stored : Step → List ℕ → Type 0
Stored r ys = (xs : List ℕ) → SavedByAnswer r xs ys

-- of an answer that comes with what was saved before
abbrev pub KeepsSaved : Step → Type 0
KeepsSaved r = (xs ys : List ℕ) → saved ys ≡ saved xs → SavedByAnswer r xs ys
