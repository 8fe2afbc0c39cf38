-- What an endpoint is charged, "worked out from the history of enables, disables, resets and start-ups" (document 02,
-- request Seven): from the calls, whether each handed out an access, and which accesses write ep_config. No record is
-- looked at, and no word that was written. Definitions
use Rattle.std.specs.Prelude.{cond, List, [], ◌∷◌, ℕ, ◌%◌, eqb}
use Rattle.regs.specs.declared.Access.{Access}
use Rattle.regs.specs.declared.Dir.{Dir}
use Rattle.regs.specs.Enables.{place}
use Rattle.state.specs.Driver.{Driver}
use Rattle.script.specs.Answers.{Answer}
use Rattle.script.specs.Calls.{Config, Op, interrupt, slotted, other, aside}
use Rattle.script.specs.Kinds.{resetting, is, kind_of, Part, apart, begins, polls, turns, part_of}
use Rattle.script.specs.Machine.{Call, start, begin, continue, question, Ans, ended, handed, told}
use Rattle.calls.specs.Sharing.{charge_on}
use Rattle.proof_bus_time.specs.History.{Line}
use Rattle.proof_bus_time.specs.Enabled.{writes_config, sum_of}

-- what a driver began last: an endpoint's enabling or disabling, a poll of the bus, in which a bus reset falls, or
-- something else
pub data Begun : Type 0 where
  enables disables : Dir → ℕ → Begun
  polls-bus neither : Begun

abbrev begun_by : Part → Begun
begun_by (turns dir e on) = cond on (enables dir e) (disables dir e)
begun_by (polls p) = neither
begun_by begins = neither
begun_by apart = neither

abbrev pub op_begun : Op → Begun
op_begun interrupt = neither
op_begun (slotted o) = begun_by (part_of (slotted o))
op_begun (other o) = cond (is (kind_of (other o)) resetting) polls-bus neither
op_begun (aside o) = neither

-- by a call that hands out an access; a continue goes on with what was begun
abbrev pub began : Call Config Op → Begun → Begun
began (start c) last = neither
began (begin o) last = op_begun o
began (continue v) last = last
began (question q) last = last

-- by any call: one that hands out none begins nothing
abbrev pub last_of : Call Config Op → Ans Answer → Begun → Begun
last_of c (ended a) last = last
last_of c (handed q) last = began c last
last_of c (told n) last = last

-- ---- the charge of endpoint e; numbers count modulo 16

-- "an enable counts from its beginning": its maximum plus 38 or 55, by the kind and maximum that its allocation gave it
-- (`allocation-gives`, `given_stays`)
abbrev pub counted : Dir → ℕ → Begun → Driver → ℕ → ℕ
counted dir e (enables dir' e') d charge = cond (eqb (place dir' e') (place dir e)) (charge_on d dir' e') charge
counted dir e (disables dir' e') d charge = charge
counted dir e polls-bus d charge = charge
counted dir e neither d charge = charge

-- "time comes back with the write of a disabling or bus reset that clears its ep_config bit": the charge after a
-- write of ep_config in what was begun last
abbrev pub given_back : Dir → ℕ → Begun → ℕ → ℕ
given_back dir e (enables dir' e') charge = charge
given_back dir e (disables dir' e') charge = cond (eqb (place dir' e') (place dir e)) 0 charge
given_back dir e polls-bus charge = 0
given_back dir e neither charge = charge

-- "or as an accepted start-up begins"
abbrev pub charged_handed : Dir → ℕ → Call Config Op → Access → Driver → Begun → ℕ → ℕ
charged_handed dir e (start c) q d last charge = 0
charged_handed dir e (begin o) q d last charge = counted dir e (op_begun o) d charge
charged_handed dir e (continue v) q d last charge = cond (writes_config q) (given_back dir e last charge) charge
charged_handed dir e (question x) q d last charge = charge

-- after a call with this answer; a call that is refused or hands out no access changes nothing
abbrev pub charged_by : Dir → ℕ → Call Config Op → Ans Answer → Driver → Begun → ℕ → ℕ
charged_by dir e c (ended a) d last charge = charge
charged_by dir e c (handed q) d last charge = charged_handed dir e c q d last charge
charged_by dir e c (told n) d last charge = charge

-- a line of the history, for driver i
abbrev pub last_after : ℕ → Line → Begun → Begun
last_after i l last = cond (eqb (l.who % 4) i) (last_of l.call l.answer last) last

abbrev pub charged_after : ℕ → Dir → ℕ → Line → Begun → ℕ → ℕ
charged_after i dir e l last charge =
    cond (eqb (l.who % 4) i) (charged_by dir e l.call l.answer l.state last charge) charge

-- after a history
abbrev pub charged_from : ℕ → Dir → ℕ → List Line → Begun → ℕ → ℕ
charged_from i dir e [] last charge = charge
charged_from i dir e (l ∷ ls) last charge =
    charged_from i dir e ls (last_after i l last) (charged_after i dir e l last charge)

abbrev pub charged : ℕ → Dir → ℕ → List Line → ℕ
charged i dir e ls = charged_from i dir e ls neither 0

-- the time in use: each endpoint of the four drivers, once
abbrev pub charged_time : List Line → ℕ
charged_time ls = sum_of (λ i dir e. charged i dir e ls)
