-- What each endpoint is charged, worked out from the history of calls and what they handed out, and the time in use by
-- it. An endpoint is named by its driver and its bit of ep_config
use Rattle.std.specs.Prelude.{cond, List, [], ◌∷◌, ℕ, zero, suc, ◌+◌, ◌%◌, eqb}
use Rattle.bits.specs.Bit.{bit_is_set}
use Rattle.regs.specs.declared.Access.{Access}
use Rattle.regs.specs.declared.Reg.TheVariants.{EpConfig}
use Rattle.regs.specs.Enables.{place}
use Rattle.state.specs.Driver.{Driver}
use Rattle.script.specs.Every.{on_write, same_reg}
use Rattle.script.specs.Answers.{Answer}
use Rattle.script.specs.Calls.{Config, Op}
use Rattle.script.specs.Machine.{Call, Ans, ended, handed, told}
use Rattle.calls.specs.Sharing.{Sort, enabling, starting, going, apart, sort_of, charge_on}
use Rattle.proof_bus_time.specs.Four.{Four, Turn, called, next}

-- a line of it: who called, the call, what it answered, the driver's state before it
pub record Line : Type 0 where
  pub who : ℕ
  pub call : Call Config Op
  pub answer : Ans Answer
  pub state : Driver

abbrev pub line_of : Turn → Four → Line
line_of x f = record {
  who = x.who;
  call = x.event.call;
  answer = (called x f).0.0;
  state = (f.driver (x.who % 4)
      ).st;
}

abbrev pub history : List Turn → Four → List Line
history [] f = []
history (x ∷ xs) f = line_of x f ∷ history xs (next x f)

-- "time comes back with the write .. that clears its ep_config bit"
abbrev pub cleared : ℕ → Access → ℕ → ℕ
cleared bit q charge = on_write (λ r e w. cond (same_reg r EpConfig) (cond (bit_is_set w bit) charge 0) charge) charge q

-- "an enable counts from its beginning"; "or as an accepted start-up begins"
abbrev pub by_access : ℕ → Sort → Access → Driver → ℕ → ℕ
by_access bit (enabling dir e) q d charge = cond (eqb (place dir e) bit) (charge_on d dir e) charge
by_access bit starting q d charge = 0
by_access bit going q d charge = cleared bit q charge
by_access bit apart q d charge = charge

-- a refused call changes nothing
abbrev pub by_answer : ℕ → Sort → Ans Answer → Driver → ℕ → ℕ
by_answer bit x (ended a) d charge = charge
by_answer bit x (handed q) d charge = by_access bit x q d charge
by_answer bit x (told n) d charge = charge

abbrev pub charge_after : ℕ → ℕ → Line → ℕ → ℕ
charge_after i bit l charge =
    cond (eqb (l.who % 4) i) (by_answer bit (sort_of l.call) l.answer l.state charge) charge

-- after a history, from a charge before it
abbrev pub charge_by : ℕ → ℕ → List Line → ℕ → ℕ
charge_by i bit [] charge = charge
charge_by i bit (l ∷ ls) charge = charge_by i bit ls (charge_after i bit l charge)

unfoldable pub sum : (ℕ → ℕ) → ℕ → ℕ
sum f zero = 0
sum f (suc n) = sum f n + f n

-- the time in use: each endpoint of the four drivers, once
abbrev pub time_by : List Line → ℕ
time_by ls = sum (λ i. sum (λ bit. charge_by i bit ls 0) 32) 4
