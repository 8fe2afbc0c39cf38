-- Rows: each step agrees, from rest and back to it
use Rattle.std.specs.Prelude.{Bool, true, false, ◌&&◌, ◌≡◌, ℕ, zero, suc, ◌%◌, eqb}
use Rattle.std.proofs.Common.{arith}
use Rattle.bits.specs.Bit.{bit_is_set}
use Rattle.regs.specs.declared.Dir.TheVariants.{Out}
use Rattle.state.specs.declared.EpState.{EpState}
use Rattle.state.specs.Driver.{Driver, ep_on}
use Rattle.script.specs.Script.{Burst, switch, bus_reset_lem, last_of, burst_ask}
use Rattle.script.specs.Simulates.{quiet, mid}
use Rattle.script.specs.Statics.{is_on, iso_outs}
use Rattle.script.specs.Machine.{Buf, blank}
use Rattle.script_ops.specs.Concrete.{concrete}
use Rattle.proof_book.specs.Pages.{OutPage, Pages}
use Rattle.proof_book.specs.Book.{book}
use Rattle.proof_book.specs.Coupling.{AtRest, InRow, Coupling, Good}
use Rattle.proof_book.specs.StepsLaws.{phase-changed}
use Rattle.proof_book.proofs.ResetsLaws.{reset-first, reset-next}
use Rattle.proof_book.proofs.SwitchesLaws.{slot-first, switch-next}

pub rows_first : (g : Burst) (b : Buf) (d : Driver) (t : Pages) → Coupling quiet b d t
    → let n = last_of g in let x = concrete.row g n (d, b) in let t'
    = book.feed (burst_ask g n x.0) (book.driver.ops.row g n (t, b)).1.0 in
    (blank (burst_ask g n x.0) ≡ blank (burst_ask g n (book.driver.ops.row g n (t, b)).0))
    × Coupling (mid g n) x.1.1 x.1.0 t' × Good (burst_ask g n x.0) x.1.1 t'
rows_first (switch e onn) b d t R = slot-first e onn b d t R
rows_first bus_reset_lem b d t R = reset-first b d t R

pub rows_next : (g : Burst) (n : ℕ) (b : Buf) (d : Driver) (t : Pages) → Coupling (mid g (suc n)) b d t
    → let x = concrete.row g n (d, b) in let t' = book.feed (burst_ask g n x.0)
    (book.driver.ops.row g n (t, b)).1.0 in
    (blank (burst_ask g n x.0) ≡ blank (burst_ask g n (book.driver.ops.row g n (t, b)).0))
    × Coupling (mid g n) x.1.1 x.1.0 t' × Good (burst_ask g n x.0) x.1.1 t'
rows_next (switch e onn) n b d t R = switch-next e onn n b d t R
rows_next bus_reset_lem n b d t R = reset-next n b d t R

-- the switched endpoint's armed slot is the head's, and none wait on it
switched-rest : (w u : Bool) (r : EpState) (p : OutPage) → InRow w zero u r p → AtRest u r p
switched-rest true u r p s = record { armed = λ q. s.armed (omega arith); none = λ q. s.none }
switched-rest false u r p s = s

pub rows-finish : (g : Burst) (b : Buf) (d : Driver) (t : Pages) → Coupling (mid g zero) b d t → Coupling quiet b d t
rows-finish (switch e onn) b d t R = phase-changed R tt
    (λ x. switched-rest (eqb (x % 16) (e % 16) && is_on (ep_on d Out x).iso) (bit_is_set (iso_outs d.globals) (x % 16))
    (ep_on d Out x) (t.outs x) (R.arming x))
rows-finish bus_reset_lem b d t R = phase-changed R tt R.arming
