-- Laws on the definitions of Sharing.antt
use Rattle.std.specs.Prelude.{true, false, List, ◌≡◌, refl, ℕ}
use Rattle.std.proofs.Common.{ap, subst}
use Rattle.regs.specs.declared.Dir.{Dir}
use Rattle.state.specs.Driver.{Driver}
use Rattle.script.specs.Answers.{Answer, Refused}
use Rattle.script.specs.Calls.{Config, Op, slotted, SetEnabled, calls}
use Rattle.script.specs.Machine.{Buf, Call, begin, Machine, ended, lent_to}
use Rattle.machine.specs.Suspended.{driver_of, drive}
use Rattle.answer.specs.Goes.{StepResult}
use Rattle.bus_time.specs.Time.{entry_of, passes}
use Rattle.calls.specs.Sharing.{sort_of, charge_on, is_handed, time_after, turned_down, settled, shared_call}

-- not turned down: the driver's call, and the record after it
pub settles : (i : ℕ) (c : Call Config Op) (m : Machine Answer Driver) (t : List ℕ) (b : Buf) (y : StepResult)
    (after : List ℕ)
    → turned_down i (sort_of c) y.0 m.st t ≡ false → y ≡ drive c m b → after
    ≡ time_after i (sort_of c) y.0 m.st t → (y, after) ≡ shared_call i c m t b
unfolding settled
settles i c m t b y after h e k = subst (λ z. (y, after) ≡ settled i (sort_of c) m t b z) e
    (rw h (ap (λ (u : List ℕ). (y, u)) k))

-- turned down
pub refuses : (i : ℕ) (dir : Dir) (e : ℕ) (m : Machine Answer Driver) (t : List ℕ) (b : Buf)
    → is_handed (drive (begin (slotted (SetEnabled dir e true))) m b).0 ≡ true
    → passes t (entry_of i dir e) (charge_on m.st dir e) ≡ true
    → ((ended (Refused 19), lent_to calls driver_of m b), t) ≡ shared_call i (begin (slotted (SetEnabled dir e true))) m t
    b
unfolding settled
refuses i dir e m t b h p = rw (h, p) refl
