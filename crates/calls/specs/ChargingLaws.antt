-- Laws on the definitions of Charging.antt
use Rattle.std.specs.Prelude.{List, ◌≡◌, refl, ℕ}
use Rattle.regs.specs.declared.Dir.{Dir}
use Rattle.state.specs.Driver.{Driver}
use Rattle.script.specs.Answers.{Answer}
use Rattle.script.specs.Machine.{Ans, ended, handed, told}
use Rattle.bus_time.specs.Time.{entry_of}
use Rattle.calls.specs.Sharing.{enabling, charge_on, time_after}
use Rattle.calls.specs.Charging.{charged_at}

pub charged-is : (i : ℕ) (dir : Dir) (e : ℕ) (a : Ans Answer) (d : Driver) (t : List ℕ)
    → charged_at a (entry_of i dir e) (charge_on d dir e) t ≡ time_after i (enabling dir e) a d t
charged-is i dir e (ended a) d t = refl
charged-is i dir e (handed q) d t = refl
charged-is i dir e (told n) d t = refl
