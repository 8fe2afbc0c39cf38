-- Whose access: "they line up by the accesses not made for it"
use Rattle.std.specs.Prelude.{Bool, true, false, ◌&&◌, ℕ, eqb}
use Rattle.regs.specs.declared.Access.{Access}
use Rattle.regs.specs.declared.Access.TheVariants.{Read, Write, Receive, Transmit, Ep0Dma, Wait, Callback}
use Rattle.regs.specs.declared.Reg.TheVariants.{IntSt}
use Rattle.state.specs.Driver.{Driver}
use Rattle.script.specs.Tree as tree
use Rattle.script.specs.Tree.{ends, asks}
use Rattle.script.specs.Every.{same_reg}
use Rattle.script.specs.Answers.{Answer}
use Rattle.script.specs.Machine.{Pending, idle, busy, Machine}
use Rattle.script_ops.specs.Rings.{St}

-- OUT x's receive address
abbrev pub receives : ℕ → Access → Bool
receives x (Receive e y) = eqb e x
receives x (Read r e) = false
receives x (Write r e y) = false
receives x (Transmit e y) = false
receives x (Ep0Dma y) = false
receives x (Wait n) = false
receives x Callback = false

-- it is handed out next
abbrev pub receives_next : {A : Type 0} → ℕ → tree.Out St A → Bool
receives_next x (ends a s) = false
receives_next x (asks q s k) = receives x q

-- a status word that shows no OUT: a SOF token
abbrev pub sof : ℕ
sof = 16

-- an interrupt's access `q` is made for x: its receive address; and the status read in its check (`check_one`), upon
-- which its receive address is handed out where the status shows no OUT. `o`: what would go on with such a status
abbrev pub made_for : {A : Type 0} → ℕ → Access → tree.Out St A → Bool
made_for x (Receive e y) o = eqb e x
made_for x (Read r e) o = same_reg r IntSt && receives_next x o
made_for x (Write r e y) o = false
made_for x (Transmit e y) o = false
made_for x (Ep0Dma y) o = false
made_for x (Wait n) o = false
made_for x Callback o = false

abbrev pub own_way : ℕ → Access → Pending Answer Driver → St → Bool
own_way x q idle s = false
own_way x q (busy false a k) s = false
own_way x q (busy true a k) s = made_for x q (k sof s)

-- a machine that handed out `q` stands at an access of x's own
abbrev pub own : ℕ → Access → Machine Answer Driver → Bool
own x q m = own_way x q m.under_way_lem (m.st, m.buf)
