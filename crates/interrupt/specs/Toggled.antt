-- What is left to run at each point of `toggled` (mod.rs 433-459); the direction and the endpoint are the environment
use Rattle.std.specs.Prelude.{◌≡◌, Bool, true, false, List, ℕ}
use Rattle.regs.specs.declared.Reg.TheVariants.{MisSt, EpRxCtrl}
use Rattle.regs.specs.declared.Dir.{Dir}
use Rattle.regs.specs.Registers.{ctrl_of, width_of}
use Rattle.regs.specs.ControlWord.{ack}
use Rattle.state.specs.Driver.{Driver}
use Rattle.script.specs.Tree as tree
use Rattle.script.specs.Tree.{asks, ends, bind_out}
use Rattle.script.specs.Script.{Script, run, ret, ◌>>=◌, ◌>>◌, read, write}
use Rattle.script.specs.Machine.{Awaits, nothing, reading, awaited}
use Rattle.script.specs.Handler.{verdict}
use Rattle.script_ops.specs.Rings.{St}
use Rattle.script_ops.specs.Concrete.{concrete}
use Rattle.script_ops.specs.Numbers.{fits}
use Rattle.interrupt.specs.declared.toggled.Toggled.{Toggled}
use Rattle.interrupt.specs.declared.toggled.Toggled.TheVariants as point
use Rattle.interrupt.specs.declared.toggled.ToggledNext.{ToggledNext}
use Rattle.interrupt.specs.declared.toggled.ToggledNext.TheVariants as next
use Rattle.interrupt.specs.Wait.{looked}

unfoldable pub after_word : Dir → ℕ → ℕ → Script true Bool
after_word dir ep word = verdict dir ep word

unfoldable pub after_wait : Dir → ℕ → Script true Bool
after_wait dir ep = do
  word ← read (ctrl_of dir) ep
  after_word dir ep word

abbrev pub denote : Dir → ℕ → Toggled → ℕ → tree.Prog St Bool
denote dir ep (point.Look n) v t = bind_out (looked v n t) (λ _ u. run concrete (after_wait dir ep) u)
denote dir ep point.Word v t = run concrete (after_word dir ep v) t
denote dir ep point.AckRead v t = run concrete (do
  write {i = true} (ctrl_of dir) ep (ack v)
  ret false) t
denote dir ep point.Acked v t = ends false t

abbrev pub meaning : Dir → ℕ → ToggledNext → Driver → List ℕ → tree.Out St Bool
meaning dir ep (next.Asks q p) d b = asks q (d, b) (λ v t. denote dir ep p v t)
meaning dir ep (next.Ends x) d b = ends x (d, b)

abbrev pub awaits_at : Toggled → Awaits
awaits_at (point.Look n) = reading (width_of MisSt)
awaits_at point.Word = reading (width_of EpRxCtrl)
awaits_at point.AckRead = reading (width_of EpRxCtrl)
awaits_at point.Acked = nothing

abbrev pub Linked : ToggledNext → Type 0
Linked (next.Asks q p) = awaited q ≡ awaits_at p
Linked (next.Ends x) = Unit {0}

-- row 16 turned round
unfoldable pub fits_at : Toggled → ℕ → Bool
fits_at p v = fits (awaits_at p) v
