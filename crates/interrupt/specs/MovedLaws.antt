-- EP0's hidden stage by the token that the status shows. Assumes nothing.
use Rattle.std.specs.Prelude.{Bool, true, ◌≡◌, ℕ, eqb}
use Rattle.std.proofs.Common.{◌∙◌, ap, ap₂, sym}
use Rattle.regs.specs.declared.Token.{Token}
use Rattle.regs.specs.Status.{endpoint, token}
use Rattle.script.specs.declared.Transfer.{Transfer}
use Rattle.script.specs.Script.{run, when}
use Rattle.script.specs.Handler.{ep0_moved_on}
use Rattle.script_ops.specs.Rings.{St}
use Rattle.script_ops.specs.Concrete.{concrete}
use Rattle.interrupt.specs.Continuations.{finish, after_check}

-- of EP0
pub moved_as : (setup : Bool) (x : Transfer) (t : St) {e : ℕ} {k known : Token}
    → e ≡ endpoint x.st → e ≡ 0 → k ≡ token x.st → k ≡ known
    → finish setup (run concrete (ep0_moved_on {i = true} known) t) ≡ finish setup (run concrete (after_check x) t)
unfolding after_check
moved_as setup x t h z k l =
    ap₂ (λ (b : Bool) (k : Token). finish setup (run concrete (when b (ep0_moved_on {i = true} k)) t))
    (ap (λ (n : ℕ). eqb n 0) (sym z ∙ h)) (sym l ∙ k)
