use Rattle.interrupt.specs.StopsLaws.{goes_on_lem}
use Rattle.regs.specs.declared.Token.{Token}
use Rattle.regs.specs.declared.Token.TheVariants as tok
use Rattle.regs.specs.Status.{is_sof, sof_token, token}
use Prim.Native.Nat.{ℕ}
use mathlib.Core.Bool.{true}
use mathlib.Core.Path.{◌≡◌, ◌∙◌, ap, sym}
use borrow.Author.Rules.{rules}
use Rattle.interrupt.proofs.tokens.dispatch.Goals as goal

sof-told : (k : Token) (st : ℕ) → k ≡ tok.Sof → k ≡ token st → is_sof st ≡ true
unfolding is_sof
sof-told k st h l = ap sof_token (sym l ∙ h)

pub enum_told-1 : goal.enum_told-1
enum_told-1 c = search rules

pub sof_arm-requires : goal.sof_arm-requires
sof_arm-requires c = sof-told _ _ c.in-Sof.is c.token-t.ensures

pub returns-in-Sof : goal.returns-in-Sof
returns-in-Sof c =
    goes_on_lem (c.sof_arm.ensures.0 _, c.sof_arm.ensures.1) (simp (← c.token-t.ensures, c.in-Sof.is))

pub returns-in-Out : goal.returns-in-Out
returns-in-Out c = goes_on_lem c.out_arm.ensures (simp (← c.token-t.ensures, c.in-Out.is))

pub returns-in-In : goal.returns-in-In
returns-in-In c = goes_on_lem c.in_arm.ensures (simp (← c.token-t.ensures, c.in-In.is))

pub returns-in-Setup : goal.returns-in-Setup
returns-in-Setup c =
    goes_on_lem c.after_dispatch.ensures (simp (← c.token-t.ensures, c.in-Setup.is))
