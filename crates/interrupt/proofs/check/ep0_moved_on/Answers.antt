use Rattle.interrupt.specs.StopsLaws.{goes_in}
use Rattle.interrupt.specs.MovedLaws.{moved_as}
use Rattle.interrupt.specs.Continuations.{after_check, finish}
use Rattle.script.specs.Tree.{ends}
use Rattle.script.specs.Script.{run}
use Rattle.script.specs.Handler.{ep0_moved_on}
use Rattle.script_ops.specs.Rings.{St}
use Rattle.script_ops.specs.Concrete.{concrete}
use Rattle.regs.specs.declared.Token.{Token}
use Rattle.regs.specs.declared.Token.TheVariants as tok
use Rattle.regs.specs.contracts.Token as declared
use denote.Enum.Declared.{tag_of}
use types.Run.{OneOf, miss}
use mathlib.Core.List.{List, [], ◌∷◌}
use Prim.Native.Nat.{ℕ}
use mathlib.Core.Bool.{true}
use mathlib.Core.Path.{◌≡◌, ◌∙◌, refl, ap}
use borrow.Author.Tests.{ne_eqb}
use borrow.Author.Rules.{rules}
use Rattle.interrupt.proofs.check.ep0_moved_on.Goals as goal

-- SOF and SETUP, the second and the last, tell nothing
abbrev others : List ℕ
others = 1 ∷ 3 ∷ []

quiet : (k : Token) → OneOf others (tag_of declared.the_type k) → (t : St) → ends tt t
    ≡ run concrete (ep0_moved_on {i = true} k) t
quiet tok.Out h t = absurd (miss others 0 tt h)
quiet tok.Sof h t = refl
quiet tok.In h t = absurd (miss others 2 tt h)
quiet tok.Setup h t = refl

pub enum_told-1 : goal.enum_told-1
enum_told-1 c = search rules

pub returns-in-Out : goal.returns-in-Out
returns-in-Out c =
    goes_in c.moved_on.ensures
    (λ b. moved_as _ _ _ c.endpoint.ensures c.if-endpoint-eq0.true c.token-t.ensures
    c.in-Out.is)

pub returns-in-In : goal.returns-in-In
returns-in-In c =
    goes_in c.moved_on-in-In.ensures
    (λ b. moved_as _ _ _ c.endpoint.ensures c.if-endpoint-eq0.true c.token-t.ensures
    c.in-In.is)

pub returns-in_default : goal.returns-in_default
returns-in_default c =
    goes_in c.after_transfer.ensures (λ b. ap (finish _) (quiet c.token-t.result c.in_default.in_default-own.keys3 _)
    ∙ moved_as _ _ _ c.endpoint.ensures c.if-endpoint-eq0.true
    c.token-t.ensures refl)

pub returns-else-endpoint-eq0 : goal.returns-else-endpoint-eq0
unfolding after_check
returns-else-endpoint-eq0 c =
    goes_in c.after_transfer-else-endpoint-eq0.ensures (λ b. simp (← c.endpoint.ensures, ne_eqb _ _ c.if-endpoint-eq0.false))
