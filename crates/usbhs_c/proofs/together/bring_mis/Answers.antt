use mathlib.Core.List.{[], ◌∷◌}
use mathlib.Core.Path.{sym, ◌∙◌}
use Rattle.regs.specs.declared.Reg.TheVariants.{IntSt, MisSt, RxLen}
use Rattle.readings.specs.Readings.{reading, lent}
use Rattle.usbhs_c.specs.ReadingsLaws.{continued, brought, not-brought}
use Rattle.usbhs_c.proofs.together.bring_mis.Goals as goal

pub returns-then-word-read_word : goal.returns-then-word-read_word
returns-then-word-read_word c x says =
    let l = lent c.args.s.now c.args.slots.now c.args.time.now in
    brought c.args.driver MisSt c.args.mis (reading IntSt c.args.st ∷ reading RxLen c.args.len ∷ []) c.args.word x says
    (c.if-word-read_word.true ∙ c.read_word.ensures) _ _ l (lent _ _ _) (lent _ _ _)
    (continued _ c.args.driver c.args.mis l (lent _ _ _) c.go_on-next.ensures) c.bring.ensures

pub returns : goal.returns
returns c x says =
    not-brought c.args.driver MisSt c.args.mis (reading IntSt c.args.st ∷ reading RxLen c.args.len ∷ []) c.args.word x says
    (lent c.args.s.now c.args.slots.now c.args.time.now) (λ e. c.if-word-read_word.false (e ∙ sym c.read_word.ensures))
