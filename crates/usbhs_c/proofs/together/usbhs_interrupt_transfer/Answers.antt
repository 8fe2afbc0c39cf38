use mathlib.Core.List.{[], ◌∷◌}
use mathlib.Core.Path.{sym, ◌∙◌}
use borrow.Author.Rules.{rules}
use Rattle.regs.specs.declared.Reg.TheVariants.{IntSt, MisSt, RxLen}
use Rattle.readings.specs.Readings.{reading, lent}
use Rattle.usbhs_c.specs.ReadingsLaws.{all-through, flags-through, all-begun, not-brought}
use Rattle.usbhs_c.proofs.together.usbhs_interrupt_transfer.Goals as goal

pub returns-then-w-read_word : goal.returns-then-w-read_word
returns-then-w-read_word c =
    let m = lent c.serve-n.new.s c.args.slots.now c.args.time.now in
    flags-through _ c.args.driver c.args.frame c.args.flags c.args.mis c.args.st c.args.len c.serve-n.result _ m
    (c.serve-n.ensures c.args.driver c.args.time.now) _ c.in-Flags.is (lent _ _ _)
    c.bring_mis.ensures

pub enum_told-1 : goal.enum_told-1
enum_told-1 c = search rules

pub returns-in-Transfer : goal.returns-in-Transfer
returns-in-Transfer c =
    let m = lent c.serve-n.new.s c.args.slots.now c.args.time.now in
    all-through _ c.args.driver c.args.frame c.args.flags c.args.mis c.args.st c.args.len c.serve-n.result _ m
    (c.serve-n.ensures c.args.driver c.args.time.now) c.in-Transfer.is

pub returns-else-w-read_word : goal.returns-else-w-read_word
returns-else-w-read_word c =
    let m = lent c.serve-n.new.s c.args.slots.now c.args.time.now in
    flags-through _ c.args.driver c.args.frame c.args.flags c.args.mis c.args.st c.args.len c.serve-n.result _ m
    (c.serve-n.ensures c.args.driver c.args.time.now) _ c.in-Flags.is m
    (λ x says. not-brought c.args.driver MisSt c.args.mis (reading IntSt c.args.st ∷ reading RxLen c.args.len ∷ []) _ x says m
    (λ e. c.if-w-read_word.false (e ∙ sym c.read_word.ensures)))

pub returns-in-No : goal.returns-in-No
returns-in-No c =
    let m = lent c.serve-n.new.s c.args.slots.now c.args.time.now in
    all-begun _ c.args.driver c.args.frame c.args.flags c.args.mis c.args.st c.args.len c.serve-n.result _ m
    (c.serve-n.ensures c.args.driver c.args.time.now) c.in-No.is _ c.usbhs_begin_interrupt-word.new.s
    (lent _ _ _)
    c.usbhs_begin_interrupt-word.ensures c.bring_all.ensures
