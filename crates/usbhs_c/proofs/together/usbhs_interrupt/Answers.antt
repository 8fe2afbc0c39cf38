use Rattle.readings.specs.Readings.{lent}
use Rattle.usbhs_c.specs.ReadingsLaws.{at-transfer, at-flags, begun, continued}
use borrow.Author.Rules.{rules}
use Rattle.usbhs_c.proofs.together.usbhs_interrupt.Goals as goal

pub enum_told-1 : goal.enum_told-1
enum_told-1 c = search rules

pub returns-in-Mis : goal.returns-in-Mis
returns-in-Mis c =
    let m = lent c.enter-n.new.s c.args.slots.now c.args.time.now in
    at-transfer _ c.args.driver c.args.frame c.args.flags c.enter-n.result _ m
    (c.enter-n.ensures c.args.driver c.args.time.now)
    c.in-Mis.is c.mis_word.ensures

pub returns-in-Flags : goal.returns-in-Flags
returns-in-Flags c =
    let m = lent c.enter-n.new.s c.args.slots.now c.args.time.now in
    at-flags _ c.args.driver c.args.frame c.args.flags c.enter-n.result _ m
    (c.enter-n.ensures c.args.driver c.args.time.now)
    c.in-Flags.is (lent _ _ _)
    (continued _ c.args.driver c.args.flags m (lent _ _ _) c.usbhs_continue.ensures)

pub returns-in-No : goal.returns-in-No
returns-in-No c =
    let m = lent c.enter-n.new.s c.args.slots.now c.args.time.now in
    begun _ c.args.driver c.args.frame c.args.flags c.enter-n.result _ m (c.enter-n.ensures c.args.driver c.args.time.now)
    c.in-No.is _ c.usbhs_begin_interrupt-word.new.s (lent _ _ _) c.usbhs_begin_interrupt-word.ensures c.bring.ensures
