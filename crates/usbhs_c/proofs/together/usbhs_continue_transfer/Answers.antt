use Rattle.readings.specs.Readings.{lent}
use Rattle.usbhs_c.specs.ReadingsLaws.{through, gone_on, continued}
use borrow.Author.Rules.{rules}
use Rattle.usbhs_c.proofs.together.usbhs_continue_transfer.Goals as goal

pub enum_told-1 : goal.enum_told-1
enum_told-1 c = search rules

pub returns-in-Word : goal.returns-in-Word
returns-in-Word c =
    let m = lent c.pass-n.new.s c.args.slots.now c.args.time.now in
    through _ c.args.driver c.args.mis c.args.st c.args.len c.pass-n.result _ m
    (c.pass-n.ensures c.args.driver c.args.time.now)
    c.in-Word.is

pub returns-in-No : goal.returns-in-No
returns-in-No c =
    let m = lent c.pass-n.new.s c.args.slots.now c.args.time.now in
    gone_on _ c.args.driver c.args.mis c.args.st c.args.len c.pass-n.result _ m
    (c.pass-n.ensures c.args.driver c.args.time.now)
    c.in-No.is _ (lent _ _ _) (lent _ _ _)
    (continued _ c.args.driver c.args.mis m (lent _ _ _) c.go_on-word.ensures) c.bring.ensures
