use borrow.Author.Rules.{rules}
use Rattle.readings.specs.Readings.{lent}
use Rattle.usbhs_c.specs.ReadingsLaws.{frame-through, frame_on, continued}
use Rattle.usbhs_c.proofs.together.usbhs_continue_released.Goals as goal

pub enum_told-1 : goal.enum_told-1
enum_told-1 c = search rules

pub returns-in-Word : goal.returns-in-Word
returns-in-Word c =
    let m = lent c.released-n.new.s c.released-n.new.slots c.args.time.now in
    frame-through _ c.args.driver c.args.frame c.released-n.result _ m
    (c.released-n.ensures c.args.driver c.args.time.now)
    c.in-Word.is

pub returns-in-No : goal.returns-in-No
returns-in-No c =
    let m = lent c.released-n.new.s c.released-n.new.slots c.args.time.now in
    frame_on _ c.args.driver c.args.frame c.released-n.result _ m (c.released-n.ensures c.args.driver c.args.time.now)
    c.in-No.is _ (lent _ _ _) (lent _ _ _)
    (continued _ c.args.driver 0 m (lent _ _ _) c.go_on-word.ensures) c.bring_frame.ensures
