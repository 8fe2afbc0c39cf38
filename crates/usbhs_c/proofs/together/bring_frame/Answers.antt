use mathlib.Core.List.{[]}
use mathlib.Core.Path.{sym, ◌∙◌}
use Rattle.regs.specs.declared.Reg.TheVariants.{FrameNo}
use Rattle.readings.specs.Readings.{lent}
use Rattle.usbhs_c.specs.ReadingsLaws.{continued, last-brought, not-brought}
use Rattle.usbhs_c.proofs.together.bring_frame.Goals as goal

pub returns-then-word-read_word : goal.returns-then-word-read_word
returns-then-word-read_word c x says =
    let l = lent c.args.s.now c.args.slots.now c.args.time.now in
    last-brought c.args.driver FrameNo c.args.frame c.args.word x says (c.if-word-read_word.true ∙ c.read_word.ensures)
    _ l
    (lent _ _ _) (continued _ c.args.driver c.args.frame l (lent _ _ _) c.go_on.ensures)

pub returns : goal.returns
returns c x says =
    not-brought c.args.driver FrameNo c.args.frame [] c.args.word x says
    (lent c.args.s.now c.args.slots.now c.args.time.now) (λ e. c.if-word-read_word.false (e ∙ sym c.read_word.ensures))
