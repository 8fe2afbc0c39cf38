use mathlib.Core.List.{[]}
use Rattle.state.specs.State.{view, saved}
use Rattle.usbhs_c.specs.SetupLaws.{told-by, setup-no-slice}
use Rattle.machine.specs.KeepsLaws.{kept-told}
use Rattle.answer.specs.Goes.{StepResult}
use Rattle.machine.specs.Suspended.{decode, lent_by}
use mathlib.Core.Path.{◌∙◌, ap}
use Rattle.usbhs_c.proofs.usbhs_poll_setup.Goals as goal

pub setup_word-requires : goal.setup_word-requires
setup_word-requires c =
    setup-no-slice c.poll_setup.result _ (decode (saved c.args.s.now)) (view c.args.s.now) [] []
    (ap (λ (x : StepResult). x.0) (c.poll_setup.ensures.0 [] []))

pub returns : goal.returns
returns c = (
  (
    c.setup_word.ensures.worded.0,
    c.setup_word.ensures.worded.1,
    (
      λ a b. told-by (c.setup_word.ensures.worded.2 _) (c.poll_setup.ensures.0 a b),
      kept-told c.poll_setup.result c.setup_word.ensures.worded.0 [] _ (view c.args.s.now) _ _
          (c.setup_word.ensures.worded.2 _) c.poll_setup.ensures.1,
    ),
  ),
  λ a b. c.setup_word.ensures.packet_after _
      ∙ ap (λ (x : StepResult). lent_by x.0 c.args.packet.now) (c.poll_setup.ensures.0 a b),
)
