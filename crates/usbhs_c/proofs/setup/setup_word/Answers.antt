use borrow.Enum.Refused.{opened}
use Rattle.usbhs_c.specs.Setup.{NoSlice}
use Rattle.usbhs_c.specs.SetupLaws.{take-nil, drop-nil}
use mathlib.Core.Path.{◌∙◌, subst}
use Rattle.usbhs_c.proofs.Unshown.{bare-answer}
use Rattle.usbhs_c.proofs.setup.setup_word.Goals as goal

pub returns-in-Setup : goal.returns-in-Setup
returns-in-Setup c =
    record {
      worded = (_, c.word_of.ensures, λ d. simp (c.fill.ensures.packet_after, c.in-Setup.is));
      packet_after = λ d. c.fill.ensures.packet_after_2 ∙ simp c.in-Setup.is;
    }

pub returns-in-Done-clause-worded : goal.returns-in-Done-clause-worded
returns-in-Done-clause-worded c = absurd (subst NoSlice c.in-Done.is c.requires)

pub returns-in-Done-clause-packet_after : goal.returns-in-Done-clause-packet_after
returns-in-Done-clause-packet_after c = absurd (subst NoSlice c.in-Done.is c.requires)

pub returns-in-Shown : goal.returns-in-Shown
returns-in-Shown c =
    record {
      worded = (_, c.word_of-in-Shown.ensures, λ d. simp (take-nil, drop-nil, c.in-Shown.is));
      packet_after = λ d. simp (take-nil, drop-nil, c.in-Shown.is);
    }

pub returns-in_default : goal.returns-in_default
returns-in_default c =
    let b = bare-answer c.args.step (opened c.in_default.in_default-own.keys4) _ in
    record {
      worded = (_, c.word_of-in_default.ensures, λ d. (b d).same);
      packet_after = λ d. (b d).stays;
    }
