use Rattle.machine.specs.Tags.{at_none}
use Rattle.state.specs.State.{saved}
use mathlib.Core.Path.{refl, sym, ◌∙◌}
use Rattle.calls.proofs.resume.resume_at.Goals as goal

pub returns-in-1 : goal.returns-in-1
returns-in-1 c = c.resume_driver.ensures _

pub returns-in-3 : goal.returns-in-3
returns-in-3 c = c.resume_control.ensures _

pub returns-in-4 : goal.returns-in-4
returns-in-4 c = c.resume_endpoint.ensures _

pub returns-in-5 : goal.returns-in-5
returns-in-5 c = c.resume_advance.ensures _

pub returns-in_default : goal.returns-in_default
returns-in_default c =
    record {
      called = simp (at_none (saved c.args.s.now) _ c.tag.ensures c.in_default.in_default-own.rest.0.0.0.0.1
          c.in_default.in_default-own.rest.0.0.0.1 c.in_default.in_default-own.rest.0.0.1 c.in_default.in_default-own.rest.0.1 c.in_default.in_default-own.rest.1
          (λ h. c.requires (sym c.tag.ensures ∙ h)));
      kept = refl;
    }
