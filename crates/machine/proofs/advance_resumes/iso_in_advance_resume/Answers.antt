use Rattle.machine.proofs.PointsStandsLaws.{leads-to, leads-end}
use Rattle.machine.specs.AdvanceLaws.{advance}
use Rattle.isochronous.specs.Advance.{completing}
use Rattle.isochronous.specs.Laws.{paced-none, paced-begun}
use Rattle.script.specs.Tree.{ends}
use Rattle.state.specs.Driver.{Driver}
use Rattle.state.specs.State.{view}
use mathlib.Core.Path.{ap, sym, ◌∙◌}
use Rattle.machine.proofs.advance_resumes.iso_in_advance_resume.Goals as goal

pub returns-then-left-eq0-clause-steps_to : goal.returns-then-left-eq0-clause-steps_to
returns-then-left-eq0-clause-steps_to c =
    (leads-end (λ b. completing c.args.e c.args.left c.args.frame (view c.args.s.now, b)) c.stop.ensures
    (λ b. ap (λ (d : Driver). ends 0 (d, b)) c.store_paced.ensures.s_after
    ∙ sym (paced-none _ _ _ _ b c.if-left-eq0.true))).0

pub returns-then-left-eq0-clause-stored : goal.returns-then-left-eq0-clause-stored
returns-then-left-eq0-clause-stored c =
    (leads-end (λ b. completing c.args.e c.args.left c.args.frame (view c.args.s.now, b)) c.stop.ensures
    (λ b. ap (λ (d : Driver). ends 0 (d, b)) c.store_paced.ensures.s_after
    ∙ sym (paced-none _ _ _ _ b c.if-left-eq0.true))).1

pub returns-in-Sent-clause-steps_to : goal.returns-in-Sent-clause-steps_to
returns-in-Sent-clause-steps_to c =
    (leads-to advance _ c.stand_sent.ensures c.start-x.ensures.1.1
    (λ b. paced-begun _ _ _ c.start-x.result _ _ _ b c.if-left-eq0.false c.in-Sent.is
    (c.start-x.ensures.0 b))).0

pub returns-in-Sent-clause-stored : goal.returns-in-Sent-clause-stored
returns-in-Sent-clause-stored c =
    (leads-to advance _ c.stand_sent.ensures c.start-x.ensures.1.1
    (λ b. paced-begun _ _ _ c.start-x.result _ _ _ b c.if-left-eq0.false c.in-Sent.is
    (c.start-x.ensures.0 b))).1

pub returns-in-Loaded-clause-steps_to : goal.returns-in-Loaded-clause-steps_to
returns-in-Loaded-clause-steps_to c =
    (leads-to advance _ c.stand_loaded.ensures c.start-x.ensures.1.1
    (λ b. paced-begun _ _ _ c.start-x.result _ _ _ b c.if-left-eq0.false c.in-Loaded.is
    (c.start-x.ensures.0 b))).0

pub returns-in-Loaded-clause-stored : goal.returns-in-Loaded-clause-stored
returns-in-Loaded-clause-stored c =
    (leads-to advance _ c.stand_loaded.ensures c.start-x.ensures.1.1
    (λ b. paced-begun _ _ _ c.start-x.result _ _ _ b c.if-left-eq0.false c.in-Loaded.is
    (c.start-x.ensures.0 b))).1
