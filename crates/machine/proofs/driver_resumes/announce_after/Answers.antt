use Rattle.machine.proofs.PointsStandsLaws.{leads-end}
use Rattle.machine.specs.Stands.{halted}
use Rattle.driver.specs.Announce.{following}
use Rattle.driver.specs.AnnounceLaws.{after_none, after-in, after-out}
use Rattle.script_ops.specs.Concrete.{go}
use Rattle.state.specs.State.{view}
use mathlib.Core.Path.{ap, sym, ◌∙◌}
use Rattle.machine.proofs.driver_resumes.announce_after.Goals as goal

pub returns-then-left-eq0-clause-steps_to : goal.returns-then-left-eq0-clause-steps_to
returns-then-left-eq0-clause-steps_to c =
    (leads-end (λ b. go (following c.args.left c.args.total c.args.dir c.args.e) (view c.args.s.now) b) c.stop.ensures
    (λ b. rw c.if-left-eq0.true (sym (after_none _ _ b _ _)))).0

pub returns-then-left-eq0-clause-stored : goal.returns-then-left-eq0-clause-stored
returns-then-left-eq0-clause-stored c =
    (leads-end (λ b. go (following c.args.left c.args.total c.args.dir c.args.e) (view c.args.s.now) b) c.stop.ensures
    (λ b. rw c.if-left-eq0.true (sym (after_none _ _ b _ _)))).1

pub returns-then-o-eq0 : goal.returns-then-o-eq0
returns-then-o-eq0 c =
    record {
      steps_to = λ b. c.announce.ensures.steps_to b ∙ ap halted (after-in c.args.left c.args.total (view c.args.s.now) b c.args.dir c.args.e _ _
          c.if-left-eq0.false c.end_of-x.ensures
          c.found_at-o.ensures _ c.if-o-eq0.true
          c.found_at-n.ensures);
      stored = c.announce.ensures.stored;
    }

pub returns : goal.returns
returns c =
    record {
      steps_to = λ b. c.announce-2.ensures.steps_to b ∙ ap halted (after-out c.args.left c.args.total (view c.args.s.now) b c.args.dir c.args.e _ _
          c.if-left-eq0.false c.end_of-x.ensures
          c.found_at-o.ensures c.if-o-eq0.false);
      stored = c.announce-2.ensures.stored;
    }
