use Rattle.interrupt.specs.StopsLaws.{goes_on_lem}
use Rattle.interrupt.specs.Laws.{after, tells-of, when-no, when-yes}
use Rattle.interrupt.specs.Continuations.{after_late, after_sof, serving, sof_due}
use Rattle.isochronous.specs.Late.{late_all}
use Rattle.script_ops.specs.Concrete.{concrete}
use Rattle.script.specs.IsoIn.{on_sof}
use Rattle.script.specs.Script.{run}
use Rattle.state.specs.declared.Globals.{Globals}
use mathlib.Core.Path.{◌∙◌}
use Rattle.interrupt.proofs.serving.serve.Goals as goal

pub then_sof-requires : goal.then_sof-requires
then_sof-requires c = c.on_sof-n.ensures.1.1

pub returns-then-sof_due : goal.returns-then-sof_due
unfolding serving
returns-then-sof_due c =
    goes_on_lem c.then_sof.ensures
    (after c.args.e.setup (λ _ u. run concrete (after_sof c.args.e.x c.args.e.iso c.args.e.frame) u) _ _
    (c.on_sof-n.ensures.0 _)
    ∙ when-yes c.args.e.setup (on_sof c.args.e.frame) (λ _ u. run concrete (after_sof c.args.e.x c.args.e.iso c.args.e.frame)
    u) _ _
    (tells-of (λ (z : Globals). sof_due c.args.e.x z.sof_frame c.args.e.frame) _ _ _ _ c.sof_due.ensures
    c.load_globals-g.ensures c.if-sof_due.true))

pub then_late-requires : goal.then_late-requires
then_late-requires c = c.begin-n.ensures.1.1

pub returns-then-e : goal.returns-then-e
unfolding serving after_sof
returns-then-e c =
    goes_on_lem c.then_late.ensures
    (after c.args.e.setup (λ _ u. run concrete (after_late c.args.e.x c.args.e.iso c.args.e.frame) u) _ _
    (c.begin-n.ensures.0 _)
    ∙ (when-yes c.args.e.setup (late_all c.args.e.frame) (λ _ u. run concrete
    (after_late c.args.e.x c.args.e.iso c.args.e.frame) u) _ _ c.if-e.true
    ∙ when-no c.args.e.setup (on_sof c.args.e.frame) (λ _ u. run concrete (after_sof c.args.e.x c.args.e.iso c.args.e.frame) u)
    _ _
    (tells-of (λ (z : Globals). sof_due c.args.e.x z.sof_frame c.args.e.frame) _ _ _ _ c.sof_due.ensures
    c.load_globals-g.ensures c.if-sof_due.false)))

pub returns : goal.returns
unfolding serving after_sof
returns c =
    goes_on_lem c.after_late.ensures
    (when-no c.args.e.setup (late_all c.args.e.frame) (λ _ u. run concrete (after_late c.args.e.x c.args.e.iso c.args.e.frame)
    u) _ _ c.if-e.false
    ∙ when-no c.args.e.setup (on_sof c.args.e.frame) (λ _ u. run concrete (after_sof c.args.e.x c.args.e.iso c.args.e.frame) u)
    _ _
    (tells-of (λ (z : Globals). sof_due c.args.e.x z.sof_frame c.args.e.frame) _ _ _ _ c.sof_due.ensures
    c.load_globals-g.ensures c.if-sof_due.false))
