use Rattle.script.specs.Calls as calls
use Rattle.script.specs.Answers.{is_number, operation}
use Rattle.state.specs.State.{view}
use Rattle.isochronous.specs.Advance.{advance}
use Rattle.machine.proofs.RowsLaws.{numbered-call}
use mathlib.Core.Path.{refl, ◌∙◌}
use Rattle.machine.proofs.ContractsLaws.{begins, row-passed, row-refused, row-stopped}
use Rattle.calls.proofs.begins.begin_advance.Goals as goal

pub low-requires : goal.low-requires
low-requires c = simp (← c.is_number.ensures, c.if-is_number.true)

pub suspend_or_end_advance-requires : goal.suspend_or_end_advance-requires
suspend_or_end_advance-requires c = c.iso_in_advance-x.ensures.1.1

pub returns-then-is_number : goal.returns-then-is_number
returns-then-is_number c =
    row-passed (calls.Advance c.args.e) (operation (advance c.args.e)) _ _ c.stop-n.ensures
    (λ a b. numbered-call (calls.Advance c.args.e) c.args.e (operation (advance c.args.e)) _ _ a b refl)
    c.if-n-eq0.true c.is_number.ensures c.if-is_number.true c.suspend_or_end_advance.result _
    (begins (advance c.args.e) (view c.args.s.now) c.suspend_or_end_advance.result _
    c.clear_wakes.ensures.s_after (λ b. c.iso_in_advance-x.ensures.0 b ∙ rw
    c.low.ensures) c.suspend_or_end_advance.ensures.steps_to) (c.suspend_or_end_advance.ensures.stored _)

pub returns-then-n-eq0 : goal.returns-then-n-eq0
returns-then-n-eq0 c =
    row-refused (calls.Advance c.args.e) (operation (advance c.args.e)) _ _ c.stop-n.ensures
    (λ a b. numbered-call (calls.Advance c.args.e) c.args.e (operation (advance c.args.e)) _ _ a b refl)
    c.if-n-eq0.true
    c.is_number.ensures c.if-is_number.false

pub returns : goal.returns
returns c =
    row-stopped (calls.Advance c.args.e) (operation (advance c.args.e)) (is_number c.args.e) _ c.stop-n.ensures
    (λ a b. numbered-call (calls.Advance c.args.e) c.args.e (operation (advance c.args.e)) _ _ a b refl)
    c.if-n-eq0.false
