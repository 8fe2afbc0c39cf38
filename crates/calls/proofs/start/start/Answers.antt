use mathlib.Core.Path.{◌∙◌, sym, refl}
use borrow.Author.Tests.{eq-eqb}
use Rattle.script.specs.Calls as calls
use Rattle.machine.specs.Suspended.{decode}
use Rattle.state.specs.State.{view, saved}
use Rattle.machine.proofs.ContractsLaws.{other-stopped}
use Rattle.calls.specs.Begins.{starting, start-begins, start-refused}
use Rattle.calls.proofs.start.start.Goals as goal

pub returns-in-Refused : goal.returns-in-Refused
returns-in-Refused c = (
  λ a b. simp (c.allocate0-z.ensures.s_after, c.allocate0-z.ensures.s_unchanged) (start-refused (decode (saved c.args.s.now)) (view c.args.s.now) a b
      c.args.maximum _
      (eq-eqb _ _ (sym c.stop-n.ensures ∙ c.if-n-eq0.true)) (sym c.allocate0-z.ensures.value ∙ c.in-Refused.is)),
  c.allocate0-z.ensures.s_unchanged,
)

pub suspend_or_end-requires : goal.suspend_or_end-requires
suspend_or_end-requires c = c.start_ep0.ensures.1

pub returns-in-Given : goal.returns-in-Given
returns-in-Given c = (
  λ a b. c.suspend_or_end.ensures.steps_to b ∙ simp c.start_ep0.ensures.0 (simp
      (c.clear_wakes.ensures.s_after, c.allocate0-z.ensures.s_after)
      (start-begins (decode (saved c.args.s.now)) (view c.args.s.now) a b c.args.maximum _ _ _
      (eq-eqb _ _ (sym c.stop-n.ensures ∙ c.if-n-eq0.true)) (sym c.allocate0-z.ensures.value
      ∙ c.in-Given.is))),
  c.suspend_or_end.ensures.stored _,
)

pub returns : goal.returns
returns c =
    other-stopped (calls.Start c.args.maximum) 1 (starting c.args.maximum) _
    c.stop-n.ensures (λ b. refl) c.if-n-eq0.false
