use mathlib.Core.Path.{◌∙◌, sym, refl}
use borrow.Author.Tests.{eq-eqb}
use Rattle.script.specs.Calls as calls
use Rattle.machine.specs.Suspended.{decode}
use Rattle.state.specs.State.{view, saved}
use Rattle.machine.proofs.ContractsLaws.{other-stopped}
use Rattle.calls.specs.Begins.{allocating, allocate-begins, allocate-refused}
use Rattle.calls.proofs.start.allocate.Goals as goal

pub returns-in-Refused : goal.returns-in-Refused
returns-in-Refused c = (
  λ a b. simp (c.allocate-z.ensures.s_after, c.allocate-z.ensures.s_unchanged) (allocate-refused (decode (saved c.args.s.now)) (view c.args.s.now) a
      b c.args.dir c.args.kind
      c.args.address c.args.maximum c.args.interval _
      (eq-eqb _ _ (sym c.stop-n.ensures ∙ c.if-n-eq0.true)) (sym c.allocate-z.ensures.value ∙ c.in-Refused.is)),
  c.allocate-z.ensures.s_unchanged,
)

pub suspend_or_end-requires : goal.suspend_or_end-requires
suspend_or_end-requires c = c.new_endpoint.ensures.1

pub returns-in-Given : goal.returns-in-Given
returns-in-Given c = (
  λ a b. c.suspend_or_end.ensures.steps_to b ∙ simp (c.new_endpoint.ensures.0, c.clear_wakes.ensures.s_after, c.allocate-z.ensures.s_after)
      (allocate-begins (decode (saved c.args.s.now)) (view c.args.s.now) a b c.args.dir c.args.kind
      c.args.address c.args.maximum
      c.args.interval _ _ _
      (eq-eqb _ _ (sym c.stop-n.ensures ∙ c.if-n-eq0.true)) (sym c.allocate-z.ensures.value
      ∙ c.in-Given.is)),
  c.suspend_or_end.ensures.stored _,
)

pub returns : goal.returns
returns c =
    other-stopped (calls.Allocate c.args.dir c.args.kind c.args.address c.args.maximum
    c.args.interval) 1 (allocating c.args.dir c.args.kind c.args.address c.args.maximum c.args.interval) _
    c.stop-n.ensures (λ b. refl)
    c.if-n-eq0.false
