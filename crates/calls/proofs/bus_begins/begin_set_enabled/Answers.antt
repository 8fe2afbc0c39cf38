use Rattle.script_ops.specs.RowsLaws.{allocated-number}
use Rattle.machine.proofs.RowsLaws.{back, named-call}
use Rattle.script.specs.Calls as calls
use Rattle.script.specs.Answers.{resultless}
use Rattle.script.specs.Bus as script
use Rattle.machine.specs.Suspended.{decode}
use Rattle.machine.proofs.Lent.{as_lent}
use Rattle.state.specs.State.{view, saved}
use mathlib.Core.Path.{◌∙◌, sym, refl}
use borrow.Author.Tests.{eq-eqb, ne_eqb}
use Rattle.calls.proofs.bus_begins.begin_set_enabled.Goals as goal

pub low-requires : goal.low-requires
low-requires c =
    allocated-number _ _ _
    (sym c.is_allocated.ensures
    ∙ c.if-is_allocated.true)

pub suspend_or_end_bus-requires : goal.suspend_or_end_bus-requires
suspend_or_end_bus-requires c = c.endpoint_set_enabled-x.ensures.1.1

pub returns-then-is_allocated : goal.returns-then-is_allocated
returns-then-is_allocated c = (
  λ a. back
      (named-call (calls.SetEnabled c.args.dir
      c.args.e
      c.args.on)
      c.args.dir
      c.args.e
      (resultless (script.set_enabled c.args.dir
      c.args.e
      c.args.on))
      (decode (saved c.args.s.now))
      (view c.args.s.now) a
      c.args.slots.now refl) (simp (
        ← c.slots_fit.ensures,
        c.if-slots_fit.true,
      ) (c.suspend_or_end_bus.ensures.steps_to _ ∙ simp (
        c.endpoint_set_enabled-x.ensures.0,
        c.low.ensures,
        c.clear_wakes.ensures.s_after,
        ← c.stop-n.ensures,
        eq-eqb _ _
            c.if-n-eq0.true,
        ← c.is_allocated.ensures,
        c.if-is_allocated.true,
      ))),
  (
    as_lent _ _ _
        (sym c.slots_fit.ensures
        ∙ c.if-slots_fit.true),
    c.suspend_or_end_bus.ensures.stored _,
  ),
)

pub returns-then-n-eq0 : goal.returns-then-n-eq0
returns-then-n-eq0 c = (
  λ a. back
      (named-call
      (calls.SetEnabled
      c.args.dir
      c.args.e
      c.args.on)
      c.args.dir
      c.args.e
      (resultless
      (script.set_enabled
      c.args.dir
      c.args.e
      c.args.on))
      (decode (saved
      c.args.s.now))
      (view c.args.s.now)
      a
      c.args.slots.now
      refl) (simp (
        ← c.slots_fit.ensures,
        c.if-slots_fit.true,
        ← c.stop-n.ensures,
        eq-eqb _ _ c.if-n-eq0.true,
        ← c.is_allocated.ensures,
        c.if-is_allocated.false,
      )),
  (
    as_lent _ _ _
        (sym c.slots_fit.ensures
        ∙ c.if-slots_fit.true),
    refl,
  ),
)

pub returns-then-slots_fit : goal.returns-then-slots_fit
returns-then-slots_fit c = (
  λ a. back
      (named-call (calls.SetEnabled c.args.dir
      c.args.e
      c.args.on)
      c.args.dir
      c.args.e
      (resultless (script.set_enabled c.args.dir
      c.args.e
      c.args.on))
      (decode (saved c.args.s.now))
      (view c.args.s.now) a
      c.args.slots.now refl) (simp (
        ← c.slots_fit.ensures,
        c.if-slots_fit.true,
        ← c.stop-n.ensures,
        ne_eqb _ _ c.if-n-eq0.false,
      )),
  (
    as_lent _ _ _ (sym c.slots_fit.ensures ∙ c.if-slots_fit.true),
    refl,
  ),
)

pub returns : goal.returns
returns c = (
  λ a. back (named-call (calls.SetEnabled c.args.dir
      c.args.e c.args.on)
      c.args.dir c.args.e
      (resultless (script.set_enabled c.args.dir
      c.args.e
      c.args.on))
      (decode (saved c.args.s.now))
      (view c.args.s.now) a
      c.args.slots.now refl)
      (simp (← c.slots_fit.ensures, c.if-slots_fit.false)),
  (λ h. refl, refl),
)
