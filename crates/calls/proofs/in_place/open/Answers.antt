use Rattle.machine.proofs.RowsLaws.{back, aside-call}
use Rattle.calls.specs.AtOnce.{told-beside}
use Rattle.script.specs.Calls as calls
use Rattle.machine.specs.Suspended.{decode}
use Rattle.state.specs.State.{view, saved}
use mathlib.Core.Path.{◌∙◌, sym, refl}
use Rattle.calls.proofs.in_place.open.Goals as goal

pub returns-then-may_pass : goal.returns-then-may_pass
returns-then-may_pass c =
    record {
      by_index = λ a. back (aside-call (calls.Open c.args.e) (decode (saved c.args.s.now))
          (view c.args.s.now) a c.args.slots.now) (simp (
            ← c.slots_fit.ensures,
            c.if-slots_fit.true,
          ) (told-beside _ _ (view c.args.s.now) c.args.slots.now _ _ _
          c.told.result c.iso_out_take-x.result c.told.ensures.by_index c.iso_out_take-x.ensures.s_unchanged
          (sym c.may_pass.ensures ∙ c.if-may_pass.true) c.iso_out_take-x.ensures.buf_after));
      shown_at = c.told.ensures.shown_at _ _ c.iso_out_take-x.ensures.shown_at;
      s_unchanged = c.iso_out_take-x.ensures.s_unchanged;
    }

pub returns-then-slots_fit : goal.returns-then-slots_fit
returns-then-slots_fit c =
    record {
      by_index = λ a. back (aside-call (calls.Open c.args.e) (decode (saved c.args.s.now))
          (view c.args.s.now) a c.args.slots.now) (simp (
            ← c.slots_fit.ensures,
            c.if-slots_fit.true,
            ← c.may_pass.ensures,
            c.if-may_pass.false,
          ));
      shown_at = tt;
      s_unchanged = refl;
    }

pub returns : goal.returns
returns c =
    record {
      by_index = λ a. back (aside-call (calls.Open c.args.e)
          (decode (saved c.args.s.now)) (view c.args.s.now) a
          c.args.slots.now) (simp (← c.slots_fit.ensures, c.if-slots_fit.false));
      shown_at = tt;
      s_unchanged = refl;
    }
