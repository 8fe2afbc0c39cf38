use Rattle.machine.proofs.RowsLaws.{back, aside-call}
use Rattle.calls.specs.AtOnce.{told-beside}
use Rattle.script.specs.Calls as calls
use Rattle.machine.specs.Suspended.{decode}
use Rattle.state.specs.State.{view, saved}
use mathlib.Core.Path.{◌∙◌, sym, refl}
use Rattle.calls.proofs.in_place.close.Goals as goal

pub returns-then-may_pass : goal.returns-then-may_pass
returns-then-may_pass c =
    record {
      by_index = λ a b. back (aside-call (calls.Close c.args.e) (decode (saved c.args.s.now))
          (view c.args.s.now) a b) (told-beside _ _ (view c.args.s.now) b _ _ _ c.told.result
          c.iso_out_take_close-x.result c.told.ensures.by_index c.iso_out_take_close-x.ensures.s_unchanged (sym c.may_pass.ensures
          ∙ c.if-may_pass.true) (c.iso_out_take_close-x.ensures.by_index b));
      s_unchanged = c.iso_out_take_close-x.ensures.s_unchanged;
    }

pub returns : goal.returns
returns c =
    record {
      by_index = λ a b. back (aside-call (calls.Close c.args.e) (decode (saved c.args.s.now))
          (view c.args.s.now) a b) (simp (← c.may_pass.ensures, c.if-may_pass.false));
      s_unchanged = refl;
    }
