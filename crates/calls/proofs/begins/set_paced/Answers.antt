use Rattle.machine.proofs.RowsLaws.{back, numbered-call}
use Rattle.script_ops.specs.RowsLaws.{number_lt}
use Rattle.calls.specs.DriverBegins.{pacing, set-paced-begins}
use Rattle.script.specs.Calls as calls
use Rattle.machine.specs.Suspended.{decode}
use Rattle.state.specs.State.{view, saved}
use mathlib.Core.Path.{◌∙◌, sym, refl}
use borrow.Author.Tests.{eq-eqb, ne_eqb}
use Rattle.calls.proofs.begins.set_paced.Goals as goal

pub low-requires : goal.low-requires
low-requires c = simp (← c.is_number.ensures, c.if-is_number.true)

pub iso_in_set_paced-requires : goal.iso_in_set_paced-requires
iso_in_set_paced-requires c =
    simp c.low.ensures (number_lt _ (sym c.is_number.ensures ∙ c.if-is_number.true))

pub returns-then-is_number : goal.returns-then-is_number
returns-then-is_number c =
    record {
      by_index = λ a b. simp c.iso_in_set_paced.ensures.s_unchanged (set-paced-begins (decode (saved c.args.s.now))
          (view c.args.s.now) _ a b c.args.e _ c.args.on
          (eq-eqb _ _ (sym c.stop-n.ensures ∙ c.if-n-eq0.true)) (sym c.is_number.ensures
          ∙ c.if-is_number.true) c.low.ensures (c.iso_in_set_paced.ensures.by_index b));
      s_unchanged = c.iso_in_set_paced.ensures.s_unchanged;
    }

pub returns-then-n-eq0 : goal.returns-then-n-eq0
returns-then-n-eq0 c =
    record {
      by_index = λ a b. back (numbered-call (calls.SetPaced c.args.e c.args.on) c.args.e
          (pacing c.args.e c.args.on) (decode (saved c.args.s.now))
          (view c.args.s.now) a b refl) (simp (
            ← c.stop-n.ensures,
            eq-eqb _ _ c.if-n-eq0.true,
            ← c.is_number.ensures,
            c.if-is_number.false,
          ));
      s_unchanged = refl;
    }

pub returns : goal.returns
returns c =
    record {
      by_index = λ a b. back (numbered-call (calls.SetPaced c.args.e c.args.on)
          c.args.e (pacing c.args.e c.args.on)
          (decode (saved c.args.s.now)) (view c.args.s.now) a b refl)
          (simp (← c.stop-n.ensures, ne_eqb _ _ c.if-n-eq0.false));
      s_unchanged = refl;
    }
