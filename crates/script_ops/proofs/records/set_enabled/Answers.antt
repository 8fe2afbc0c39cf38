use mathlib.Core.Path.{refl}
use Rattle.script_ops.specs.Records.{configured}
use Rattle.script_ops.specs.Records.{enabled_on}
use Rattle.script_ops.proofs.records.set_enabled.Goals as goal

pub returns-then-iso_out : goal.returns-then-iso_out
unfolding enabled_on
returns-then-iso_out c =
    record {
      s_after = simp (← c.iso_out.ensures, c.if-iso_out.true);
      s_unchanged = refl;
    }

pub returns : goal.returns
unfolding enabled_on configured
returns c =
    record {
      s_after = simp (
        c.set_ep_config.ensures.s_after,
        c.with_on.ensures,
        c.load_globals-g.ensures,
        ← c.iso_out.ensures,
        c.if-iso_out.false,
      );
      s_unchanged = c.set_ep_config.ensures.s_unchanged;
    }
