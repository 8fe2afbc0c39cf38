use Rattle.script_ops.specs.Records.{started_with}
use mathlib.Core.Path.{refl}
use Rattle.script_ops.proofs.records.started.Goals as goal

pub returns-in-Refused : goal.returns-in-Refused
unfolding started_with
returns-in-Refused c =
    record {
      s_after = simp c.in-Refused.is;
      s_unchanged = refl;
    }

pub returns-in-Given : goal.returns-in-Given
unfolding started_with
returns-in-Given c =
    record {
      s_after = simp (c.store_globals.ensures.s_after, c.load_globals-g.ensures, c.in-Given.is);
      s_unchanged = c.store_globals.ensures.s_unchanged;
    }
