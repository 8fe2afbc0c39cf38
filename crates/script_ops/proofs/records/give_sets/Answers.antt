use Rattle.script_ops.specs.Records.{sets_given}
use Rattle.script_ops.proofs.records.give_sets.Goals as goal

pub returns : goal.returns
unfolding sets_given
returns c =
    record {
      s_after = simp (c.store_globals.ensures.s_after, c.with_sets.ensures, c.load_globals-g.ensures);
      s_unchanged = c.store_globals.ensures.s_unchanged;
    }
