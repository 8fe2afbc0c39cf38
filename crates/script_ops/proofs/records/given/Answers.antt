use mathlib.Core.Path.{refl, ◌∙◌}
use Rattle.script_ops.specs.Records.{given_to}
use Rattle.script_ops.proofs.records.given.Goals as goal

pub returns-in-Refused : goal.returns-in-Refused
unfolding given_to
returns-in-Refused c =
    record {
      s_after = simp c.in-Refused.is;
      s_unchanged = refl;
    }

pub returns-in-Given : goal.returns-in-Given
unfolding given_to
returns-in-Given c =
    record {
      s_after = simp (c.give_sets.ensures.s_after, c.give_record.ensures.s_after, c.in-Given.is);
      s_unchanged = c.give_sets.ensures.s_unchanged ∙ c.give_record.ensures.s_unchanged;
    }
