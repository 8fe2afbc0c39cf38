use native.Mathlib.Nat.{mod-eq_of_lt}
use Rattle.driver.proofs.iso_in_set_paced.Goals as goal

pub returns : goal.returns
returns c =
    record {
      by_index = λ b. simp (
        c.store_paced.ensures.s_after,
        c.store_globals.ensures.s_after,
        c.mask_with.ensures,
        mod-eq_of_lt c.requires,
        c.load_globals-g.ensures,
      );
      s_unchanged = simp (c.store_paced.ensures.s_unchanged, c.store_globals.ensures.s_unchanged);
    }
