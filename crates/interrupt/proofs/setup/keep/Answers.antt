use Rattle.interrupt.proofs.setup.keep.Goals as goal

pub returns : goal.returns
returns c =
    record {
      s_after = simp (c.store_globals.ensures.s_after, c.load_globals-g.ensures);
      s_unchanged = c.store_globals.ensures.s_unchanged;
    }
