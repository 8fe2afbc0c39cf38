use Rattle.interrupt.proofs.stands.store.Goals as goal

pub returns : goal.returns
returns c = (c.store_saved.ensures.s_unchanged, c.store_saved.ensures.s_after)
