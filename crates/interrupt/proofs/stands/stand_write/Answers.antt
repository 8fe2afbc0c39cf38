use Rattle.interrupt.proofs.stands.stand_write.Goals as goal

pub returns : goal.returns
returns c = (c.asks_write.ensures, (c.store.ensures.0, c.store.ensures.1))
