use Rattle.interrupt.proofs.stands.stand.Goals as goal

pub returns : goal.returns
returns c = (c.asks.ensures, (c.store.ensures.0, c.store.ensures.1))
