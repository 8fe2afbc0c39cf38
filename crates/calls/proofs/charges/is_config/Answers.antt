use Rattle.calls.proofs.charges.is_config.Goals as goal

pub returns : goal.returns
returns c = simp (← c.number.ensures)
