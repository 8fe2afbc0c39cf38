use Rattle.calls.proofs.charges.after_write.Goals as goal

pub returns-then-is_config : goal.returns-then-is_config
returns-then-is_config c e = simp (← c.is_config.ensures, c.if-is_config.true) c.keep.ensures

pub returns-else-is_config : goal.returns-else-is_config
returns-else-is_config c e = simp (← c.is_config.ensures, c.if-is_config.false)
