use Rattle.state.proofs.start_up.fresh_globals.Goals as goal

pub returns : goal.returns
returns c = c.store_globals.ensures.s_after
