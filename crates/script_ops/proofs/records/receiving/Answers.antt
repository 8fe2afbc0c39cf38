use Rattle.script_ops.proofs.records.receiving.Goals as goal

pub returns : goal.returns
returns c = simp (c.receives.ensures, c.load_globals.ensures)
