use Rattle.endpoint.proofs.checks.is_enabled.Goals as goal

pub returns : goal.returns
returns c = simp (c.is_on.ensures, c.load_globals-g.ensures)
