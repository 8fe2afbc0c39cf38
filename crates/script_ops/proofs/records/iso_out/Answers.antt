use Rattle.script_ops.specs.Records.{iso_out}
use Rattle.script_ops.proofs.records.iso_out.Goals as goal

pub returns-in-Out : goal.returns-in-Out
unfolding iso_out
returns-in-Out c = simp (c.in-Out.is, c.is_on.ensures, c.load_ep-r.ensures)

pub returns-in-In : goal.returns-in-In
unfolding iso_out
returns-in-In c = simp c.in-In.is
