use borrow.Enum.Refused.{opened}
use Rattle.calls.proofs.Unasked.{unwritten}
use Rattle.calls.proofs.charges.after_access.Goals as goal

pub returns-in-Write : goal.returns-in-Write
returns-in-Write c = simp c.in-Write.is (c.after_write.ensures 0)

pub returns-in_default : goal.returns-in_default
returns-in_default c = unwritten _ c.args.q (opened c.in_default.in_default-own.keys2) c.args.driver
