use Rattle.interrupt.proofs.codec.check_as.Goals as goal

pub returns-in-St : goal.returns-in-St
returns-in-St c = simp (c.walked.ensures, c.in-St.is)

pub returns-in-Armed : goal.returns-in-Armed
returns-in-Armed c = simp (c.walked-in-Armed.ensures, c.in-Armed.is)
