use Rattle.interrupt.proofs.codec.complete_as.Goals as goal

pub returns-in-Sent : goal.returns-in-Sent
returns-in-Sent c = simp (c.walked.ensures, c.in-Sent.is)

pub returns-in-Loaded : goal.returns-in-Loaded
returns-in-Loaded c = simp (c.walked-in-Loaded.ensures, c.in-Loaded.is)
