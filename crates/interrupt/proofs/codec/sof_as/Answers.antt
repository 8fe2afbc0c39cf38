use borrow.Author.Rules.{rules}
use Rattle.interrupt.proofs.codec.sof_as.Goals as goal

pub enum_told-1 : goal.enum_told-1
enum_told-1 c = search rules

pub returns-in-Mis : goal.returns-in-Mis
returns-in-Mis c = simp (c.walked.ensures, c.in-Mis.is)

pub returns-in-St : goal.returns-in-St
returns-in-St c = simp (c.walked-in-St.ensures, c.in-St.is)

pub returns-in-Completing : goal.returns-in-Completing
returns-in-Completing c = simp (c.complete_as.ensures, c.in-Completing.is)

pub returns-in-Callback : goal.returns-in-Callback
returns-in-Callback c = simp (c.walked-in-Callback.ensures, c.in-Callback.is)
