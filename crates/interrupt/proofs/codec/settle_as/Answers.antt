use borrow.Author.Rules.{rules}
use Rattle.interrupt.proofs.codec.settle_as.Goals as goal

pub enum_told-1 : goal.enum_told-1
enum_told-1 c = search rules

pub returns-in-IsoLook : goal.returns-in-IsoLook
returns-in-IsoLook c = simp (c.inner.ensures, c.in-IsoLook.is)

pub returns-in-IsoSt : goal.returns-in-IsoSt
returns-in-IsoSt c = simp (c.inner-in-IsoSt.ensures, c.in-IsoSt.is)

pub returns-in-IsoLen : goal.returns-in-IsoLen
returns-in-IsoLen c = simp (c.inner-in-IsoLen.ensures, c.in-IsoLen.is)

pub returns-in-BulkLook : goal.returns-in-BulkLook
returns-in-BulkLook c = simp (c.inner-in-BulkLook.ensures, c.in-BulkLook.is)

pub returns-in-BulkLen : goal.returns-in-BulkLen
returns-in-BulkLen c = simp (c.inner-in-BulkLen.ensures, c.in-BulkLen.is)

pub returns-in-Mis : goal.returns-in-Mis
returns-in-Mis c = simp (c.inner-in-Mis.ensures, c.in-Mis.is)

pub returns-in-Flags : goal.returns-in-Flags
returns-in-Flags c = simp (c.inner-in-Flags.ensures, c.in-Flags.is)

pub returns-in-St : goal.returns-in-St
returns-in-St c = simp (c.inner-in-St.ensures, c.in-St.is)

pub returns-in-Nak : goal.returns-in-Nak
returns-in-Nak c = simp (c.nak_as.ensures, c.in-Nak.is)
