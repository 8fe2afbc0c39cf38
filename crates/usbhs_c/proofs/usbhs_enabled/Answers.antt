use Rattle.usbhs_c.proofs.usbhs_enabled.Goals as goal

pub returns-then-enabled : goal.returns-then-enabled
returns-then-enabled c = simp (← c.dir_of.ensures, ← c.enabled.ensures, c.if-enabled.true)

pub returns : goal.returns
returns c = simp (← c.dir_of.ensures, ← c.enabled.ensures, c.if-enabled.false)
