use borrow.Enum.Refused.{opened}
use Rattle.usbhs_c.proofs.Unshown.{unshown}
use Rattle.usbhs_c.proofs.stamp.stamp_by.Goals as goal

pub returns-in-Shown : goal.returns-in-Shown
returns-in-Shown c b d = simp c.in-Shown.is

pub returns-in_default : goal.returns-in_default
returns-in_default c b d = unshown c.args.step (opened c.in_default.in_default-own.keys2) c.args.old b d
