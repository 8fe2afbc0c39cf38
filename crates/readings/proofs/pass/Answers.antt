use mathlib.Core.Bool.{not}
use mathlib.Core.Path.{refl, ap, ◌∙◌}
use native.Mathlib.Omega.{arith}
use Rattle.regs.specs.MisStatus.{sie_free}
use Rattle.interrupt.specs.TransferLaws.{wider}
use Rattle.readings.specs.PassingLaws.{at-mis, transferred}
use Rattle.readings.proofs.pass.Goals as goal

pub byte-requires : goal.byte-requires
byte-requires c = wider _ 2 (omega arith) (c.may_pass.ensures c.if-may_pass.true).3

pub byte-requires-then-may_pass : goal.byte-requires-then-may_pass
byte-requires-then-may_pass c =
    wider _ 7 (omega arith)
    (c.may_pass.ensures
    c.if-may_pass.true).4

pub after_len-requires : goal.after_len-requires
after_len-requires c =
    (c.may_pass.ensures
    c.if-may_pass.true).5

pub returns-then-may_pass : goal.returns-then-may_pass
returns-then-may_pass c i time =
    let may = c.may_pass.ensures c.if-may_pass.true in
    let busy = ap not (c.sie_free-busy.ensures ∙ ap sie_free c.byte.ensures) in
    transferred i c.args.mis c.args.st c.args.len c.setup_at-setup.result _ c.args.s.now c.args.s.now c.args.slots.now time
    (at-mis c.args.s.now c.setup_at-setup.result may.0 may.1 c.setup_at-setup.ensures) refl
    (omega arith)
    may.2 may.3 busy may.4 may.5 _ _ c.byte-then-may_pass.ensures c.after_len.ensures
