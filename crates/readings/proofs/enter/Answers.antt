use mathlib.Core.Path.{ap, ◌∙◌}
use native.Mathlib.Omega.{arith}
use Rattle.regs.specs.Flags.{setup_act}
use Rattle.interrupt.specs.TransferLaws.{wider}
use Rattle.readings.specs.PassingLaws.{framed, flagged}
use Rattle.readings.proofs.enter.Goals as goal

pub open-requires : goal.open-requires
open-requires c = (c.may_enter.ensures c.if-may_enter.true).2

pub byte-requires : goal.byte-requires
byte-requires c = wider _ 6 (omega arith) (c.is_transfer.ensures c.if-is_transfer.true).0

pub returns-then-is_transfer : goal.returns-then-is_transfer
returns-then-is_transfer c i time =
    let may = c.may_enter.ensures c.if-may_enter.true in
    let told = c.is_transfer.ensures c.if-is_transfer.true in
    let setup = c.setup_act.ensures ∙ ap setup_act c.byte.ensures in
    flagged i c.args.frame c.args.s.now _ c.args.slots.now time may.0 may.1 may.2 c.open.ensures
    c.args.word _ told.0 setup told.1 told.2 told.3 told.4 told.5 _ c.stand_mis.ensures

pub returns-then-may_enter : goal.returns-then-may_enter
returns-then-may_enter c i time =
    let may = c.may_enter.ensures c.if-may_enter.true in
    framed i c.args.frame c.args.s.now _ c.args.slots.now time may.0 may.1 may.2 c.open.ensures _
    c.stand_flags.ensures
