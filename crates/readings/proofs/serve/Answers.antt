use mathlib.Core.Bool.{not}
use mathlib.Core.Path.{sym, ap, ◌∙◌}
use native.Mathlib.Omega.{arith}
use Rattle.regs.specs.Flags.{setup_act}
use Rattle.regs.specs.MisStatus.{sie_free}
use Rattle.interrupt.specs.TransferLaws.{wider}
use Rattle.answer.specs.Parts.{step_of}
use Rattle.readings.specs.PassingLaws.{flags-served, all-served}
use Rattle.readings.proofs.serve.Goals as goal

pub open-requires : goal.open-requires
open-requires c =
    (c.may_enter.ensures
    c.if-may_enter.true).2

pub byte-requires : goal.byte-requires
byte-requires c =
    wider _ 6 (omega arith) (c.is_transfer.ensures
    c.if-is_transfer.true).0

pub byte-requires-then-are_taken : goal.byte-requires-then-are_taken
byte-requires-then-are_taken c =
    wider _ 2 (omega arith) (c.are_taken.ensures
    c.if-are_taken.true).0

pub byte-requires-then-are_taken-2 : goal.byte-requires-then-are_taken-2
byte-requires-then-are_taken-2 c =
    wider _ 7 (omega arith) (c.are_taken.ensures
    c.if-are_taken.true).1

pub after_len-requires : goal.after_len-requires
after_len-requires c =
    (c.are_taken.ensures
    c.if-are_taken.true).2

pub returns-then-are_taken : goal.returns-then-are_taken
returns-then-are_taken c i time =
    let may = c.may_enter.ensures c.if-may_enter.true in
    let told = c.is_transfer.ensures c.if-is_transfer.true in
    let taken = c.are_taken.ensures c.if-are_taken.true in
    let setup = c.setup_act-setup.ensures ∙ ap setup_act c.byte.ensures in
    let busy = ap not (c.sie_free-busy.ensures ∙ ap sie_free c.byte-then-are_taken.ensures) in
    all-served i c.args.frame c.args.word c.args.mis c.args.st c.args.len c.setup_act-setup.result _ c.args.s.now _
    c.args.slots.now time
    may.0 may.1 may.2 c.open.ensures told.0 setup told.1 told.2 told.3 told.4
    told.5
    taken.0 busy taken.1 taken.2 _ _ c.byte-then-are_taken-2.ensures c.after_len.ensures

pub open-requires-then-fits : goal.open-requires-then-fits
open-requires-then-fits c =
    (c.may_enter.ensures
    c.if-may_enter.true).2

pub after_flags-requires : goal.after_flags-requires
after_flags-requires c =
    wider _ 6 (omega arith) (sym c.fits.ensures
    ∙ c.if-fits.true)

pub returns-then-fits : goal.returns-then-fits
returns-then-fits c i time =
    let may = c.may_enter.ensures c.if-may_enter.true in (
      step_of _,
      c.after_flags.ensures.1.0,
      flags-served i c.args.frame c.args.s.now _ c.args.slots.now time may.0 may.1 may.2
          c.open-then-fits.ensures
          c.args.word (sym c.fits.ensures ∙ c.if-fits.true) _ c.after_flags.ensures,
    )
