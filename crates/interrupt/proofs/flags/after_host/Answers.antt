use Rattle.interrupt.specs.StopsLaws.{pauses-in, goes_in}
use Rattle.interrupt.specs.Laws.{host-other, host-transfer, tells}
use mathlib.Core.Path.{refl}
use Rattle.interrupt.proofs.flags.after_host.Goals as goal

pub returns-then-transfer : goal.returns-then-transfer
returns-then-transfer c =
    pauses-in c.stand_mis.ensures refl (λ b. host-transfer _ _ _ b c.setup_act-setup.ensures
    (tells _ _ _ c.transfer.ensures c.if-transfer.true))

pub returns : goal.returns
returns c =
    goes_in c.after_transfer.ensures (λ b. host-other _ _ _ b c.setup_act-setup.ensures
    (tells _ _ _ c.transfer.ensures c.if-transfer.false))
