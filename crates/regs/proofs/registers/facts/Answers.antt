use mathlib.Core.Path.{refl}
use Rattle.regs.proofs.registers.facts.Goals as goal

pub returns-in-IntFg : goal.returns-in-IntFg
returns-in-IntFg c = simp c.in-IntFg.is (refl, refl)

pub returns-in-IntSt : goal.returns-in-IntSt
returns-in-IntSt c = simp c.in-IntSt.is (refl, refl)

pub returns-in-MisSt : goal.returns-in-MisSt
returns-in-MisSt c = simp c.in-MisSt.is (refl, refl)

pub returns-in-RxLen : goal.returns-in-RxLen
returns-in-RxLen c = simp c.in-RxLen.is (refl, refl)

pub returns-in-FrameNo : goal.returns-in-FrameNo
returns-in-FrameNo c = simp c.in-FrameNo.is (refl, refl)

pub returns-in-Ctrl : goal.returns-in-Ctrl
returns-in-Ctrl c = simp c.in-Ctrl.is (refl, refl)

pub returns-in-IntEn : goal.returns-in-IntEn
returns-in-IntEn c = simp c.in-IntEn.is (refl, refl)

pub returns-in-DevAd : goal.returns-in-DevAd
returns-in-DevAd c = simp c.in-DevAd.is (refl, refl)

pub returns-in-HostCtrl : goal.returns-in-HostCtrl
returns-in-HostCtrl c = simp c.in-HostCtrl.is (refl, refl)

pub returns-in-EpConfig : goal.returns-in-EpConfig
returns-in-EpConfig c = simp c.in-EpConfig.is (refl, refl)

pub returns-in-EpType : goal.returns-in-EpType
returns-in-EpType c = simp c.in-EpType.is (refl, refl)

pub returns-in-EpBufMod : goal.returns-in-EpBufMod
returns-in-EpBufMod c = simp c.in-EpBufMod.is (refl, refl)

pub returns-in-EpMaxLen : goal.returns-in-EpMaxLen
returns-in-EpMaxLen c = simp c.in-EpMaxLen.is (refl, refl)

pub returns-in-EpTLen : goal.returns-in-EpTLen
returns-in-EpTLen c = simp c.in-EpTLen.is (refl, refl)

pub returns-in-EpRxCtrl : goal.returns-in-EpRxCtrl
returns-in-EpRxCtrl c = simp c.in-EpRxCtrl.is (refl, refl)

pub returns-in-EpTxCtrl : goal.returns-in-EpTxCtrl
returns-in-EpTxCtrl c = simp c.in-EpTxCtrl.is (refl, refl)
