use mathlib.Core.Bool.{false, true, true≢false}
use mathlib.Core.Path.{◌≡◌, sym, subst, ◌∙◌}
use Prim.Native.Nat.{ℕ}
use native.Mathlib.Omega.{arith}
use Rattle.regs.specs.Flags.{bus_rst, transfer, suspend, hst_sof, fifo_ov}
use Rattle.interrupt.specs.TransferLaws.{wider}
use Rattle.readings.proofs.is_transfer.Goals as goal

pub byte-f-requires : goal.byte-f-requires
byte-f-requires c = wider _ 6 (omega arith) (sym c.fits.ensures ∙ c.if-fits.true)

pub returns-then-bus_rst : goal.returns-then-bus_rst
returns-then-bus_rst c h = absurd (true≢false (sym h))

pub returns-then-suspend : goal.returns-then-suspend
returns-then-suspend c h = absurd (true≢false (sym h))

pub returns-then-fifo_ov : goal.returns-then-fifo_ov
returns-then-fifo_ov c h = absurd (true≢false (sym h))

pub returns-then-hst_sof : goal.returns-then-hst_sof
returns-then-hst_sof c h = absurd (true≢false (sym h))

pub returns-then-fits : goal.returns-then-fits
returns-then-fits c h = (
  sym c.fits.ensures ∙ c.if-fits.true,
  subst (λ (w : ℕ). bus_rst w ≡ false) c.byte-f.ensures (sym c.bus_rst.ensures ∙ c.if-bus_rst.false),
  subst (λ (w : ℕ). suspend w ≡ false) c.byte-f.ensures (sym c.suspend.ensures ∙ c.if-suspend.false),
  subst (λ (w : ℕ). fifo_ov w ≡ false) c.byte-f.ensures (sym c.fifo_ov.ensures ∙ c.if-fifo_ov.false),
  subst (λ (w : ℕ). hst_sof w ≡ false) c.byte-f.ensures (sym c.hst_sof.ensures ∙ c.if-hst_sof.false),
  subst (λ (w : ℕ). transfer w ≡ true) c.byte-f.ensures (sym c.transfer.ensures ∙ h),
)

pub returns : goal.returns
returns c h = absurd (true≢false (sym h))
