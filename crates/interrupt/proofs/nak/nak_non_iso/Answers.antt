use mathlib.Core.Path.{refl}
use mathlib.Core.Bool.{true, false}
use Rattle.interrupt.specs.TransferLaws.{nak-in}
use Rattle.interrupt.proofs.nak.nak_non_iso.Goals as goal

pub returns-then-out_naks : goal.returns-then-out_naks
returns-then-out_naks c = (
  λ b. simp (
    ← c.endpoint-ep.ensures,
    ← c.load_ep-o.ensures,
    ← c.out_naks.ensures,
    c.if-out_naks.true,
  ),
  refl,
)

pub returns-then-in_naks : goal.returns-then-in_naks
returns-then-in_naks c = (
  λ b. nak-in _ _ b _ _ _ _ _ true c.endpoint-ep.ensures
      c.load_ep-o.ensures c.out_naks.ensures
      c.if-out_naks.false c.load_ep-n.ensures c.in_naks.ensures c.if-in_naks.true,
  refl,
)

pub returns : goal.returns
returns c = (
  λ b. nak-in _ _ b _ _ _ _ _ false c.endpoint-ep.ensures
      c.load_ep-o.ensures c.out_naks.ensures
      c.if-out_naks.false c.load_ep-n.ensures c.in_naks.ensures c.if-in_naks.false,
  tt,
)
