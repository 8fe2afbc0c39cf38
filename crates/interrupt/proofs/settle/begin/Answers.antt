use Rattle.interrupt.specs.WaitLaws.{wait-begun}
use mathlib.Core.Path.{refl}
use mathlib.Core.Bool.{true, false}
use Rattle.interrupt.specs.TransferLaws.{settle-busy}
use Rattle.interrupt.proofs.settle.begin.Goals as goal

pub returns-then-waits_for_iso : goal.returns-then-waits_for_iso
returns-then-waits_for_iso c = (
  λ b. simp (
    ← c.endpoint-ep.ensures,
    ← c.load_ep-o.ensures,
    ← c.waits_for_iso.ensures,
    c.if-waits_for_iso.true,
    wait-begun,
  ),
  refl,
)

pub returns-then-waits_for_bulk : goal.returns-then-waits_for_bulk
returns-then-waits_for_bulk c = (
  λ b. simp (
    ← c.endpoint-ep.ensures,
    ← c.load_ep-o.ensures,
    ← c.waits_for_iso.ensures,
    c.if-waits_for_iso.false,
    ← c.load_ep-n.ensures,
    ← c.waits_for_bulk.ensures,
    c.if-waits_for_bulk.true,
    wait-begun,
  ),
  refl,
)

pub returns-then-x : goal.returns-then-x
returns-then-x c =
    settle-busy _ _ _ _ _ _ _ true c.endpoint-ep.ensures c.load_ep-o.ensures
    c.waits_for_iso.ensures
    c.if-waits_for_iso.false c.load_ep-n.ensures
    c.waits_for_bulk.ensures c.if-waits_for_bulk.false c.if-x.true

pub returns : goal.returns
returns c =
    settle-busy _ _ _ _ _ _ _ false c.endpoint-ep.ensures c.load_ep-o.ensures
    c.waits_for_iso.ensures
    c.if-waits_for_iso.false c.load_ep-n.ensures
    c.waits_for_bulk.ensures c.if-waits_for_bulk.false c.if-x.false
