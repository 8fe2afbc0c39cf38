use Rattle.interrupt.specs.StandsLaws.{then-on}
use Rattle.interrupt.proofs.check.after_moved_wrote.Goals as goal

pub returns : goal.returns
returns c = (
  λ v b. then-on (c.after_transfer.ensures.0 b)
      (simp (c.wake.ensures.s_after, c.store_ep.ensures.s_after, c.load_ep-r.ensures)),
  c.after_transfer.ensures.1,
)
