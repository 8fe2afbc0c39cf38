use Rattle.interrupt.specs.Continuations.{after_settle}
use Rattle.readings.proofs.frames.iso_of.Goals as goal

pub returns : goal.returns
unfolding after_settle
returns c setup b =
    simp (
      c.iso_for.ensures,
      c.load_ep-n.ensures,
      c.load_ep-o.ensures,
      c.endpoint-ep.ensures,
    )
