use Rattle.driver.specs.Announce.{end_on}
use Rattle.driver.proofs.announce.end_of.Goals as goal

pub returns : goal.returns
unfolding end_on
returns c =
    simp (
      c.room.ensures,
      ← c.slots-n.ensures,
      ← c.is_iso.ensures,
      ← c.load_ep-r.ensures,
      ← c.load_allocator-a.ensures,
    )
