use borrow.Author.Tests.{lt-ltb, le-ltb, le-leb, lt-leb}
use Rattle.channels.specs.Sets.{fits, look}
use Rattle.channels.proofs.sets.Search.look.Goals as goal
use Rattle.channels.proofs.sets.Search.look.Goals.{else-t-self-via-then-t-self+else-best-t, else-t-self-via-else-t-self}

pub returns-then-best-t : goal.returns-then-best-t
unfolding look fits
returns-then-best-t c =
    simp (
      ← c.requires.maximum,
      ← c.requires.charge,
      le-leb _ _ c.if-t-self.true,
      lt-ltb _ _ c.if-best-t.true,
    )

pub returns : goal.returns
unfolding look fits
returns c = elim c.else-t-self.branch [
  | else-t-self-via-then-t-self+else-best-t w ↦
      simp (
        ← c.requires.maximum,
        ← c.requires.charge,
        le-leb _ _ w.if-t-self.true,
        le-ltb _ _ w.if-best-t.false,
      )
  | else-t-self-via-else-t-self w ↦
      simp (← c.requires.charge, lt-leb _ _ w.if-t-self.false)
]
