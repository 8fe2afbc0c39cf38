use borrow.Author.Tests.{lt-ltb, le-ltb}
use Rattle.alloc.specs.Alloc.{number_of}
use Rattle.alloc.proofs.number.find.Goals as goal

pub returns-then-address-lt256 : goal.returns-then-address-lt256
unfolding number_of
returns-then-address-lt256 c = simp (c.asked.ensures, lt-ltb _ _ c.if-address-lt256.true)

pub returns-else-address-lt256 : goal.returns-else-address-lt256
unfolding number_of
returns-else-address-lt256 c = simp (c.lowest.ensures, le-ltb _ _ c.if-address-lt256.false)
