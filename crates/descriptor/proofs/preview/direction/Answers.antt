use borrow.Author.Tests.{lt-ltb, le-ltb}
use Rattle.descriptor.proofs.preview.direction.Goals as goal

pub returns-then-address-lt128 : goal.returns-then-address-lt128
returns-then-address-lt128 c = rw (lt-ltb _ _ c.if-address-lt128.true)

pub returns-else-address-lt128 : goal.returns-else-address-lt128
returns-else-address-lt128 c = rw (le-ltb _ _ c.if-address-lt128.false)
