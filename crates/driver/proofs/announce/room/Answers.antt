use Rattle.alloc.proofs.Product.{below}
use borrow.Author.Rules.{rules}
use Rattle.driver.proofs.announce.room.Goals as goal

pub overflow_mul-result : goal.overflow_mul-result
overflow_mul-result c = record { fits = below 16 (search rules) (search rules) }
