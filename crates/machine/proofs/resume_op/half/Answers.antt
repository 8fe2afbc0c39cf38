use borrow.Author.Tests.{ltb-true}
use Rattle.regs.specs.Registers.{fits_in}
use Rattle.machine.proofs.resume_op.half.Goals as goal

pub overflow_cast-result : goal.overflow_cast-result
unfolding fits_in
overflow_cast-result c = record { fits = ltb-true c.args.v 65536 c.requires }
