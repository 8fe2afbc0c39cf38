use Rattle.std.proofs.Common.{ℕ, ◌+◌, ◌*◌, ◌%◌, ap, arith}
use Rattle.state.specs.Driver.{len_key}
use Rattle.state.proofs.len_key.Goals as goal

pub returns : goal.returns
unfolding len_key
returns c = (ap (λ (k : ℕ). k * 16 + c.args.i % 16) c.key_of.ensures.0, omega arith)
