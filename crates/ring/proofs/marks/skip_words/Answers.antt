use Rattle.std.proofs.Common.{◌≡◌, ◌*◌, ◌/◌, arith}
use Rattle.ring.proofs.marks.skip_words.Goals as goal

pub returns-then-n-eq0 : goal.returns-then-n-eq0
returns-then-n-eq0 c =
    let e : c.args.n / 4 * 4 ≡ c.args.n = omega arith in
    (omega arith, rw e at c.unmarked_words.ensures.1)
