use Prim.Native.Nat.{◌+◌}
use native.Mathlib.Omega.{arith}
use lib.ListN.{length}
use borrow.Author.Tests.{lt-ltb, le-ltb}
use Rattle.script_ops.specs.Rings.{word_at}
use Rattle.script_ops.proofs.rings.word_at.Goals as goal

pub returns-then-buf-lt4 : goal.returns-then-buf-lt4
unfolding word_at
returns-then-buf-lt4 c = simp (lt-ltb (length c.args.buf.now) (c.args.at + 4) (omega arith))

pub returns-then-buf-at : goal.returns-then-buf-at
unfolding word_at
returns-then-buf-at c = simp (lt-ltb (length c.args.buf.now) (c.args.at + 4) (omega arith))

pub returns : goal.returns
unfolding word_at
returns c =
    simp (
      c.word.ensures,
      le-ltb (length c.args.buf.now) (c.args.at + 4) (omega arith),
    )
