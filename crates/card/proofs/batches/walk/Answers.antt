use Rattle.std.proofs.Common.{◌/◌, arith}
use Rattle.card.proofs.InsideLaws.{standing-none, good-lies, walk_more}
use Rattle.card.proofs.batches.walk.Goals as goal

pub loop-bytes-init : goal.loop-bytes-init
loop-bytes-init c = (omega arith, omega arith, standing-none _ _)

pub overflow_mul-k : goal.overflow_mul-k
overflow_mul-k c =
    let lies = good-lies c.args.stream.now (c.args.d / 504) c.requires in
    omega arith

pub overflow_add-k : goal.overflow_add-k
overflow_add-k c =
    let lies = good-lies c.args.stream.now (c.args.d / 504) c.requires in
    omega arith

pub byte_at-requires : goal.byte_at-requires
byte_at-requires c =
    let lies = good-lies c.args.stream.now (c.args.d / 504) c.requires in
    omega arith

pub loop-bytes-preserved : goal.loop-bytes-preserved
loop-bytes-preserved c =
    let more =
    walk_more c.args.stream.now c.args.d c.loop-bytes.count c.loop-bytes.bytes c.byte_at.result c.pair_at-n.result
    c.requires (omega arith) c.loop-bytes.invariant.2
    c.byte_at.ensures.value c.if-byte_at-eq0.false c.pair_at-n.ensures.value in
    (omega arith, omega arith, more)
