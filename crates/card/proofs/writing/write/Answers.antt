use Rattle.std.proofs.Common.{arith}
use Rattle.card.specs.Packet.{packet_of}
use Rattle.card.specs.Pieces.{unfit-block, unfit-long, unfit-zero, unfit-high, fit, write-unfit, write-answer}
use Rattle.card.specs.Pieces.{write-block}
use Rattle.card.proofs.writing.write.Goals as goal

pub returns-then-block-ne512 : goal.returns-then-block-ne512
returns-then-block-ne512 c =
    let p = packet_of c.args.endpoint c.args.bytes.now in
    let r = write-unfit c.args.w p c.args.block.now (unfit-block p c.args.block.now c.if-block-ne512.true) in
    record { value = r.0; block_after = r.1 }

pub returns-then-bytes-gt1024 : goal.returns-then-bytes-gt1024
returns-then-bytes-gt1024 c =
    let p = packet_of c.args.endpoint c.args.bytes.now in
    let r = write-unfit c.args.w p c.args.block.now (unfit-long p c.args.block.now c.if-block-ne512.false (omega arith)) in
    record { value = r.0; block_after = r.1 }

pub returns-then-endpoint-eq0 : goal.returns-then-endpoint-eq0
returns-then-endpoint-eq0 c =
    let p = packet_of c.args.endpoint c.args.bytes.now in
    let r = write-unfit c.args.w p c.args.block.now (unfit-zero p c.args.block.now c.if-block-ne512.false (omega arith) c.if-endpoint-eq0.true) in
    record { value = r.0; block_after = r.1 }

pub returns-then-endpoint-gt15 : goal.returns-then-endpoint-gt15
returns-then-endpoint-gt15 c =
    let p = packet_of c.args.endpoint c.args.bytes.now in
    let r = write-unfit c.args.w p c.args.block.now
    (unfit-high p c.args.block.now c.if-block-ne512.false (omega arith) c.if-endpoint-eq0.false (omega arith)) in
    record { value = r.0; block_after = r.1 }

pub returns : goal.returns
returns c =
    let p = packet_of c.args.endpoint c.args.bytes.now in
    let f = fit p c.args.block.now c.if-block-ne512.false (omega arith) c.if-endpoint-eq0.false (omega arith) in
    record {
      value = write-answer c.args.w p c.args.block.now _ _ _ f c.writer_of-next.ensures c.is_full-full.ensures c.is_whole-done.ensures;
      block_after = write-block c.args.w p c.args.block.now _ f c.put.ensures;
    }
