use Rattle.std.proofs.Common.{◌^◌, ◌<◌, arith}
use lib.Bits.{bit_xor, xor_lt}
use Rattle.card.specs.FoldLaws.{fold-lt, fold-even}
use Rattle.card.proofs.Laws.{word_more}
use Rattle.card.proofs.crc.with_word.Goals as goal

pub returns : goal.returns
returns c =
    let x = bit_xor c.args.s.sum c.word-next.result in
    let x_lt : x < 2 ^ 32 = xor_lt 32 c.args.s.sum c.word-next.result (omega (arith, c.requires.1.short)) (omega arith) in
    let more =
    word_more c.args.bytes.now c.args.i c.args.s.sum c.args.s.words c.word-next.result c.requires.0 c.word-next.ensures.value
    c.word-next.ensures.a_bound c.requires.1.short
    c.requires.1.even (omega arith) in
    rw c.fold.ensures (record { even = record { short = fold-lt x x_lt; even = fold-even x x_lt }; bytes_value = more })
