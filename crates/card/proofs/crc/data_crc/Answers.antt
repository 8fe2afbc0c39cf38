use Rattle.std.proofs.Common.{ℕ, ◌-◌, sym, ap, ◌∙◌, arith}
use Rattle.card.specs.RegisterLaws.{register-crc}
use Rattle.card.proofs.Laws.{over-more, over_none}
use Rattle.card.proofs.crc.data_crc.Goals as goal

pub loop-i-preserved : goal.loop-i-preserved
loop-i-preserved c =
    let more = over-more c.args.bytes.now c.loop-i.i c.loop-i.kept (omega arith) in
    rw c.turn_byte-kept.ensures (sym more ∙ c.loop-i.invariant)

pub returns : goal.returns
returns c =
    ap (λ (r : ℕ). 65535 - r) (sym (over_none c.args.bytes.now c.loop-i.i c.loop-i.kept (omega arith))
    ∙ c.loop-i.invariant)
    ∙ register-crc c.args.bytes.now
