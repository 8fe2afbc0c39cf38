use Rattle.std.proofs.Common.{sym, ◌∙◌}
use Rattle.card.specs.Pieces.{finish-refused, finish-nothing, finish-last}
use Rattle.card.proofs.writing.finish.Goals as goal

pub returns-then-block-ne512 : goal.returns-then-block-ne512
returns-then-block-ne512 c =
    let r = finish-refused c.args.w c.args.block.now c.if-block-ne512.true in
    record { value = r.0; block_after = r.1 }

pub returns-then-used-eq0 : goal.returns-then-used-eq0
returns-then-used-eq0 c =
    let r = finish-nothing c.args.w c.args.block.now c.if-block-ne512.false (sym c.used_of-used.ensures ∙ c.if-used-eq0.true) in
    record { value = r.0; block_after = r.1 }

pub returns : goal.returns
returns c =
    let r = finish-last c.args.w c.args.block.now _ _ _ c.if-block-ne512.false c.used_of-used.ensures c.if-used-eq0.false
    c.put_zeros.ensures c.close.ensures in
    record { value = r.0; block_after = r.1 }
