use Rattle.std.proofs.Common.{◌≡◌, ◌+◌, length, drop, ◌∙◌, refl, arith, length-drop, get_or-drop}
use Rattle.card.specs.PasteLaws.{one-pasted, all_pasted, paste-whole}
use Rattle.card.proofs.reading.fill_run.Goals as goal

pub loop-i-preserved : goal.loop-i-preserved
loop-i-preserved c =
    let long = length-drop c.args.from c.args.stream.now in
    let here : 0 + c.loop-i.i ≡ c.loop-i.i = omega arith in
    rw here at (one-pasted _ _ 0 (length c.args.room.now) c.loop-i.room c.loop-i.i _ c.loop-i.invariant
    (get_or-drop c.args.from c.args.stream.now c.loop-i.i 0) (omega arith) (omega arith) (omega arith))

pub returns : goal.returns
returns c =
    let source = drop c.args.from c.args.stream.now in
    all_pasted _ source 0 (length c.args.room.now) c.loop-i.room c.loop-i.i c.loop-i.invariant (omega arith)
    ∙ paste-whole c.args.room.now source (length c.args.room.now) refl
