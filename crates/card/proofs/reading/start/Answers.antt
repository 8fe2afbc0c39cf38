use Rattle.std.proofs.Common.{sym, ◌∙◌, eq-eqb, ne_eqb}
use Rattle.card.specs.Calls.{start_of}
use Rattle.card.specs.Rooms.{torn, untorn}
use Rattle.card.proofs.reading.start.Goals as goal

pub returns-in-Err : goal.returns-in-Err
unfolding start_of
returns-in-Err c =
    let t = torn c.args.stream.now _ (sym c.in_blocks.ensures ∙ c.in-Err.is) in
    rw (ne_eqb _ _ t.0)

pub returns-in-Ok : goal.returns-in-Ok
unfolding start_of
returns-in-Ok c = simp (eq-eqb _ _ (untorn c.args.stream.now (sym c.in_blocks.ensures ∙ c.in-Ok.is)), c.seek.ensures)
