use Rattle.std.proofs.Common.{ℕ, ◌+◌, sym, ◌∙◌, ap₂}
use Rattle.card.specs.Pieces.{writer-full, writer-part}
use Rattle.card.proofs.writing.writer_of.Goals as goal

pub returns-then-is_full : goal.returns-then-is_full
returns-then-is_full c =
    writer-full c.args.w c.args.n _ _ (sym c.is_full.ensures ∙ c.if-is_full.true)
    c.wrapping_add_u32.ensures.value c.done_after-done.ensures

pub returns : goal.returns
returns c =
    writer-part c.args.w c.args.n _ _ _ (sym c.is_full.ensures ∙ c.if-is_full.false)
    (ap₂ (λ (a b : ℕ). a + b) c.used_of-used.ensures c.piece_of-piece.ensures) c.first_of-first.ensures c.done_after-done.ensures
