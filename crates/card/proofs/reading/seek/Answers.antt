use Rattle.std.proofs.Common.{◌≡◌, ◌/◌, length, ℕ, ◌+◌, ◌-◌, ◌*◌, sym, ap, ◌∙◌, arith}
use Rattle.card.specs.Streams.{view}
use Rattle.card.proofs.ReaderLaws.{seek-more, seek-here, seek_stop}
use Rattle.card.proofs.reading.seek.Goals as goal

pub returns-then-names_begin : goal.returns-then-names_begin
returns-then-names_begin c =
    let t = sym c.names_begin.ensures ∙ c.if-names_begin.true in
    ap (λ (n : ℕ). c.loop-k.k * 504 + (n - 6)) c.pair_at.ensures.value
    ∙ sym (seek-here (view c.args.stream.now) c.loop-k.k _ (omega arith) t) ∙ c.loop-k.invariant

pub loop-k-preserved : goal.loop-k-preserved
loop-k-preserved c =
    sym (seek-more (view c.args.stream.now) c.loop-k.k _ (omega arith) (sym c.names_begin.ensures
    ∙ c.if-names_begin.false)) ∙ c.loop-k.invariant

pub returns : goal.returns
returns c =
    let end : length c.args.stream.now / 512 ≡ c.loop-k.k = omega arith in
    ap (λ (k : ℕ). k * 504) end ∙ sym (seek_stop (view c.args.stream.now) c.loop-k.k _ (omega arith))
    ∙ c.loop-k.invariant
