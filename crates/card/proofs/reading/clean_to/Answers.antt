use Rattle.std.proofs.Common.{◌≡◌, sym, ◌∙◌, arith}
use Rattle.card.specs.Streams.{view}
use Rattle.card.proofs.ReaderLaws.{clean-more, clean-bad, clean-stop}
use Rattle.card.proofs.reading.clean_to.Goals as goal

pub returns-then-not-is_good : goal.returns-then-not-is_good
returns-then-not-is_good c =
    sym (clean-bad (view c.args.stream.now) c.loop-k.k _ (omega arith) (sym c.is_good.ensures ∙ c.if-not-is_good.true))
    ∙ c.loop-k.invariant.1

pub loop-k-preserved : goal.loop-k-preserved
loop-k-preserved c = (
  omega arith,
  sym (clean-more (view c.args.stream.now) c.loop-k.k _ (omega arith) (sym c.is_good.ensures ∙ c.if-not-is_good.false))
      ∙ c.loop-k.invariant.1,
)

pub returns : goal.returns
returns c =
    let end : c.max.result ≡ c.loop-k.k = omega arith in
    end ∙ sym (clean-stop (view c.args.stream.now) c.loop-k.k _ (omega arith)) ∙ c.loop-k.invariant.1
