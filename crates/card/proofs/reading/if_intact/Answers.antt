use Rattle.std.proofs.Common.{ℕ, ◌+◌, sym, ap, ◌∙◌, arith}
use Rattle.card.specs.declared.stream.Step.TheVariants.{Goes}
use Rattle.card.specs.Reading.{seek_from}
use Rattle.card.specs.Steps.{intact-good, intact-cut}
use Rattle.card.specs.Streams.{view}
use Rattle.card.proofs.ReaderLaws.{clean-rest}
use Rattle.card.proofs.reading.if_intact.Goals as goal

pub returns-then-clean-end : goal.returns-then-clean-end
returns-then-clean-end c =
    let x = c.clean_to-clean.ensures ∙ clean-rest (view c.args.stream.now) c.args.d c.args.e (omega arith) c.requires.2 in
    ap Goes (c.seek.ensures ∙ ap (λ (k : ℕ). seek_from (view c.args.stream.now) (k + 1)) x)
    ∙ sym (intact-cut (view c.args.stream.now) c.args.d c.args.e c.args.s (omega (arith, x)))

pub returns : goal.returns
returns c =
    let x = c.clean_to-clean.ensures ∙ clean-rest (view c.args.stream.now) c.args.d c.args.e (omega arith) c.requires.2 in
    sym (intact-good (view c.args.stream.now) c.args.d c.args.e c.args.s (omega (arith, x)))
