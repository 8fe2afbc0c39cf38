use Rattle.std.proofs.Common.{ℕ, ◌+◌, sym, ap, ◌∙◌, arith}
use Rattle.card.specs.declared.stream.Step.TheVariants.{Goes}
use Rattle.card.specs.Reading.{seek_from, begin_at}
use Rattle.card.specs.Steps.{intact-good, intact-cut, step-short, step-begin}
use Rattle.card.specs.Streams.{view}
use Rattle.card.proofs.SeenLaws.{seen_clean}
use Rattle.card.proofs.reading.step.Goals as goal

pub returns-then-all-d : goal.returns-then-all-d
returns-then-all-d c = sym (step-short (view c.args.stream.now) c.args.d (omega arith))

pub returns-then-all-d-lt3 : goal.returns-then-all-d-lt3
returns-then-all-d-lt3 c = sym (step-short (view c.args.stream.now) c.args.d (omega arith))

pub returns-then-clean-end : goal.returns-then-clean-end
returns-then-clean-end c =
    let v = view c.args.stream.now in
    let looked = c.clean_to-clean.ensures ∙ seen_clean v c.args.d c.args.first c.requires in
    ap Goes (c.seek.ensures ∙ ap (λ (k : ℕ). seek_from (view c.args.stream.now) (k + 1)) looked)
    ∙ sym (step-begin v c.args.d (omega arith) ∙ intact-cut v c.args.d (c.args.d + 3) (begin_at v c.args.d)
    (omega (arith, looked)))

pub begin_at-requires : goal.begin_at-requires
begin_at-requires c =
    let looked = c.clean_to-clean.ensures ∙ seen_clean (view c.args.stream.now) c.args.d c.args.first c.requires in
    (omega arith, omega (arith, looked))

pub returns : goal.returns
returns c =
    let v = view c.args.stream.now in
    let looked = c.clean_to-clean.ensures ∙ seen_clean v c.args.d c.args.first c.requires in
    c.begin_at.ensures
    ∙ sym (step-begin v c.args.d (omega arith) ∙ intact-good v c.args.d (c.args.d + 3) (begin_at v c.args.d)
    (omega (arith, looked)))
