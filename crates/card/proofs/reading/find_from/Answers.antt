use Rattle.std.proofs.Common.{sym, refl, ◌∙◌, arith}
use Rattle.card.specs.Reading.{total}
use Rattle.card.proofs.Progress.{find-ends, find-gives, find-goes, goes_further}
use Rattle.card.specs.Streams.{view}
use Rattle.card.proofs.SeenLaws.{seen_none}
use Rattle.card.proofs.reading.find_from.Goals as goal

pub loop-e-init : goal.loop-e-init
loop-e-init c = ((total (view c.args.stream.now), omega arith, refl), c.requires)

pub returns-in-Ends : goal.returns-in-Ends
returns-in-Ends c =
    find-ends (view c.args.stream.now) c.loop-e.invariant.0.0 c.loop-e.at _ c.loop-e.invariant.0.2 (sym c.step.ensures
    ∙ c.in-Ends.is)

pub loop-e-smaller : goal.loop-e-smaller
loop-e-smaller c =
    let h = goes_further (view c.args.stream.now) c.loop-e.at _ (sym c.step.ensures ∙ c.in-Goes.is) in
    omega arith

pub loop-e-preserved : goal.loop-e-preserved
loop-e-preserved c =
    let goes = sym c.step.ensures ∙ c.in-Goes.is in (
      find-goes (view c.args.stream.now) c.loop-e.invariant.0.0 c.loop-e.at _ _ c.loop-e.invariant.0.1 c.loop-e.invariant.0.2 goes,
      seen_none
          (view c.args.stream.now) _,
    )

pub returns-in-Gives : goal.returns-in-Gives
returns-in-Gives c =
    find-gives (view c.args.stream.now) c.loop-e.invariant.0.0 c.loop-e.at _ _ _
    c.loop-e.invariant.0.1 c.loop-e.invariant.0.2 (sym c.step.ensures ∙ c.in-Gives.is)
