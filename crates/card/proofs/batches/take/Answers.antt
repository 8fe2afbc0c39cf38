use Rattle.std.proofs.Common.{true, false, sym, ◌∙◌, arith, w64, Fits}
use Rattle.card.proofs.Progress.{find-fits}
use Rattle.card.specs.Reading.{total}
use Rattle.card.specs.Streams.{view}
use Rattle.card.proofs.BatchLaws.{some_end, some-short}
use Rattle.card.proofs.Taking.{begins, goes_part, goes_on_lem, ends}
use Rattle.card.proofs.batches.take.Goals as goal

pub loop-found-init : goal.loop-found-init
loop-found-init c = begins (view c.args.stream.now) c.args.room.now c.args.place c.ranges.place

pub overflow_add-count : goal.overflow_add-count
overflow_add-count c =
    let far : Fits w64 (total (view c.args.stream.now)) = omega (arith, c.well_formed) in
    let h = goes_part far c.loop-found.invariant c.take_near-near.ensures.near
    c.take_near-near.ensures.room_after in
    omega (arith, h.counted, h.inside)

pub overflow_add-d : goal.overflow_add-d
overflow_add-d c =
    let far : Fits w64 (total (view c.args.stream.now)) = omega (arith, c.well_formed) in
    let h = goes_part far c.loop-found.invariant c.take_near-near.ensures.near
    c.take_near-near.ensures.room_after in
    h.held

pub returns-in_default : goal.returns-in_default
returns-in_default c =
    let far : Fits w64 (total (view c.args.stream.now)) = omega (arith, c.well_formed) in
    let h = goes_part far c.loop-found.invariant c.take_near-near.ensures.near
    c.take_near-near.ensures.room_after in
    let found = sym c.find_from.ensures ∙ c.in_default.is in
    let r = ends _ _ _ _ _ _ _ _ false h (some_end _ h.fuel _ _ h.enough found) in
    record { takes = r.0; room_after = r.1 }

pub returns-then-room-used : goal.returns-then-room-used
returns-then-room-used c =
    let far : Fits w64 (total (view c.args.stream.now)) = omega (arith, c.well_formed) in
    let h = goes_part far c.loop-found.invariant c.take_near-near.ensures.near
    c.take_near-near.ensures.room_after in
    let found = sym c.find_from.ensures ∙ c.in-Some.is in
    let r = ends _ _ _ _ _ _ _ _ true h (some-short _ h.fuel _ _ _ h.enough found (omega (arith, h.same))) in
    record { takes = r.0; room_after = r.1 }

pub copy_data-requires : goal.copy_data-requires
copy_data-requires c =
    let far : Fits w64 (total (view c.args.stream.now)) = omega (arith, c.well_formed) in
    let h = goes_part far c.loop-found.invariant c.take_near-near.ensures.near
    c.take_near-near.ensures.room_after in
    let l = find-fits _ _ _ _ (sym c.find_from.ensures ∙ c.in-Some.is) in
    (omega (arith, h.same, h.inside), omega (arith, l))

pub overflow_add-count-in-loop-found : goal.overflow_add-count-in-loop-found
overflow_add-count-in-loop-found c =
    let far : Fits w64 (total (view c.args.stream.now)) = omega (arith, c.well_formed) in
    let h = goes_part far c.loop-found.invariant c.take_near-near.ensures.near
    c.take_near-near.ensures.room_after in
    omega (arith, h.counted, h.inside, h.same, c.if-room-used.false)

pub overflow_add-d-in-loop-found : goal.overflow_add-d-in-loop-found
overflow_add-d-in-loop-found c =
    let l = find-fits _ _ _ _ (sym c.find_from.ensures ∙ c.in-Some.is) in
    omega (arith, l, c.well_formed)

pub overflow_add-first : goal.overflow_add-first
overflow_add-first c =
    let l = find-fits _ _ _ _ (sym c.find_from.ensures ∙ c.in-Some.is) in
    omega (arith, l, c.well_formed)

pub loop-found-preserved : goal.loop-found-preserved
loop-found-preserved c =
    let far : Fits w64 (total (view c.args.stream.now)) = omega (arith, c.well_formed) in
    let h = goes_part far c.loop-found.invariant c.take_near-near.ensures.near
    c.take_near-near.ensures.room_after in
    let found = sym c.find_from.ensures ∙ c.in-Some.is in
    goes_on_lem _ _ _ _ _ _ _ _ _ _ far h found (omega (arith, h.same)) c.copy_data.ensures
