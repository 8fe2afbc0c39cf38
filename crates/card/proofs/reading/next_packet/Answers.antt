use Rattle.std.proofs.Common.{length, sym, ◌∙◌, None, Some}
use Rattle.std.proofs.lemmas.Result.{err_from_is_err_and}
use Rattle.card.proofs.Progress.{find-fits}
use Rattle.card.specs.Streams.{view}
use Rattle.card.specs.Rooms.{torn, untorn, next-torn, room-torn, next_found, room-found, given_nothing, given_found}
use Rattle.card.specs.Rooms.{given_refused, put_nothing, put_found}
use Rattle.card.proofs.SeenLaws.{seen_none}
use Rattle.card.proofs.reading.next_packet.Goals as goal

pub returns-in_err-in_blocks : goal.returns-in_err-in_blocks
returns-in_err-in_blocks c =
    let p = err_from_is_err_and c.from_residual.result c.from_residual.ensures.1 in
    let t = torn c.args.stream.now _ (sym c.in_blocks.ensures ∙ c.in_err-in_blocks.was) in
    record {
      value = rw (p.1, p.2, t.1) (next-torn c.args.stream.now c.args.reader.at (length c.args.room.now) t.0);
      room_after = room-torn c.args.stream.now c.args.reader.at c.args.room.now t.0;
    }

pub find_from-requires : goal.find_from-requires
find_from-requires c = seen_none _ _

pub give-requires : goal.give-requires
give-requires c =
    find-fits (view c.args.stream.now) _ c.args.reader.at _ (sym c.find_from.ensures ∙ c.in-Some.is)

pub returns-in-None : goal.returns-in-None
returns-in-None c =
    let whole = untorn c.args.stream.now (sym c.in_blocks.ensures ∙ c.in_ok-in_blocks.was) in
    let f = sym c.find_from.ensures ∙ c.in-None.is in
    record {
      value = given_nothing _ ∙ next_found c.args.stream.now c.args.reader.at (length c.args.room.now) None whole f;
      room_after = put_nothing (view c.args.stream.now) _
          ∙ room-found c.args.stream.now c.args.reader.at c.args.room.now None whole f;
    }

pub returns-in_err-give-in-Some : goal.returns-in_err-give-in-Some
returns-in_err-give-in-Some c =
    let p = err_from_is_err_and c.from_residual-in_err-give-in-Some.result c.from_residual-in_err-give-in-Some.ensures.1 in
    let whole = untorn c.args.stream.now (sym c.in_blocks.ensures ∙ c.in_ok-in_blocks.was) in
    let f = sym c.find_from.ensures ∙ c.in-Some.is in
    let given = sym c.in_err-give-in-Some.was ∙ c.give.ensures.value in
    record {
      value = rw (p.1, p.2) (given_refused c.in-Some.found _ _ given
          ∙ next_found c.args.stream.now c.args.reader.at (length c.args.room.now) (Some c.in-Some.found) whole f);
      room_after = c.give.ensures.room_after ∙ put_found (view c.args.stream.now) c.in-Some.found c.args.room.now
          ∙ room-found c.args.stream.now c.args.reader.at c.args.room.now (Some c.in-Some.found) whole f;
    }

pub returns-in_ok-give-in-Some : goal.returns-in_ok-give-in-Some
returns-in_ok-give-in-Some c =
    let whole = untorn c.args.stream.now (sym c.in_blocks.ensures ∙ c.in_ok-in_blocks.was) in
    let f = sym c.find_from.ensures ∙ c.in-Some.is in
    let given = sym c.in_ok-give-in-Some.was ∙ c.give.ensures.value in
    record {
      value = given_found c.in-Some.found _ _ given
          ∙ next_found c.args.stream.now c.args.reader.at (length c.args.room.now) (Some c.in-Some.found) whole f;
      room_after = c.give.ensures.room_after ∙ put_found (view c.args.stream.now) c.in-Some.found c.args.room.now
          ∙ room-found c.args.stream.now c.args.reader.at c.args.room.now (Some c.in-Some.found) whole f;
    }
