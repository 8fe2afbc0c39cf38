use mathlib.Core.Path.{ap, sym, ◌∙◌}
use Rattle.descriptor.specs.declared.Reading.{Reading}
use Rattle.descriptor.specs.declared.Endpoints.{Endpoints}
use Rattle.descriptor.specs.Writing.{is_short, written_of, room_after}
use Rattle.descriptor.specs.RewritingLaws.{no-descriptor, short-room, refused-by, written-by}
use Rattle.descriptor.proofs.rewrite.Goals as goal

pub returns-then-not-is_configuration-clause-value : goal.returns-then-not-is_configuration-clause-value
returns-then-not-is_configuration-clause-value c =
    (no-descriptor _ _ (sym c.is_configuration.ensures ∙ c.if-not-is_configuration.true)).0

pub returns-then-not-is_configuration-clause-room_after : goal.returns-then-not-is_configuration-clause-room_after
returns-then-not-is_configuration-clause-room_after c =
    (no-descriptor _ _ (sym c.is_configuration.ensures ∙ c.if-not-is_configuration.true)).1

pub gathered-requires : goal.gathered-requires
gathered-requires c = sym c.is_configuration.ensures ∙ c.if-not-is_configuration.false

pub returns-then-is_short-clause-value : goal.returns-then-is_short-clause-value
returns-then-is_short-clause-value c =
    let l = ap (λ (x : Endpoints). is_short x c.args.room.now) c.gathered.ensures.value in
    (short-room c.args.bytes.now c.args.room.now (sym l ∙ sym c.is_short.ensures ∙ c.if-is_short.true)).0

pub returns-then-is_short-clause-room_after : goal.returns-then-is_short-clause-room_after
returns-then-is_short-clause-room_after c =
    let l = ap (λ (x : Endpoints). is_short x c.args.room.now) c.gathered.ensures.value in
    (short-room c.args.bytes.now c.args.room.now (sym l ∙ sym c.is_short.ensures ∙ c.if-is_short.true)).1

pub returns-in-Refused-clause-value : goal.returns-in-Refused-clause-value
returns-in-Refused-clause-value c =
    let conf = sym c.is_configuration.ensures
    ∙ c.if-not-is_configuration.false in
    let l = ap (λ (x : Endpoints). is_short x c.args.room.now) c.gathered.ensures.value in
    let long = sym l ∙ sym c.is_short.ensures ∙ c.if-is_short.false in
    (refused-by c.args.bytes.now c.args.room.now conf long _
    (ap (λ (x : Reading). x.answer) (sym c.read-reading.ensures) ∙ c.in-Refused.is)).0

pub returns-in-Refused-clause-room_after : goal.returns-in-Refused-clause-room_after
returns-in-Refused-clause-room_after c =
    let conf = sym c.is_configuration.ensures
    ∙ c.if-not-is_configuration.false in
    let l = ap (λ (x : Endpoints). is_short x c.args.room.now) c.gathered.ensures.value in
    let long = sym l ∙ sym c.is_short.ensures ∙ c.if-is_short.false in
    (refused-by c.args.bytes.now c.args.room.now conf long _
    (ap (λ (x : Reading). x.answer) (sym c.read-reading.ensures) ∙ c.in-Refused.is)).1

pub returns-in-Listed : goal.returns-in-Listed
returns-in-Listed c =
    let conf = sym c.is_configuration.ensures
    ∙ c.if-not-is_configuration.false in
    let l = ap (λ (x : Endpoints). is_short x c.args.room.now) c.gathered.ensures.value in
    let long = sym l ∙ sym c.is_short.ensures ∙ c.if-is_short.false in
    let e = ap (λ (x : Reading). x.answer) (sym c.read-reading.ensures)
    ∙ c.in-Listed.is in
    let by = written-by c.args.bytes.now c.args.room.now conf long e in
    let list = ap (λ (x : Reading). x.list) c.read-reading.ensures ∙ by.0 in
    record {
      value = c.write.ensures.value ∙ ap (λ (x : Endpoints). written_of x c.args.room.now) list ∙ by.1;
      room_after = c.write.ensures.room_after ∙ ap (λ (x : Endpoints). room_after x c.args.room.now) list ∙ by.2;
    }
