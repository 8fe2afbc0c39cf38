use Rattle.std.proofs.Common.{sym, ap, ◌∙◌}
use Rattle.survey_c.specs.Words.{refused_word}
use Rattle.survey_c.specs.RecorderLaws.{record-any, room-any}
use Rattle.survey_c.proofs.usbhs_record.Goals as goal

pub returns-in-Err : goal.returns-in-Err
returns-in-Err c =
    let any = record-any _ c.args.endpoint c.args.bytes.now c.args.room.now _ c.endpoint_of.ensures in
    let e = sym any ∙ (sym c.«record».ensures.value ∙ c.in-Err.is) in
    rw (← c.recorder_in-r.ensures) (record {
      value = rw e (c.refused.ensures ∙ ap refused_word c.row.ensures);
      state_after = rw e;
      room_after = c.«record».ensures.room_after
          ∙ room-any _ c.args.endpoint c.args.overruns c.args.bytes.now c.args.room.now _ c.endpoint_of.ensures;
    })

pub returns-in-Ok : goal.returns-in-Ok
returns-in-Ok c =
    let any = record-any _ c.args.endpoint c.args.bytes.now c.args.room.now _ c.endpoint_of.ensures in
    let e = sym any ∙ (sym c.«record».ensures.value ∙ c.in-Ok.is) in
    rw (← c.recorder_in-r.ensures) (record {
      value = rw e c.ended.ensures;
      state_after = rw e c.recorder_numbers-numbers.ensures;
      room_after = c.«record».ensures.room_after
          ∙ room-any _ c.args.endpoint c.args.overruns c.args.bytes.now c.args.room.now _ c.endpoint_of.ensures;
    })
