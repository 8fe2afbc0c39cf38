use Rattle.std.proofs.Common.{sym, ap, ◌∙◌}
use Rattle.survey_c.specs.Words.{refused_word}
use Rattle.survey_c.specs.CardLaws.{write-any, written-any}
use Rattle.survey_c.proofs.usbhs_card_write.Goals as goal

pub returns-in-Err : goal.returns-in-Err
returns-in-Err c =
    let any = write-any _ c.args.endpoint c.args.bytes.now c.args.block.now _ c.endpoint_of.ensures in
    let e = sym any ∙ (sym c.write.ensures.value ∙ c.in-Err.is) in
    rw (← c.writer_in-w.ensures) (record {
      value = rw e (c.refused.ensures ∙ ap refused_word c.row.ensures);
      writer_after = rw e;
      block_after = c.write.ensures.block_after
          ∙ written-any _ c.args.endpoint c.args.bytes.now c.args.block.now _ c.endpoint_of.ensures;
    })

pub returns-in-Ok : goal.returns-in-Ok
returns-in-Ok c =
    let any = write-any _ c.args.endpoint c.args.bytes.now c.args.block.now _ c.endpoint_of.ensures in
    let e = sym any ∙ (sym c.write.ensures.value ∙ c.in-Ok.is) in
    rw (← c.writer_in-w.ensures) (record {
      value = rw e (c.ended.ensures ∙ rw c.result_of.ensures);
      writer_after = rw e c.numbers_of-numbers.ensures;
      block_after = c.write.ensures.block_after
          ∙ written-any _ c.args.endpoint c.args.bytes.now c.args.block.now _ c.endpoint_of.ensures;
    })
