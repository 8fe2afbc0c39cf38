use Rattle.std.proofs.Common.{◌/◌, ◌∙◌, arith}
use lib.Seq.{paste-zero}
use Rattle.card.specs.Reading.{bytes_from}
use Rattle.card.specs.Streams.{view}
use Rattle.card.proofs.InsideLaws.{seen-good, good-lies, near_none, near-walked, near-bytes}
use Rattle.card.proofs.batches.take_near.Goals as goal

pub returns-then-first-d : goal.returns-then-first-d
returns-then-first-d c =
    record {
      near = near_none (view c.args.stream.now) c.args.d c.args.first _ c.requires;
      room_after = paste-zero c.args.room.now 0
          (bytes_from (view c.args.stream.now) c.args.d 0);
    }

pub walk-near-requires : goal.walk-near-requires
walk-near-requires c =
    let good = seen-good (view c.args.stream.now) c.args.d c.args.first c.requires (omega arith) in
    good

pub overflow_mul-d : goal.overflow_mul-d
overflow_mul-d c =
    let good = seen-good (view c.args.stream.now) c.args.d c.args.first c.requires (omega arith) in
    let lies = good-lies c.args.stream.now (c.args.d / 504) good in
    omega arith

pub overflow_add-d-3 : goal.overflow_add-d-3
overflow_add-d-3 c =
    let good = seen-good (view c.args.stream.now) c.args.d c.args.first c.requires (omega arith) in
    let lies = good-lies c.args.stream.now (c.args.d / 504) good in
    omega arith

pub copy_run-requires : goal.copy_run-requires
copy_run-requires c =
    let good = seen-good (view c.args.stream.now) c.args.d c.args.first c.requires (omega arith) in
    let lies = good-lies c.args.stream.now (c.args.d / 504) good in
    (omega (arith, c.walk-near.ensures.inside), omega (arith, c.walk-near.ensures.fits))

pub returns : goal.returns
returns c =
    let good = seen-good (view c.args.stream.now) c.args.d c.args.first c.requires (omega arith) in
    let near = near-walked (view c.args.stream.now) c.args.d c.args.first _ _ _ c.requires (omega arith)
    c.walk-near.ensures in
    record {
      near = near;
      room_after = c.copy_run.ensures
          ∙ near-bytes c.args.stream.now c.args.room.now c.args.d 0 c.walk-near.result.bytes good
          c.walk-near.ensures.inside;
    }
