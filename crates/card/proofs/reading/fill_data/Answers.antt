use Rattle.std.proofs.Common.{◌≡◌, ℕ, ◌+◌, ◌*◌, ◌/◌, ◌%◌, ◌≤◌, List, length, drop, ap, sym, ◌∙◌, refl, arith, take_all}
use lib.Seq.{paste, length-paste}
use Rattle.card.specs.Streams.{view}
use Rattle.card.specs.Reading.{bytes_from}
use Rattle.card.specs.PasteLaws.{all_pasted, paste-whole}
use Rattle.card.specs.Rooms.{length-bytes, paste-places}
use Rattle.card.proofs.reading.fill_data.Goals as goal

pub loop-i-preserved : goal.loop-i-preserved
loop-i-preserved c =
    let s = c.args.stream.now in
    let room = c.args.room.now in
    let n = length room in
    let i = c.loop-i.i in
    let run = c.run_of-run.result in
    let here : 0 + i ≡ i = omega arith in
    let few : i + run ≤ n = omega (arith, c.run_of-run.ensures.upper_bound.0) in
    let source = drop ((c.args.d + i) / 504 * 512 + (6 + (c.args.d + i) % 504)) s in
    let bytes = bytes_from (view s) c.args.d n in
    let places : paste (paste room 0 bytes i) i source run ≡ paste room 0 bytes (i + run) =
    ap (λ (j : ℕ). paste (paste room 0 bytes i) j source run) (sym here)
    ∙ paste-places s room c.args.d 0 i run n (omega arith) few (omega arith) c.run_of-run.ensures.upper_bound.1 in
    let now = c.copy_run.ensures ∙ ap (λ (l : List ℕ). paste l i source run) c.loop-i.invariant.holds ∙ places in
    let long = length-bytes (view s) n c.args.d in
    record {
      few = few;
      long = ap length now ∙ length-paste room 0 _ (i + run) (omega (arith, few)) (omega (arith, long, few));
      holds = now;
    }

pub returns : goal.returns
returns c =
    let n = length c.args.room.now in
    let source = bytes_from (view c.args.stream.now) c.args.d n in
    all_pasted _ source 0 n c.loop-i.room c.loop-i.i c.loop-i.invariant (omega arith)
    ∙ paste-whole c.args.room.now source n refl
    ∙ take_all n source (omega (arith, length-bytes (view c.args.stream.now) n c.args.d))
