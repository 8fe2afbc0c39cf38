use Rattle.script_ops.specs.Records.{record_given}
use Rattle.script_ops.proofs.records.give_record.Goals as goal

pub returns : goal.returns
unfolding record_given
returns c =
    record {
      s_after = simp (
        c.store_ep.ensures.s_after,
        c.endpoint.ensures,
        c.load_allocator-b.ensures,
        c.load_ep-r.ensures,
      );
      s_unchanged = c.store_ep.ensures.s_unchanged;
    }
