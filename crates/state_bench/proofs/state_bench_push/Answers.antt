use Rattle.state_bench.proofs.state_bench_push.Goals as goal

pub returns : goal.returns
returns c =
    simp (
      c.store_ep.ensures.s_after,
      c.wrapping_add_u8.ensures.value,
      c.store_len.ensures.s_after,
      c.load_ep-r.ensures,
    )
