use Rattle.interrupt.proofs.loads.transfer_at.Goals as goal

pub returns : goal.returns
returns c =
    simp (
      c.is_on.ensures,
      c.busy_byte.ensures,
      c.st_byte.ensures,
      c.len_word.ensures,
      c.is_on-2.ensures,
      c.late_byte.ensures,
      c.is_on-3.ensures,
      c.len_ok_byte.ensures,
    )
