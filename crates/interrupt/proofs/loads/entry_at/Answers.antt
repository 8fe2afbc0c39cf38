use Rattle.interrupt.proofs.loads.entry_at.Goals as goal

pub returns : goal.returns
returns c =
    simp (
      c.setup_at.ensures,
      c.transfer_at.ensures,
      c.is_on.ensures,
      c.now_byte.ensures,
      c.frame_word.ensures,
    )
