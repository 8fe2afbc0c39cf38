use Rattle.script_ops.proofs.records.switched.Goals as goal

pub returns-then-is_on : goal.returns-then-is_on
returns-then-is_on c =
    simp (
      c.with_on.ensures,
      ← c.load_ep-r.ensures,
      ← c.is_on.ensures,
      c.if-is_on.true,
    )

pub returns : goal.returns
returns c = simp (← c.load_ep-r.ensures, ← c.is_on.ensures, c.if-is_on.false)
