use denote.Text.{Utf8}
use denote.Shadow.{shadow}
use Rattle.print.proofs.text.NamedDisplay.fmt.Given as goal

abbrev pub invariant-loop-bit : goal.invariant-loop-bit
invariant-loop-bit g l = (goal.iterator-loop-bit g).can_next l.bit-iterator
    × (goal.iterator-loop-bit g).is_finite l.bit-iterator
    × shadow (Utf8 l.comma)
