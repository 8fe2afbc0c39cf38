use Rattle.script.specs.Handler.{own_in}
use Rattle.interrupt.proofs.framing.own_in.Goals as goal

pub returns-then-is_in : goal.returns-then-is_in
unfolding own_in
returns-then-is_in c = simp (c.if-x.true, c.if-iso.true, ← c.is_in.ensures, c.if-is_in.true)

pub returns-then-iso : goal.returns-then-iso
unfolding own_in
returns-then-iso c = simp (c.if-x.true, c.if-iso.true, ← c.is_in.ensures, c.if-is_in.false)

pub returns-then-x : goal.returns-then-x
unfolding own_in
returns-then-x c = simp (c.if-x.true, c.if-iso.false)

pub returns : goal.returns
unfolding own_in
returns c = simp c.if-x.false
