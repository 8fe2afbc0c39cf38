-- What AlwaysLaws.antt speaks of. It proves: what holds of a started driver's state and every operation keeps, holds
-- after each call of every list, whatever is lent and whatever the chip answers: the driver agrees with itself by the
-- relation that the states are one and it holds of this one
use Rattle.std.specs.Prelude.{List, [], ◌∷◌}
use Rattle.script.specs.Machine.{Event, Machine, Calls, Instance, call}

-- the driver's machine after a list of calls
abbrev pub after : {C Op A S : Type 0} → Calls C Op A → Instance C S → List (Event C Op) → Machine A S → Machine A S
after L D [] m = m
after L D (e ∷ es) m = after L D es (call L D (λ s. s) e.call m e.lent).1
