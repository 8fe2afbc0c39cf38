use Rattle.bus.specs.EventsLaws.{nak-more}
use Rattle.bus.specs.Points.{after_naked}
use mathlib.Core.Path.{refl}
use Rattle.bus.proofs.event.after_naked.Goals as goal

pub returns : goal.returns
unfolding after_naked
returns c =
    record {
      b_value = λ d b. simp (c.nak_word.ensures, nak-more _ c.requires);
      awaited = refl;
    }
