use mathlib.Core.Path.{refl}
use Rattle.machine.proofs.stands.stand.Goals as goal

pub returns : goal.returns
returns c = (refl, (c.store_saved.ensures.s_unchanged, c.store_saved.ensures.s_after))
