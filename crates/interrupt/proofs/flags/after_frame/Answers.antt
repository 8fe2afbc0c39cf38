use Rattle.interrupt.specs.StopsLaws.{pauses-in}
use Rattle.interrupt.specs.Laws.{microframe-kept}
use mathlib.Core.Path.{refl}
use Rattle.interrupt.proofs.flags.after_frame.Goals as goal

pub returns : goal.returns
returns c =
    pauses-in c.stand_flags.ensures refl
    (λ b. microframe-kept c.args.v _ _ c.load_globals-g.result _ _ b c.short-frame.ensures
    c.microframe_index-i.ensures c.load_globals-g.ensures
    c.store_globals.ensures.s_after)
