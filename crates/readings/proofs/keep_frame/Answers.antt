use mathlib.Core.Path.{ap}
use Rattle.state.specs.Driver.{Driver}
use Rattle.interrupt.specs.Laws.{microframe-kept}
use Rattle.readings.proofs.keep_frame.Goals as goal

pub returns : goal.returns
returns c =
    record {
      by_index = λ b. microframe-kept c.args.v _ _ c.load_globals-g.result _ _ b c.short.ensures
          c.microframe_index-i.ensures c.load_globals-g.ensures c.store_globals.ensures.s_after;
      s_unchanged = ap (λ (d : Driver). d.allocator) c.store_globals.ensures.s_after;
    }
