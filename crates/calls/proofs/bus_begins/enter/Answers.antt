use mathlib.Core.Path.{refl, sym, ◌∙◌}
use Rattle.calls.proofs.bus_begins.enter.Goals as goal

pub returns-then-n-eq0 : goal.returns-then-n-eq0
returns-then-n-eq0 c =
    record {
      row = sym c.if-n-eq0.true ∙ c.stop-n.ensures;
      passed = λ _. c.clear_wakes.ensures.s_after;
      stopped = λ no. absurd (no refl);
    }

pub returns : goal.returns
returns c =
    record { row = c.stop-n.ensures; passed = λ e. absurd (c.if-n-eq0.false e); stopped = λ _. refl }
