use Rattle.std.proofs.Common.{ℕ, ◌+◌, set, sym, refl, ap, ◌∙◌, arith}
use Rattle.state.specs.Driver.{Driver, with_wakes}
use Rattle.state.specs.Wakes.{with_count, with_codes}
use Rattle.state.specs.WakesLaws.{woken-room, woken-full}
use Rattle.state.specs.State.{view}
use Rattle.state.proofs.wakes.wake.Goals as goal

pub returns-then-n-lt64 : goal.returns-then-n-lt64
returns-then-n-lt64 c =
    let d = view c.args.s.now in
    record {
      s_after = c.store_count.ensures.s_after ∙ ap (λ (x : Driver). with_wakes x (with_count x.wakes (c.woken_count-n.result + 1)))
          c.store_code.ensures.s_after
          ∙ ap (λ (k : ℕ). with_wakes d (with_count (with_codes d.wakes (set d.wakes.codes k c.args.code)) (k + 1)))
          c.woken_count-n.ensures
          ∙ ap (with_wakes d) (sym (woken-room c.args.code d.wakes (omega (arith, sym c.woken_count-n.ensures, c.if-n-lt64.true))));
      s_unchanged = c.store_count.ensures.s_unchanged ∙ c.store_code.ensures.s_unchanged;
    }

pub returns-else-n-lt64 : goal.returns-else-n-lt64
returns-else-n-lt64 c =
    let d = view c.args.s.now in
    record {
      s_after = ap (with_wakes d) (sym (woken-full c.args.code d.wakes (omega (arith, sym c.woken_count-n.ensures, c.if-n-lt64.false))));
      s_unchanged = refl;
    }
