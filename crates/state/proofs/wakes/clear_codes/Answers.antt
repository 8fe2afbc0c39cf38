use Rattle.std.proofs.Common.{◌≡◌, set, sym, refl, ap, ◌∙◌, arith}
use Rattle.state.specs.Driver.{Driver, with_wakes}
use Rattle.state.specs.Wakes.{with_codes}
use Rattle.state.specs.State.{view}
use Rattle.state.proofs.Filling.{filled_none, filled-first}
use Rattle.state.proofs.wakes.clear_codes.Goals as goal

pub loop-k-init : goal.loop-k-init
loop-k-init c =
    let d = view c.args.s.now in (
      omega arith,
      (
        ap (λ (l : _). with_wakes d (with_codes d.wakes l)) (sym (filled_none d.wakes.codes 0 0)),
        refl,
      ),
    )

pub loop-k-preserved : goal.loop-k-preserved
loop-k-preserved c =
    let w = view c.args.s.now in (
      omega arith,
      (
        c.store_code.ensures.s_after ∙ ap (λ (d : Driver). with_wakes d (with_codes d.wakes (set d.wakes.codes c.loop-k.k 0))) c.loop-k.invariant.1.0
            ∙ ap (λ (l : _). with_wakes w (with_codes w.wakes l)) (filled-first w.wakes.codes c.loop-k.k 0),
        c.store_code.ensures.s_unchanged ∙ c.loop-k.invariant.1.1,
      ),
    )

pub returns : goal.returns
returns c =
    let e : c.loop-k.k ≡ 64 = omega arith in
    record {
      s_after = rw e at c.loop-k.invariant.1.0;
      s_unchanged = c.loop-k.invariant.1.1;
    }
