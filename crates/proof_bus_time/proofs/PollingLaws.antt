-- An endpoint's charge over a poll of the bus: a reset gives it back with the write of ep_config
use Rattle.std.specs.Prelude.{Bool, false, ◌||◌, ◌≡◌, refl, ℕ, zero, suc}
use Rattle.std.proofs.Math.Bool.{cond}
use Rattle.std.proofs.Math.Path.{ap, sym}
use Rattle.std.proofs.Common.{◌∙◌}
use Rattle.bits.specs.Bit.{bit_is_set}
use Rattle.regs.specs.declared.Dir.{Dir}
use Rattle.regs.specs.Enables as enables
use Rattle.regs.specs.Enables.{place}
use Rattle.state.specs.Driver.{Driver}
use Rattle.state.specs.Wakes.{every_endpoint}
use Rattle.script.specs.Tree as tree
use Rattle.script.specs.Tree.{ends}
use Rattle.script.specs.Script.{Script, bind, test, run, rows, waken, bus_reset_lem}
use Rattle.script.specs.Statics.{wake_all}
use Rattle.script.specs.Answers.{operation}
use Rattle.script.specs.Bus as bus
use Rattle.script.specs.Bus.{nak_all}
use Rattle.script_ops.specs.Rings.{St}
use Rattle.script_ops.specs.Concrete.{concrete}
use Rattle.calls.specs.Sharing.{charge_on}
use Rattle.proof_bus_time.specs.Charged.{polls-bus, given_back}
use Rattle.proof_bus_time.proofs.HistoriesLaws.{none-set}
use Rattle.proof_bus_time.specs.StaysLaws.{Turns, still, act_stays, reset-stays, reset-turns}
use Rattle.proof_bus_time.specs.Calm.{NoEpConfigWrite}
use Rattle.proof_bus_time.specs.LeftLaws.{Left, at_end, at_ask, left-bind, left-cond, Goes, keeps, calm-then}
use Rattle.proof_bus_time.proofs.SwitchingLaws.{Due, Ended, ended-stays, calm-ended}

pub naks-calm : (n e : ℕ) → NoEpConfigWrite false (nak_all {i = false} n e)
unfolding nak_all
naks-calm zero e = tt
naks-calm (suc n) e = ((tt, tt), λ _. ((tt, tt), λ _. naks-calm n (suc e)))

module _ (dir : Dir) (e : ℕ) where
  abbrev bit : ℕ
  bit = place dir e

  -- a write of ep_config gives back all
  abbrev pub all_back : ℕ → ℕ
  all_back c = given_back dir e polls-bus c

  abbrev Runs : {A : Type 0} → ℕ → tree.Out St A → Type 0
  Runs c o = Left bit all_back (Due dir e false) (Ended dir e) c o

  -- none is enabled, none is charged
  none-due : (c : ℕ) {d d' : Driver} → Turns 0 d d' → Due dir e false (cond (bit_is_set 0 bit) c 0) d'
  unfolding enables.is_on
  none-due c {d' = d'} x =
      ap (λ (b : Bool). cond b c 0) (none-set bit)
      ∙ sym (ap (λ (w : ℕ). cond (bit_is_set w bit || false) (charge_on d' dir e) 0) x.config
      ∙ ap (λ (b : Bool). cond (b || false) (charge_on d' dir e) 0) (none-set bit))

  of_row : (c : ℕ) (s : St) → s.0.globals.stage ≡ 2 → Runs c (rows concrete bus_reset_lem 3 (λ t. ends (tt {0}) t) s)
  of_row c s second =
      let x = reset-turns s in
      at_ask (ap (λ (b : Bool). cond b c 0) (none-set bit)) (none-due c x)
      (λ _ t p. let y = still (still x p) (reset-stays t).2 in
      at_ask refl (none-due c y) (λ _ u q. let z = still (still y q) (reset-stays u).1 in
      at_ask refl (none-due c z) (λ _ v r. let w = still (still z r) (reset-stays v).0 in
      at_ask refl (none-due c w) (λ _ n m. let k = still w m in
      at_end (none-due c k, k.stage ∙ second)))))

  module _ (c : ℕ) where
    abbrev Polling : {A : Type 0} → Script false A → Type 0
    Polling p = Goes bit all_back c (Ended dir e c) (Due dir e false) (Ended dir e) p

    first : {A B : Type 0} {p : Script false A} {f : A → Script false B} → NoEpConfigWrite false p
        → ((a : A) → Polling (f a)) → Polling (bind p f)
    first x rest = calm-then (keeps (ended-stays dir e c)) bit all_back c (Due dir e false) (λ d k. k.0) x rest

    of-reset : Polling bus.bus_reset
    of-reset = first (tt, tt) (λ _. first (tt, tt) (λ _. first (tt, tt) (λ _. first (naks-calm 15 1) (λ _. record {
      on = λ s k.
          left-bind {f = λ (_ : Unit {0}) (v : St). run concrete (wake_all {i = false}) v} (of_row c s k.1)
          (λ g _ t y. at_end (ended-stays dir e g _ _ (act_stays (waken every_endpoint) refl t) y));
    }))))

    calm-on : {A : Type 0} {p : Script false A} → NoEpConfigWrite false p → Polling p
    calm-on {p = p} x = record { on = λ s k. calm-ended dir e all_back c p x s k }

    then-calm : {A B : Type 0} {p : Script false A} {f : A → Script false B} → Polling p
        → ((a : A) → NoEpConfigWrite false (f a)) → Polling (bind p f)
    then-calm {f = f} x z =
        record { on = λ s k. left-bind (x.on s k) (λ g a t y. calm-ended dir e all_back g (f a) (z a) t y) }

    either : {A : Type 0} {b : Bool} {p q : Script false A} → Polling p → Polling q → Polling (test b p q)
    either {b = b} x y = record { on = λ s k. left-cond b (λ _. x.on s k) (λ _. y.on s k) }

    of_poll : Polling bus.poll
    of_poll = first (λ _. tt) (λ _. either
        (first (tt, λ _. tt) (λ _. either
        (then-calm of-reset (λ _. ((λ _. tt, λ _. (tt, λ _. (tt, tt))), λ _. tt)))
        (calm-on (((tt, λ _. tt), λ _. ((tt, tt), λ _. ((λ _. tt, λ _. (tt, λ _. (tt, tt))), λ _. tt))), tt))))
        (calm-on (tt, λ _. tt)))

    pub polled : Polling (operation bus.poll)
    polled = first tt (λ _. then-calm of_poll (λ _. (λ _. tt, λ _. tt)))
