-- Laws on the definitions of Spares.antt: of what an interrupt may hand out (Steps.antt) nothing writes ep_config
use Rattle.std.specs.Prelude.{Bool, true, false, ◌≡◌, refl, ℕ}
use Rattle.std.proofs.Common.{true≢false, sym}
use Rattle.regs.specs.declared.Access.{Access}
use Rattle.regs.specs.declared.Access.TheVariants.{Read, Write, Receive, Transmit, Ep0Dma, Wait, Callback}
use Rattle.regs.specs.declared.Reg.TheVariants.{EpConfig}
use Rattle.script.specs.Tree as tree
use Rattle.script.specs.Tree.{asks}
use Rattle.script.specs.Script.{Script, run}
use Rattle.script.specs.Answers.{Answer}
use Rattle.script.specs.Calls.{interrupt, interrupt_code}
use Rattle.script.specs.Every.{at_ask, Throughout, same_reg}
use Rattle.script.specs.EveryLaws.{only-run}
use Rattle.script.specs.Steps.{moving, may_ask, Steps}
use Rattle.script.proofs.StepsCalls.{call-steps}
use Rattle.script.specs.StepsRunsLaws.{writes-config, accesses}
use Rattle.script_ops.specs.Rings.{St}
use Rattle.script_ops.specs.Concrete.{concrete}
use Rattle.calls.specs.Spares.{Spares, Sparing}

of-kind : (q : Access) → may_ask moving q ≡ true → Spares q
of-kind (Write r e v) h = by (same_reg r EpConfig) (writes-config moving r v h)
  where
    by : (b : Bool) → (b ≡ true → false ≡ true) → Throughout b ⊥
    by true g = absurd (true≢false (sym (g refl)))
    by false g = tt
of-kind (Read r e) h = tt
of-kind (Receive e x) h = tt
of-kind (Transmit e x) h = tt
of-kind (Ep0Dma x) h = tt
of-kind (Wait n) h = tt
of-kind Callback h = tt

-- what does no more than an interrupt spares ep_config
pub runs : {A : Type 0} (p : Script true A) → Steps moving p → (t : St) → Sparing (run concrete p t)
runs p x t = only-run concrete p (accesses moving of-kind p x) tt t

pub interrupt-spares : (s : St) → Sparing (run concrete interrupt_code s)
interrupt-spares s = runs interrupt_code (call-steps interrupt) s

-- what goes on after an access
pub spares-on : {q : Access} {s : St} {k : ℕ → St → tree.Out St Answer} → Sparing (asks q s k) → (v : ℕ) (t : St)
    → Sparing (k v t)
spares-on (at_ask ok k) v t = k v t tt tt
