-- A write of ep_config is handed out by a continue alone, so a giving back in continues misses none
use Rattle.std.specs.Prelude.{Bool, true, false, not, cond, ◌≡◌, refl, ℕ, zero, suc}
use Rattle.std.proofs.Common.{true≢false, sym, ◌∙◌}
use Rattle.state.specs.Driver.{Driver}
use Rattle.script.specs.Tree as tree
use Rattle.script.specs.Answers.{Answer}
use Rattle.script.specs.Calls.{Config, Op, slots, passes, irq, code, start_row, calls}
use Rattle.script.specs.Machine.{Buf, Call, start, begin, continue, question, Pending, idle, busy, Machine, lent_to}
use Rattle.script.specs.Machine.{misfit, stay, halt, during_interrupt, begun, started}
use Rattle.script_ops.specs.Rings.{St}
use Rattle.script_ops.specs.Concrete.{concrete}
use Rattle.script.specs.Script.{run}
use Rattle.machine.specs.Suspended.{driver_of, drive}
use Rattle.answer.specs.Goes.{StepResult}
use Rattle.calls.specs.Sharing.{going, sort_of}
use Rattle.proof_bus_time.specs.Enabled.{writes_config, hands_config}
use Rattle.proof_bus_time.specs.Calm.{When}
use Rattle.proof_bus_time.specs.LeftLaws.{First, none, some}
use Rattle.proof_bus_time.proofs.BeginsLaws.{code-first, start_first}

-- none is
abbrev None : StepResult → Type 0
None y = hands_config y.0 ≡ false

quiet-false : (b : Bool) → When (not b) (Unit {0}) → b ≡ false
quiet-false false x = refl
quiet-false true x = elim x [ ]

of-halt : (i : Bool) {o : tree.Out St Answer} → First o → None (halt calls driver_of (λ s. s) i o)
of-halt i none = refl
of-halt i (some {q = q} x) = quiet-false (writes_config q) x

either : (b : Bool) (y z : StepResult) → None y → None z → None (cond b y z)
either true y z p q = p
either false y z p q = q

of-beside : (m : Machine Answer Driver) (o : tree.Out St Answer) → None (during_interrupt calls driver_of m o)
of-beside m (tree.ends a s) = refl
of-beside m (tree.asks q s k) = refl

of-begin : (o : Op) (m : Machine Answer Driver) (w : Pending Answer Driver) (b : Buf)
    → None (begun calls driver_of (λ s. s) o m w b)
of-begin o m idle b = of-halt (irq o) (code-first o (m.st, b))
of-begin o m (busy i q k) b =
    let n = lent_to calls driver_of m b in
    let x = run concrete (code o) (m.st, b) in
    either (cond i (passes o) false) (during_interrupt calls driver_of n x) (stay calls driver_of 3 n) (of-beside n x) refl

of-start : (c : Config) (n : ℕ) (m : Machine Answer Driver) (b : Buf) → None (started calls driver_of (λ s. s) c n m b)
of-start c zero m b = of-halt false (start_first c (driver_of.fresh c, b))
of-start c (suc n) m b = refl

-- every call of every driver
pub config-in-continues : (x : Call Config Op) (m : Machine Answer Driver) (b : Buf) → hands_config (drive x m b).0
    ≡ true → sort_of x ≡ going
config-in-continues (start c) m b h = absurd (true≢false (sym h ∙ of-start c (start_row c b) m b))
config-in-continues (begin o) m b h =
    absurd
    (true≢false (sym h ∙ either (cond (slots o) (misfit calls driver_of m.st b) false)
    (stay calls driver_of 1 m) (begun calls driver_of (λ s. s) o m m.under_way_lem b) refl
    (of-begin o m m.under_way_lem b)))
config-in-continues (continue v) m b h = refl
config-in-continues (question q) m b h = absurd (true≢false (sym h))
