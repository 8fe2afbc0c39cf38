-- Laws on the definitions of Accepts.antt
use Rattle.std.specs.Prelude.{Bool, true, false, cond, ◌≡◌, refl, ℕ, ◌+◌, ◌%◌, eqb, get_or}
use Rattle.std.proofs.Common.{ap, ◌∙◌, arith}
use Rattle.regs.specs.declared.Dir.{Dir}
use Rattle.regs.specs.declared.Dir.TheVariants.{Out, In}
use Rattle.state.specs.Driver.{Driver, ep_on, key, no_ep, none_gathered}
use Rattle.script.specs.Tree.{ends, asks}
use Rattle.script.specs.Tree as tree
use Rattle.script.specs.Script.{Script, run, test, ◌>>◌, row, switch}
use Rattle.script.specs.Statics.{is_on, wake}
use Rattle.script.specs.Answers.{Answer, Refused, resultless, is_allocated}
use Rattle.script.specs.Bus as script
use Rattle.script.specs.Calls.{slotted, SetEnabled}
use Rattle.script.specs.Machine.{Buf, begin, ended}
use Rattle.script_ops.specs.Rings.{St}
use Rattle.script_ops.specs.Concrete.{concrete}
use Rattle.machine.specs.declared.Suspended.{Suspended}
use Rattle.machine.specs.Suspended.{machine_at, drive, halts, slots_fit}
use Rattle.answer.specs.Goes.{StepResult}
use Rattle.machine.specs.Rows.{is_idle, stop_of}
use Rattle.machine.proofs.RowsLaws.{named-call}
use Rattle.calls.specs.Sharing.{is_handed}
use Rattle.calls.specs.Accepts.{accepts}

-- ---- each begins with an access

abbrev asks_first : {A : Type 0} → tree.Out St A → Bool
asks_first (ends a s) = false
asks_first (asks q s k) = true

handed-first : (o : tree.Out St Answer) → is_handed (halts o).0 ≡ asks_first o
handed-first (ends a s) = refl
handed-first (asks q s k) = refl

-- an OUT, isochronous or not
abbrev out_body : ℕ → Bool → Bool → Script false Answer
out_body e on iso = resultless (do
  test iso (row (switch e on)) (script.set_enabled_out e on)
  wake Out e)

first_out : (e : ℕ) (on iso : Bool) (s : St) → asks_first (run concrete (out_body e on iso) s) ≡ true
first_out e on true s = refl
first_out e on false s = refl

first-access : (dir : Dir) (e : ℕ) (on : Bool) (d : Driver) (b : Buf)
    → asks_first (run concrete (resultless (script.set_enabled dir e on)) (d, b)) ≡ true
first-access Out e on d b = first_out e on (is_on (ep_on (none_gathered d) Out e).iso) (d, b)
first-access In e on d b = refl

abbrev answer : StepResult → Bool
answer x = is_handed x.0

abbrev refused : ℕ → Suspended → Driver → Buf → StepResult
refused n u d b = (ended (Refused n), machine_at u d b)

by_rows : (fits : Bool) (stop : ℕ) (named : Bool) (o : tree.Out St Answer) (u : Suspended) (d : Driver) (a b : Buf)
    → asks_first o ≡ true
    → answer (cond fits (cond (eqb stop 0) (cond named (halts o) (refused 5 u d b)) (refused stop u d b))
    (refused 1 u d a))
    ≡ cond fits (cond (eqb stop 0) named false) false
by_rows false stop named o u d a b h = refl
by_rows true stop named o u d a b h = go (eqb stop 0) named
  where
    go : (x y : Bool) → answer (cond x (cond y (halts o) (refused 5 u d b)) (refused stop u d b)) ≡ cond x y false
    go false y = refl
    go true false = refl
    go true true = handed-first o ∙ h

pub accepts-is : (dir : Dir) (e : ℕ) (on : Bool) (u : Suspended) (d : Driver) (a b : Buf)
    → is_handed (drive (begin (slotted (SetEnabled dir e on))) (machine_at u d a) b).0 ≡ accepts d u b dir e
unfolding accepts
accepts-is dir e on u d a b =
    ap answer (named-call (SetEnabled dir e on) dir e (resultless (script.set_enabled dir e on)) u d a b refl)
    ∙ by_rows (slots_fit d b) (stop_of (is_idle u) 2 d.globals.stage) (is_allocated d.allocator dir e)
    (run concrete (resultless (script.set_enabled dir e on)) (d, b)) u d a b (first-access dir e on d b)

-- ---- an endpoint's number counts modulo 16

twice : (e : ℕ) → e % 16 % 16 ≡ e % 16
twice e = omega arith

pub ep_on-low : (d : Driver) (dir : Dir) (e : ℕ) → ep_on d dir (e % 16) ≡ ep_on d dir e
unfolding ep_on key
ep_on-low d Out e = ap (λ (k : ℕ). get_or d.eps k no_ep) (twice e)
ep_on-low d In e = ap (λ (k : ℕ). get_or d.eps (16 + k) no_ep) (twice e)
