-- Row 5 of a stall, which takes EP0 too: the call is its row's refusal, or its script
use Rattle.std.specs.Prelude.{Bool, true, false, cond, ◌≡◌, refl, ℕ, eqb}
use Rattle.std.proofs.Common.{ap, ◌∙◌}
use Rattle.regs.specs.declared.Dir.{Dir}
use Rattle.state.specs.Driver.{Driver}
use Rattle.script.specs.Tree.{Out, ends}
use Rattle.script.specs.Script.{Script, run}
use Rattle.script.specs.Answers.{Answer, Refused, staged, is_allocated}
use Rattle.script.specs.Calls.{Other, other, other_code, named_or_0}
use Rattle.script.specs.Machine.{Buf, ended, begin}
use Rattle.script_ops.specs.Rings.{St}
use Rattle.script_ops.specs.Concrete.{concrete}
use Rattle.script_ops.specs.Rows.{stallable}
use Rattle.machine.specs.declared.Suspended.{Suspended}
use Rattle.machine.specs.Suspended.{machine_at, drive, halts}
use Rattle.machine.specs.Rows.{is_idle, stop_of}
use Rattle.machine.proofs.RowsLaws.{rowed, other-call, past_row}

pick : {A : Type 0} (x y : Bool) (p q : A) → cond x p (cond y p q) ≡ cond (cond x true y) p q
pick true y p q = refl
pick false y p q = refl

stall-row : (dir : Dir) (e : ℕ) (p : Script false Answer) (d : Driver) (b : Buf)
    → run concrete (named_or_0 dir e p) (d, b)
    ≡ cond (stallable d.allocator dir e) (run concrete p (d, b)) (ends (Refused 5) (d, b))
unfolding stallable
stall-row dir e p d b = pick (eqb e 0) (is_allocated d.allocator dir e) (run concrete p (d, b))
    (ends (Refused 5) (d, b))

pub stall-call : (o : Other) (dir : Dir) (e : ℕ) (p : Script false Answer) (u : Suspended) (d : Driver) (a b : Buf)
    → run concrete (other_code o) (d, b) ≡ run concrete (staged 2 (named_or_0 dir e p)) (d, b)
    → drive (begin (other o)) (machine_at u d a) b ≡ rowed (stallable d.allocator dir e) u d b p
stall-call o dir e p u d a b h = other-call o 2 (named_or_0 dir e p) u d a b h
    ∙ (ap (λ (x : Out St Answer). cond (eqb (stop_of (is_idle u) 2 d.globals.stage) 0) (halts x) (
      ended (Refused (stop_of (is_idle u) 2 d.globals.stage)),
      machine_at u d b,
    )) (stall-row dir e p d b) ∙ past_row (stallable d.allocator dir e) (run concrete p (d, b)) u d b _)
