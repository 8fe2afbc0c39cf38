-- "The end of an operation now gives the wake-ups as a list, in order, repeats included, at most 64 long": whatever the
-- state's bytes are, an end's list is that of the state which the call leaves, or none, and the count that the call
-- answers is its length.
use Rattle.std.specs.Prelude.{cond, List, ◌≡◌, ℕ, ◌≤◌, length}
use Rattle.std.proofs.Common.{inl, inr, sym, ap, subst, arith}
use Rattle.state.specs.Driver.{Driver}
use Rattle.state.specs.State.{view, saved}
use Rattle.script.specs.Answers.{Answer, End}
use Rattle.script.specs.Calls.{Config, Op}
use Rattle.script.specs.Machine.{Buf, Call, Ans, ended}
use Rattle.script_ops.specs.Answers.{front}
use Rattle.endpoint.specs.Front.{front_length}
use Rattle.machine.specs.declared.Suspended.{Suspended}
use Rattle.answer.specs.declared.Step.TheVariants as step
use Rattle.machine.specs.Suspended.{decode, machine_at, machine_of, drive, answer_of}
use Rattle.machine.specs.Counted.{listed-few}
use Rattle.proof_refusals.specs.Left.{left, buffers_row}
use Rattle.proof_refusals.specs.Outcomes.{Listed}
use Rattle.proof_refusals.specs.Refusals.{Called, AnsIs}
use Rattle.proof_refusals.proofs.RefusalsLaws.{call-is}

-- of every call, on a machine with any state
pub end-lists : (c : Call Config Op) (u : Suspended) (d : Driver) (a b : Buf) (n : ℕ) (ws : List ℕ)
    → (drive c (machine_at u d a) b).0 ≡ ended (End n ws)
    → Listed ws (drive c (machine_at u d a) b).1.st
end-lists c u d a b n ws q =
    subst (λ (x : Ans Answer). AnsIs (λ n. machine_at u (left c n d) (cond (buffers_row c d b) a b)) x
    (drive c (machine_at u d a) b).1) q (call-is c u d a b)

few-listed : (ys ws : List ℕ) → Listed ws (view ys) → length ws ≤ 64
few-listed ys ws (inl e) = omega (arith, ap length e)
few-listed ys ws (inr e) = omega (arith, ap length e, listed-few ys)

-- of the code: a call that did as its contract says and ended tells at most 64, for any bytes before it
pub told-few : (c : Call Config Op) (xs ys out : List ℕ) (a b e : Buf) (n k : ℕ)
    → ◌≡◌ {A = Called} (answer_of (step.Ends n k) out (view ys), machine_of ys e) (drive c (machine_of xs a) b) → k ≤ 64
told-few c xs ys out a b e n k h =
    let ws = front k (view ys).wakes.codes in
    let l = end-lists c (decode (saved xs)) (view xs) a b n ws (sym (ap (λ (x : Called). x.0) h)) in
    let s : (drive c (machine_of xs a) b).1.st ≡ view ys = sym (ap (λ (x : Called). x.1.st) h) in
    omega (arith, front_length k (view ys).wakes.codes, few-listed ys ws (subst (Listed ws) s l))
