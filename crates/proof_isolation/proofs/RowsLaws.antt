-- Rows that stop a call, and how a request ends
use Rattle.std.specs.Prelude.{Bool, ◌≢◌, refl, ℕ}
use Rattle.regs.specs.declared.Dir.{Dir}
use Rattle.regs.specs.declared.Dir.TheVariants.{Out}
use Rattle.state.specs.Driver.{key}
use Rattle.script.specs.Cells.{EpCore, ep-cell}
use Rattle.script.specs.Script.{Script, bind, get}
use Rattle.script.specs.Answers.{Answer, unless}
use Rattle.script.specs.Statics.{with_ready}
use Rattle.script.specs.Endpoint.{enabled_else, ends_request, polled}
use Rattle.script.specs.Calls.{numbered, named_or_0}
use Rattle.proof_isolation.specs.EqualExcept.{Channel}
use Rattle.proof_isolation.specs.Apart.{Pair}
use Rattle.proof_isolation.specs.PairsLaws.{p_ret, p-same, p-then, p_test}
use Rattle.proof_isolation.proofs.ValuesLaws.{p-modify-ep, p-globals}
use Rattle.proof_isolation.specs.Answers.{SameAnswer, same}
use Rattle.proof_isolation.proofs.AnswersLaws.{p-named}
use Rattle.proof_isolation.proofs.KeptLaws.{p-put-request, p-request}

module _ {c : Channel} {st : ℕ} {i : Bool} where
  pub p-unless : (b : Bool) (n : ℕ) {p p' : Script i Answer}
      → Pair c st (SameAnswer c.number) p p' → Pair c st (SameAnswer c.number) (unless b n p) (unless b n p')
  p-unless b n h = p_test b (λ _. p_ret (same _)) (λ _. h)

  pub p-numbered : (e : ℕ) {p p' : Script i Answer}
      → Pair c st (SameAnswer c.number) p p' → Pair c st (SameAnswer c.number) (numbered e p) (numbered e p')
  p-numbered e h = p_test _ (λ _. h) (λ _. p_ret (same _))

  pub p-named-or-0 : (dir : Dir) (e : ℕ) {p p' : Script i Answer} → Pair c st (SameAnswer c.number) p p'
      → Pair c st (SameAnswer c.number) (named_or_0 dir e p) (named_or_0 dir e p')
  p-named-or-0 dir e h = p_test _ (λ _. h) (λ _. p-named dir e h)

  pub p-enabled : (dir : Dir) (e : ℕ) {q q' p p' : Script i Answer}
      → Pair c st (SameAnswer c.number) q q' → Pair c st (SameAnswer c.number) p p'
      → Pair c st (SameAnswer c.number) (enabled_else dir e q p) (enabled_else dir e q' p')
  p-enabled dir e q p = p-globals c (λ g _. p_test _ (λ _. p) (λ _. q))

  pub p-ends-request : (dir : Dir) (e : ℕ) (a : Answer)
      → Pair c st {i = i} (SameAnswer c.number) (ends_request dir e a) (ends_request dir e a)
  p-ends-request dir e a = p-then (p-put-request c dir e _) (p_ret (same a))

  pub p-polled : (dir : Dir) (e n : ℕ) → key dir e ≢ key Out c.number → {p : EpCore → Script i Answer}
      → Pair c st (SameAnswer c.number) (bind (get (ep-cell dir e)) p) (bind (get (ep-cell dir e)) p)
      → Pair c st (SameAnswer c.number) (polled dir e n p) (polled dir e n p)
  p-polled dir e n k h = p-same (p-request c dir e k)
      (λ r. p-unless _ 15 (p_test _ (λ _. h) (λ _. p-then (p-modify-ep c dir e (with_ready 0) (λ _. refl))
      (p-ends-request dir e _))))
