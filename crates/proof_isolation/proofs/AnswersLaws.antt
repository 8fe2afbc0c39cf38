-- Laws on the definitions of Answers.antt
use Rattle.std.specs.Prelude.{Bool, refl, ℕ}
use Rattle.std.proofs.Common.{subst, sym}
use Rattle.regs.specs.declared.Dir.{Dir}
use Rattle.script.specs.Cells.{allocator-cell}
use Rattle.script.specs.Script.{Script, ret, bind, fetch, gathered}
use Rattle.script.specs.Answers.{Answer, End, operation, resultless, staged, named}
use Rattle.proof_isolation.specs.EqualExcept.{Channel}
use Rattle.proof_isolation.specs.Apart.{without_end, PairBy, Pair}
use Rattle.proof_isolation.specs.PairsLaws.{Eq, Any, p_ret, p_bind, p-same, p-then, p-before, p-before-then}
use Rattle.proof_isolation.specs.PairsLaws.{p_test, p_get}
use Rattle.proof_isolation.proofs.ValuesLaws.{p-begins, p-gathered, p-globals}
use Rattle.proof_isolation.specs.Answers.{SameAnswer, same, ended}

pub answer-sym : {x : ℕ} {a b : Answer} → SameAnswer x a b → SameAnswer x b a
answer-sym (same a) = same a
answer-sym (ended n h) = ended n (λ p q. sym (h q p))

module _ {c : Channel} {st : ℕ} {m i : Bool} where
  pub p-operation : {p p' : Script i ℕ} → PairBy c st m Eq p p'
      → PairBy c st m (SameAnswer c.number) (operation p) (operation p')
  p-operation {p} {p'} h = p-then (p-begins c)
      (p-before h
      (λ n n' e. subst (λ k. Pair c st (SameAnswer c.number) (gives n) (gives k)) e
      (p_bind (p-gathered c) (λ l l' z. p_ret (ended n z))))
      (λ n e s. without_end) (λ n e s. without_end))
    where
      gives : ℕ → Script i Answer
      gives n = bind (fetch gathered) (λ l. ret (End n l))

  pub p-resultless : {p p' : Script i Unit} → PairBy c st m Any p p'
      → PairBy c st m (SameAnswer c.number) (resultless p) (resultless p')
  p-resultless h = p-operation (p-before-then h (p_ret refl) (λ e s. without_end) (λ e s. without_end))

  pub p-staged : (n : ℕ) {p p' : Script i Answer}
      → PairBy c st m (SameAnswer c.number) p p' → PairBy c st m (SameAnswer c.number) (staged n p) (staged n p')
  p-staged n h = p-globals c (λ g _. p_test _ (λ _. h) (λ _. p_ret (same _)))

module _ {c : Channel} {st : ℕ} {i : Bool} where
  pub p-named : (dir : Dir) (e : ℕ) {p p' : Script i Answer}
      → Pair c st (SameAnswer c.number) p p' → Pair c st (SameAnswer c.number) (named dir e p) (named dir e p')
  p-named dir e h = p-same (p_get allocator-cell Eq (λ s t l. l.but.allocator))
      (λ a. p_test _ (λ _. h) (λ _. p_ret (same _)))
