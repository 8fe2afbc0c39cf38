-- What a run comes to, over any state S
use Rattle.std.specs.Prelude.{ℕ}
use Rattle.regs.specs.declared.Access.{Access}

-- its end, or an access, after which it goes on with the number brought and the state as it is then
pub data Out (S A : Type 0) : Type 0 where
  ends : A → S → Out S A
  asks : Access → S → (ℕ → S → Out S A) → Out S A

abbrev pub Prog : Type 0 → Type 0 → Type 0
Prog S A = S → Out S A

-- the rest f, after an outcome
abbrev pub bind_out : {S A B : Type 0} → Out S A → (A → Prog S B) → Out S B
bind_out (ends a s) f = f a s
bind_out (asks q s k) f = asks q s (λ v t. bind_out (k v t) f)
