-- What the others get in a run, one after the other: the state before and after, and the answers
use Rattle.std.specs.Prelude.{List, [], ◌∷◌, ◌≡◌}
use Rattle.script.specs.Answers.{Answer}
use Rattle.script.specs.Simulates.{quiet}
use Rattle.script.specs.Machine.{Ans}
use Rattle.script_ops.specs.Rings.{St}
use Rattle.proof_isolation.specs.EqualExcept.{Lawful, Channel}
use Rattle.proof_isolation.specs.Late.{Light, Other, answers_by}
use Rattle.proof_isolation.specs.Lights.{seen, answered, done_at}

module _ (c : Channel) where
  pub record Did (o : Light) (a : Ans Answer) (s t : St) : Type 0 where
    pub before : Lawful c.iso quiet s
    pub after : Lawful c.iso quiet t
    pub other : Other c o s.0
    pub is : t ≡ done_at o s
    pub told : answered o (seen o s) ≡ a

  pub data Does : List Light → List (Ans Answer) → St → St → Type 0 where
    did_none : {s : St} → Lawful c.iso quiet s → Does [] [] s s
    did_more : {o : Light} {a : Ans Answer} {os : List Light} {us vs : List (Ans Answer)} {s t u : St}
        → Did o a s t → Does os us t u → answers_by o a us ≡ vs → Does (o ∷ os) vs s u
