-- Laws on the definitions of Ending.antt
use Rattle.std.specs.Prelude.{Bool, true, false}
use Rattle.script.specs.Cells.{Cell, Val}
use Rattle.script.specs.Tree as tree
use Rattle.script.specs.Script.{Script, run, ret, bind, test, get, put, is, look, fetch, act, Test, Look, Fetch, Act}
use Rattle.script_ops.specs.Rings.{St}
use Rattle.script_ops.specs.Concrete.{concrete, put_on, act_on}
use Rattle.proof_isolation.specs.Ending.{Finished, fin}

-- a script that hands out no access and keeps K
pub record Brief {A : Type 0} (K : St → Type 0) (p : Script false A) : Type 0 where
  pub on : (s : St) → K s → Finished K (run concrete p s)

fin-bind : {A B : Type 0} {K : St → Type 0} {o : tree.Out St A} {f : A → St → tree.Out St B}
    → Finished K o → ((a : A) (s : St) → K s → Finished K (f a s)) → Finished K (tree.bind_out o f)
fin-bind (fin a k) h = h a _ k

module _ {K : St → Type 0} where
  pub b-ret : {A : Type 0} (a : A) → Brief K (ret a)
  b-ret a = record { on = λ s k. fin a k }

  pub b-bind : {A B : Type 0} {p : Script false A} {f : A → Script false B} → Brief K p → ((a : A) → Brief K (f a))
      → Brief K (bind p f)
  b-bind h g = record { on = λ s k. fin-bind (h.on s k) (λ a t q. (g a).on t q) }

  pub b-test : {A : Type 0} {p q : Script false A} (b : Bool) → Brief K p → Brief K q → Brief K (test b p q)
  b-test true h g = record { on = λ s k. h.on s k }
  b-test false h g = record { on = λ s k. g.on s k }

  pub b-get : (c : Cell) → Brief K (get c)
  b-get c = record { on = λ s k. fin _ k }

  pub b-is : (q : Test) → Brief K (is q)
  b-is q = record { on = λ s k. fin _ k }

  pub b-look : (q : Look) → Brief K (look q)
  b-look q = record { on = λ s k. fin _ k }

  pub b-fetch : (q : Fetch) → Brief K (fetch q)
  b-fetch q = record { on = λ s k. fin _ k }

  pub b-act : (q : Act) → ((s : St) → K s → K (act_on q s)) → Brief K (act q)
  b-act q h = record { on = λ s k. fin tt (h s k) }

  pub b-put : (c : Cell) (v : Val c) → ((s : St) → K s → K (put_on c v s)) → Brief K (put c v)
  b-put c v h = record { on = λ s k. fin tt (h s k) }
