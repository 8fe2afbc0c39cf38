-- What StandingLaws.antt speaks of. It proves: where two runs stand: they line up from there on
use Rattle.std.specs.Prelude.{Bool, true, false, ◌&&◌, List, ◌≡◌, refl, ℕ}
use Rattle.std.proofs.Common.{true≢false, ap, subst, sym, ◌∙◌, arith, eq-eqb}
use Rattle.regs.specs.declared.Access.{Access}
use Rattle.regs.specs.declared.Access.TheVariants.{Read, Write, Receive, Transmit, Ep0Dma, Wait, Callback}
use Rattle.regs.specs.declared.Reg.TheVariants.{IntSt}
use Rattle.state.specs.Driver.{Driver}
use Rattle.script.specs.Tree as tree
use Rattle.script.specs.Tree.{asks}
use Rattle.script.specs.Every.{same_reg}
use Rattle.script.specs.Answers.{Answer}
use Rattle.script.specs.Calls.{calls}
use Rattle.script.specs.Machine.{Ans, ended, awaited, Pending, busy, Machine, halt}
use Rattle.script_ops.specs.Rings.{St}
use Rattle.machine.specs.Suspended.{driver_of}
use Rattle.answer.specs.Goes.{StepResult}
use Rattle.proof_wake_ups.specs.Rooms.{Few, Roomy}
use Rattle.proof_isolation.specs.LikesLaws.{and-false}
use Rattle.proof_isolation.specs.EqualExcept.{Channel}
use Rattle.proof_isolation.specs.Whose.{made_for, own_way}
use Rattle.proof_isolation.specs.Apart.{next, Another, never, elsewhere, ownable, Its, status, receive}
use Rattle.proof_isolation.specs.Apart.{waits, Shared, Own, ApartBy, end, both, left, right, owns}
use Rattle.proof_isolation.specs.PairsLaws.{apart_more, apart_flip}
use Rattle.proof_isolation.specs.Answers as answer
use Rattle.proof_isolation.specs.Answers.{SameAnswer}
use Rattle.proof_isolation.proofs.AnswersLaws.{answer-sym}
use Rattle.calls.specs.Spares.{Sparing}
use Rattle.proof_isolation.specs.Schedule.{Run, Two, access_of, SameAns, same, ended_same, Answers}

-- ---- machines

abbrev pub machine_of : Pending Answer Driver → St → Machine Answer Driver
machine_of w s = record { under_way_lem = w; st = s.0; buf = s.1 }

-- where an outcome stops
abbrev pub stops : Bool → tree.Out St Answer → StepResult
stops i o = halt calls driver_of (λ s. s) i o

abbrev pub run_of : Bool → tree.Out St Answer → Access → Ans Answer → List ℕ → Run
run_of i o q a t = record { machine = (stops i o).1; access = access_of (stops i o).0 q; answer = a; time = t }

-- ---- the test says whose access it is

module _ {A : Type 0} where
  pub never-made : (x : ℕ) (q : Access) (o : tree.Out St A) → ownable x q ≡ false → made_for x q o ≡ false
  never-made x (Read r e) o h = rw h refl
  never-made x (Write r e y) o h = refl
  never-made x (Receive e y) o h = h
  never-made x (Transmit e y) o h = refl
  never-made x (Ep0Dma y) o h = refl
  never-made x (Wait n) o h = refl
  never-made x Callback o h = refl

  pub another-made : {x : ℕ} {q : Access} {o : tree.Out St A} → Another x q o → made_for x q o ≡ false
  another-made {x} (never {q = q} {o = o} h) = never-made x q o h
  another-made (elsewhere {r = r} (next h)) = ap (λ b. same_reg r IntSt && b) h ∙ and-false (same_reg r IntSt)

  pub its-made : {x : ℕ} {q : Access} {o : tree.Out St A} → Its x q o → made_for x q o ≡ true
  its-made {x} status = eq-eqb x x refl
  its-made {x} receive = eq-eqb x x refl

module _ (x : ℕ) {q : Access} (k : ℕ → St → tree.Out St Answer) where
  pub own-yes : {i : Bool} (s : St) → Own i x q k → own_way x q (busy i (awaited q) k) s ≡ true
  own-yes s w = subst (λ j. own_way x q (busy j (awaited q) k) s ≡ true) (sym w.0) (its-made (w.1 s))

  pub own-no : {i : Bool} (s : St) → Shared i x q k → own_way x q (busy i (awaited q) k) s ≡ false
  own-no {i = true} s p = another-made (p refl s)
  own-no {i = false} s p = refl

-- ---- the last answers, by where they stand

pub same-ans : {x : ℕ} {a b : Answer} → SameAnswer x a b → Few (ended a) → Few (ended b) → SameAns x (ended a) (ended b)
same-ans (answer.same a) f g = same (ended a)
same-ans (answer.ended n h) f g = ended_same n (h f g)

pub ans-sym : {x : ℕ} {a b : Ans Answer} → SameAns x a b → SameAns x b a
ans-sym (same a) = same a
ans-sym (ended_same n h) = ended_same n (sym h)

module _ {c : Channel} {st : ℕ} {i : Bool} where
  abbrev pub Told : {o u : tree.Out St Answer} → ApartBy c st i (SameAnswer c.number) true o u → Ans Answer
      → Ans Answer → Type 0
  Told (end q l) a a' = SameAns c.number a a'
  Told (both φ z p p' l k) a a' = SameAns c.number a a'
  Told (left {u = u} w p z k) a a' = a' ≡ (stops i u).0
  Told (right {o = o} w p z k) a a' = a ≡ (stops i o).0
  Told (owns w w' l k k') a a' = Unit {0}

  pub telling : {o u : tree.Out St Answer} (l : ApartBy c st i (SameAnswer c.number) true o u)
      → Few (stops i o).0 → Few (stops i u).0 → Told l (stops i o).0 (stops i u).0
  telling (end q l) f g = same-ans q f g
  telling (both φ z p p' l k) f g = same _
  telling (left w p z k) f g = refl
  telling (right w p z k) f g = refl
  telling (owns w w' l k k') f g = tt

  -- beside a run at an access of the channel's own
  pub telling-own : {o : tree.Out St Answer} {q : Access} {t : St} {k : ℕ → St → tree.Out St Answer}
      (l : ApartBy c st i (SameAnswer c.number) true o (asks q t k))
      → Own i c.number q k → (a : Ans Answer) → Told l (stops i o).0 a
  telling-own {t = t} {k = g} (both φ z p p' l k) w a = absurd
      (true≢false (sym (own-yes c.number g t w) ∙ own-no c.number g t p'))
  telling-own {t = t} {k = g} (left v (waits n) z k) w a
      = absurd (true≢false (sym (own-yes c.number g t w)
      ∙ own-no c.number g {i = i} t (λ _. n c.number (omega arith))))
  telling-own (right v p z k) w a = refl
  telling-own (owns v v' l k k') w a = tt

  -- either run may be named first
  pub flips : {o u : tree.Out St Answer} → ApartBy c st i (SameAnswer c.number) true o u
      → ApartBy c st i (SameAnswer c.number) true u o
  flips l = apart_more (λ b a q. answer-sym q) (apart_flip l)

  pub told-flips : {o u : tree.Out St Answer} (l : ApartBy c st i (SameAnswer c.number) true o u) (a a' : Ans Answer)
      → Told l a a' → Told (flips l) a' a
  unfolding flips apart_more apart_flip
  told-flips (end q l) a a' h = ans-sym h
  told-flips (both φ z p p' l k) a a' h = ans-sym h
  told-flips (left w p z k) a a' h = h
  told-flips (right w p z k) a a' h = h
  told-flips (owns w w' l k k') a a' h = tt

-- ---- where they stand

-- of each run: an interrupt writes no ep_config, and there is room for wake-ups
pub record Orderly (i : Bool) (o : tree.Out St Answer) (a : Ans Answer) : Type 0 where
  pub spares : i ≡ true → Sparing o
  pub few : Few a
  pub room : Roomy (stops i o).1

pub data At (c : Channel) : Two → Type 0 where
  at : (st : ℕ) (i : Bool) {o u : tree.Out St Answer} (l : ApartBy c st i (SameAnswer c.number) true o u)
      (q q' : Access) {a a' : Ans Answer} {t t' : List ℕ}
      → Told l a a' → Orderly i o a → Orderly i u a' → t ≡ t'
      → At c (record { first = run_of i o q a t; second = run_of i u q' a' t'; status = st })

-- after a call of both
pub record Both (c : Channel) (w : Two) : Type 0 where
  pub stand : At c w
  pub answers : Answers c w.first w.second
