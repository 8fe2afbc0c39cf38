-- Laws on the definitions of Standing.antt
use Rattle.std.specs.Prelude.{Bool, true, false, not, cond, List, ◌≡◌, refl, ℕ, ◌*◌, length}
use Rattle.std.proofs.Common.{true≢false, ap, sym, ◌∙◌, arith, eq-eqb}
use Rattle.regs.specs.declared.Access.{Access}
use Rattle.regs.specs.declared.Access.TheVariants.{Read, Write, Receive, Transmit, Ep0Dma, Wait, Callback}
use Rattle.regs.specs.declared.Reg.TheVariants.{EpConfig}
use Rattle.state.specs.Driver.{Driver}
use Rattle.script.specs.Tree as tree
use Rattle.script.specs.Every.{at_end, at_ask, Throughout, same_reg}
use Rattle.script.specs.Answers.{Answer}
use Rattle.script.specs.Simulates.{Phase}
use Rattle.script.specs.Calls.{calls}
use Rattle.script.specs.Machine.{Ans, misfit}
use Rattle.script_ops.specs.Rings.{St}
use Rattle.machine.specs.Suspended.{driver_of}
use Rattle.calls.specs.Sharing.{going, written, time_after}
use Rattle.proof_wake_ups.specs.Rooms.{Few, Rooms}
use Rattle.proof_wake_ups.proofs.RoomsLaws.{short}
use Rattle.proof_isolation.specs.EqualExcept.{Lawful, Channel}
use Rattle.proof_isolation.specs.Apart.{status, Past, gone, waits, ApartBy, end, both, left, right, owns}
use Rattle.proof_isolation.specs.Answers.{SameAnswer}
use Rattle.calls.specs.Spares.{Spares, Sparing}
use Rattle.proof_isolation.proofs.OthersLaws.{same-others}
use Rattle.proof_isolation.specs.Schedule.{Two, at_own, SameAns, same, SameStand, SameOthers, Answers, alike}
use Rattle.proof_isolation.specs.Schedule.{own_first}
use Rattle.proof_isolation.specs.Schedule.{own_second}
use Rattle.proof_isolation.proofs.Standing.{stops, run_of, own-yes, own-no, same-ans, telling, flips, told-flips}
use Rattle.proof_isolation.proofs.Standing.{At, at, Both}

-- row 1: the lent buffer is as long as the driver's
pub fits : (c : Channel) {φ : Phase} {s : St} → Lawful c.iso φ s → misfit calls driver_of s.0 s.1 ≡ false
fits c {s = s} l = ap not (eq-eqb (length s.1) (s.0.allocator.count * s.0.allocator.size) l.rest.long)

pub past-no : (c : Channel) (i : Bool) {u : tree.Out St Answer} (q : Access) (a : Ans Answer) (t : List ℕ)
    → Past c.number u → at_own c (run_of i u q a t) ≡ false
past-no c i q a t gone = refl
past-no c i q a t (waits {s = s} {k = k} n) = own-no c.number k {i = i} s (λ _. n c.number (omega arith))

-- ---- bus time

spared-write : (b : Bool) (t u : List ℕ) → Throughout b ⊥ → cond b u t ≡ t
spared-write true t u h = absurd h
spared-write false t u h = refl

spared : (n : ℕ) (q : Access) (t : List ℕ) → Spares q → written n q t ≡ t
spared n (Read r e) t h = refl
spared n (Write r e y) t h = spared-write (same_reg r EpConfig) t _ h
spared n (Receive e y) t h = refl
spared n (Transmit e y) t h = refl
spared n (Ep0Dma y) t h = refl
spared n (Wait k) t h = refl
spared n Callback t h = refl

pub time-spared : (n : ℕ) (i : Bool) (d : Driver) (t : List ℕ) {o : tree.Out St Answer} → Sparing o
    → time_after n going (stops i o).0 d t ≡ t
time-spared n i d t (at_end x) = refl
time-spared n i d t (at_ask {q = q} ok k) = spared n q t ok

pub times-on : (n : ℕ) {c : Channel} {st : ℕ} {i : Bool} {o u : tree.Out St Answer}
    → ApartBy c st i (SameAnswer c.number) true o u → (i ≡ true → Sparing o) → (i ≡ true → Sparing u)
    → (d d' : Driver) {t t' : List ℕ} → t ≡ t' → time_after n going (stops i o).0 d t
    ≡ time_after n going (stops i u).0 d' t'
times-on n (end q l) s s' d d' e = e
times-on n (both {q = q} φ z p p' l k) s s' d d' e = ap (λ r. written n q r) e
times-on n {i = i} (left w p z k) s s' d d' {t} {t'} e = time-spared n i d t (s w.0) ∙ e
    ∙ sym (time-spared n i d' t' (s' w.0))
times-on n {i = i} (right w p z k) s s' d d' {t} {t'} e = time-spared n i d t (s w.0) ∙ e
    ∙ sym (time-spared n i d' t' (s' w.0))
times-on n {i = i} (owns w w' l k k') s s' d d' {t} {t'} e = time-spared n i d t (s w.0) ∙ e
    ∙ sym (time-spared n i d' t' (s' w.0))

-- a new outcome of both
pub lands : {c : Channel} (st : ℕ) (i : Bool) {o u : tree.Out St Answer}
    (l : ApartBy c st i (SameAnswer c.number) true o u) (q q' : Access) {t t' : List ℕ}
    → (i ≡ true → Sparing o) → (i ≡ true → Sparing u) → Rooms (stops i o) → Rooms (stops i u) → t ≡ t'
    → Both c (record { first = run_of i o q (stops i o).0 t; second = run_of i u q' (stops i u).0 t'; status = st })
lands {c} st i {o} {u} l q q' {t} {t'} s s' r r' e = record {
  stand = at st i l q q' (telling l r.answer r'.answer)
      (record { spares = s; few = r.answer; room = r.machine })
      (record { spares = s'; few = r'.answer; room = r'.machine }) e;
  answers = by l r.answer r'.answer;
}
  where
    by : {o u : tree.Out St Answer} → ApartBy c st i (SameAnswer c.number) true o u → Few (stops i o).0
        → Few (stops i u).0 → Answers c (run_of i o q (stops i o).0 t) (run_of i u q' (stops i u).0 t')
    by (end x l) f g = alike (same-ans x f g)
    by (both φ z p p' l k) f g = alike (same _)
    by (left {s = s} {k = k} w p z f) m n = own_first (own-yes c.number k s w) refl
    by (right {t = t} {k = k} w p z f) m n = own_second (own-yes c.number k t w) refl
    by (owns {s = s} {k = k} w w' l f f') m n = own_first (own-yes c.number k s w) refl

-- either run may be named first
abbrev pub swap : Two → Two
swap w = record { first = w.second; second = w.first; status = w.status }

-- ---- what it says

module _ {c : Channel} where
  pub at-lined : {w : Two} → At c w → at_own c w.first ≡ false → at_own c w.second ≡ false
      → SameAns c.number w.first.answer w.second.answer
  at-lined (at st i (end x l) q q' h k k' e) m n = h
  at-lined (at st i (both φ z p p' l f) q q' h k k' e) m n = h
  at-lined (at st i (left {s = s} {k = g} w p z f) q q' h k k' e) m n
      = absurd (true≢false (sym (own-yes c.number g s w) ∙ m))
  at-lined (at st i (right {t = t} {k = g} w p z f) q q' h k k' e) m n
      = absurd (true≢false (sym (own-yes c.number g t w) ∙ n))
  at-lined (at st i (owns {s = s} {k = g} w w' l f f') q q' h k k' e) m n
      = absurd (true≢false (sym (own-yes c.number g s w) ∙ m))

  pub at-stands : {w : Two} → At c w → at_own c w.first ≡ false → at_own c w.second ≡ false
      → SameStand w.first.machine.under_way_lem w.second.machine.under_way_lem w.first.access w.second.access
  at-stands (at st i (end x l) q q' h k k' e) m n = tt
  at-stands (at st i (both φ z p p' l f) q q' h k k' e) m n = refl
  at-stands (at st i (left {s = s} {k = g} w p z f) q q' h k k' e) m n
      = absurd (true≢false (sym (own-yes c.number g s w) ∙ m))
  at-stands (at st i (right {t = t} {k = g} w p z f) q q' h k k' e) m n
      = absurd (true≢false (sym (own-yes c.number g t w) ∙ n))
  at-stands (at st i (owns {s = s} {k = g} w w' l f f') q q' h k k' e) m n
      = absurd (true≢false (sym (own-yes c.number g s w) ∙ m))

  pub at-alike : {w : Two} → At c w → at_own c w.first ≡ at_own c w.second
      → SameOthers c w.first.machine w.second.machine
  at-alike (at st i (end x l) q q' h k k' e) m = same-others l (short k.room) (short k'.room)
  at-alike (at st i (both φ z p p' l f) q q' h k k' e) m = same-others l (short k.room) (short k'.room)
  at-alike (at st i (left {s = s} {k = g} w p z f) q q' {a' = a'} {t' = t'} h k k' e) m =
      absurd (true≢false (sym (own-yes c.number g s w) ∙ m ∙ past-no c i q' a' t' p))
  at-alike (at st i (right {t = t} {k = g} w p z f) q q' {a = a} {t = r} h k k' e) m =
      absurd (true≢false (sym (own-yes c.number g t w) ∙ sym m ∙ past-no c i q a r p))
  at-alike (at st i (owns w w' l f f') q q' h k k' e) m = same-others l (short k.room) (short k'.room)

  pub at-time : {w : Two} → At c w → w.first.time ≡ w.second.time
  at-time (at st i l q q' h k k' e) = e

  pub at-swap : {w : Two} → At c w → At c (swap w)
  at-swap (at st i l q q' h k k' e) = at st i (flips l) q' q (told-flips l _ _ h) k' k (sym e)
