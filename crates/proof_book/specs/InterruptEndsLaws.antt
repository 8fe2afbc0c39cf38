-- An interrupt ends (demand 1, "leaves a call hanging"): it takes at most 4,154 continues, whatever they bring,
-- whatever calls fall between, refused ones included, and whatever slot buffers are lent. Assumes nothing of the state
-- in which it begins
use Rattle.std.specs.Prelude.{Bool, false, cond, List, [], ◌∷◌, ◌≡◌, refl, ℕ, zero, suc, ◌+◌, ◌≤◌}
use Rattle.std.proofs.Math.Bool.{true}
use Rattle.std.proofs.Common.{sym, subst, arith, le_trans}
use Rattle.regs.specs.declared.Access.{Access}
use Rattle.state.specs.Driver.{Driver}
use Rattle.script.specs.Tree as tree
use Rattle.script.specs.Tree.{ends, asks}
use Rattle.script.specs.Script.{run}
use Rattle.script.specs.Answers.{Answer}
use Rattle.script.specs.Calls.{Config, Op, interrupt, slotted, other, aside, aside_code, interrupt_code, calls, starting}
use Rattle.script.specs.Calls.{start_row}
use Rattle.script.specs.Machine.{Buf, Call, start, begin, continue, question, Event, Awaits, awaited, idle, busy}
use Rattle.script.specs.Machine.{Machine}
use Rattle.script.specs.Machine.{over, misfit, stay, during_interrupt, begun, started}
use Rattle.script.specs.Readings.{Continues}
use Rattle.script_ops.specs.Rings.{St}
use Rattle.script_ops.specs.Concrete.{concrete}
use Rattle.machine.specs.Suspended.{driver_of, drive, halts_as}
use Rattle.proof_book.specs.Served.{serving}
use Rattle.proof_book.specs.AccessesLaws.{accesses}
use Rattle.proof_book.specs.AccessesInterruptLaws.{interrupt-4154}
use Rattle.proof_book.specs.Continues.{continues, interrupt_continues}

abbrev serves : Awaits → (ℕ → St → tree.Out St Answer) → Driver → Buf → Machine Answer Driver
serves a k d b = record { under_way_lem = busy true a k; st = d; buf = b }

-- a path of its run with so many accesses or more
record Path (o : tree.Out St Answer) (n : ℕ) : Type 0 where
  path : Continues St
  most : n ≤ accesses o path

none : {o : tree.Out St Answer} {n : ℕ} → n ≡ 0 → Path o n
none h = record { path = []; most = omega (arith, h) }

as_many : {o : tree.Out St Answer} {n : ℕ} → Path o n → Path o (0 + n)
as_many p = record { path = p.path; most = omega (arith, p.most) }

-- where no interrupt is under way
continues-none : (es : List (Event Config Op)) (m : Machine Answer Driver) → serving m.under_way_lem ≡ false
    → interrupt_continues es m ≡ 0
unfolding interrupt_continues
continues-none [] m h = refl
continues-none (e ∷ es) m h = rw h refl

-- every list of calls takes such a path from the access q
abbrev Goes : List (Event Config Op) → Type 0
Goes es = (q : Access) (s : St) (k : ℕ → St → tree.Out St Answer) (a : Awaits) (d : Driver) (b : Buf)
    → Path (asks q s k) (interrupt_continues es (serves a k d b))

module _ (es : List (Event Config Op)) (goes : Goes es) (q : Access) (s : St) (k : ℕ → St → tree.Out St Answer)
    (a : Awaits) (d : Driver) where
  -- a start-up takes the interrupt's place
  replaced : (o : tree.Out St Answer) → Path (asks q s k) (interrupt_continues es (halts_as false o).1)
  replaced (ends x t) = none (continues-none es _ refl)
  replaced (asks x t j) = none (continues-none es _ refl)

  starts : (c : Config) (b l : Buf) (n : ℕ) → Path (asks q s k)
      (interrupt_continues es (started calls driver_of (λ s. s) c n (serves a k d b) l).1)
  starts c b l zero = replaced (run concrete (starting c) (driver_of.fresh c, l))
  starts c b l (suc n) = goes q s k a d b

  -- a call that passes
  passes : (l : Buf) (x : tree.Out St Answer) → Path (asks q s k)
      (interrupt_continues es (during_interrupt calls driver_of (serves a k d l) x).1)
  passes l (ends y t) = goes q s k a t.0 t.1
  passes l (asks y t j) = goes q s k a d l

  begins : (o : Op) (l b : Buf) → Path (asks q s k) (interrupt_continues es
      (begun calls driver_of (λ s. s) o (serves a k d b) (busy true a k) l).1)
  begins interrupt l b = goes q s k a d l
  begins (slotted o) l b = goes q s k a d l
  begins (other o) l b = goes q s k a d l
  begins (aside o) l b = passes l (run concrete (aside_code o) (d, l))

  fitted : (o : Op) (l b : Buf) (g : Bool) → Path (asks q s k)
      (interrupt_continues es
      (cond g (stay calls driver_of 1 (serves a k d b))
      (begun calls driver_of (λ s. s) o (serves a k d b) (busy true a k) l)).1)
  fitted o l b true = goes q s k a d b
  fitted o l b false = begins o l b

  -- a continue
  goes_on_lem : (v : ℕ) (l : Buf) (x : tree.Out St Answer) → k v (d, l) ≡ x
      → Path (asks q s k) (1 + interrupt_continues es (halts_as true x).1)
  unfolding accesses
  goes_on_lem v l (ends y t) h = record {
    path = (v, (d, l)) ∷ [];
    most
        = omega (arith, continues-none es (halts_as true (ends y t)).1 refl);
  }
  goes_on_lem v l (asks y t j) h =
      let r = goes y t j (awaited y) t.0 t.1 in
      record { path = (v, (d, l)) ∷ r.path; most = rw h (omega (arith, r.most)) }

  continued_by : (v : ℕ) (b l : Buf) (g w : Bool)
      → Path (asks q s k)
      (cond g 0 (cond w 0 1) + interrupt_continues es
      (cond g (stay calls driver_of 1 (serves a k d b))
      (cond w (stay calls driver_of 16 (serves a k d l)) (halts_as true (k v (d, l))))).1)
  continued_by v b l true w = as_many (goes q s k a d b)
  continued_by v b l false true = as_many (goes q s k a d l)
  continued_by v b l false false = goes_on_lem v l (k v (d, l)) refl

  one : (c : Call Config Op) (b l : Buf) → Path (asks q s k) (continues c (serves a k d b) l
      + interrupt_continues es (drive c (serves a k d b) l).1)
  one (start c) b l = as_many (starts c b l (start_row c l))
  one (begin o) b l = as_many (fitted o l b (cond (calls.slots o) (misfit calls driver_of d l) false))
  one (continue v) b l = continued_by v b l (misfit calls driver_of d l) (over calls a v)
  one (question x) b l = as_many (goes q s k a d l)

every : (es : List (Event Config Op)) → Goes es
unfolding interrupt_continues
every [] = λ q s k a d b. none refl
every (e ∷ es) = λ q s k a d b. one es (every es) q s k a d e.call b e.lent

-- an interrupt begun where nothing is under way, in any state, and any calls after it
pub interrupt-ends : (n : Machine Answer Driver) → n.under_way_lem ≡ idle
    → (slots : Buf) (fs : List (Event Config Op)) → interrupt_continues fs (drive (begin interrupt) n slots).1 ≤ 4154
interrupt-ends n w slots fs = subst (λ y. interrupt_continues fs (begun calls driver_of (λ s. s) interrupt n y slots).1
    ≤ 4154)
    (sym w) (by (run concrete interrupt_code (n.st, slots)) refl)
  where
    by : (x : tree.Out St Answer) → run concrete interrupt_code (n.st, slots) ≡ x
        → interrupt_continues fs (halts_as true x).1 ≤ 4154
    by (ends y t) h = omega (arith, continues-none fs (halts_as true (ends y t)).1 refl)
    by (asks y t j) h =
        let r = every fs y t j (awaited y) t.0 t.1 in
        le_trans r.most (subst (λ o. accesses o r.path ≤ 4154) h
        (interrupt-4154.on St concrete (n.st, slots) r.path))
