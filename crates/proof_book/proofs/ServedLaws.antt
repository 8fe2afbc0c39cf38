-- Laws on the definitions of Served.antt
use Rattle.std.specs.Prelude.{Bool, true, false, cond, List, [], ◌∷◌, ◌≡◌, refl, ℕ, zero, suc, ◌+◌, ◌≤◌}
use Rattle.std.proofs.Common.{sym, arith, le_trans}
use Rattle.std.proofs.Math.Path.{subst}
use Rattle.regs.specs.declared.Access.{Access}
use Rattle.state.specs.Driver.{Driver}
use Rattle.script.specs.Tree as tree
use Rattle.script.specs.Tree.{ends, asks}
use Rattle.script.specs.Script.{run}
use Rattle.script.specs.Answers.{Answer}
use Rattle.script.specs.Calls.{Config, Op, interrupt, slotted, other, aside, Aside, aside_code, interrupt_code, calls}
use Rattle.script.specs.Calls.{starting, start_row}
use Rattle.script.specs.Machine.{Buf, Call, start, begin, continue, question, Event, Ans, Awaits, awaited, idle}
use Rattle.script.specs.Machine.{busy, Machine, over, misfit, stay, during_interrupt, begun, continued, started}
use Rattle.script.specs.Readings.{Continues, reading, readings}
use Rattle.script.specs.TransferKinds.{Along}
use Rattle.script.specs.SortsAside.{Passes, nothing, stored, called}
use Rattle.script_ops.specs.Rings.{St}
use Rattle.script_ops.specs.Concrete.{concrete}
use Rattle.machine.specs.Suspended.{driver_of, drive, halts_as}
use Rattle.proof_book.specs.Always.{after}
use Rattle.proof_book.specs.Sorting.{Sorting}
use Rattle.proof_book.proofs.SortingLaws.{after-sorting}
use Rattle.proof_book.proofs.ReadingsLaws.{Stores, sorting-4056}
use Rattle.proof_book.specs.Served.{and_then}

-- those that the calls of a list hand out, up to the call after which no interrupt is under way
unfoldable pub served : List (Event Config Op) → Machine Answer Driver → ℕ
served [] m = 0
served (e ∷ es) m = let x = drive e.call m e.lent in and_then x (served es x.1)

abbrev pub counted : List (Event Config Op) → Ans Answer × Machine Answer Driver → ℕ
counted es x = and_then x (served es x.1)

-- an interrupt under way
abbrev serves : Awaits → (ℕ → St → tree.Out St Answer) → Driver → Buf → Machine Answer Driver
serves a k d b = record { under_way_lem = busy true a k; st = d; buf = b }

-- a path of its run with so many readings or more
record Path (o : tree.Out St Answer) (n : ℕ) : Type 0 where
  path : Continues St
  along : Along (Passes concrete Stores) o path
  most : n ≤ readings o path

less : {o : tree.Out St Answer} {m n : ℕ} → m ≤ n → Path o n → Path o m
less h p = record { path = p.path; along = p.along; most = le_trans h p.most }

-- the path as far as the access
here : (q : Access) (s : St) (k : ℕ → St → tree.Out St Answer) → Path (asks q s k) (reading q + 0)
unfolding readings Along
here q s k = record { path = []; along = tt; most = omega arith }

-- every list of calls takes such a path from the access q, after which the state became (d, b)
abbrev Goes : List (Event Config Op) → Type 0
Goes es = (q : Access) (s : St) (k : ℕ → St → tree.Out St Answer) (a : Awaits) (d : Driver) (b : Buf)
    → Passes concrete Stores s (d, b) → Path (asks q s k) (reading q + served es (serves a k d b))

module _ (es : List (Event Config Op)) (goes : Goes es) (q : Access) (s : St) (k : ℕ → St → tree.Out St Answer)
    (a : Awaits) (d : Driver) where
  -- the access stays: nothing is handed out
  waits : (b : Buf) → Passes concrete Stores s (d, b) → Path (asks q s k) (reading q + (0 + served es (serves a k d b)))
  waits b p = less (omega arith) (goes q s k a d b p)

  -- a start-up takes the interrupt's place
  replaced : (o : tree.Out St Answer) → Path (asks q s k) (reading q + counted es (halts_as false o))
  replaced (ends x t) = here q s k
  replaced (asks x t j) = here q s k

  starts : (c : Config) (b l : Buf) → Passes concrete Stores s (d, b)
      → (n : ℕ) → Path (asks q s k) (reading q + counted es (started calls driver_of (λ s. s) c n (serves a k d b) l))
  starts c b l p zero = replaced (run concrete (starting c) (driver_of.fresh c, l))
  starts c b l p (suc n) = waits b p

  -- a call that passes
  passes : (o : Aside) (l : Buf)
      → Passes concrete Stores s (d, l) → (x : tree.Out St Answer) → run concrete (aside_code o) (d, l) ≡ x
      → Path (asks q s k) (reading q + counted es (during_interrupt calls driver_of (serves a k d l) x))
  passes o l p (ends y t) h = less (omega arith) (goes q s k a t.0 t.1 (called o p h))
  passes o l p (asks y t j) h = waits l p

  begins : (o : Op) (l : Buf) → Passes concrete Stores s (d, l) → (b : Buf)
      → Path (asks q s k) (reading q + counted es (begun calls driver_of (λ s. s) o (serves a k d b) (busy true a k) l))
  begins interrupt l p b = waits l p
  begins (slotted o) l p b = waits l p
  begins (other o) l p b = waits l p
  begins (aside o) l p b = passes o l p (run concrete (aside_code o) (d, l)) refl

  -- a continue
  goes_on_lem : (v : ℕ) (l : Buf) → Passes concrete Stores s (d, l)
      → (x : tree.Out St Answer) → k v (d, l) ≡ x → Path (asks q s k) (reading q + counted es (halts_as true x))
  unfolding readings Along
  goes_on_lem v l p (ends y t) h = here q s k
  goes_on_lem v l p (asks y t j) h =
      let r = goes y t j (awaited y) t.0 t.1 nothing in
      record {
        path = (v, (d, l)) ∷ r.path;
        along = (p, subst (λ o. Along (Passes concrete Stores) o r.path) (sym h) r.along);
        most = rw h (omega (arith, r.most));
      }

  -- rows 1 and 16
  unless : (g : Bool) (n : ℕ) (b : Buf) → Passes concrete Stores s (d, b)
      → (x : Ans Answer × Machine Answer Driver) → Path (asks q s k) (reading q + counted es x)
      → Path (asks q s k) (reading q + counted es (cond g (stay calls driver_of n (serves a k d b)) x))
  unless true n b p x r = waits b p
  unless false n b p x r = r

  one : (c : Call Config Op) (b l : Buf) → Passes concrete Stores s (d, b)
      → Path (asks q s k) (reading q + counted es (drive c (serves a k d b) l))
  one (start c) b l p = starts c b l p (start_row c l)
  one (begin o) b l p = unless (cond (calls.slots o) (misfit calls driver_of d l) false) 1 b p
      (begun calls driver_of (λ s. s) o (serves a k d b) (busy true a k) l) (begins o l (stored p refl) b)
  one (continue v) b l p = unless (misfit calls driver_of d l) 1 b p
      (continued calls driver_of (λ s. s) v (serves a k d b) (busy true a k) l)
      (unless (over calls a v) 16 l (stored p refl) (halts_as true (k v (d, l)))
      (goes_on_lem v l (stored p refl) (k v (d, l)) refl))
  one (question x) b l p = waits l (stored p refl)

every : (es : List (Event Config Op)) → Goes es
unfolding served
every [] = λ q s k a d b p. here q s k
every (e ∷ es) = λ q s k a d b p. one es (every es) q s k a d e.call b e.lent p

pub sorting-served : (n : Machine Answer Driver) → Sorting n.st → n.under_way_lem ≡ idle
    → (slots : Buf) (fs : List (Event Config Op)) → served (record { call = begin interrupt; lent = slots } ∷ fs) n
    ≤ 4056
unfolding served
sorting-served n k w slots fs = subst (λ y. counted fs (begun calls driver_of (λ s. s) interrupt n y slots) ≤ 4056)
    (sym w) (by (run concrete interrupt_code (n.st, slots)) refl)
  where
    by : (x : tree.Out St Answer) → run concrete interrupt_code (n.st, slots) ≡ x → counted fs (halts_as true x) ≤ 4056
    by (ends y t) h = omega arith
    by (asks y t j) h =
        let r = every fs y t j (awaited y) t.0 t.1 nothing in
        le_trans r.most
        (subst (λ o. readings o r.path ≤ 4056) h
        (sorting-4056 n.st k slots r.path (subst (λ o. Along (Passes concrete Stores) o r.path) (sym h)
        r.along)))

-- an interrupt that begins where nothing is under way, after any list of calls from an accepted start-up: whatever
-- calls then follow, with whatever numbers and slot buffers they bring, until it ends they hand out at most 4,056
-- readings
pub served-4056 : (c : Config) (b : Buf) → start_row c b ≡ zero
    → (es : List (Event Config Op)) (m : Machine Answer Driver)
    → let n = after calls driver_of (record { call = start c; lent = b } ∷ es) m in
    n.under_way_lem ≡ idle → (slots : Buf) (fs : List (Event Config Op))
    → served (record { call = begin interrupt; lent = slots } ∷ fs) n ≤ 4056
served-4056 c b row es m = sorting-served (after calls driver_of (record { call = start c; lent = b } ∷ es) m)
    (after-sorting c b row es m)
