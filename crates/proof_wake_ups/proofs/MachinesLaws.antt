-- Laws on the definitions of Machines.antt
use Rattle.std.specs.Prelude.{Bool, true, false, cond, List, [], ◌∷◌, ◌≡◌, refl, ℕ, zero, suc, length}
use Rattle.std.proofs.Common.{sym, ap, subst, arith}
use Rattle.state.specs.Driver.{Driver}
use Rattle.state.specs.Fresh.{fresh_driver}
use Rattle.state.specs.WakesLaws.{none-room, none-listed}
use Rattle.script.specs.Tree as tree
use Rattle.script.specs.Answers.{Answer}
use Rattle.script.specs.Calls.{Config, Op, interrupt, slotted, other, aside, calls, start_row}
use Rattle.script.specs.Machine as machine
use Rattle.script.specs.Machine.{Buf, Event, Call, start, begin, continue, question, Pending, Machine, over, halt}
use Rattle.script.specs.Machine.{during_interrupt, begun, continued, started, call}
use Rattle.script.specs.SpendsCalls.{aside-spends, call-spends, start-up-spends}
use Rattle.script_ops.specs.Rings.{St}
use Rattle.machine.specs.Suspended.{driver_of, drive}
use Rattle.proof_wake_ups.specs.Heard.{Heard, Hst}
use Rattle.proof_wake_ups.specs.Twins.{Fits, Twin, end, ask, Short}
use Rattle.proof_wake_ups.proofs.TwinsLaws.{twin-more, grown-same, wakes-of}
use Rattle.proof_wake_ups.specs.Machines.{heard, Told, ToldHeard, hear, Ways, rests, works, Pair}

abbrev machine_of : Pending Answer Driver → Hst → Machine Answer Driver
machine_of w t = record { under_way_lem = w; st = t.0.0; buf = t.1 }

abbrev heard_of : Pending Answer Heard → Hst → Machine Answer Heard
heard_of w t = record { under_way_lem = w; st = t.0; buf = t.1 }

-- the same answer, and then paired
pub record SameTold (x : Told) (y : ToldHeard) : Type 0 where
  pub answer : x.0 ≡ y.0
  pub pair : Pair x.1 y.1

paired : {w : Pending Answer Driver} {w' : Pending Answer Heard} (t : Hst) → Fits t.0 → Short t.0.1
    → Ways t.0.1 w w' → Pair (machine_of w t) (heard_of w' t)
paired t f z x = record { driver = refl; buf = refl; fits = f; short = z; ways = x }

-- ---- each call

halts : (i : Bool) {o : tree.Out St Answer} {u : tree.Out Hst Answer}
    → Twin Short o u → SameTold (halt calls driver_of (λ s. s) i o) (halt calls heard (λ s. s) i u)
halts i (end t f p) = record { answer = refl; pair = paired t f p rests }
halts i (ask t f p k) = record { answer = refl; pair = paired t f p (works k) }

either : (b : Bool) {x y : Told} {x' y' : ToldHeard} → SameTold x x' → SameTold y y'
    → SameTold (cond b x y) (cond b x' y')
either true p q = p
either false p q = q

-- a call that passes leaves the record
passes : {w : Pending Answer Driver} {w' : Pending Answer Heard} (t : Hst) → Fits t.0 → Short t.0.1
    → Ways t.0.1 w w' → {o : tree.Out St Answer} {u : tree.Out Hst Answer} → Twin (λ x. x ≡ t.0.1) o u
    → SameTold (during_interrupt calls driver_of (machine_of w t) o) (during_interrupt calls heard (heard_of w' t) u)
passes {w} {w'} t f z x (end u g p) = record {
  answer = refl;
  pair
      = paired u g (omega (arith, z, ap length p)) (subst (λ z. Ways z w w') (sym p) x);
}
passes t f z x (ask u g p k) = record { answer = refl; pair = paired t f z x }

-- another call falls into an operation: row 3
refused : (i : Bool) {w : Pending Answer Driver} {w' : Pending Answer Heard} (t : Hst)
    → Fits t.0 → Short t.0.1 → Ways t.0.1 w w' → (x : Told) (y : ToldHeard)
    → SameTold (cond (cond i false false) x (machine.stay calls driver_of 3 (machine_of w t)))
    (cond (cond i false false) y (machine.stay calls heard 3 (heard_of w' t)))
refused true t f z x _ _ = record { answer = refl; pair = paired t f z x }
refused false t f z x _ _ = record { answer = refl; pair = paired t f z x }

begins : (o : Op) (t : Hst) → Fits t.0 → Short t.0.1 → {w : Pending Answer Driver} {w' : Pending Answer Heard}
    → Ways t.0.1 w w' → (b : Buf)
    → SameTold (begun calls driver_of (λ s. s) o (machine_of w t) w b) (begun calls heard (λ s. s) o (heard_of w' t) w' b)
begins o t f z rests b = halts (calls.irq o) ((wakes-of (call-spends o)).on (t.0, b) f (omega (arith, z)))
begins interrupt t f z (works {i = i} k) b = refused i (t.0, b) f z (works k) _ _
begins (slotted o) t f z (works {i = i} k) b = refused i (t.0, b) f z (works k) _ _
begins (other o) t f z (works {i = i} k) b = refused i (t.0, b) f z (works k) _ _
begins (aside o) t f z (works {i = true} k) b =
    passes (t.0, b) f z (works k) (twin-more ((wakes-of (aside-spends {c = false} o)).on (t.0, b) f (omega (arith, z)))
    (λ l g. grown-same g))
begins (aside o) t f z (works {i = false} k) b = record { answer = refl; pair = paired (t.0, b) f z (works k) }

continues : (v : ℕ) (t : Hst) → Fits t.0 → Short t.0.1 → {w : Pending Answer Driver} {w' : Pending Answer Heard}
    → Ways t.0.1 w w' → (b : Buf)
    → SameTold (continued calls driver_of (λ s. s) v (machine_of w t) w b)
    (continued calls heard (λ s. s) v (heard_of w' t) w' b)
continues v t f z rests b = record { answer = refl; pair = paired (t.0, b) f z rests }
continues v t f z (works {i = i} {q = q} k) b =
    either (over calls q v) (record { answer = refl; pair = paired (t.0, b) f z (works k) })
    (halts i (k v (t.0, b) f refl))

fresh-fits : (c : Config) → Fits (driver_of.fresh c, [])
unfolding fresh_driver
fresh-fits c = record { room = none-room; list = none-listed }

starts : (c : Config) (n : ℕ) (t : Hst) → Fits t.0 → Short t.0.1
    → {w : Pending Answer Driver} {w' : Pending Answer Heard} → Ways t.0.1 w w' → (b : Buf)
    → SameTold (started calls driver_of (λ s. s) c n (machine_of w t) b)
    (started calls heard (λ s. s) c n (heard_of w' t) b)
starts c zero t f z x b = halts false ((wakes-of (start-up-spends c)).on ((driver_of.fresh c, []), b) (fresh-fits c)
    (omega arith))
starts c (suc n) t f z x b = record { answer = refl; pair = paired t f z x }

-- the same machine by its parts
steps-by : (c : Call Config Op) (t : Hst) → Fits t.0 → Short t.0.1
    → {w : Pending Answer Driver} {w' : Pending Answer Heard}
    → Ways t.0.1 w w' → (b : Buf) → SameTold (drive c (machine_of w t) b) (hear c (heard_of w' t) b)
steps-by (start c) t f z x b = starts c (start_row c b) t f z x b
steps-by (begin o) t f z x b = either (cond (calls.slots o) (machine.misfit calls driver_of t.0.0 b) false)
    (record { answer = refl; pair = paired t f z x }) (begins o t f z x b)
steps-by (continue v) t f z x b = either (machine.misfit calls driver_of t.0.0 b)
    (record { answer = refl; pair = paired t f z x }) (continues v t f z x b)
steps-by (question q) t f z x b = record { answer = refl; pair = paired (t.0, b) f z x }

pub steps : (c : Call Config Op) (m : Machine Answer Driver) (n : Machine Answer Heard) → Pair m n → (b : Buf)
    → SameTold (drive c m b) (hear c n b)
steps c m n p b = subst (λ (z : Machine Answer Driver). SameTold (drive c z b) (hear c n b)) (λ i. record {
  under_way_lem = m.under_way_lem;
  st = sym p.driver i;
  buf = sym p.buf i;
}) (steps-by c (n.st, n.buf) p.fits p.short p.ways b)

-- ---- every list of calls

-- the answers, call by call
abbrev pub Same : Machine Answer Driver → Machine Answer Heard → List (Event Config Op) → Type 0
Same m n [] = Unit {0}
Same m n (v ∷ vs) = ((drive v.call m v.lent).0 ≡ (hear v.call n v.lent).0)
    × Same (drive v.call m v.lent).1 (hear v.call n v.lent).1 vs

pub always : (vs : List (Event Config Op)) (m : Machine Answer Driver) (n : Machine Answer Heard) → Pair m n
    → Same m n vs
always [] m n p = tt
always (v ∷ vs) m n p = let s = steps v.call m n p v.lent in (s.answer, always vs _ _ s.pair)

-- from an accepted start-up, on whatever was before: after it and any calls, refused ones included, each end gives
-- every wake-up
pub from_start : (c : Config) (b : Buf) → start_row c b ≡ zero
    → (m : Machine Answer Driver) (n : Machine Answer Heard) → SameTold (drive (start c) m b) (hear (start c) n b)
from_start c b row m n = by (start_row c b) row
  where
    by : (r : ℕ) → r ≡ zero → SameTold (started calls driver_of (λ s. s) c r m b) (started calls heard (λ s. s) c r n b)
    by zero e = halts false ((wakes-of (start-up-spends c)).on ((driver_of.fresh c, []), b) (fresh-fits c) (omega arith))
    by (suc r) e = absurd (omega (arith, e))

pub all-wake-ups : (c : Config) (b : Buf)
    → start_row c b ≡ zero → (m : Machine Answer Driver) (n : Machine Answer Heard) (vs : List (Event Config Op))
    → Same m n (record { call = start c; lent = b } ∷ vs)
all-wake-ups c b row m n vs = let s = from_start c b row m n in (s.answer, always vs _ _ s.pair)
