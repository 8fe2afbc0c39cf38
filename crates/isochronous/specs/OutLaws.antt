-- The walk that passes over endpoints, where it stops and what the status says. Assumes nothing.
use Rattle.std.specs.Prelude.{◌≡◌, refl, ◌≢◌, Bool, true, false, not, cond, ◌&&◌, List, [], ◌∷◌, ℕ, zero, suc, ◌^◌, ◌<◌}
use Rattle.std.proofs.Common.{ap, sym, ◌∙◌, arith, lt-ltb, ltb-true}
use Rattle.bits.specs.Walk.{set_bits, lowest, rest}
use Rattle.bits.specs.WalkLaws.{walk_step, walk_none, rest_lt}
use Rattle.regs.specs.declared.Access.TheVariants.{Read}
use Rattle.regs.specs.declared.Reg.TheVariants.{IntSt}
use Rattle.regs.specs.Status.{tog_ok}
use Rattle.regs.specs.Registers.{fits_in}
use Rattle.state.specs.Driver.{Driver}
use Rattle.script.specs.declared.Transfer.{Transfer}
use Rattle.script.specs.Tree as tree
use Rattle.script.specs.Tree.{ends, asks, bind_out}
use Rattle.script.specs.Script.{run}
use Rattle.script.specs.Statics.{iso_outs}
use Rattle.script.specs.IsoOut.{arriving, entry, arrives, check_walk, iso_out_check}
use Rattle.script_ops.specs.Rings.{St, changed_on, marked_on}
use Rattle.script_ops.specs.Concrete.{concrete, go}
use Rattle.isochronous.specs.declared.out.Check.{Check}
use Rattle.isochronous.specs.declared.out.Check.TheVariants as check
use Rattle.isochronous.specs.declared.out.Found.{Found}
use Rattle.isochronous.specs.declared.out.Found.TheVariants as found
use Rattle.isochronous.specs.Points.{walk, showing, after_st, arrival, denote, found_as, fits_at}

-- ---- `entry`

all_of : (p q r s t u : Bool) → p ≡ false → q ≡ true → r ≡ true → s ≡ true → u ≡ t → u
    ≡ (not p && (q && (r && (s && t))))
all_of p q r s t u a b c d e = rw (a, b, c, d) e

pub entry-as : (x : Transfer) (iso : Bool) (e : ℕ) (u : Bool) → x.busy ≡ false
    → x.len_ok ≡ true → iso ≡ true → tog_ok x.st ≡ true → u ≡ arriving x.st e → u ≡ entry x iso e
unfolding entry
entry-as x iso e u a b c d h = all_of x.busy x.len_ok iso (tog_ok x.st) (arriving x.st e) u a b c d h

-- ---- the walk

abbrev listed : Transfer → Bool → List ℕ → tree.Prog St Unit
listed x iso l t = run concrete (check_walk {i = true} x iso l) t

-- an endpoint of the list, by whether its slot has changed
first : (x : Transfer) (iso : Bool) (e : ℕ) (l : List ℕ) (t : St) (b : Bool) → changed_on t.0 e t.1 ≡ b
    → listed x iso (e ∷ l) t ≡ bind_out (cond b (run concrete (showing x iso e) t) (ends tt t)) (λ _ u. listed x iso l u)
unfolding check_walk after_st
first x iso e l t b h = ap (λ (y : Bool). bind_out (cond y (run concrete (showing x iso e) t) (ends tt t))
    (λ _ u. listed x iso l u)) h

some : (m : ℕ) → m ≢ 0 → 0 < m
some zero h = absurd (h refl)
some (suc m) h = omega arith

step : (x : Transfer) (iso : Bool) (m : ℕ) (t : St) (b : Bool) → 0 < m → m < 2 ^ 16 → changed_on t.0 (lowest m) t.1
    ≡ b
    → run concrete (walk x iso m) t ≡ bind_out (cond b (run concrete (showing x iso (lowest m)) t) (ends tt t))
    (λ _ u. run concrete (walk x iso (rest m)) u)
step x iso m t b p h c = ap (λ (l : List ℕ). listed x iso l t) (walk_step m p h)
    ∙ first x iso (lowest m) (set_bits (rest m)) t b c

-- unchanged: passed over
pub walk-over : (x : Transfer) (iso : Bool) (m e r : ℕ) (t : St) → m ≢ 0 → m < 2 ^ 16 → e ≡ lowest m → r ≡ rest m
    → changed_on t.0 e t.1 ≡ false
    → run concrete (walk x iso m) t ≡ run concrete (walk x iso r) t
walk-over x iso m e r t p h k j c =
    step x iso m t false (some m p) h (ap (λ (n : ℕ). changed_on t.0 n t.1) (sym k) ∙ c)
    ∙ ap (λ (n : ℕ). run concrete (walk x iso n) t) (sym j)

-- changed: the walk stops at it
pub walk_at : (x : Transfer) (iso : Bool) (m e r : ℕ) (t : St) → m ≢ 0 → m < 2 ^ 16 → e ≡ lowest m → r ≡ rest m
    → changed_on t.0 e t.1 ≡ true
    → run concrete (walk x iso m) t ≡ found_as x iso (found.At e r) t
walk_at x iso m e r t p h k j c =
    step x iso m t true (some m p) h (ap (λ (n : ℕ). changed_on t.0 n t.1) (sym k) ∙ c)
    ∙ (ap (λ (n : ℕ). found_as x iso (found.At n (rest m)) t) (sym k)
    ∙ ap (λ (n : ℕ). found_as x iso (found.At e n) t) (sym j))

-- the walk ends
pub rest-less : (m r : ℕ) → m ≢ 0 → m < 2 ^ 16 → r ≡ rest m → r < m
rest-less m r p h j = let l = rest_lt m (some m p) h in omega arith

none : (x : Transfer) (iso : Bool) (t : St) → listed x iso [] t ≡ ends tt t
unfolding check_walk
none x iso t = refl

pub walk_end : (x : Transfer) (iso : Bool) (m : ℕ) (t : St) → m ≡ 0 → run concrete (walk x iso m) t ≡ ends tt t
walk_end x iso m t h = ap (λ (n : ℕ). listed x iso (set_bits n) t) h
    ∙ (ap (λ (l : List ℕ). listed x iso l t) walk_none ∙ none x iso t)

-- ---- the endpoint at which it stops

abbrev shown : Transfer → Bool → ℕ → ℕ → Bool → tree.Prog St Unit
shown x iso e m y t = bind_out
    (cond y (run concrete (arrives {i = true} e x.len) t)
    (asks (Read IntSt 0) t (λ v u. run concrete (after_st e v) u)))
    (λ _ u. run concrete (walk x iso m) u)

stops : (x : Transfer) (iso : Bool) (f : Found) (e m : ℕ) (y : Bool) (t : St) → f ≡ found.At e m → entry x iso e ≡ y
    → found_as x iso f t ≡ shown x iso e m y t
stops x iso f e m y t h k = ap (λ (g : Found). found_as x iso g t) h ∙ ap (λ (z : Bool). shown x iso e m z t) k

-- the interrupt's length is the packet's
pub found-entry : (x : Transfer) (iso : Bool) (f : Found) (e m : ℕ) (t : St) → f ≡ found.At e m → entry x iso e ≡ true
    → found_as x iso f t ≡ run concrete (arrival x iso e x.len m) t
found-entry x iso f e m t h k = stops x iso f e m true t h k

-- it is not
pub found-status : (x : Transfer) (iso : Bool) (f : Found) (e m : ℕ) (t : St) → f ≡ found.At e m → entry x iso e ≡ false
    → found_as x iso f t ≡ asks (Read IntSt 0) t (λ v u. denote x iso (check.St e m) v u)
found-status x iso f e m t h k = stops x iso f e m false t h k

pub found_nothing : (x : Transfer) (iso : Bool) (f : Found) (t : St) → f ≡ found.Nothing → found_as x iso f t ≡ ends tt t
found_nothing x iso f t h = ap (λ (g : Found). found_as x iso g t) h

-- ---- the status is read

abbrev read_as : Transfer → Bool → ℕ → ℕ → Bool → tree.Prog St Unit
read_as x iso e m y t = bind_out (cond y (ends tt t) (run concrete (arrives {i = true} e (marked_on t.0 e t.1)) t))
    (λ _ u. run concrete (walk x iso m) u)

status : (x : Transfer) (iso : Bool) (e m v : ℕ) (y : Bool) (t : St) → arriving v e ≡ y
    → denote x iso (check.St e m) v t ≡ read_as x iso e m y t
unfolding after_st
status x iso e m v y t h = ap (λ (z : Bool). read_as x iso e m z t) h

-- the packet may still be arriving
pub status-out : (x : Transfer) (iso : Bool) (e m v : ℕ) (t : St) → arriving v e ≡ true
    → denote x iso (check.St e m) v t ≡ run concrete (walk x iso m) t
status-out x iso e m v t h = status x iso e m v true t h

-- the marks show its length
pub status-marked : (x : Transfer) (iso : Bool) (e m v len : ℕ) (t : St) → arriving v e ≡ false → len
    ≡ marked_on t.0 e t.1
    → denote x iso (check.St e m) v t ≡ run concrete (arrival x iso e len m) t
status-marked x iso e m v len t h k = status x iso e m v false t h
    ∙ ap (λ (n : ℕ). run concrete (arrival x iso e n m) t) (sym k)

-- ---- the begin

pub begun : (x : Transfer) (iso : Bool) (m : ℕ) (d : Driver) (b : List ℕ)
    → m ≡ iso_outs d.globals → go (walk x iso m) d b ≡ go (iso_out_check {i = true} x iso) d b
begun x iso m d b h = ap (λ (n : ℕ). go (walk x iso n) d b) h

-- ---- a status is a byte

byte-wide : (v : ℕ) → fits_in v 7 ≡ true → fits_in v 8 ≡ true
unfolding fits_in
byte-wide v h = let l = ltb-true v (2 ^ 7) h in lt-ltb v (2 ^ 8) (omega arith)

pub fits-status : (p : Check) (v e m : ℕ) → p ≡ check.St e m → fits_at p v ≡ true → fits_in v 8 ≡ true
unfolding fits_at
fits-status p v e m h fits = byte-wide v (ap (λ (q : Check). fits_at q v) (sym h) ∙ fits)
