-- The pair of Witness.antt with a late turn. In the second interrupt 6 6 6 is in the channel's slot in the first run
-- alone, which so comes to two accesses of the channel's own. There, late, 7 8 is stored in OUT 2's slot; the run opens
-- OUT 2's oldest packet, continues, is refused an open with a buffer of a wrong length and a continue, closes the
-- packet and asks for OUT 2's overruns. The second run gets this before its continue, with refusals of its own. They
-- meet the premise of `undisturbed-late` (`premise-late`), which says of them what it says (`holds-late`)
use Rattle.std.specs.Prelude.{Bool, true, false, not, ◌&&◌, List, [], ◌∷◌, ◌≢◌, ◌≡◌, refl, ℕ, suc, ◌+◌, ◌≤◌, ◌<◌, leb, length, get_or, drop}
use Rattle.std.proofs.Common.{true≢false, inr, ⊎_elim, ap, subst, sym, ◌∙◌, arith, leb-true}
use Rattle.bits.specs.Bit.{bit_is_set}
use Rattle.alloc.specs.Alloc.{allocated_ins}
use Rattle.regs.specs.declared.Dir.TheVariants.{Out}
use Rattle.state.specs.Driver.{Driver, key, ep_on}
use Rattle.script.specs.Statics.{flag}
use Rattle.script.specs.Answers.{Answer}
use Rattle.script.specs.Calls.{aside, Open, Close, Queue}
use Rattle.script.specs.Machine.{begin, continue, question, overruns, Pending, idle, busy}
use Rattle.proof_book.specs.Coupling.{end_of}
use Rattle.proof_book.specs.Inputs.{left, right}
use Rattle.proof_book.specs.Computing.{computing}
use Rattle.proof_isolation.specs.EqualExcept.{Channel}
use Rattle.proof_isolation.specs.Whose.{own}
use Rattle.proof_isolation.specs.Schedule.{Run, Two, stored_in, wide, unfit, Asked, at_own, back_row1}
use Rattle.proof_isolation.specs.Undisturbed.{Session}
use Rattle.proof_isolation.specs.Stores.{patched, Lands}
use Rattle.proof_isolation.specs.Late as late
use Rattle.proof_isolation.specs.Late.{Light, opens, closes, queues, asks_of, Item, gets, stopped, goes_own}
use Rattle.proof_isolation.specs.Late.{stores_own, calls_own, goes_back}
use Rattle.proof_isolation.specs.Late.{lights_of, lit, lits, gone, first-late, Serving, Other, Unseen, Before}
use Rattle.proof_isolation.specs.Late.{AtOwn, MayLate}
use Rattle.proof_isolation.specs.Late.{LateSession, AllOpenLate, UndisturbedLate}
use Rattle.proof_isolation.proofs.LateRunsLaws.{undisturbed-late}
use Rattle.proof_isolation.specs.Moves.{Move, serves, reads, stored, first-opens, first-closes}
use Rattle.proof_isolation.proofs.MovesLaws.{brings_b, brings-at, off}
use Rattle.proof_isolation.specs.Once.{quick, quickly, quick_back}
use Rattle.proof_isolation.proofs.OnceLaws.{quick-is, quickly-is, back_is, flag-on}
use Rattle.proof_isolation.specs.Once.{parting}
use Rattle.proof_isolation.proofs.OnceLaws.{quick_last, quick_set_up}
use Rattle.proof_isolation.proofs.OnceLaws.{Passes, session, after-all}
use Rattle.proof_isolation.proofs.OnceLaws as once
use Rattle.proof_isolation.proofs.Witness.{config, buffer, setting, arrives, blank}

-- ---- what is done

-- up to the frame reading of the second interrupt
abbrev pub before : List Move
before = arrives (first-opens ∷ first-closes ∷ stored 1 (6 ∷ 6 ∷ 6 ∷ []) 1 [] ∷
    serves 66 ∷ reads 8 8 ∷ reads 2 2 ∷ reads 1 1 ∷ reads 66 66 ∷ reads 2 2 ∷ reads 0 0 ∷ [])

-- 7 8 in OUT 2's armed slot
abbrev pub packet : List (ℕ × ℕ)
packet = (1088, 7) ∷ (1089, 8) ∷ []

-- what the late run gets, and what the other
abbrev pub late_calls : List Item
late_calls = gets (late.stored packet) ∷ gets (opens 2) ∷ goes_own 66 ∷ stopped (Open 2) [] ∷ goes_back 0 [] ∷
    gets (closes 2) ∷ gets (asks_of (overruns 2)) ∷ []

abbrev pub early_calls : List Item
early_calls = gets (late.stored packet) ∷ goes_back 8 [] ∷ gets (opens 2) ∷ stopped (Open 2) (0 ∷ []) ∷
    gets (closes 2) ∷ gets (asks_of (overruns 2)) ∷ []

-- ---- the test

abbrev serving_b : Pending Answer Driver → Bool
serving_b idle = false
serving_b (busy i a k) = i

serving-is : (w : Pending Answer Driver) → serving_b w ≡ true → Serving w
serving-is idle h = absurd (true≢false (sym h))
serving-is (busy true a k) h = tt
serving-is (busy false a k) h = absurd (true≢false (sym h))

-- as it is computed
abbrev quick_lit : Light → Run → Run
quick_lit (opens e) r = quickly (begin (aside (Open e))) r
quick_lit (closes e) r = quickly (begin (aside (Close e))) r
quick_lit (queues e bs) r = quickly (begin (aside (Queue e bs))) r
quick_lit (asks_of q) r = quickly (question q) r
quick_lit (late.stored p) r = stored_in (patched p r.machine.buf) r

lit-quick : (o : Light) (r : Run) → lit false 0 o r ≡ quick_lit o r
lit-quick (opens e) r = quickly-is (begin (aside (Open e))) r
lit-quick (closes e) r = quickly-is (begin (aside (Close e))) r
lit-quick (queues e bs) r = quickly-is (begin (aside (Queue e bs))) r
lit-quick (asks_of q) r = quickly-is (question q) r
lit-quick (late.stored p) r = refl

abbrev quick_lits : List Light → Run → Run
quick_lits [] r = r
quick_lits (o ∷ os) r = let z = quick_lit o r in quick_lits os z

lits-quick : (os : List Light) (r : Run) → lits false 0 os r ≡ quick_lits os r
lits-quick [] r = refl
lits-quick (o ∷ os) r = ap (lits false 0 os) (lit-quick o r) ∙ lits-quick os (quick_lit o r)

-- with what the others get first the run comes to an access of the channel's own
abbrev unseen_flag : ℕ → List Light → Run → ℕ
unseen_flag v os r = let z = quick_lits os r in let y = quickly (continue v) z in flag (own 1 y.access y.machine)

abbrev own_flags : List Item → Run → List ℕ
own_flags [] r = flag (own 1 r.access r.machine) ∷ []
own_flags (gets o ∷ is) r = flag (own 1 r.access r.machine) ∷ (let z = quick_lit o r in own_flags is z)
own_flags (stopped o b ∷ is) r =
    flag (own 1 r.access r.machine) ∷ flag (unfit (begin (aside o)) r b)
    ∷ (let z = quick (begin (aside o)) b r in own_flags is z)
own_flags (goes_own v ∷ is) r =
    flag (own 1 r.access r.machine) ∷ flag (not (wide r.machine.under_way_lem v)) ∷ unseen_flag v (lights_of is) r ∷
    (let z = quickly (continue v) r in own_flags is z)
own_flags (goes_back v b ∷ is) r =
    flag (own 1 r.access r.machine) ∷ flag (unfit (continue v) r b) ∷ (let z = quick_back v b r in own_flags is z)
own_flags (stores_own b ∷ is) r = []
own_flags (calls_own e ∷ is) r = []

abbrev own_ones : List Item → List ℕ
own_ones [] = 1 ∷ []
own_ones (gets o ∷ is) = 1 ∷ own_ones is
own_ones (stopped o b ∷ is) = 1 ∷ 1 ∷ own_ones is
own_ones (goes_own v ∷ is) = 1 ∷ 1 ∷ 1 ∷ own_ones is
own_ones (goes_back v b ∷ is) = 1 ∷ 1 ∷ own_ones is
own_ones (stores_own b ∷ is) = 0 ∷ []
own_ones (calls_own e ∷ is) = 0 ∷ []

-- each byte lies above the channel's slots and in OUT 2's armed slot
abbrev lands_b : Driver → List (ℕ × ℕ) → Bool
lands_b d [] = true
lands_b d (p ∷ ps) = leb (end_of (ep_on d Out 1)) p.0 && (bit_is_set (allocated_ins d.allocator Out) 2 &&
    (leb (ep_on d Out 2).armed_slot p.0 && (leb (suc p.0) ((ep_on d Out 2).armed_slot + d.allocator.size)
    && lands_b d ps)))

abbrev stores_b : Light → Driver → Bool
stores_b (opens e) d = true
stores_b (closes e) d = true
stores_b (queues e bs) d = true
stores_b (asks_of q) d = true
stores_b (late.stored p) d = lands_b d p

abbrev early_flags : List Item → Run → List ℕ
early_flags [] r = []
early_flags (gets o ∷ is) r = flag (stores_b o r.machine.st) ∷ (let z = quick_lit o r in early_flags is z)
early_flags (stopped o b ∷ is) r = flag (unfit (begin (aside o)) r b)
    ∷ (let z = quick (begin (aside o)) b r in early_flags is z)
early_flags (goes_back v b ∷ is) r = flag (unfit (continue v) r b) ∷ (let z = quick_back v b r in early_flags is z)
early_flags (goes_own v ∷ is) r = []
early_flags (stores_own b ∷ is) r = []
early_flags (calls_own e ∷ is) r = []

abbrev early_ones : List Item → List ℕ
early_ones [] = []
early_ones (gets o ∷ is) = 1 ∷ early_ones is
early_ones (stopped o b ∷ is) = 1 ∷ early_ones is
early_ones (goes_back v b ∷ is) = 1 ∷ early_ones is
early_ones (goes_own v ∷ is) = 0 ∷ []
early_ones (stores_own b ∷ is) = 0 ∷ []
early_ones (calls_own e ∷ is) = 0 ∷ []

abbrev flags : Two → List ℕ
flags w =
    flag (serving_b w.first.machine.under_way_lem) ∷ flag (not (own 1 w.first.access w.first.machine)) ∷
    flag (not (own 1 w.second.access w.second.machine)) ∷ flag (not (wide w.first.machine.under_way_lem 8)) ∷
    flag (not (wide w.second.machine.under_way_lem 8)) ∷ flag (brings_b 1 w.status w.first.access 8 8) ∷
    unseen_flag 8 (lights_of late_calls) w.first ∷ (let z = quickly (continue 8) w.first in own_flags late_calls z)

-- all as it should be
abbrev good : List ℕ
good = 1 ∷ 1 ∷ 1 ∷ 1 ∷ 1 ∷ 1 ∷ 1 ∷ own_ones late_calls

module _ (c : Channel) (e : c.number ≡ 1) where
  own-so : (r : Run) → flag (own 1 r.access r.machine) ≡ 1 → own c.number r.access r.machine ≡ true
  own-so r h = subst (λ x. own x r.access r.machine ≡ true) (sym e) (flag-on (own 1 r.access r.machine) h)

  unseen-so : (v : ℕ) (os : List Light) (r : Run) → unseen_flag v os r ≡ 1 → Unseen c false 0 v os r
  unseen-so v os r h m = subst (λ (y : Run). at_own c y ≡ true)
      (sym (ap (gone false 0 v) (lits-quick os r) ∙ quickly-is (continue v) (quick_lits os r)))
      (own-so (quickly (continue v) (quick_lits os r)) h)

  own-sound : (is : List Item) (r : Run) → own_flags is r ≡ own_ones is → AtOwn c false 0 is r
  own-sound [] r h = own-so r (ap (λ k. get_or k 0 0) h)
  own-sound (gets o ∷ is) r h = (
    own-so r (ap (λ k. get_or k 0 0) h),
    subst (AtOwn c false 0 is) (sym (lit-quick o r)) (own-sound is (quick_lit o r) (ap (drop 1) h)),
  )
  own-sound (stopped o b ∷ is) r h = (
    own-so r (ap (λ k. get_or k 0 0) h),
    flag-on (unfit (begin (aside o)) r b) (ap (λ k. get_or k 1 0) h),
    subst (AtOwn c false 0 is) (sym (quick-is (begin (aside o)) b r))
        (own-sound is (quick (begin (aside o)) b r) (ap (drop 2) h)),
  )
  own-sound (goes_own v ∷ is) r h = (
    own-so r (ap (λ k. get_or k 0 0) h),
    off (wide r.machine.under_way_lem v) (flag-on (not (wide r.machine.under_way_lem v)) (ap (λ k. get_or k 1 0) h)),
    unseen-so v (lights_of is) r (ap (λ k. get_or k 2 0) h),
    subst (AtOwn c false 0 is) (sym (quickly-is (continue v) r))
        (own-sound is (quickly (continue v) r) (ap (drop 3) h)),
  )
  own-sound (goes_back v b ∷ is) r h = (
    own-so r (ap (λ k. get_or k 0 0) h),
    back_row1 (flag-on (unfit (continue v) r b) (ap (λ k. get_or k 1 0) h)),
    subst (AtOwn c false 0 is) (sym (back_is v b r)) (own-sound is (quick_back v b r) (ap (drop 2) h)),
  )
  own-sound (stores_own b ∷ is) r h = absurd (omega (arith, ap length h))
  own-sound (calls_own d ∷ is) r h = absurd (omega (arith, ap length h))

  lands-so : (d : Driver) (ps : List (ℕ × ℕ)) → lands_b d ps ≡ true → Lands c d ps
  lands-so d [] h = tt
  lands-so d (p ∷ ps) h =
      let h1 = right (leb (end_of (ep_on d Out 1)) p.0) _ h in
      let h2 = right (bit_is_set (allocated_ins d.allocator Out) 2) _ h1 in
      let h3 = right (leb (ep_on d Out 2).armed_slot p.0) _ h2 in
      let i = left (bit_is_set (allocated_ins d.allocator Out) 2) _ h1 in
      let x = leb-true (end_of (ep_on d Out 1)) p.0 (left (leb (end_of (ep_on d Out 1)) p.0) _ h) in
      let y = leb-true (ep_on d Out 2).armed_slot p.0 (left (leb (ep_on d Out 2).armed_slot p.0) _ h2) in
      let z = leb-true (suc p.0) ((ep_on d Out 2).armed_slot + d.allocator.size)
      (left (leb (suc p.0) ((ep_on d Out 2).armed_slot + d.allocator.size)) _ h3) in (
        inr (subst (λ x. end_of (ep_on d Out x) ≤ p.0) (sym e) x),
        λ a. ⊎_elim (λ k. omega (arith, k, y)) (λ k. omega (arith, k, z)) (a.outs 2 i),
        lands-so d ps (right (leb (suc p.0) ((ep_on d Out 2).armed_slot + d.allocator.size)) _ h3),
      )

  -- a driver has no say in the others
  abbrev Named : Light → Type 0
  Named (opens x) = key Out x ≢ key Out c.number
  Named (closes x) = key Out x ≢ key Out c.number
  Named (queues x bs) = Unit {0}
  Named (asks_of q) = Asked c q
  Named (late.stored p) = Unit {0}

  abbrev AllNamed : List Light → Type 0
  AllNamed [] = Unit {0}
  AllNamed (o ∷ os) = Named o × AllNamed os

  other-so : (o : Light) (d : Driver) → Named o → stores_b o d ≡ true → Other c o d
  other-so (opens x) d m h = m
  other-so (closes x) d m h = m
  other-so (queues x bs) d m h = tt
  other-so (asks_of q) d m h = m
  other-so (late.stored p) d m h = lands-so d p h

  early-sound : (is : List Item) (r : Run) → AllNamed (lights_of is) → early_flags is r ≡ early_ones is
      → Before c false 0 is r
  early-sound [] r m h = tt
  early-sound (gets o ∷ is) r m h = (
    other-so o r.machine.st m.0 (flag-on (stores_b o r.machine.st) (ap (λ k. get_or k 0 0) h)),
    subst (Before c false 0 is) (sym (lit-quick o r)) (early-sound is (quick_lit o r) m.1 (ap (drop 1) h)),
  )
  early-sound (stopped o b ∷ is) r m h = (
    flag-on (unfit (begin (aside o)) r b) (ap (λ k. get_or k 0 0) h),
    subst (Before c false 0 is) (sym (quick-is (begin (aside o)) b r))
        (early-sound is (quick (begin (aside o)) b r) m (ap (drop 1) h)),
  )
  early-sound (goes_back v b ∷ is) r m h = (
    back_row1 (flag-on (unfit (continue v) r b) (ap (λ k. get_or k 0 0) h)),
    subst (Before c false 0 is) (sym (back_is v b r)) (early-sound is (quick_back v b r) m (ap (drop 1) h)),
  )
  early-sound (goes_own v ∷ is) r m h = absurd (omega (arith, ap length h))
  early-sound (stores_own b ∷ is) r m h = absurd (omega (arith, ap length h))
  early-sound (calls_own d ∷ is) r m h = absurd (omega (arith, ap length h))

  not_own : (r : Run) → flag (not (own 1 r.access r.machine)) ≡ 1 → at_own c r ≡ false
  not_own r h = subst (λ x. own x r.access r.machine ≡ false) (sym e)
      (off (own 1 r.access r.machine) (flag-on (not (own 1 r.access r.machine)) h))

  within-so : (w : Pending Answer Driver) → flag (not (wide w 8)) ≡ 1 → wide w 8 ≡ false
  within-so w h = off (wide w 8) (flag-on (not (wide w 8)) h)

  may-so : (w : Two) → flags w ≡ good → early_flags early_calls w.second ≡ early_ones early_calls
      → key Out 2 ≢ key Out c.number
      → MayLate c false 0 (first-late 8 8 late_calls early_calls) w
  may-so w h k m = (
    record {
      serving = serving-is w.first.machine.under_way_lem
          (flag-on (serving_b w.first.machine.under_way_lem) (ap (λ k. get_or k 0 0) h));
      shared = not_own w.first (ap (λ k. get_or k 1 0) h);
      shared' = not_own w.second (ap (λ k. get_or k 2 0) h);
      within = within-so w.first.machine.under_way_lem (ap (λ k. get_or k 3 0) h);
      within' = within-so w.second.machine.under_way_lem (ap (λ k. get_or k 4 0) h);
      brings = brings-at c w.first.machine.under_way_lem w.status w.first.access 8 8
          (subst (λ x. brings_b x w.status w.first.access 8 8 ≡ true) (sym e)
          (flag-on (brings_b 1 w.status w.first.access 8 8) (ap (λ k. get_or k 5 0) h)));
    },
    record {
      same = refl;
      early = early-sound early_calls w.second (tt, (m, (m, (m, tt)))) k;
      unseen = unseen-so 8 (lights_of late_calls) w.first (ap (λ k. get_or k 6 0) h);
      own = subst (AtOwn c false 0 late_calls) (sym (quickly-is (continue 8) w.first))
          (own-sound late_calls (quickly (continue 8) w.first) (ap (drop 7) h));
    },
  )

-- ---- the two meet the premise

pub passes-before : Passes config buffer setting before blank
unfolding computing
passes-before = refl

abbrev pub pair_before : Session
pair_before = session config buffer setting before blank passes-before

abbrev pub late_pair : LateSession
late_pair = record { opening = pair_before; turns = first-late 8 8 late_calls early_calls ∷ [] }

abbrev reached : Two
reached = quick_last 1 before (parting (quick_set_up config buffer setting before blank))

flagged : (let w = quick_last 1 before (parting (quick_set_up config buffer setting before blank)) in flags w) ≡ good
unfolding computing
flagged = refl

early-flagged : (let w = quick_last 1 before (parting (quick_set_up config buffer setting before blank)) in early_flags
    early_calls w.second)
    ≡ early_ones early_calls
unfolding computing
early-flagged = refl

other-two : key Out 2 ≢ key Out 1
unfolding key
other-two h = omega (arith, h)

pub premise-late : AllOpenLate false 0 (late_pair ∷ []) (parting blank)
premise-late = (
  once.opens config buffer setting before blank passes-before,
  (
    subst (λ (w : Two). MayLate pair_before.channel false 0 (first-late 8 8 late_calls early_calls) w)
        (sym (after-all config buffer setting before blank passes-before))
        (may-so pair_before.channel refl reached flagged early-flagged other-two),
    tt,
  ),
  tt,
)

-- what request Fourteen says of them
pub holds-late : UndisturbedLate false 0 (late_pair ∷ []) (parting blank)
holds-late = undisturbed-late false 0 (late_pair ∷ []) (parting blank) refl premise-late
