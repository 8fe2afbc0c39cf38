-- The record is what the history says
use Rattle.std.specs.Prelude.{Bool, List, [], ◌∷◌, ◌⊎◌, ◌≡◌, ℕ, zero, suc, ◌+◌, ◌*◌, ◌%◌, ◌^◌, ◌≤◌, ◌<◌, length, set, replicate}
use Rattle.std.proofs.Math.Bool.{true, false, cond}
use Rattle.std.proofs.Common.{inl, inr, ⊎_elim, ap, sym, ◌∙◌, arith, get_or-set_same}
use Rattle.std.proofs.Math.Path.{refl}
use Rattle.std.proofs.Math.Nat.{zero-div}
use Rattle.std.proofs.Math.Dec.{eqb}
use Rattle.std.proofs.Math.ListN.{get_or}
use Rattle.std.proofs.Math.Seq.{get_or-set_other}
use borrow.Author.Tests.{eqb-true, eqb-false}
use Rattle.bits.specs.Bit.{bit_is_set, bit}
use Rattle.regs.specs.declared.Access.{Access}
use Rattle.regs.specs.declared.Access.TheVariants.{Read, Write, Receive, Transmit, Ep0Dma, Wait, Callback}
use Rattle.regs.specs.declared.Reg.TheVariants.{EpConfig}
use Rattle.regs.specs.declared.Dir.{Dir}
use Rattle.regs.specs.declared.Dir.TheVariants.{Out, In}
use Rattle.regs.specs.Enables.{place}
use Rattle.state.specs.Driver.{Driver}
use Rattle.script.specs.Every.{same_reg}
use Rattle.script.specs.Answers.{Answer, Refused}
use Rattle.script.specs.Calls.{calls}
use Rattle.script.specs.Machine.{Buf, Machine, Ans, ended, handed, told, lent_to}
use Rattle.machine.specs.Suspended.{driver_of, drive}
use Rattle.answer.specs.Goes.{StepResult}
use Rattle.bus_time.specs.Time.{entry_of, total, is_in_use, entry_kept, kept, keep_of, uncharged}
use Rattle.bus_time.specs.TimeLaws.{total-none, kept_in, kept_out}
use Rattle.calls.specs.Sharing.{Sort, enabling, starting, going, apart, sort_of, charge_on, written, time_after}
use Rattle.calls.specs.Sharing.{turned_down, settled}
use Rattle.proof_bus_time.specs.Four.{Four, Turn, called, next, after}
use Rattle.proof_bus_time.specs.History.{line_of, history, cleared, by_access, by_answer, charge_after, charge_by, sum}
use Rattle.proof_bus_time.specs.History.{time_by}
use Rattle.proof_bus_time.specs.Limit.{Within}
use Rattle.proof_bus_time.proofs.LimitLaws.{always-within, uncharged-within}

-- the answer that was given tells the record after the call: one that was turned down handed nothing out
told-by : (i : ℕ) (x : Sort) (m : Machine Answer Driver) (t : List ℕ) (b : Buf) (y : StepResult)
    → (settled i x m t b y).1 ≡ time_after i x (settled i x m t b y).0.0 m.st t
unfolding settled
told-by i x m t b y = by (turned_down i x y.0 m.st t)
  where
    outcome : Bool → StepResult × List ℕ
    outcome z = cond z ((ended (Refused 19), lent_to calls driver_of m b), t) (y, time_after i x y.0 m.st t)

    by : (z : Bool) → (outcome z).1 ≡ time_after i x (outcome z).0.0 m.st t
    by true = refl
    by false = refl

same : (b : Bool) (c : ℕ) → c ≡ cond b c c
same true c = refl
same false c = refl

place_lt : (dir : Dir) (e : ℕ) → place dir e < 32
place_lt Out e = omega arith
place_lt In e = omega arith

pub none-set : (n : ℕ) → bit_is_set 0 n ≡ false
unfolding bit_is_set
none-set n = rw (zero-div (2 ^ n)) refl

-- driver i's endpoint with this bit, while driver j calls
module _ (j i bit : ℕ) (li : i < 4) (lb : bit < 32) where
  abbrev at : ℕ
  at = i * 32 + bit

  apart_from : (j % 4 ≡ i → ⊥) → (at < j % 4 * 32) ⊎ (j % 4 * 32 + 32 ≤ at)
  apart_from n = by (j % 4) (omega arith) n
    where
      by : (k : ℕ) → k < 4 → (k ≡ i → ⊥) → (at < k * 32) ⊎ (k * 32 + 32 ≤ at)
      by k l n = ⊎_elim (λ (h : i < k). inl (omega arith)) (λ (h : k ≤ i). inr (above k n h)) (less i k)
        where
          less : (a b : ℕ) → (a < b) ⊎ (b ≤ a)
          less a zero = inr (omega arith)
          less zero (suc b) = inl (omega arith)
          less (suc a) (suc b) = ⊎_elim (λ (h : a < b). inl (omega arith)) (λ (h : b ≤ a). inr (omega arith)) (less a b)

          above : (k : ℕ) → (k ≡ i → ⊥) → k ≤ i → k * 32 + 32 ≤ at
          above k n h = ⊎_elim (λ (x : k < i). omega arith) (λ (x : i ≤ k). absurd (n (omega arith))) (less k i)

  -- what a word of ep_config leaves
  keeps : (w : ℕ) (t : List ℕ) → length t ≡ 128 → get_or (keep_of j w t) at 0
      ≡ cond (eqb (j % 4) i) (cond (bit_is_set w bit) (get_or t at 0) 0) (get_or t at 0)
  unfolding keep_of entry_kept
  keeps w t l = by (eqb (j % 4) i) refl
    where
      by : (b : Bool) → eqb (j % 4) i ≡ b → get_or (kept w (j % 4 * 32) 32 t) at 0
          ≡ cond b (cond (bit_is_set w bit) (get_or t at 0) 0) (get_or t at 0)
      by true h = rw (← eqb-true (j % 4) i h) (kept_in w (j % 4 * 32) 32 t bit (omega arith) lb)
      by false h = kept_out w (j % 4 * 32) 32 t at (apart_from (eqb-false (j % 4) i h))

  -- what an enabling charges
  charges : (dir : Dir) (e v : ℕ) (t : List ℕ) → length t ≡ 128 → get_or (set t (entry_of j dir e) v) at 0
      ≡ cond (eqb (j % 4) i) (cond (eqb (place dir e) bit) v (get_or t at 0)) (get_or t at 0)
  unfolding entry_of
  charges dir e v t l = by (eqb (j % 4) i) (eqb (place dir e) bit) refl refl
    where
      other : (j % 4 * 32 + place dir e ≡ at → ⊥) → get_or (set t (j % 4 * 32 + place dir e) v) at 0 ≡ get_or t at 0
      other n = get_or-set_other t (j % 4 * 32 + place dir e) at v 0 (λ h. n (sym h))

      by : (a b : Bool) → eqb (j % 4) i ≡ a → eqb (place dir e) bit ≡ b
          → get_or (set t (j % 4 * 32 + place dir e) v) at 0 ≡ cond a (cond b v (get_or t at 0)) (get_or t at 0)
      by true true h k = rw (← eqb-true (j % 4) i h, ← eqb-true (place dir e) bit k)
          (get_or-set_same t (j % 4 * 32 + place dir e) v 0 (omega (arith, place_lt dir e)))
      by true false h k = other (λ z. eqb-false (place dir e) bit k (omega (arith, eqb-true (j % 4) i h)))
      by false b h k = other
          (λ z. ⊎_elim (λ (x : at < j % 4 * 32). omega arith)
          (λ (x : j % 4 * 32 + 32 ≤ at). omega (arith, place_lt dir e)) (apart_from (eqb-false (j % 4) i h)))

  writes : (q : Access) (t : List ℕ) → length t ≡ 128 → get_or (written j q t) at 0
      ≡ cond (eqb (j % 4) i) (cleared bit q (get_or t at 0)) (get_or t at 0)
  writes (Write r e w) t l = by (same_reg r EpConfig)
    where
      by : (b : Bool) → get_or (cond b (keep_of j w t) t) at 0
          ≡ cond (eqb (j % 4) i) (cond b (cond (bit_is_set w bit) (get_or t at 0) 0) (get_or t at 0)) (get_or t at 0)
      by true = keeps w t l
      by false = same (eqb (j % 4) i) (get_or t at 0)
  writes (Read r e) t l = same (eqb (j % 4) i) (get_or t at 0)
  writes (Receive e x) t l = same (eqb (j % 4) i) (get_or t at 0)
  writes (Transmit e x) t l = same (eqb (j % 4) i) (get_or t at 0)
  writes (Ep0Dma x) t l = same (eqb (j % 4) i) (get_or t at 0)
  writes (Wait n) t l = same (eqb (j % 4) i) (get_or t at 0)
  writes Callback t l = same (eqb (j % 4) i) (get_or t at 0)

  by-access : (x : Sort) (q : Access) (d : Driver) (t : List ℕ) → length t ≡ 128
      → get_or (time_after j x (handed q) d t) at 0 ≡ cond (eqb (j % 4) i) (by_access bit x q d (get_or t at 0)) (get_or t at 0)
  by-access (enabling dir e) q d t l = charges dir e (charge_on d dir e) t l
  by-access starting q d t l = keeps 0 t l ∙ ap (λ (b : Bool). cond (eqb (j % 4) i) (cond b (get_or t at 0) 0)
      (get_or t at 0)) (none-set bit)
  by-access going q d t l = writes q t l
  by-access apart q d t l = same (eqb (j % 4) i) (get_or t at 0)

  by_answer_lem : (x : Sort) (a : Ans Answer) (d : Driver) (t : List ℕ) → length t ≡ 128
      → get_or (time_after j x a d t) at 0 ≡ cond (eqb (j % 4) i) (by_answer bit x a d (get_or t at 0)) (get_or t at 0)
  by_answer_lem x (ended a) d t l = same (eqb (j % 4) i) (get_or t at 0)
  by_answer_lem x (handed q) d t l = by-access x q d t l
  by_answer_lem x (told n) d t l = same (eqb (j % 4) i) (get_or t at 0)

-- one call
step-charge : (x : Turn) (f : Four) (i bit : ℕ) → i < 4 → bit < 32 → length f.time ≡ 128
    → get_or (next x f).time (i * 32 + bit) 0 ≡ charge_after i bit (line_of x f) (get_or f.time (i * 32 + bit) 0)
step-charge x f i bit li lb l =
    ap (λ (t : List ℕ). get_or t (i * 32 + bit) 0)
    (told-by x.who (sort_of x.event.call) (f.driver (x.who % 4))
    f.time x.event.lent (drive x.event.call (f.driver (x.who % 4)) x.event.lent))
    ∙ by_answer_lem x.who i bit li lb (sort_of x.event.call) (called x f).0.0 (f.driver (x.who % 4)).st f.time
    l

-- every list of calls: the charge of each endpoint
pub each-charge : (xs : List Turn) (f : Four) → Within f.time → (i bit : ℕ) → i < 4 → bit < 32
    → get_or (after xs f).time (i * 32 + bit) 0 ≡ charge_by i bit (history xs f) (get_or f.time (i * 32 + bit) 0)
each-charge [] f k i bit li lb = refl
each-charge (x ∷ xs) f k i bit li lb =
    each-charge xs (next x f) (always-within (x ∷ []) f k) i bit li lb
    ∙ ap (charge_by i bit (history xs (next x f))) (step-charge x f i bit li lb k.long)

-- ---- the time in use

pub sum-as : (f g : ℕ → ℕ) (n : ℕ) → ((k : ℕ) → k < n → f k ≡ g k) → sum f n ≡ sum g n
unfolding sum
sum-as f g zero h = refl
sum-as f g (suc n) h = omega (arith, h n (omega arith), sum-as f g n (λ k l. h k (omega arith)))

pub sum-from : (f : ℕ → ℕ) (a n : ℕ) → sum f (a + n) ≡ sum f a + sum (λ k. f (a + k)) n
unfolding sum
sum-from f a zero = let h = ap (sum f) (none a) in omega arith
  where
    none : (a : ℕ) → a + 0 ≡ a
    none a = omega arith
sum-from f a (suc n) = let h = ap (sum f) (more a n) in omega (arith, sum-from f a n)
  where
    more : (a n : ℕ) → a + suc n ≡ suc (a + n)
    more a n = omega arith

total-is : (t : List ℕ) (n : ℕ) → total t n ≡ sum (λ k. get_or t k 0) n
unfolding total sum
total-is t zero = refl
total-is t (suc n) = omega (arith, total-is t n)

total-from : (t : List ℕ) (a n : ℕ) → total t (a + n) ≡ total t a + sum (λ k. get_or t (a + k) 0) n
total-from t a n = omega (arith, total-is t (a + n), total-is t a, sum-from (λ k. get_or t k 0) a n)

four-of : (g : ℕ → ℕ) → sum g 4 ≡ g 0 + g 1 + g 2 + g 3
unfolding sum
four-of g = omega arith

pub by-drivers : (t : List ℕ) → is_in_use t ≡ sum (λ i. sum (λ bit. get_or t (i * 32 + bit) 0) 32) 4
unfolding is_in_use
by-drivers t =
    omega (
      arith,
      four-of (λ i. sum (λ bit. get_or t (i * 32 + bit) 0) 32),
      total-none t,
      total-from t 96 32,
      total-from t 64 32,
      total-from t 32 32,
      total-from t 0 32,
    )

-- an uncharged record
pub zeros : (n k : ℕ) → ◌≡◌ {A = ℕ} (get_or (replicate n 0) k 0) 0
zeros zero k = refl
zeros (suc n) zero = refl
zeros (suc n) (suc k) = zeros n k

-- "worked out from the history of enables, disables, resets and start-ups": every list of calls, from an uncharged
-- record and whatever the drivers were
pub in-use-is : (xs : List Turn) (f : Four) → f.time ≡ uncharged → is_in_use (after xs f).time ≡ time_by (history xs f)
in-use-is xs f h =
    by-drivers (after xs f).time
    ∙ sum-as _ _ 4
    (λ i li. sum-as _ _ 32 (λ bit lb. each-charge xs f (rw h uncharged-within) i bit li lb
    ∙ ap (charge_by i bit (history xs f)) (ap (λ (t : List ℕ). get_or t (i * 32 + bit) 0) h ∙ zeros 128 (i * 32 + bit))))
