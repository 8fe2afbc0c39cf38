-- What request Ten promises of its answer, from the definitions. Assumes nothing.
use Rattle.std.specs.Prelude.{◌≡◌, refl, true, false, ◌⊎◌, List, ℕ, ◌^◌, ◌≤◌, ◌<◌, min, eqb, length, get_or, Ok, Err}
use Rattle.std.proofs.Common.{sym, ◌∙◌, true≢false, inl, inr, arith, eq-eqb, ne_eqb, lt-ltb, le-ltb, le-leb}
use Rattle.std.proofs.Math.Bool.{or-true}
use Rattle.std.proofs.Math.Decide.{dec_lt}
use Rattle.std.proofs.Math.Pow.{pow_pos}
use Rattle.std.proofs.lemmas.Bool.{lt-leb}
use Rattle.channels.specs.declared.Channel.{Channel}
use Rattle.channels.specs.declared.Choice.{Choice}
use Rattle.channels.specs.declared.Refusal.TheVariants.{Channels}
use Rattle.channels.specs.Channels.{none, maximum, charge, flag, with_flag}
use Rattle.channels.specs.Sets.{total, sum, room, fits, looked, figure, choice_of}
use Rattle.channels.specs.Answers.{is_refused, choice_in, answer_of, list_after}
use Rattle.channels.specs.ChannelsLaws.{length-flagged, flagged-each}
use Rattle.channels.specs.SetsLaws.{total-most}
use Rattle.channels.specs.BestLaws.{IsBest, best_total, best_is}

-- ---- the choice

-- of n channels, whose sets are those below 2 ^ n
pub record Promised (m c : ℕ → ℕ) (n is_in_use budget : ℕ) (r : Choice) : Type 0 where
  pub looked : r.looked ≡ min budget (2 ^ n)
  pub best : IsBest m c n (room is_in_use) r.looked r.set
  pub worth : r.total ≡ total m r.set n
  -- no fitting set exceeds the figure
  pub bound : (v : ℕ) → v < 2 ^ n → fits c n (room is_in_use) v ≡ true → total m v n ≤ r.figure
  -- if all sets were looked at, the chosen one reaches it; else it is the total of all maxima
  pub reached : 2 ^ n ≤ budget → r.figure ≡ r.total
  pub all : budget < 2 ^ n → r.figure ≡ sum m n

module _ (m c : ℕ → ℕ) (n is_in_use budget : ℕ) (some : 0 < budget) where
  pub promised : Promised m c n is_in_use budget (choice_of m c n is_in_use budget)
  unfolding choice_of figure
  promised =
      let left = room is_in_use in
      let k = looked n budget in
      let b = best_is m c n left k (omega (arith, pow_pos n)) in
      let t = best_total m c n left k in
      record {
        looked = refl;
        best = b;
        worth = t;
        bound = λ v l f. elim (dec_lt budget (2 ^ n)) [
          | yes g ↦ rw (lt-leb (2 ^ n) budget g) (total-most m v n)
          | no g ↦ rw (le-leb (2 ^ n) budget (omega arith)) (omega (arith, b.most v (omega arith) f, t))
        ];
        reached = λ h. rw (le-leb (2 ^ n) budget h);
        all = λ h. rw (lt-leb (2 ^ n) budget h);
      }

-- ---- row 20, before any look: no flag is written

pub refuses : (n budget : ℕ) → (budget ≡ 0) ⊎ (16 < n) → is_refused n budget ≡ true
unfolding is_refused
refuses n budget (inl h) = rw (eq-eqb budget 0 h)
refuses n budget (inr h) = rw (lt-ltb 16 n h, or-true (eqb budget 0))

pub accepts : (n budget : ℕ) → 0 < budget → n ≤ 16 → is_refused n budget ≡ false
unfolding is_refused
accepts n budget h l = rw (ne_eqb budget 0 (λ e. omega arith), le-ltb 16 n l)

-- where row 20 is passed there are at most 16
pub few_of : (n budget : ℕ) → is_refused n budget ≡ false → n ≤ 16
few_of n budget h = elim (dec_lt 16 n) [
  | yes l ↦ absurd (true≢false (sym (refuses n budget (inr l)) ∙ h))
  | no l ↦ omega arith
]

module _ (cs : List Channel) (is_in_use budget : ℕ) where
  pub refused : is_refused (length cs) budget ≡ true → (answer_of cs is_in_use budget ≡ Err Channels)
      × (list_after cs is_in_use budget ≡ cs)
  unfolding answer_of list_after
  refused h = (rw h, rw h)

  -- ---- what is accepted

  pub record Accepted : Type 0 where
    pub answer : answer_of cs is_in_use budget ≡ Ok (choice_in cs is_in_use budget)
    pub promise : Promised (maximum cs) (charge cs) (length cs) is_in_use budget (choice_in cs is_in_use budget)
    -- as many channels, each with its maximum and charge as before and a flag that says whether it is in the chosen set
    pub many : length (list_after cs is_in_use budget) ≡ length cs
    pub each : (i : ℕ) → i < length cs
        → get_or (list_after cs is_in_use budget) i none ≡ with_flag (flag (choice_in cs is_in_use budget).set i) (get_or cs i none)

  pub accepted : 0 < budget → length cs ≤ 16 → Accepted
  unfolding answer_of list_after
  accepted h l =
      let a = accepts (length cs) budget h l in
      let w = (choice_in cs is_in_use budget).set in
      record {
        answer = rw a;
        promise = promised (maximum cs) (charge cs) (length cs) is_in_use budget h;
        many = rw a (length-flagged cs w (length cs));
        each = λ i g. rw a (flagged-each cs w (length cs) (omega arith) i g);
      }
