-- What marking changes of the lent list. Assumes nothing.
use Rattle.std.specs.Prelude.{◌≡◌, refl, List, ℕ, zero, suc, ◌+◌, ◌≤◌, ◌<◌, length, get_or, set}
use Rattle.std.proofs.Common.{ap, ◌∙◌, add-one, arith, length-set, get_or-set_same, get_or-set_other}
use Rattle.std.proofs.Math.Decide.{dec_lt}
use Rattle.channels.specs.declared.Channel.{Channel}
use Rattle.channels.specs.Channels.{none, flag, with_flag, flagged}

-- ---- marking

pub flagged-none : (cs : List Channel) (w : ℕ) → flagged cs w 0 ≡ cs
unfolding flagged
flagged-none cs w = refl

pub flagged-more : (cs : List Channel) (w i : ℕ)
    → flagged cs w (i + 1) ≡ set (flagged cs w i) i (with_flag (flag w i) (get_or (flagged cs w i) i none))
unfolding flagged
flagged-more cs w i = rw add-one

pub length-flagged : (cs : List Channel) (w n : ℕ) → length (flagged cs w n) ≡ length cs
unfolding flagged
length-flagged cs w zero = refl
length-flagged cs w (suc i) = length-set (flagged cs w i) i _ ∙ length-flagged cs w i

-- those behind the first n stay
pub flagged-behind : (cs : List Channel) (w n i : ℕ) → n ≤ i → get_or (flagged cs w n) i none ≡ get_or cs i none
unfolding flagged
flagged-behind cs w zero i h = refl
flagged-behind cs w (suc n) i h =
    get_or-set_other (flagged cs w n) n i _ none (λ e. omega arith) ∙ flagged-behind cs w n i (omega arith)

-- of the first n each has its flag, and its maximum and charge as before
pub flagged-each : (cs : List Channel) (w n : ℕ) → n ≤ length cs → (i : ℕ) → i < n
    → get_or (flagged cs w n) i none ≡ with_flag (flag w i) (get_or cs i none)
unfolding flagged
flagged-each cs w zero h i l = absurd (omega arith)
flagged-each cs w (suc n) h i l = elim (dec_lt i n) [
  | yes g ↦ get_or-set_other (flagged cs w n) n i _ none (λ e. omega arith) ∙ flagged-each cs w n (omega arith) i g
  | no g ↦ (let e : i ≡ n = omega arith in
      rw e (get_or-set_same (flagged cs w n) n _ none (omega (arith, length-flagged cs w n))
      ∙ ap (with_flag (flag w n)) (flagged-behind cs w n n (omega arith))))
]
