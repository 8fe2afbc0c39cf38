-- Laws on lists of wake-ups: one more in a list with room or full, and how often a task's code is in it
use Rattle.std.specs.Prelude.{Bool, true, false, cond, List, [], ◌∷◌, ◌++◌, ◌⊎◌, ◌≡◌, refl, ℕ, ◌+◌, ◌≤◌, ◌<◌, eqb}
use Rattle.std.proofs.Common.{inl, inr, ap, subst, sym, ◌∙◌, arith}
use Rattle.std.proofs.Math.Decide.{dec_lt}
use Rattle.state.specs.Wakes.{Wakes, listed, woken, all_woken}
use Rattle.state.specs.WakesLaws.{Room, woken-keeps, woken-full, woken-count, woken-listed}
use Rattle.proof_usb20.specs.WalksLaws.{Each}
use Rattle.proof_usb20.specs.Sequence.{how_often}

-- one more, in a list with room or full
pub woken-room : (c : ℕ) (w : Wakes) → Room w → Room (woken c w)
woken-room c w r = by (dec_lt w.count 64)
  where
    by : Dec (w.count < 64) → Room (woken c w)
    by (yes h) = woken-keeps c w r h
    by (no h) = subst Room (sym (woken-full c w (omega (arith, h)))) r

pub woken-grows : (c : ℕ) (w : Wakes) → w.count ≤ (woken c w).count
woken-grows c w = by (dec_lt w.count 64)
  where
    by : Dec (w.count < 64) → w.count ≤ (woken c w).count
    by (yes h) = omega (arith, woken-count c w h)
    by (no h) = omega (arith, ap (λ (v : Wakes). v.count) (woken-full c w (omega (arith, h))))

module _ (code : ℕ) where
  -- codes of others
  abbrev pub Others : List ℕ → Type 0
  Others codes = Each (λ c. eqb c code ≡ false) codes

  often-last : (l : List ℕ) (c : ℕ)
      → how_often code (l ++ (c ∷ [])) ≡ how_often code l + cond (eqb c code) 1 0
  often-last [] c = omega arith
  often-last (x ∷ l) c = omega (arith, often-last l c)

  woken-other : (c : ℕ) (w : Wakes) → Room w → eqb c code ≡ false
      → how_often code (listed (woken c w)) ≡ how_often code (listed w)
  woken-other c w r h = by (dec_lt w.count 64)
    where
      by : Dec (w.count < 64) → how_often code (listed (woken c w)) ≡ how_often code (listed w)
      by (yes l) = ap (how_often code) (woken-listed c w r l)
          ∙ (often-last (listed w) c ∙ (ap (λ (b : Bool). how_often code (listed w) + cond b 1 0) h ∙ omega arith))
      by (no l) = ap (λ (v : Wakes). how_often code (listed v)) (woken-full c w (omega (arith, l)))

  -- its own code, once more; or the list is full
  pub woken-own : (c : ℕ) (w : Wakes) → Room w → eqb c code ≡ true
      → (64 ≤ (woken c w).count) ⊎ (how_often code (listed (woken c w)) ≡ how_often code (listed w) + 1)
  woken-own c w r h = by (dec_lt w.count 64)
    where
      by : Dec (w.count < 64)
          → (64 ≤ (woken c w).count) ⊎ (how_often code (listed (woken c w)) ≡ how_often code (listed w) + 1)
      by (yes l) = inr
          (ap (how_often code) (woken-listed c w r l)
          ∙ (often-last (listed w) c ∙ ap (λ (b : Bool). how_often code (listed w) + cond b 1 0) h))
      by (no l) = inl (omega (arith, l, ap (λ (v : Wakes). v.count) (woken-full c w (omega (arith, l)))))

  pub all_others : (cs : List ℕ) (w : Wakes) → Room w → Others cs
      → Room (all_woken cs w) × (how_often code (listed (all_woken cs w)) ≡ how_often code (listed w))
      × (w.count ≤ (all_woken cs w).count)
  all_others [] w r o = (r, refl, omega arith)
  all_others (c ∷ cs) w r o =
      let n = all_others cs (woken c w) (woken-room c w r) o.1 in
      (n.0, n.1 ∙ woken-other c w r o.0, omega (arith, n.2, woken-grows c w))
