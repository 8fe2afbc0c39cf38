-- Wake-ups of two runs: one of both, and one of OUT x's in one of them
use Rattle.std.specs.Prelude.{Bool, true, false, cond, List, [], ◌∷◌, ◌++◌, ◌≡◌, refl, ℕ, ◌<◌, eqb, length}
use Rattle.std.proofs.Common.{append-nil, ap, sym, ◌∙◌, arith, eq-eqb}
use Rattle.std.proofs.Math.Decide.{dec_lt}
use Rattle.regs.specs.declared.Dir.TheVariants.{Out}
use Rattle.state.specs.Wakes.{Wakes, wake_code, unwoken, listed, woken, all_woken}
use Rattle.state.specs.WakesLaws.{Room, unwoken-room, unwoken-listed, woken-full, woken-keeps, woken-listed}
use Rattle.state.specs.WakesLaws.{listed-count}
use Rattle.proof_isolation.specs.EqualExcept.{without, others, OtherWakes}

without-append : (o : ℕ) (l m : List ℕ) → without o (l ++ m) ≡ without o l ++ without o m
without-append o [] m = refl
without-append o (a ∷ l) m = by (eqb a o) (without-append o l m)
  where
    by : (u : Bool) → without o (l ++ m) ≡ without o l ++ without o m
        → cond u (without o (l ++ m)) (a ∷ without o (l ++ m)) ≡ cond u (without o l) (a ∷ without o l) ++ without o m
    by true h = h
    by false h = ap (λ k. a ∷ k) h

without-it : (o : ℕ) → without o (o ∷ []) ≡ []
without-it o = ap (λ u. cond u [] (o ∷ [])) (eq-eqb o o refl)

-- x's own is left out
own_out : (x : ℕ) → others x (wake_code Out x ∷ []) ≡ []
own_out x = without-it (wake_code Out x)

module _ (a : ℕ) (w : Wakes) (r : Room w) where
  pub room-woken : Room (woken a w)
  room-woken = elim (dec_lt w.count 64) [
    | yes p ↦ woken-keeps a w r p
    | no p ↦ rw (woken-full a w (omega arith)) r
  ]

  -- where there is room after it there was before
  room-before : length (listed (woken a w)) < 64 → w.count < 64
  room-before h = elim (dec_lt w.count 64) [
    | yes p ↦ p
    | no p ↦ absurd (omega (
      arith,
      h,
      listed-count (woken a w) room-woken,
      ap (λ (v : Wakes). v.count)
          (woken-full a w (omega arith)),
    ))
  ]

  list-before : length (listed (woken a w)) < 64 → length (listed w) < 64
  list-before h = omega (arith, room-before h, listed-count w r)

  others-woken : (x : ℕ) → length (listed (woken a w)) < 64 → others x (listed (woken a w)) ≡ others x (listed w)
      ++ others x (a ∷ [])
  others-woken x h = ap (λ l. others x l) (woken-listed a w r (room-before h)) ∙ without-append _ (listed w) (a ∷ [])

module _ {x : ℕ} where
  -- none in either
  pub none-same : {w w' : Wakes} → OtherWakes x w w' → OtherWakes x (unwoken w) (unwoken w')
  none-same {w} {w'} h = record {
    room = unwoken-room w h.room.long;
    room' = unwoken-room w' h.room'.long;
    same = λ p q. ap (λ l. others x l) (unwoken-listed w ∙ sym (unwoken-listed w'));
  }

  woken-same : {w w' : Wakes} (a : ℕ) → OtherWakes x w w' → OtherWakes x (woken a w) (woken a w')
  woken-same {w} {w'} a h = record {
    room = room-woken a w h.room;
    room' = room-woken a w' h.room';
    same = λ p q.
        others-woken a w h.room x p
        ∙ ap (λ l. l ++ others x (a ∷ [])) (h.same (list-before a w h.room p) (list-before a w' h.room' q))
        ∙ sym (others-woken a w' h.room' x q);
  }

  pub all_same : {w w' : Wakes} (l : List ℕ) → OtherWakes x w w' → OtherWakes x (all_woken l w) (all_woken l w')
  all_same [] h = h
  all_same {w = w} {w' = w'} (a ∷ l) h = all_same {w = woken a w} {w' = woken a w'} l (woken-same a h)

  -- one of x's in the first run
  pub own-woken : {w w' : Wakes} → OtherWakes x w w' → OtherWakes x (woken (wake_code Out x) w) w'
  own-woken {w} {w'} h = record {
    room = room-woken (wake_code Out x) w h.room;
    room' = h.room';
    same = λ p q.
        others-woken (wake_code Out x) w h.room x p
        ∙ ap (λ l. others x (listed w) ++ l) (own_out x)
        ∙ append-nil (others x (listed w))
        ∙ h.same (list-before (wake_code Out x) w h.room p) q;
  }
