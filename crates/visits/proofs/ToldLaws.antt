-- Laws on the definitions of Told.antt
use Rattle.std.specs.Prelude.{◌≡◌, Bool, true, false, cond, ℕ, Ok, Err}
use Rattle.std.proofs.Math.Path.{refl}
use Rattle.std.proofs.Common.{arith}
use Rattle.visits.specs.declared.Bounds.{Bounds}
use Rattle.visits.specs.declared.Refusal.TheVariants.{Distances}
use Rattle.visits.specs.Limits.{row23, Limits}
use Rattle.visits.specs.LimitsLaws.{accepted}
use Rattle.visits.specs.Bounds.{least_of, greatest_of, bounds_of}
use Rattle.visits.specs.BoundsLaws.{no_fewer, no-more-than}
use Rattle.visits.specs.ReachesLaws.{least_reached, greatest_reached}
use Rattle.visits.specs.Fifteen.{fifteen}
use Rattle.visits.specs.Told.{Told}

within : {a b c d : ℕ} → Limits a b c d → Told a b c d (least_of a d) (greatest_of b c)
within l = record {
  limits = l;
  no_fewer = λ visit arrival p j. no_fewer l p j;
  no_more = λ visit arrival p j. no-more-than l p j;
  least_reached = least_reached l;
  greatest_reached = greatest_reached l;
  fifteen = λ g. fifteen l g;
}

module _ {a b c d : ℕ} {r : Bounds} where
  by : (t : Bool) → row23 a b c d ≡ t
      → cond t (Err Distances) (Ok (record { least = least_of a d; greatest = greatest_of b c })) ≡ Ok r
      → Told a b c d r.least r.greatest
  by true h e = absurd (let z : ◌≡◌ {A = ℕ} 0 1 = cc in omega arith)
  by false h e =
      let l : least_of a d ≡ r.least = cc in
      let g : greatest_of b c ≡ r.greatest = cc in
      rw (← l, ← g) (within ((accepted a b c d).0 h))

  pub told : bounds_of a b c d ≡ Ok r → Told a b c d r.least r.greatest
  unfolding bounds_of
  told e = by (row23 a b c d) refl e
