-- Some answers. Assumes nothing.
use Rattle.std.specs.Prelude.{◌≡◌, refl, Ok, Err}
use Rattle.visits.specs.declared.Refusal.TheVariants.{Distances}
use Rattle.visits.specs.Limits.{no_distance, no_limits, row23}
use Rattle.visits.specs.Bounds.{least_of, rounded_up, greatest_of, bounds_of}

pub table :
    (bounds_of 8 120 8 9 ≡ Ok (record {
      least = record { arrivals = 0; first = 9; distance = 9 };
      greatest = record { arrivals = 15; first = 1; distance = 8 };
    }))
    × (bounds_of 9 121 8 9 ≡ Ok (record {
      least = record { arrivals = 1; first = 9; distance = 9 };
      greatest = record { arrivals = 16; first = 1; distance = 8 };
    }))
    × (bounds_of 1 16383 1 16383 ≡ Ok (record {
      least = record { arrivals = 0; first = 16383; distance = 16383 };
      greatest = record { arrivals = 16383; first = 1; distance = 1 };
    }))
    × (bounds_of 0 8 8 8 ≡ Err Distances)
    × (bounds_of 8 16384 8 8 ≡ Err Distances)
    × (bounds_of 9 8 8 8 ≡ Err Distances)
    × (bounds_of 8 8 9 8 ≡ Err Distances)
unfolding bounds_of least_of greatest_of rounded_up row23 no_limits no_distance
table = (refl, refl, refl, refl, refl, refl, refl)
