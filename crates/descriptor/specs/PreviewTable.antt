-- Three endpoints tried: isochronous IN, bulk IN, interrupt OUT, of buffers of 512 bytes.
use Rattle.std.specs.Prelude.{◌≡◌, refl, List, [], ◌∷◌, ℕ, take}
use Rattle.bits.specs.Bit.{bit_is_set, with_bit}
use Rattle.alloc.specs.Alloc.{fresh, taken_ins, nums_of, add_to, is_out, taken, with_allocated, with_next, is_iso, is_free}
use Rattle.alloc.specs.Alloc.{asked_of, number_of, slots_of, buffered_of, numbered_of, allocate_of}
use Rattle.descriptor.specs.declared.Endpoint.{Endpoint}
use Rattle.descriptor.specs.declared.preview.Trial.{Trial}
use Rattle.descriptor.specs.Trial.{asked, given, answered, step, tried, trial_of}

abbrev three : ℕ → List Endpoint
three maximum =
    record { address = 0x81; kind = 1; maximum = 512; interval = 4 }
    ∷ record { address = 0x82; kind = 2; maximum = maximum; interval = 0 }
    ∷ record { address = 0x03; kind = 3; maximum = 8; interval = 1 }
    ∷ []

abbrev says : Trial → List ℕ × ℕ × ℕ
says t = (take t.count t.numbers, t.buffers, t.refusal)

-- all given; a buffer too few; a maximum above the buffer size, though the third would fit; number 0
pub table :
    (says (trial_of (fresh 512 4) (three 64)) ≡ (1 ∷ 2 ∷ 3 ∷ [], 4, 0))
    × (says (trial_of (fresh 512 3) (three 64)) ≡ (1 ∷ 2 ∷ [], 3, 8))
    × (says (trial_of (fresh 512 4) (three 513)) ≡ (1 ∷ [], 2, 6))
    × (says (trial_of (fresh 512 4) (record { address = 0x80; kind = 2; maximum = 64; interval = 0 } ∷ three 64))
    ≡ ([], 0, 7))
unfolding bit_is_set with_bit fresh taken_ins nums_of add_to is_out taken with_allocated
    with_next is_iso is_free asked_of number_of slots_of buffered_of numbered_of allocate_of asked given answered step tried
table = (refl, refl, refl, refl)
