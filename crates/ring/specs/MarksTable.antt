-- Document 01's values of marks: maximum 8, a slot of 8 bytes.
use Rattle.std.specs.Prelude.{◌≡◌, [], ◌∷◌, ◌++◌, refl}
use Rattle.ring.specs.Marks.{mark, found, marked_len}
use Rattle.ring.specs.Copies.{copied}

-- a packet of six bytes that ends C3 A5, in a slot of marks, cannot be told from one of four
pub table :
    (marked_len (1 ∷ 2 ∷ 3 ∷ 4 ∷ 0xC3 ∷ 0xA5 ∷ 0x3C ∷ 0x5A ∷ []) 0 8 ≡ 4)
    × (marked_len (copied (mark ++ mark) 0 (1 ∷ 2 ∷ 3 ∷ 4 ∷ 0xC3 ∷ 0xA5 ∷ [])) 0 8 ≡ 4)
    × (marked_len (1 ∷ 2 ∷ 3 ∷ 4 ∷ 5 ∷ 0xA5 ∷ 0x3C ∷ 0x5A ∷ []) 0 8 ≡ 5)
unfolding found marked_len copied
table = (refl, refl, refl)
