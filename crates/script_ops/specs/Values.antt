-- Document 01's values that are marked P, in one table
use Rattle.std.specs.Prelude.{◌≡◌, refl, [], ◌∷◌, ◌++◌}
use Rattle.frame.specs.Usb20.{frame_number, microframe, index_of, frame_of}
use Rattle.frame.specs.Advance.{is_none, distance, completions}
use Rattle.ring.specs.Marks.{mark, marked_len}
use Rattle.ring.specs.Copies.{copied}
use Rattle.ring.specs.MarksTable as marks
use Rattle.ring.specs.Slot.{slot_of, count_of}
use Rattle.ring.specs.Out.{overrun_of}
use Rattle.ring.specs.Table.{sample}
use Rattle.ring.specs.Table as rings

-- indexes and frames; paced advances from 16,383 to 1, 5 to 5, 5 to 4; the length by marks of a slot with maximum 8; a
-- ring's count, slot and overruns
pub table :
    ((index_of 0x0000 ≡ 0)
    × (index_of 0xE7FF ≡ 16383)
    × (index_of 0x1800 ≡ 0)
    × (frame_of 9 ≡ 0x2001)
    × (frame_of 16383 ≡ 0xE7FF)
    × (frame_of 16384 ≡ 0)
    × (completions (frame_of 16383) 1 ≡ 2)
    × (completions (frame_of 5) 5 ≡ 0)
    × (completions (frame_of 5) 4 ≡ 3))
    × ((marked_len (1 ∷ 2 ∷ 3 ∷ 4 ∷ 0xC3 ∷ 0xA5 ∷ 0x3C ∷ 0x5A ∷ []) 0 8 ≡ 4)
    × (marked_len (copied (mark ++ mark) 0 (1 ∷ 2 ∷ 3 ∷ 4 ∷ 0xC3 ∷ 0xA5 ∷ [])) 0 8 ≡ 4)
    × (marked_len (1 ∷ 2 ∷ 3 ∷ 4 ∷ 5 ∷ 0xA5 ∷ 0x3C ∷ 0x5A ∷ []) 0 8 ≡ 5))
    × ((count_of (sample 3 250 0) ≡ 9)
    × (slot_of (sample 3 250 0) 250 ≡ 10)
    × ((overrun_of (sample 3 250 4294967295)).overruns ≡ 0))
unfolding index_of frame_of frame_number microframe is_none distance completions
table = ((refl, refl, refl, refl, refl, refl, refl, refl, refl), marks.table, rings.table)
