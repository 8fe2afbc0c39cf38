-- The stamps of an OUT ring (request One): of its slots, tail to head, those of the packets that wait. `ss` has one for
-- each slot. Assumes nothing.
use mathlib.Core.List.{List, [], ◌∷◌, tail}
use Rattle.std.specs.Prelude.{ℕ, zero, suc, get_or}
use Rattle.state.specs.declared.EpState.{EpState}
use Rattle.ring.specs.Slot.{after, slot_of, count_of}

-- `n` stamps from counter `i` on
unfoldable pub stamps_from : EpState → List ℕ → ℕ → ℕ → List ℕ
stamps_from s ss i zero = []
stamps_from s ss i (suc n) = get_or ss (slot_of s i) 0 ∷ stamps_from s ss (after i 1) n

unfoldable pub stamped : EpState → List ℕ → List ℕ
stamped s ss = stamps_from s ss s.tail (count_of s)
