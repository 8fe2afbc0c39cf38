-- Laws on the definitions of Stored.antt
use Rattle.std.specs.Prelude.{◌≡◌, ℕ, ◌+◌, ◌≤◌, List, length, drop}
use Rattle.std.proofs.Common.{sym, ◌∙◌, arith}
use Rattle.ring.specs.Marks.{reach, armed, marked_len}
use Rattle.ring.specs.Copies.{over, bytes_at, copied}
use Rattle.ring.specs.Finds.{LastDiffers, MarkedAfter}
use Rattle.ring.proofs.MarksSlots.{over-low, over-high, only-armed, only-copied, copied-part, copied-bytes, armed-empties, len_is, len-same, bytes_same}
use Rattle.ring.specs.Stored.{StoredAlone}

module _ (b : List ℕ) (at maximum : ℕ) (packet : List ℕ) (fits : at + reach maximum ≤ length b) (small : length packet ≤ maximum) where
  stored-part : drop at (copied (armed b at maximum) at packet) ≡ over packet (drop at (armed b at maximum))
  stored-part = copied-part (armed b at maximum) at packet (omega (arith, (only-armed b at maximum).long))

  stored_last : LastDiffers (length packet) packet → LastDiffers (length packet) (over packet (drop at (armed b at maximum)))
  stored_last t k e m = t k e (sym (over-low packet (drop at (armed b at maximum)) k (omega arith)) ∙ m)

  stored-after : MarkedAfter (length packet) maximum (over packet (drop at (armed b at maximum)))
  stored-after k l h = over-high packet (drop at (armed b at maximum)) k l ∙ armed-empties b at maximum fits k (omega arith)

  stored-len : LastDiffers (length packet) packet → marked_len (copied (armed b at maximum) at packet) at maximum ≡ length packet
  stored-len t =
      len_is (copied (armed b at maximum) at packet) at (length packet) maximum
      (omega (arith, (only-copied (armed b at maximum) at packet).long, (only-armed b at maximum).long)) small
      (rw stored-part (stored_last t)) (rw stored-part stored-after)

  same_length : (c : List ℕ) → StoredAlone b at maximum packet c → length c ≡ length (copied (armed b at maximum) at packet)
  same_length c s = s.long ∙ sym (only-armed b at maximum).long ∙ sym (only-copied (armed b at maximum) at packet).long

  -- Request Eight: a packet within the maximum, stored alone since its slot was armed, whose last byte differs from the mark's byte at its
  -- place, has the length by the marks; so has one of length 0.
  pub true_length : (c : List ℕ) → StoredAlone b at maximum packet c → LastDiffers (length packet) packet → marked_len c at maximum ≡ length packet
  true_length c s t = len-same (copied (armed b at maximum) at packet) c at (same_length c s) maximum s.slot ∙ stored-len t

  -- and the bytes of that length are the packet
  pub true-bytes : (c : List ℕ) → StoredAlone b at maximum packet c → bytes_at c at (length packet) ≡ packet
  true-bytes c s =
      bytes_same (copied (armed b at maximum) at packet) c at (same_length c s) (length packet)
      (λ k l h. s.slot k l (omega arith))
      ∙ copied-bytes (armed b at maximum) at packet (omega (arith, (only-armed b at maximum).long))
