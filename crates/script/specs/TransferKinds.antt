-- The endpoints' sorts: which are isochronous. They come with the allocation, and no call that passes during an
-- interrupt changes them
use Rattle.std.specs.Prelude.{Bool, true, false, ◌||◌, [], ◌∷◌, ◌≡◌, ℕ, ◌<◌}
use Rattle.bits.specs.Bit.{bit_is_set}
use Rattle.regs.specs.declared.Dir.{Dir}
use Rattle.regs.specs.declared.Dir.TheVariants.{Out, In}
use Rattle.script.specs.Tree as tree
use Rattle.script.specs.Tree.{ends, asks}
use Rattle.script.specs.Cells.{Cell, Val, globals-cell, control-cell, allocator-cell, ep-cell, request-cell}
use Rattle.script.specs.Cells.{paced_cell}
use Rattle.script.specs.Script.{Ops, Act}
use Rattle.script.specs.Script.{allocate, allocate0, DmaStep}
use Rattle.script.specs.Acts.{same_act}
use Rattle.script.specs.Statics.{is_on}
use Rattle.script.specs.Readings.{Continues}

-- is it isochronous?
abbrev pub TransferKinds : Type 0
TransferKinds = Dir → ℕ → Bool

-- every endpoint of a mask is
abbrev pub Among : (ℕ → Bool) → ℕ → Type 0
Among f m = (e : ℕ) → e < 16 → bit_is_set m e ≡ true → f e ≡ true

-- what a cell says of the sorts: a record's flag is the endpoint's sort, the two sets have isochronous endpoints only
abbrev pub Shows : TransferKinds → (c : Cell) → Val c → Type 0
Shows iso globals-cell g = Among (iso Out) g.iso_out_eps × Among (iso In) g.iso_in_every
Shows iso control-cell c = Unit {0}
Shows iso allocator-cell a = Unit {0}
Shows iso (ep-cell d e) p = is_on p.iso ≡ iso d e
Shows iso (request-cell d e) r = Unit {0}
Shows iso (paced_cell e) n = Unit {0}

abbrev pub allocates : Act → Bool
allocates q = same_act q (allocate Out 0 0 0 0) || same_act q (allocate0 0)

-- the states K have the sorts `iso`, EP0 is not isochronous, and no operation but an allocation leaves K
pub record Sorted {S : Type 0} (O : Ops S) (iso : TransferKinds) (K : S → Type 0) : Type 0 where
  pub ep0 : (d : Dir) → iso d 0 ≡ false
  pub shows : (c : Cell) (s : S) → K s → Shows iso c (O.get c s)
  pub put : (c : Cell) (v : Val c) (s : S) → K s → K (O.put c v s)
  pub act : (q : Act) → allocates q ≡ false → (s : S) → K s → K (O.act q s)
  pub hand : (q : DmaStep) (s : S) → K s → K (O.hand q s).1

-- a path on which R holds of the state at each access and the state as it is in the next call
unfoldable pub Along : {S A : Type 0} → (S → S → Type 0) → tree.Out S A → Continues S → Type 0
Along R (ends a s) w = Unit {0}
Along R (asks q s k) [] = Unit {0}
Along R (asks q s k) (c ∷ w) = R s c.1 × Along R (k c.0 c.1) w
