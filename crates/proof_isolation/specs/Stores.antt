-- The slot buffer that a call is lent: the one that the last call left, but for the chip's stores
use Rattle.std.specs.Prelude.{true, List, [], ◌∷◌, ◌⊎◌, ◌≡◌, ℕ, ◌+◌, ◌%◌, ◌≤◌, ◌<◌, length, get_or, set}
use Rattle.bits.specs.Bit.{bit_is_set}
use Rattle.regs.specs.declared.Dir.TheVariants.{Out}
use Rattle.state.specs.Driver.{Driver, ep_on}
use Rattle.alloc.specs.Alloc.{allocated_ins}
use Rattle.script.specs.Machine.{Buf}
use Rattle.script_ops.specs.Rings.{St}
use Rattle.proof_book.specs.Coupling.{end_of}
use Rattle.proof_isolation.specs.EqualExcept.{Channel}

-- demand 3's premise, by the driver: byte k lies outside of the armed slot of every OUT endpoint of this run, and
-- outside of EP0's buffer
pub record Away (d : Driver) (k : ℕ) : Type 0 where
  pub outs : (e : ℕ) → bit_is_set (allocated_ins d.allocator Out) (e % 16) ≡ true
      → (k < (ep_on d Out e).armed_slot) ⊎ ((ep_on d Out e).armed_slot + d.allocator.size ≤ k)
  pub ep0 : (k < d.globals.ep0_buf) ⊎ (d.globals.ep0_buf + d.allocator.size ≤ k)

-- all such bytes stay
pub record Stored (d : Driver) (b b' : Buf) : Type 0 where
  pub long : length b' ≡ length b
  pub others : (k : ℕ) → Away d k → get_or b' k 0 ≡ get_or b k 0

-- byte k lies outside of the channel's slots
abbrev pub Outside : Channel → Driver → ℕ → Type 0
Outside c d k = (k < (ep_on d Out c.number).base) ⊎ (end_of (ep_on d Out c.number) ≤ k)

-- the two runs are lent the same but for "the bytes stored in the slots of one isochronous OUT endpoint": a byte
-- elsewhere that was the same is
pub record StoredAlike (c : Channel) (s t : St) (b b' : Buf) : Type 0 where
  pub left : Stored s.0 s.1 b
  pub right : Stored t.0 t.1 b'
  pub same : (k : ℕ) → Outside c s.0 k → get_or t.1 k 0 ≡ get_or s.1 k 0 → get_or b' k 0 ≡ get_or b k 0

-- one of them alone: nothing but the channel's slots is stored in
pub record OwnLent (c : Channel) (s : St) (b : Buf) : Type 0 where
  pub stored : Stored s.0 s.1 b
  pub own : (k : ℕ) → Outside c s.0 k → get_or b k 0 ≡ get_or s.1 k 0

-- ---- bytes that the chip stores, each at its place

abbrev pub patched : List (ℕ × ℕ) → Buf → Buf
patched [] b = b
patched (p ∷ ps) b = patched ps (set b p.0 p.1)

-- of others than the channel: each lies outside of its slots, and in an armed slot or in EP0's buffer
abbrev pub Lands : Channel → Driver → List (ℕ × ℕ) → Type 0
Lands c d [] = Unit {0}
Lands c d (p ∷ ps) = Outside c d p.0 × (Away d p.0 → ⊥) × Lands c d ps
