-- What holds of the driver, the lent buffer and the book between two calls
use Rattle.std.specs.Prelude.{Bool, true, false, cond, ◌&&◌, List, [], ◌∷◌, ◌++◌, ◌≢◌, ◌⊎◌, ◌≡◌, ℕ, zero, suc, ◌+◌, ◌-◌, ◌*◌, ◌%◌, ◌^◌, ◌≤◌, eqb, length}
use Rattle.bits.specs.Bit.{bit_is_set}
use Rattle.regs.specs.declared.Access.{Access}
use Rattle.regs.specs.declared.Access.TheVariants.{Read, Write, Receive, Transmit, Ep0Dma, Wait, Callback}
use Rattle.regs.specs.declared.Dir.{Dir}
use Rattle.regs.specs.declared.Dir.TheVariants.{Out, In}
use Rattle.state.specs.declared.EpState.{EpState}
use Rattle.state.specs.declared.Allocator.{Allocator}
use Rattle.state.specs.declared.Globals.{Globals}
use Rattle.state.specs.Driver.{Driver, key, ep_on, paced_on, request_on}
use Rattle.state.specs.Laws.{Sized}
use Rattle.alloc.specs.Alloc.{allocated_ins, slots_of}
use Rattle.alloc.specs.Buffer.{good_size}
use Rattle.alloc.specs.Sound.{Sound}
use Rattle.ring.specs.Slot.{slot_addr, count_of}
use Rattle.ring.specs.Waiting.{waiting, Same, Placed, Ring, Sends, Shows}
use Rattle.script.specs.Script.{switch, bus_reset_lem, last_of}
use Rattle.script.specs.Simulates.{Phase, quiet, mid}
use Rattle.script.specs.Statics.{is_on, flag, iso_outs}
use Rattle.script.specs.Machine.{Buf}
use Rattle.script_ops.specs.Records.{plain_of}
use Rattle.proof_book.specs.Pages.{Packet, bytes_of, stamps_of, OutPage, InPage, Kept, Pages}
use Rattle.proof_book.specs.Book.{front}
use Rattle.proof_book.specs.Stamps.{stamped}
pub use Rattle.proof_book.specs.FrontPage.{lens_of, slot_stamps, Elsewhere, Chip, Holds}

-- ---- the kept values are the same

pub record SameKept (d : Driver) (k : Kept) : Type 0 where
  pub globals : d.globals ≡ k.globals
  pub wakes : d.wakes ≡ k.wakes
  pub control : d.control ≡ k.control
  pub allocator : d.allocator ≡ k.allocator
  pub paced : (e : ℕ) → paced_on d e ≡ k.paced e
  pub requests : (dir : Dir) (e : ℕ) → request_on d dir e ≡ k.requests dir e
  pub plain : (dir : Dir) (e : ℕ) → plain_of (ep_on d dir e) ≡ k.plain dir e

-- ---- an endpoint's buffers

-- the first byte after them
abbrev pub end_of : EpState → ℕ
end_of r = r.base + r.slots * r.stride

pub record Used (a : Allocator) (dir : Dir) (r : EpState) : Type 0 where
  pub stride : r.stride ≡ a.size
  pub slots : r.slots ≡ slots_of (is_on r.iso) dir
  pub below : end_of r ≤ a.next * a.size

-- of an endpoint that is not allocated, none
pub record Unused (r : EpState) : Type 0 where
  pub iso : r.iso ≡ 0
  pub base : r.base ≡ 0
  pub stride : r.stride ≡ 0
  pub slots : r.slots ≡ 1

abbrev pub Shape : Bool → Allocator → Dir → EpState → Type 0
Shape true a dir r = Used a dir r
Shape false a dir r = Unused r

abbrev pub Apart : ℕ → ℕ → ℕ → ℕ → Type 0
Apart lo hi lo' hi' = (hi ≤ lo') ⊎ (hi' ≤ lo)

-- EP0's buffer, after its start
abbrev pub ep0_room : Globals → Allocator → ℕ
ep0_room g a = cond (eqb g.stage 2) a.size 0

-- ---- a ring, in the buffer, and those that wait by the book

pub record Held (most : ℕ) (b : Buf) (r : EpState) (ls : List ℕ) (w : List (List ℕ)) : Type 0 where
  pub placed : Placed (length b) r
  pub ring : Ring most r ls
  pub least : r.max_len ≤ r.stride
  -- "the bytes of the OUT ring's slots, tail to head, each up to its recorded length, equal those waiting, in order"
  pub waits : waiting b r ls ≡ w

-- no packet is longer than the maximum
abbrev pub Short : ℕ → List Packet → Type 0
Short n [] = Unit {0}
Short n (q ∷ qs) = (length q.bytes ≤ n) × Short n qs

pub record OutFits (b : Buf) (r : EpState) (ls ss : List ℕ) (p : OutPage) : Type 0 where
  pub held : Held (r.slots - 1) b r ls (bytes_of p.waiting)
  -- and so their stamps: "a packet still waiting has the stamp of its admission"
  pub stamps : stamped r ss ≡ stamps_of p.waiting
  pub opened : r.«open» ≡ flag p.opened
  pub shows : Shows r
  pub lost : r.overruns ≡ p.lost % 2 ^ 32
  -- the last receive address is the armed slot's, one of the endpoint's own
  pub slot : r.armed_slot ≡ p.slot
  pub from : r.base ≤ p.slot
  pub upto : p.slot + r.stride ≤ end_of r
  -- "the packets read in its stretch, then those queued, are exactly that stretch's admitted arrivals, in order"
  pub ledger : p.read ++ p.waiting ≡ p.admitted
  pub short : Short r.max_len p.waiting

-- "no slot being sent is written": the slot of the one being sent is the tail's, and all its bytes stand as they stood
-- when its address was handed out
pub record Stands (b : Buf) (r : EpState) (p : InPage) : Type 0 where
  pub slot : p.sending ≡ true → p.source ≡ slot_addr r r.tail
  pub bytes : p.sending ≡ true → Same p.source (p.source + r.stride) p.shown b

pub record InFits (b : Buf) (r : EpState) (ls : List ℕ) (p : InPage) : Type 0 where
  pub held : Held r.slots b r ls p.waiting
  pub ringless : is_on r.iso ≡ false → count_of r ≡ 0
  pub loaded : r.loaded ≡ flag p.sending
  pub sends : Sends r
  pub turn : r.head % 2 ≡ p.turn
  -- of those queued in the stretch, in order, the tail passed the first and the others wait; each reached the chip at
  -- most once, and in order
  pub ledger : p.passed ++ p.waiting ≡ p.queued
  pub reached : p.sent ≡ p.passed ++ cond p.sending (front p.waiting) []
  pub stands : Stands b r p

-- ---- the armed slot is never one of those that wait

-- it is the head's
abbrev pub Armed : EpState → OutPage → Type 0
Armed r p = p.slot ≡ slot_addr r r.head

-- at rest: the head's where it is enabled, and where it is not none wait
pub record AtRest (enabled : Bool) (r : EpState) (p : OutPage) : Type 0 where
  pub armed : enabled ≡ true → Armed r p
  pub none : enabled ≡ false → count_of r ≡ 0

-- inside the row that switches it: none wait; from the last receive address on the head's
pub record Switching (n : ℕ) (r : EpState) (p : OutPage) : Type 0 where
  pub none : count_of r ≡ 0
  pub head : r.head ≡ 0
  pub armed : n ≤ 3 → Armed r p

abbrev pub InRow : Bool → ℕ → Bool → EpState → OutPage → Type 0
InRow true n enabled r p = Switching n r p
InRow false n enabled r p = AtRest enabled r p

abbrev pub Arming : Phase → ℕ → Bool → EpState → OutPage → Type 0
Arming quiet e enabled r p = AtRest enabled r p
Arming (mid (switch f on) n) e enabled r p = InRow (eqb (e % 16) (f % 16) && is_on r.iso) n enabled r p
Arming (mid bus_reset_lem zero) e enabled r p = AtRest enabled r p
-- every endpoint is disabled, the records are not yet reset
Arming (mid bus_reset_lem (suc n)) e enabled r p = (enabled ≡ false) × (Armed r p ⊎ (count_of r ≡ 0))

abbrev pub PhaseStep : Phase → Type 0
PhaseStep quiet = Unit {0}
PhaseStep (mid g n) = n ≤ last_of g

-- ---- the relation

pub record Coupling (φ : Phase) (b : Buf) (d : Driver) (t : Pages) : Type 0 where
  pub step : PhaseStep φ
  pub sized : Sized d
  pub sound : Sound d.allocator
  pub good : good_size d.allocator.size ≡ true
  pub long : length b ≡ d.allocator.count * d.allocator.size
  pub same : SameKept d t.kept
  pub shape : (dir : Dir) (e : ℕ) → Shape (bit_is_set (allocated_ins d.allocator dir) (e % 16)) d.allocator dir
      (ep_on d dir e)
  pub outs : (e : ℕ) → OutFits b (ep_on d Out e) (lens_of d Out e) (slot_stamps d e) (t.outs e)
  pub ins : (e : ℕ) → InFits b (ep_on d In e) (lens_of d In e) (t.ins e)
  pub arming : (e : ℕ) → Arming φ e (bit_is_set (iso_outs d.globals) (e % 16)) (ep_on d Out e) (t.outs e)
  pub apart : (dir dir' : Dir) (e e' : ℕ) → key dir e ≢ key dir' e'
      → Apart (ep_on d dir e).base (end_of (ep_on d dir e)) (ep_on d dir' e').base (end_of (ep_on d dir' e'))
  pub ep0_below : d.globals.ep0_buf + ep0_room d.globals d.allocator ≤ d.allocator.next * d.allocator.size
  pub ep0_apart : (dir : Dir) (e : ℕ) → Apart d.globals.ep0_buf
      (d.globals.ep0_buf + ep0_room d.globals d.allocator) (ep_on d dir e).base (end_of (ep_on d dir e))
  -- EP0's address lies in the lent buffer with a slot, before its start too
  pub ep0_lies : d.globals.ep0_buf + d.allocator.size ≤ length b
  pub ep0_least : d.globals.ep0_max ≤ ep0_room d.globals d.allocator
  -- the set of isochronous OUT endpoints
  pub isos : (e : ℕ) → bit_is_set d.globals.iso_out_eps (e % 16) ≡ is_on (ep_on d Out e).iso

-- ---- what the book promises of an access

-- the slot from address x on lies in the lent buffer, whole
abbrev pub Lies : Buf → Pages → ℕ → Type 0
Lies b t x = x + t.kept.allocator.size ≤ length b

abbrev pub Good : Access → Buf → Pages → Type 0
Good (Read r e) b t = Unit {0}
Good (Write r e v) b t = Unit {0}
Good (Receive e x) b t = Lies b t x
Good (Transmit e x) b t = Holds (t.ins e) b x × Lies b t x
-- EP0's buffer is where the book has it
Good (Ep0Dma x) b t = (x ≡ t.kept.globals.ep0_buf) × Lies b t x
Good (Wait n) b t = Unit {0}
Good Callback b t = Unit {0}
