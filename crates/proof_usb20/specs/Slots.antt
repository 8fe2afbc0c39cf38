-- The packets of an endpoint that is neither 0 nor isochronous: which bytes a read's poll gives and why it is refused
-- with 10, which bytes lie in the slot when a write's length is handed out. Of one call, from what was seen before it;
-- SlotReadsLaws.antt proves it
use Rattle.std.specs.Prelude.{List, ◌⊎◌, true, false, ◌≡◌, ℕ, ◌+◌, ◌*◌, ◌≤◌, eqb, ltb, length, get_or}
use Rattle.regs.specs.declared.Dir.{Dir}
use Rattle.regs.specs.declared.Dir.TheVariants.{Out, In}
use Rattle.state.specs.declared.Request.{Request}
use Rattle.state.specs.Driver.{Driver, key, no_request, ep_on}
use Rattle.ring.specs.Copies.{bytes_at}
use Rattle.script.specs.Statics.{is_on}
use Rattle.script.specs.Answers.{Answer, Refused, End, NotYet, Done, Shown}
use Rattle.script.specs.Machine.{Buf}
use Rattle.proof_usb20.specs.Sequence.{Track}

-- ---- what was seen

pub data Place : Type 0 where
  nowhere : Place
  at : ℕ → Place

pub data Maximum : Type 0 where
  unknown : Maximum
  is : ℕ → Maximum

-- the address of the endpoint's slot as it was last handed out, the maximum with which it was allocated, the length of
-- the last begin_read
pub record Deal : Type 0 where
  pub place : Place
  pub maximum : Maximum
  pub asked : ℕ

-- ---- what is claimed

-- n bytes of the endpoint's slot
abbrev pub InSlot : Place → Buf → ℕ → List ℕ → Type 0
InSlot nowhere b n bytes = Unit {0}
InSlot (at x) b n bytes = bytes_at b x n ≡ bytes

abbrev pub Above : Maximum → ℕ → Type 0
Above unknown n = Unit {0}
Above (is m) n = ltb m n ≡ true

-- a read's poll of n bytes, lent the slot buffer b: it is refused with 10 for another length than its begin's, or for a
-- packet that is longer than the slice or than the endpoint's maximum; one that is done gives as many bytes as were
-- received, those of the slot as it is lent to that poll
abbrev pub Reads : ℕ → Buf → Deal → Answer → Track → Type 0
Reads n b u (Refused r) w = eqb r 10 ≡ true → (eqb u.asked n ≡ false)
    ⊎ ((w.through ≡ true) × ((ltb n w.len ≡ true) ⊎ Above u.maximum w.len))
Reads n b u (End m ws) w = Unit {0}
Reads n b u NotYet w = Unit {0}
Reads n b u (Done bytes) w = (length bytes ≡ w.len) × InSlot u.place b w.len bytes
Reads n b u (Shown bytes stamp) w = Unit {0}

-- ---- what the driver's state says of it

pub record Held : Type 0 where
  pub base : ℕ
  pub maximum : ℕ
  pub request : Request
  pub room : ℕ  -- the slot buffer's length

abbrev pub held_of : Dir → ℕ → Driver → Held
held_of D E d = record {
  base = (ep_on d D E).base;
  maximum = (ep_on d D E).max_len;
  request = get_or d.requests (key D E) no_request;
  room = d.allocator.count * d.allocator.size;
}

-- ---- it fits

abbrev pub Placed : Place → ℕ → Type 0
Placed nowhere b = Unit {0}
Placed (at x) b = b ≡ x

abbrev pub Says : Maximum → ℕ → Type 0
Says unknown n = Unit {0}
Says (is m) n = n ≡ m

-- a read that is begun has the length of the last begin
abbrev pub AsksFor : Dir → Request → ℕ → Type 0
AsksFor Out r n = is_on r.begun ≡ true → r.length ≡ n
AsksFor In r n = Unit {0}

pub record Dealt (D : Dir) (u : Deal) (h : Held) : Type 0 where
  pub placed : Placed u.place h.base
  pub maximum : Says u.maximum h.maximum
  pub asked : AsksFor D h.request u.asked
  pub inside : h.base + h.maximum ≤ h.room
