-- An endpoint's record: a new one, one that was reset, one with some fields set anew, and how many packets wait in its
-- ring.
use Rattle.std.specs.Prelude.{ℕ, ◌+◌, ◌-◌, ◌%◌}
use Rattle.state.specs.declared.EpState.{EpState}

-- the Rust's `EpState::NEW`
abbrev pub new_ep : EpState
new_ep = record {
  ready = 0;
  len = 0;
  armed = 0;
  iso = 0;
  kind = 0;
  base = 0;
  stride = 0;
  slots = 1;
  head = 0;
  tail = 0;
  loaded = 0;
  overruns = 0;
  last_frame = 0x1800;
  max_len = 0;
  armed_slot = 0;
  tog = 0;
  «open» = 0;
}

-- a record of its fields, in their order
abbrev pub ep_fields : (ready len armed iso kind base stride slots head tail loaded overruns frame maximum slot tog
    opened : ℕ) → EpState
ep_fields ready len armed iso kind base stride slots head tail loaded overruns frame maximum slot tog opened = record {
  ready = ready;
  len = len;
  armed = armed;
  iso = iso;
  kind = kind;
  base = base;
  stride = stride;
  slots = slots;
  head = head;
  tail = tail;
  loaded = loaded;
  overruns = overruns;
  last_frame = frame;
  max_len = maximum;
  armed_slot = slot;
  tog = tog;
  «open» = opened;
}

-- what a transfer or a packet changes, set anew: the transfer, then the ring
abbrev pub with_moves : EpState → (ready len armed frame tog : ℕ) → (head tail loaded overruns slot opened : ℕ) → EpState
with_moves s ready len armed frame tog head tail loaded overruns slot opened =
    ep_fields ready len armed s.iso s.kind s.base s.stride s.slots
    head tail loaded overruns frame s.max_len slot tog opened

abbrev pub with_transfer : EpState → (ready len armed frame tog : ℕ) → EpState
with_transfer s ready len armed frame tog =
    with_moves s ready len armed frame tog s.head s.tail s.loaded s.overruns s.armed_slot s.«open»

abbrev pub with_ring : EpState → (head tail loaded overruns slot opened : ℕ) → EpState
with_ring s head tail loaded overruns slot opened =
    with_moves s s.ready s.len s.armed s.last_frame s.tog head tail loaded overruns slot opened

-- what an allocation gives, and the slot that stands for the armed one
abbrev pub with_place : EpState → (iso kind base stride slots maximum slot : ℕ) → EpState
with_place s iso kind base stride slots maximum slot =
    ep_fields s.ready s.len s.armed iso kind base stride slots
    s.head s.tail s.loaded s.overruns s.last_frame maximum slot s.tog s.«open»

-- the Rust's `EpState::reset`, which leaves the length, overruns and the armed slot; it also voids an open packet
abbrev pub reset_of : EpState → EpState
reset_of s = with_moves s 0 s.len 0 0x1800 0 0 0 0 s.overruns s.armed_slot 0

-- head minus tail, wrapped in 8 bits
abbrev pub count_of : EpState → ℕ
count_of s = (s.head + 256 - s.tail) % 256
