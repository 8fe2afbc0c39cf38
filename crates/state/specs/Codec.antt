-- Each record as numbers of fixed widths: its 32-bit fields, then its 16-bit ones, then its bytes, each in the order of
-- declaration; of the control pipe's two bytes stand in front. A stored
-- record is the bytes of these numbers, one after the other.
use Rattle.std.specs.Prelude.{ℕ, List, [], ◌∷◌, slice_index}
use Rattle.state.specs.declared.EpState.{EpState}
use Rattle.state.specs.declared.Allocator.{Allocator}
use Rattle.state.specs.declared.Globals.{Globals}
use Rattle.state.specs.declared.Request.{Request}
use Rattle.state.specs.declared.Control.{Control}
use Rattle.state.specs.declared.Saved.{Saved}

abbrev pub ep_widths : List ℕ
ep_widths = 4 ∷ 4 ∷ 4 ∷ 2 ∷ 2 ∷ 2 ∷ 2 ∷ 2 ∷ 2 ∷ 1 ∷ 1 ∷ 1 ∷ 1 ∷ 1 ∷ 1 ∷ 1 ∷ 1 ∷ []

abbrev pub ep_as : EpState → List ℕ
ep_as r = r.base ∷ r.overruns ∷ r.armed_slot ∷ r.len ∷ r.stride ∷ r.last_frame ∷ r.max_len ∷ r.tog
    ∷ r.«open» ∷ r.ready ∷ r.armed ∷ r.iso ∷ r.kind ∷ r.slots ∷ r.head ∷ r.tail ∷ r.loaded ∷ []

abbrev pub ep_of : List ℕ → EpState
ep_of ns = record {
  base = slice_index ns 0;
  overruns = slice_index ns 1;
  armed_slot = slice_index ns 2;
  len = slice_index ns 3;
  stride = slice_index ns 4;
  last_frame = slice_index ns 5;
  max_len = slice_index ns 6;
  tog = slice_index ns 7;
  «open» = slice_index ns 8;
  ready = slice_index ns 9;
  armed = slice_index ns 10;
  iso = slice_index ns 11;
  kind = slice_index ns 12;
  slots = slice_index ns 13;
  head = slice_index ns 14;
  tail = slice_index ns 15;
  loaded = slice_index ns 16;
}

abbrev pub allocator_widths : List ℕ
allocator_widths = 2 ∷ 2 ∷ 2 ∷ 2 ∷ 2 ∷ 2 ∷ 2 ∷ 2 ∷ 2 ∷ []

abbrev pub allocator_as : Allocator → List ℕ
allocator_as r = r.size ∷ r.count ∷ r.next ∷ r.taken_out ∷ r.taken_in ∷ r.iso_nums ∷ r.other_nums
    ∷ r.allocated_out ∷ r.allocated_in ∷ []

abbrev pub allocator_of : List ℕ → Allocator
allocator_of ns = record {
  size = slice_index ns 0;
  count = slice_index ns 1;
  next = slice_index ns 2;
  taken_out = slice_index ns 3;
  taken_in = slice_index ns 4;
  iso_nums = slice_index ns 5;
  other_nums = slice_index ns 6;
  allocated_out = slice_index ns 7;
  allocated_in = slice_index ns 8;
}

abbrev pub globals_widths : List ℕ
globals_widths = 4 ∷ 4 ∷ 4 ∷ 4 ∷ 4 ∷ 2 ∷ 2 ∷ 2 ∷ 2 ∷ 2 ∷ 2 ∷ 1 ∷ 1 ∷ 1 ∷ 1 ∷ 1 ∷ []

abbrev pub globals_as : Globals → List ℕ
globals_as r = r.setup_low ∷ r.setup_high ∷ r.ep_config ∷ r.ep_type ∷ r.ep0_buf ∷ r.iso_out_eps
    ∷ r.iso_in_every ∷ r.iso_in_paced ∷ r.sof_frame ∷ r.ep0_max ∷ r.entered ∷ r.stage ∷ r.callback
    ∷ r.power ∷ r.setup_ready ∷ r.int_en ∷ []

abbrev pub globals_of : List ℕ → Globals
globals_of ns = record {
  setup_low = slice_index ns 0;
  setup_high = slice_index ns 1;
  ep_config = slice_index ns 2;
  ep_type = slice_index ns 3;
  ep0_buf = slice_index ns 4;
  iso_out_eps = slice_index ns 5;
  iso_in_every = slice_index ns 6;
  iso_in_paced = slice_index ns 7;
  sof_frame = slice_index ns 8;
  ep0_max = slice_index ns 9;
  entered = slice_index ns 10;
  stage = slice_index ns 11;
  callback = slice_index ns 12;
  power = slice_index ns 13;
  setup_ready = slice_index ns 14;
  int_en = slice_index ns 15;
}

abbrev pub request_widths : List ℕ
request_widths = 4 ∷ 4 ∷ []

abbrev pub request_as : Request → List ℕ
request_as r = r.begun ∷ r.length ∷ []

abbrev pub request_of : List ℕ → Request
request_of ns = record {
  begun = slice_index ns 0;
  length = slice_index ns 1;
}

abbrev pub control_widths : List ℕ
control_widths = 1 ∷ 1 ∷ 4 ∷ 1 ∷ 1 ∷ 1 ∷ []

abbrev pub control_as : Control → List ℕ
control_as r = r.sort ∷ r.last ∷ r.length ∷ r.wait ∷ r.sets_address ∷ r.address ∷ []

abbrev pub control_of : List ℕ → Control
control_of ns = record {
  sort = slice_index ns 0;
  last = slice_index ns 1;
  length = slice_index ns 2;
  wait = slice_index ns 3;
  sets_address = slice_index ns 4;
  address = slice_index ns 5;
}

abbrev pub saved_widths : List ℕ
saved_widths = 4 ∷ 2 ∷ 2 ∷ 2 ∷ 2 ∷ 1 ∷ 1 ∷ 1 ∷ 1 ∷ 1 ∷ 1 ∷ 1 ∷ 1 ∷ 1 ∷ 1 ∷ []

abbrev pub saved_as : Saved → List ℕ
saved_as r = r.value ∷ r.len ∷ r.frame ∷ r.eps ∷ r.n ∷ r.tag ∷ r.sub ∷ r.site ∷ r.flag ∷ r.busy ∷ r.late
    ∷ r.len_ok ∷ r.st ∷ r.now ∷ r.ep ∷ []

abbrev pub saved_of : List ℕ → Saved
saved_of ns = record {
  value = slice_index ns 0;
  len = slice_index ns 1;
  frame = slice_index ns 2;
  eps = slice_index ns 3;
  n = slice_index ns 4;
  tag = slice_index ns 5;
  sub = slice_index ns 6;
  site = slice_index ns 7;
  flag = slice_index ns 8;
  busy = slice_index ns 9;
  late = slice_index ns 10;
  len_ok = slice_index ns 11;
  st = slice_index ns 12;
  now = slice_index ns 13;
  ep = slice_index ns 14;
}
