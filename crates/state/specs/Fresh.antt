-- The state that start-up makes, the stamps of an OUT ring made 0
use Rattle.std.specs.Prelude.{ℕ, zero, suc, ◌+◌, ◌*◌, ◌%◌, List, [], ◌∷◌, replicate, slice_set}
use Rattle.state.specs.declared.Allocator.{Allocator}
use Rattle.state.specs.declared.Globals.{Globals}
use Rattle.state.specs.declared.Control.{Control}
use Rattle.state.specs.declared.Saved.{Saved}
use Rattle.state.specs.Codec.{allocator_of, control_of, saved_of}
use Rattle.state.specs.Ep.{new_ep}
use Rattle.state.specs.Wakes.{none_woken}
use Rattle.state.specs.Driver.{Driver, no_request, with_stamps}

-- v at each of the n places from a
unfoldable pub filled : {A : Type 0} → List A → ℕ → ℕ → A → List A
filled l a zero v = l
filled l a (suc n) v = slice_set (filled l a n v) (a + n) v

-- all 16 stamps of OUT e
unfoldable pub clear_stamps : Driver → ℕ → Driver
clear_stamps d e = with_stamps d (filled d.stamps (e % 16 * 16) 16 0)

-- all stamps
unfoldable pub no_stamps : Driver → Driver
no_stamps d = with_stamps d (replicate 256 0)

abbrev pub no_control : Control
no_control = control_of []

-- nothing is under way: all fields are 0
abbrev pub nothing : Saved
nothing = saved_of []

-- stage 1: started up, before EP0's start
abbrev pub fresh_globals : ℕ → Globals
fresh_globals callback = record {
  stage = 1;
  callback = callback;
  power = 0;
  setup_ready = 0;
  setup_low = 0;
  setup_high = 0;
  int_en = 0;
  ep_config = 0;
  ep_type = 0;
  iso_out_eps = 0;
  iso_in_every = 0;
  iso_in_paced = 0;
  sof_frame = 0x1800;
  ep0_buf = 0;
  ep0_max = 0;
  entered = 0;
}

-- no buffer used, no number taken: all but size and count is 0
abbrev pub fresh_allocator : ℕ → ℕ → Allocator
fresh_allocator size count = allocator_of (size ∷ count ∷ [])

-- as the Rust's statics at power-on, with the buffers' size and count and the callback
unfoldable pub fresh_driver : ℕ → ℕ → ℕ → Driver
fresh_driver size count callback = record {
  eps = replicate 32 new_ep;
  lens = replicate 512 0;
  stamps = replicate 256 0;
  globals = fresh_globals callback;
  allocator = fresh_allocator size count;
  paced = replicate 16 0x1800;
  requests = replicate 32 no_request;
  control = no_control;
  wakes = none_woken;
}
