-- The state's bytes: which part of them is which record of the driver.
use Rattle.std.specs.Prelude.{ℕ, List}
use Rattle.state.specs.declared.EpState.{EpState}
use Rattle.state.specs.declared.Allocator.{Allocator}
use Rattle.state.specs.declared.Globals.{Globals}
use Rattle.state.specs.declared.Request.{Request}
use Rattle.state.specs.declared.Control.{Control}
use Rattle.state.specs.declared.Saved.{Saved}
use Rattle.bits.specs.Bytes.{gets, number, numbers}
use Rattle.bits.specs.Tables.{table}
use Rattle.state.specs.Codec as codec
use Rattle.state.specs.Wakes.{Wakes}
use Rattle.state.specs.Driver.{Driver}

abbrev pub ep_in : List ℕ → EpState
ep_in bs = codec.ep_of (numbers codec.ep_widths bs)

abbrev pub allocator_in : List ℕ → Allocator
allocator_in bs = codec.allocator_of (numbers codec.allocator_widths bs)

abbrev pub globals_in : List ℕ → Globals
globals_in bs = codec.globals_of (numbers codec.globals_widths bs)

abbrev pub wakes_in : List ℕ → Wakes
wakes_in xs = record { count = number (gets xs 1357 0 1); codes = table xs 1358 64 1 number }

abbrev pub request_in : List ℕ → Request
request_in bs = codec.request_of (numbers codec.request_widths bs)

abbrev pub control_in : List ℕ → Control
control_in bs = codec.control_of (numbers codec.control_widths bs)

abbrev pub saved_in : List ℕ → Saved
saved_in bs = codec.saved_of (numbers codec.saved_widths bs)

unfoldable pub view : List ℕ → Driver
view xs = record {
  eps = table xs 40 32 32 ep_in;
  lens = table xs 1966 512 2 number;
  stamps = table xs 1454 256 2 number;
  globals = globals_in (gets xs 1320 0 37);
  allocator = allocator_in (gets xs 22 0 18);
  paced = table xs 1422 16 2 number;
  requests = table xs 1064 32 8 request_in;
  control = control_in (gets xs 2990 0 9);
  wakes = wakes_in xs;
}

-- the suspended operation
unfoldable pub saved : List ℕ → Saved
saved xs = saved_in (gets xs 0 0 22)
