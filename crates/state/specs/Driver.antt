-- What the state says of the driver: all but the suspended operation. Which record an endpoint has, and one record
-- changed.
use Rattle.std.specs.Prelude.{ℕ, ◌+◌, ◌*◌, ◌%◌, List, [], slice_index, slice_index_or, slice_set}
use Rattle.state.specs.Codec.{ep_of, request_of}
use Rattle.regs.specs.declared.Dir.{Dir}
use Rattle.regs.specs.declared.Dir.TheVariants.{Out, In}
use Rattle.state.specs.declared.EpState.{EpState}
use Rattle.state.specs.declared.Allocator.{Allocator}
use Rattle.state.specs.declared.Globals.{Globals}
use Rattle.state.specs.declared.Request.{Request}
use Rattle.state.specs.declared.Control.{Control}
use Rattle.state.specs.Wakes.{Wakes, unwoken}

-- `eps` and `requests`: OUT 0 to 15, then IN 0 to 15; `lens`: 16 for each of `eps`; `stamps`: 16 for each OUT endpoint,
-- the microframe with each packet; `paced`: a last microframe for each endpoint
pub record Driver : Type 0 where
  pub eps : List EpState
  pub lens : List ℕ
  pub stamps : List ℕ
  pub globals : Globals
  pub allocator : Allocator
  pub paced : List ℕ
  pub requests : List Request
  pub control : Control
  pub wakes : Wakes

-- an endpoint's place among 32
unfoldable pub key : Dir → ℕ → ℕ
key Out e = e % 16
key In e = 16 + e % 16

-- the place of slot i's length among 512
unfoldable pub len_key : Dir → ℕ → ℕ → ℕ
len_key dir e i = key dir e * 16 + i % 16

-- the place of the stamp of OUT e's slot i among 256
unfoldable pub stamp_key : ℕ → ℕ → ℕ
stamp_key e i = e % 16 * 16 + i % 16

-- what a list answers past its end: a record of zeros
abbrev pub no_ep : EpState
no_ep = ep_of []

abbrev pub no_request : Request
no_request = request_of []

-- a driver of its parts, in their order; then one with a part set anew
abbrev pub driver_of : List EpState → List ℕ → List ℕ → Globals → Allocator → List ℕ → List Request → Control → Wakes
    → Driver
driver_of eps lens stamps globals allocator paced requests control wakes = record {
  eps = eps;
  lens = lens;
  stamps = stamps;
  globals = globals;
  allocator = allocator;
  paced = paced;
  requests = requests;
  control = control;
  wakes = wakes;
}

abbrev pub with_eps : Driver → List EpState → Driver
with_eps d x = driver_of x d.lens d.stamps d.globals d.allocator d.paced d.requests d.control
    d.wakes

abbrev pub with_lens : Driver → List ℕ → Driver
with_lens d x = driver_of d.eps x d.stamps d.globals d.allocator d.paced d.requests d.control
    d.wakes

abbrev pub with_stamps : Driver → List ℕ → Driver
with_stamps d x = driver_of d.eps d.lens x d.globals d.allocator d.paced d.requests d.control
    d.wakes

abbrev pub with_globals : Driver → Globals → Driver
with_globals d x = driver_of d.eps d.lens d.stamps x d.allocator d.paced d.requests d.control
    d.wakes

abbrev pub with_allocator : Driver → Allocator → Driver
with_allocator d x = driver_of d.eps d.lens d.stamps d.globals x d.paced d.requests d.control
    d.wakes

abbrev pub with_paced : Driver → List ℕ → Driver
with_paced d x = driver_of d.eps d.lens d.stamps d.globals d.allocator x d.requests d.control
    d.wakes

abbrev pub with_requests : Driver → List Request → Driver
with_requests d x = driver_of d.eps d.lens d.stamps d.globals d.allocator d.paced x d.control
    d.wakes

abbrev pub with_control : Driver → Control → Driver
with_control d x = driver_of d.eps d.lens d.stamps d.globals d.allocator d.paced d.requests x
    d.wakes

abbrev pub with_wakes : Driver → Wakes → Driver
with_wakes d x = driver_of d.eps d.lens d.stamps d.globals d.allocator d.paced d.requests
    d.control x

-- no wake-up is gathered yet
abbrev pub none_gathered : Driver → Driver
none_gathered d = with_wakes d (unwoken d.wakes)

-- the record of endpoint e, any number, in a direction
unfoldable pub ep_on : Driver → Dir → ℕ → EpState
ep_on d dir e = slice_index_or d.eps (key dir e) no_ep

unfoldable pub with_on : Driver → Dir → ℕ → EpState → Driver
with_on d dir e r = with_eps d (slice_set d.eps (key dir e) r)

-- the length of slot i, any number
unfoldable pub len_on : Driver → Dir → ℕ → ℕ → ℕ
len_on d dir e i = slice_index d.lens (len_key dir e i)

unfoldable pub with_len_on : Driver → Dir → ℕ → ℕ → ℕ → Driver
with_len_on d dir e i v = with_lens d (slice_set d.lens (len_key dir e i) v)

-- the stamp of slot i of OUT e, any numbers
unfoldable pub stamp_on : Driver → ℕ → ℕ → ℕ
stamp_on d e i = slice_index d.stamps (stamp_key e i)

unfoldable pub with_stamp_on : Driver → ℕ → ℕ → ℕ → Driver
with_stamp_on d e i v = with_stamps d (slice_set d.stamps (stamp_key e i) v)

unfoldable pub paced_on : Driver → ℕ → ℕ
paced_on d e = slice_index d.paced (e % 16)

unfoldable pub with_paced_on : Driver → ℕ → ℕ → Driver
with_paced_on d e v = with_paced d (slice_set d.paced (e % 16) v)

-- the read of OUT e, the write of IN e
unfoldable pub request_on : Driver → Dir → ℕ → Request
request_on d dir e = slice_index_or d.requests (key dir e) no_request

unfoldable pub with_request_on : Driver → Dir → ℕ → Request → Driver
with_request_on d dir e r = with_requests d (slice_set d.requests (key dir e) r)
