-- A packet's length is kept at the head of OUT e's ring, and the head moves on.
use Rattle.std.specs.Prelude.{ℕ, ◌+◌, ◌%◌, ◌^◌}
use Rattle.regs.specs.declared.Dir.TheVariants.{Out}
use Rattle.state.specs.declared.EpState.{EpState}
use Rattle.state.specs.Ep.{with_ring}
use Rattle.state.specs.Driver.{Driver, ep_on, with_on, with_len_on}

abbrev pub advanced : EpState → EpState
advanced r = with_ring r ((r.head + 1) % 2 ^ 8) r.tail r.loaded r.overruns r.armed_slot r.«open»

abbrev pub pushed : Driver → ℕ → ℕ → Driver
pushed d e n = with_on (with_len_on d Out e (ep_on d Out e).head n) Out e (advanced (ep_on d Out e))
