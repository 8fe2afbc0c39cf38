-- A completion's microframe, on the driver
use Rattle.std.specs.Prelude.{Bool, not, ℕ, eqb}
use Rattle.regs.specs.declared.Dir.TheVariants.{In}
use Rattle.state.specs.Driver.{Driver, ep_on, with_on}
use Rattle.script.specs.Statics.{with_last_frame}
use Rattle.script_ops.specs.Records.{plain_of, merged}

-- IN e: the frame recorded
unfoldable pub framed_on : Driver → ℕ → ℕ → Driver
framed_on d e frame = with_on d In e (merged (ep_on d In e) (with_last_frame frame (plain_of (ep_on d In e))))

-- none is recorded in it yet
unfoldable pub is_first : Driver → ℕ → ℕ → Bool
is_first d e frame = not (eqb (ep_on d In e).last_frame frame)
