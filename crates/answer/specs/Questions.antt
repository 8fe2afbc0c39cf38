-- The questions: they answer always and at every stage
use Rattle.std.specs.Prelude.{Bool, false, cond, ◌&&◌, ℕ}
use Rattle.regs.specs.declared.Dir.{Dir}
use Rattle.regs.specs.declared.Dir.TheVariants.{Out, In}
use Rattle.regs.specs.Enables as enables
use Rattle.state.specs.declared.EpState.{EpState}
use Rattle.state.specs.Driver.{Driver, ep_on}
use Rattle.ring.specs.Slot.{count_of}
use Rattle.script.specs.Statics.{is_on, flag}
use Rattle.script.specs.Answers.{is_number}
use Rattle.script.specs.Machine.{Question, pending, overruns, enabled}

-- `iso_in_pending`, mod.rs 292-299
unfoldable pub pending_on : Driver → ℕ → ℕ
pending_on d e = cond (is_number e) (count_of (ep_on d In e)) 0

-- `iso_out_overruns`, 273-280: 0 for an endpoint that is not isochronous
unfoldable pub overruns_of : EpState → ℕ
overruns_of r = cond (is_on r.iso) r.overruns 0

unfoldable pub overruns_on : Driver → ℕ → ℕ
overruns_on d e = cond (is_number e) (overruns_of (ep_on d Out e)) 0

-- `endpoint_enabled`, 240-251, by the kept ep_config
unfoldable pub enabled_asked : Driver → Dir → ℕ → Bool
enabled_asked d dir e = cond (is_number e) (enables.is_on d.globals.ep_config dir e) false

abbrev pub question_of : Question → Driver → ℕ
question_of (pending e) d = pending_on d e
question_of (overruns e) d = overruns_on d e
question_of (enabled dir e) d = flag (enabled_asked d dir e)
