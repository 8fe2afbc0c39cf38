-- Document 01, Refusals: "A refusal returns its number only and leaves state and bytes unchanged, with these
-- exceptions. .. 9 or 10 from a poll ends the request that was begun, and this 10 clears the ready flag." The exception
-- of 8 is no more (request Two): it keeps no number and no buffer
use Rattle.std.specs.Prelude.{Bool, true, false, not, cond, ℕ, eqb}
use Rattle.regs.specs.declared.Dir.{Dir}
use Rattle.regs.specs.declared.Dir.TheVariants.{Out, In}
use Rattle.state.specs.Driver.{Driver, ep_on, with_on, with_request_on, with_control}
use Rattle.script.specs.Statics.{with_ready}
use Rattle.script.specs.Endpoint.{empty_request}
use Rattle.script.specs.Control.{empty_control}
use Rattle.script.specs.Calls.{Config, Op, slots}
use Rattle.script.specs.Kinds as kinds
use Rattle.script.specs.Machine.{Buf, Call, start, begin, continue, question}
use Rattle.script_ops.specs.Records.{plain_of, merged}
use Rattle.machine.specs.Suspended.{slots_fit}

-- the polls that 9 or 10 may refuse: of a read or a write, of the control pipe's stages; a poll of setup is refused by
-- neither
pub data Poll : Type 0 where
  none data-out data-in accept : Poll
  request : Dir → ℕ → Poll

abbrev refused_poll : kinds.Poll → Poll
refused_poll (kinds.request d e) = request d e
refused_poll kinds.setup = none
refused_poll kinds.data-out = data-out
refused_poll kinds.data-in = data-in
refused_poll kinds.status = accept

abbrev part_poll : kinds.Part → Poll
part_poll (kinds.polls p) = refused_poll p
part_poll kinds.apart = none
part_poll kinds.begins = none
part_poll (kinds.turns d e on) = none

abbrev pub poll_of : Op → Poll
poll_of o = part_poll (kinds.part_of o)

-- the request that was begun is ended
abbrev pub request_ended : Poll → Driver → Driver
request_ended none d = d
request_ended data-out d = with_control d empty_control
request_ended data-in d = with_control d empty_control
request_ended accept d = with_control d empty_control
request_ended (request dir e) d = with_request_on d dir e empty_request

-- a ready flag is cleared; of the record nothing else changes
abbrev pub unready : Dir → ℕ → Driver → Driver
unready dir e d = with_on d dir e (merged (ep_on d dir e) (with_ready 0 (plain_of (ep_on d dir e))))

-- the ready flag that the poll waits for; of data_in the closing OUT's, with the data packet's where no poll before
-- took that. No 10 refuses a poll of accept
abbrev pub flag_cleared : Poll → Driver → Driver
flag_cleared none d = d
flag_cleared data-out d = unready Out 0 d
flag_cleared data-in d = cond (eqb d.control.wait 2) (unready Out 0 d) (unready In 0 (unready Out 0 d))
flag_cleared accept d = d
flag_cleared (request dir e) d = unready dir e d

-- the state after refusal n
abbrev pub left_by : Poll → ℕ → Driver → Driver
left_by p n d = cond (eqb n 9) (request_ended p d) (cond (eqb n 10) (request_ended p (flag_cleared p d)) d)

abbrev pub left : Call Config Op → ℕ → Driver → Driver
left (start c) n d = d
left (begin o) n d = left_by (poll_of o) n d
left (continue v) n d = d
left (question q) n d = d

-- rows 1 and 2, which ask of the slot buffer: where one of them refuses, the run's own buffer stays, and else it is the
-- one lent
abbrev pub buffers_row : Call Config Op → Driver → Buf → Bool
buffers_row (start c) d b = true
buffers_row (begin o) d b = cond (slots o) (not (slots_fit d b)) false
buffers_row (continue v) d b = not (slots_fit d b)
buffers_row (question q) d b = false
