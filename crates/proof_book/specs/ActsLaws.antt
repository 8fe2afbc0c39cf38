-- The kinds of changes, by the kinds of calls that make them (`Kind`, script/specs/Steps.antt). Laws ask of a change
-- whether it is of such a kind
use Rattle.script.specs.Script.{Act, complete, reset_ring, set_enabled_lem, fill, fill0, open_oldest, close_oldest}
use Rattle.script.specs.Script.{take_oldest, enqueue, allocate, allocate0, no_wakes, waken}
use Rattle.script.specs.Steps.{Kind, plain, moving, turning, resetting, giving, starting, reading, receiving, queueing}

abbrev pub act_kind : Act → Kind
act_kind (complete e) = moving
act_kind (reset_ring d e) = resetting
act_kind (set_enabled_lem d e on) = turning
act_kind (fill e bytes) = receiving
act_kind (fill0 bytes) = receiving
act_kind (open_oldest e) = reading
act_kind (close_oldest e) = reading
act_kind (take_oldest e) = reading
act_kind (enqueue e bytes) = queueing
act_kind (allocate d kind address maximum interval) = giving
act_kind (allocate0 maximum) = starting
act_kind no_wakes = plain
act_kind (waken codes) = plain
