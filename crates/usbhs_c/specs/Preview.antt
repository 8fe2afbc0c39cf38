-- A preview as an exported call gives it: the word, and what the caller's rooms hold then. A refusal by row 3, 4, 17 or
-- 18 leaves them
use Rattle.std.specs.Prelude.{List, ℕ, ◌+◌, ◌*◌, ◌%◌, ◌^◌}
use Rattle.state.specs.State.{view, saved}
use Rattle.descriptor.specs.declared.preview.Said.{Said}
use Rattle.descriptor.specs.declared.preview.Said.TheVariants as said
use Rattle.descriptor.specs.declared.preview.Shown.{Shown}
use Rattle.machine.specs.Suspended.{decode}
use Rattle.machine.specs.Rows.{is_idle, stop_of}
use Rattle.calls.specs.Listed.{previewed}

-- by the state's bytes and the descriptor's
abbrev pub shown_by : List ℕ → List ℕ → Shown
shown_by state bytes = previewed (stop_of (is_idle (decode (saved state))) 1 (view state).globals.stage)
    (view state).allocator bytes

-- kind 0: the row's number 8-15; kind 5: how many numbers were given 8-23, of which there are at most 32
abbrev pub word_by : Said → Shown → ℕ
word_by (said.Refused row) x = row * 2 ^ 8
word_by said.Tried x = 5 + x.count % 256 * 2 ^ 8

abbrev pub numbers_by : Said → Shown → List ℕ → List ℕ
numbers_by (said.Refused row) x old = old
numbers_by said.Tried x old = x.numbers

abbrev pub buffers_by : Said → Shown → ℕ → ℕ
buffers_by (said.Refused row) x old = old
buffers_by said.Tried x old = x.buffers

-- 6, 7 or 8, or 0 where all would be given
abbrev pub refusal_by : Said → Shown → ℕ → ℕ
refusal_by (said.Refused row) x old = old
refusal_by said.Tried x old = x.refusal
