-- Document 01's rows for an allocation and EP0's start: a refusal is 6, 7 or 8, of EP0's start 22, 6 or 8, and changes
-- nothing; what is accepted has a maximum within the buffer size. Assumes nothing.
use Rattle.std.specs.Prelude.{◌≡◌, ℕ, ◌+◌, ◌≤◌, ◌<◌}
use Rattle.std.proofs.Common.{◌∙◌}
use Rattle.alloc.specs.Run.{Call, endpoint, ep0}

abbrev pub maximum_of : Call → ℕ
maximum_of (endpoint kind address maximum dir) = maximum
maximum_of (ep0 maximum) = maximum
