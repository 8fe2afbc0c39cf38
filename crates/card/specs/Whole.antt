-- What WholeLaws.antt speaks of. It proves: a reader of any stream whose good blocks are as written gives exactly the
-- written packets that lie wholly in good blocks, in order.
use Rattle.std.specs.Prelude.{◌≡◌, ℕ, true, List}
use Rattle.card.specs.Packet.{Packet}
use Rattle.card.specs.Written.{stream}
use Rattle.card.specs.Streams.{block_at, good_block}

-- each good block of the stream is as in the one written, which may be longer or shorter
abbrev pub AsInStream : List ℕ → List Packet → Type 0
AsInStream s ps = (k : ℕ) → good_block s k ≡ true → block_at s k ≡ block_at (stream ps) k
