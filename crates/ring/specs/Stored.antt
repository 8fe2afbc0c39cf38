-- What StoredLaws.antt speaks of. It proves: a packet stored in an armed slot: its length is found.
use Rattle.std.specs.Prelude.{◌≡◌, ℕ, ◌+◌, List, length}
use Rattle.ring.specs.Marks.{armed}
use Rattle.ring.specs.Copies.{copied}
use Rattle.ring.specs.Only.{Same}

-- "stored alone since its slot was armed": the slot's bytes up to the maximum are those that arming left, b then being
-- the buffer, with the packet over their front
pub record StoredAlone (b : List ℕ) (at maximum : ℕ) (packet c : List ℕ) : Type 0 where
  pub long : length c ≡ length b
  pub slot : Same at (at + maximum) (copied (armed b at maximum) at packet) c
