-- "One channel's data can't disturb another" (request Fourteen), over two lists of calls
use Rattle.std.specs.Prelude.{Bool, true, List, [], ◌∷◌, ◌≢◌, ◌≡◌, ℕ, zero, length, get_or}
use Rattle.state.specs.Driver.{Driver}
use Rattle.script.specs.Answers.{Answer}
use Rattle.script.specs.Calls.{Config, Op, start_row}
use Rattle.script.specs.Machine.{Buf, Call, start, Pending, idle, busy}
use Rattle.proof_book.specs.MachineRuns.{Premise}
use Rattle.proof_book.specs.Sorting.{sorts_of}
use Rattle.proof_isolation.specs.EqualExcept.{Channel}
use Rattle.proof_isolation.specs.Stores.{Outside}
use Rattle.proof_isolation.specs.Schedule.{Run, Two, Parallel, gets_both, shares_both, first_of, second_of}
use Rattle.proof_isolation.specs.Schedule.{Turn, sharing}
use Rattle.proof_isolation.specs.Schedule.{called, given, heeded, after, unfit, Allowed}
use Rattle.proof_isolation.specs.Schedule.{Every}
use Rattle.proof_isolation.specs.FreshBook.{fresh_book}

-- ---- the two runs

-- what both get from a start-up on: the same calls, each run with its slot buffer, and then turns, by which the
-- channel's data may differ
pub record Session : Type 0 where
  pub config : Config
  pub lent : Buf
  pub lent' : Buf
  pub before : List Parallel
  pub channel : Channel
  pub turns : List Turn

-- EP0's start has not come to its end
abbrev pub Unstarted : Pending Answer Driver → Driver → Type 0
Unstarted idle d = d.globals.stage ≢ 2
Unstarted (busy i a k) d = Unit {0}

module _ (share : Bool) (n : ℕ) where
  -- after the start-up
  abbrev pub started_up : Config → Buf → Run → Run
  started_up k b r = called share n (start k) b r

  -- and the calls that are the same
  abbrev pub opened : Session → Two → Two
  opened s w = record {
    first = given share n (first_of s.before) (started_up s.config s.lent w.first);
    second = given share n (second_of s.before) (started_up s.config s.lent' w.second);
    status = 0;
  }

  -- of channel c, whose slots lie where they lie in driver d
  module _ (c : Channel) (d : Driver) where
    -- two slot buffers that are the same outside of its slots
    pub record SameOutside (b b' : Buf) : Type 0 where
      pub long : length b' ≡ length b
      pub same : (k : ℕ) → Outside c d k → get_or b' k 0 ≡ get_or b k 0

    -- what a call is lent in the two runs: row 1 refuses it in both; or the same outside of the channel's slots
    pub data LentBoth (f : Call Config Op) (b b' : Buf) (r r' : Run) : Type 0 where
      both_unfit : unfit f r b ≡ true → unfit f r' b' ≡ true → LentBoth f b b' r r'
      both_lent : SameOutside b b' → LentBoth f b b' r r'

    -- each call falls before the end of EP0's start
    abbrev pub Early : List Parallel → Run → Run → Type 0
    Early [] r r' = Unit {0}
    Early (gets_both f b b' ∷ ps) r r' = Unstarted r.machine.under_way_lem r.machine.st × LentBoth f b b' r r'
        × Early ps (called share n f b r) (called share n f b' r')
    Early (shares_both g ∷ ps) r r' = Early ps (sharing g r) (sharing g r')

    -- the two are lent the same from the start-up on, whose buffers are b and b'; or "bytes stored in the slots" of the
    -- channel differ, and they part as EP0's start ends, the second being under demand 3's premise too
    pub data AlikeBefore (k : Config) (b b' : Buf) (ps : List Parallel) (r r' : Run) : Type 0 where
      one_list : b' ≡ b → second_of ps ≡ first_of ps → AlikeBefore k b b' ps r r'
      own_bytes : SameOutside b b' → Early ps r r'
          → Premise (heeded share n (second_of ps) r') r'.machine (fresh_book k b' r'.answer)
          → AlikeBefore k b b' ps r r'

  -- rows 1 and 2 do not stop the start-up; the list is one of demand 3's premise, and comes to a point after EP0's
  -- start with nothing under way; the channel is an isochronous OUT endpoint of the run; what the second run is lent up
  -- to there is alike; and the turns are allowed
  pub record Opens (s : Session) (w : Two) : Type 0 where
    pub accepted : start_row s.config s.lent ≡ zero
    pub lawful : let r = started_up s.config s.lent w.first in
        Premise (heeded share n (first_of s.before) r) r.machine (fresh_book s.config s.lent r.answer)
    pub rests : (opened s w).first.machine.under_way_lem ≡ idle
    pub stage : (opened s w).first.machine.st.globals.stage ≡ 2
    pub sorts : s.channel.iso ≡ sorts_of (opened s w).first.machine.st
    pub alike : AlikeBefore s.channel (opened s w).first.machine.st s.config s.lent s.lent' s.before
        (started_up s.config s.lent w.first) (started_up s.config s.lent' w.second)
    pub allowed : Allowed s.channel share n s.turns (opened s w)

  -- start-ups later on begin both anew
  abbrev pub AllOpen : List Session → Two → Type 0
  AllOpen [] w = Unit {0}
  AllOpen (s ∷ ss) w = Opens s w × AllOpen ss (after share n s.turns (opened s w))

  abbrev pub Undisturbed : List Session → Two → Type 0
  Undisturbed [] w = Unit {0}
  Undisturbed (s ∷ ss) w = Every s.channel share n s.turns (opened s w)
      × Undisturbed ss (after share n s.turns (opened s w))
