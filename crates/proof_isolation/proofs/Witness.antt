-- Two runs that meet the premise of request Fourteen (`premise`), computed by the check: `undisturbed` speaks of runs
-- in which something happens (`holds`). Both get a start-up, two isochronous OUT endpoints, EP0's start, both enabled.
-- They differ in the bytes stored in the slots of the channel, OUT 1, in the lengths reported for its packets, in its
-- opens and closes, and in the accesses made for it:
-- - an interrupt for OUT 1, with 1 2 3 4 in its slot in the first run and 9 8 7 in the second, and the lengths 4 and 3;
--   5 5 in OUT 2's slot, in both, is admitted late, by the marks; the tasks of both endpoints are woken up, in both;
-- - the first opens the channel's packet and closes it, the second does not;
-- - an interrupt for OUT 2, with 7 8 in its slot, in both; in the first run 6 6 6 is in OUT 1's slot, which is late:
--   this run has two accesses of the channel's own and the channel's wake-up, and the second has neither.
-- In the end another packet waits on OUT 1 in each; on OUT 2 the same two wait, and its wake-up is the same. What waits
-- and who is woken up is computed at three moments (`happens`)
use Rattle.std.specs.Prelude.{true, false, List, [], ◌∷◌, ◌≡◌, refl, ℕ, zero, suc, take}
use Rattle.std.proofs.Common.{ap, ◌∙◌}
use Rattle.regs.specs.declared.Access.TheVariants.{Wait}
use Rattle.regs.specs.declared.Dir.TheVariants.{Out}
use Rattle.state.specs.Driver.{ep_on}
use Rattle.ring.specs.Waiting.{waiting}
use Rattle.script.specs.Answers.{Answer, Refused, End, NotYet, Done, Shown}
use Rattle.script.specs.Calls.{Config, Op, slotted, other, SetEnabled, Allocate, Start}
use Rattle.script.specs.Machine.{Buf, Call, begin, continue, Ans, ended, handed, told, idle}
use Rattle.machine.specs.Suspended.{driver_of}
use Rattle.proof_book.specs.FrontPage.{lens_of}
use Rattle.proof_book.specs.Computing.{computing}
use Rattle.proof_isolation.specs.Schedule.{Run, Two, after}
use Rattle.proof_isolation.specs.Undisturbed.{Session, opened, AllOpen, Undisturbed}
use Rattle.proof_isolation.proofs.UndisturbedLaws.{undisturbed}
use Rattle.proof_isolation.specs.Moves.{Move, serves, reads, stored, stored_both, first_Goes, second-goes}
use Rattle.proof_isolation.specs.Moves.{first-opens, first-closes}
use Rattle.proof_isolation.specs.Once.{parting}
use Rattle.proof_isolation.proofs.OnceLaws.{quick_last, quick_set_up, Passes, session, opens, after_is}

-- ---- what is done

abbrev continues : ℕ → List (Call Config Op) → List (Call Config Op)
continues zero cs = cs
continues (suc n) cs = continue 0 ∷ continues n cs

abbrev zeros : ℕ → List ℕ
zeros zero = []
zeros (suc n) = 0 ∷ zeros n

-- size 64, which EP0 needs; 16 slots for OUT 1 and for OUT 2, one for EP0
abbrev pub config : Config
config = record { size = 64; count = 33; callback = false }

abbrev pub buffer : Buf
buffer = zeros 2112

-- OUT 1 and OUT 2, isochronous, of at most 8 bytes; EP0; both enabled. Continues after an operation's end are refused
-- by row 15
abbrev pub setting : List (Call Config Op)
setting =
    continues 8 (begin (other (Allocate Out 1 1 8 1)) ∷
    continues 3 (begin (other (Allocate Out 1 2 8 1)) ∷
    continues 3 (begin (other (Start 64)) ∷
    continues 6 (begin (slotted (SetEnabled Out 1 true)) ∷
    continues 20 (begin (slotted (SetEnabled Out 2 true)) ∷ continues 20 [])))))

-- an interrupt with status st begins: frame 8; a transfer; the SIE free; the status; the lengths; the flag released;
-- frame 8
abbrev pub serving : ℕ → ℕ → ℕ → List Move → List Move
serving st len len' ms =
    serves st ∷ reads 8 8 ∷ reads 2 2 ∷ reads 1 1 ∷ reads st st ∷ reads len len' ∷ reads 0 0 ∷ reads 8 8 ∷ ms

-- 65: OUT 1, tog_ok. The channel's receive address, in each run; OUT 2's check and its receive address
abbrev pub arrives : List Move → List Move
arrives ms =
    stored 1 (1 ∷ 2 ∷ 3 ∷ 4 ∷ []) 1 (9 ∷ 8 ∷ 7 ∷ []) ∷ stored_both 2 (5 ∷ 5 ∷ []) ∷
    serving 65 4 3 (first_Goes 0 ∷ second-goes 0 ∷ reads 65 65 ∷ reads 0 0 ∷ ms)

-- 66: OUT 2, tog_ok. The channel's check and its receive address, in the first; OUT 2's receive address
abbrev arrives_late : List Move → List Move
arrives_late ms =
    stored 1 (6 ∷ 6 ∷ 6 ∷ []) 1 [] ∷ stored_both 2 (7 ∷ 8 ∷ []) ∷
    serving 66 2 2 (first_Goes 66 ∷ first_Goes 0 ∷ reads 0 0 ∷ ms)

abbrev pub moves : List Move
moves = arrives (first-opens ∷ first-closes ∷ arrives_late [])

abbrev pub blank : Run
blank = record {
  machine = record { under_way_lem = idle; st = driver_of.fresh config; buf = [] };
  access = Wait 0;
  answer = ended NotYet;
  time = [];
}

-- ---- what is seen of a run

abbrev wakes_in : Answer → List ℕ
wakes_in (End n l) = l
wakes_in (Refused n) = []
wakes_in NotYet = []
wakes_in (Done bytes) = []
wakes_in (Shown bytes n) = []

abbrev wakes_of : Ans Answer → List ℕ
wakes_of (ended a) = wakes_in a
wakes_of (handed q) = []
wakes_of (told n) = []

abbrev waiting_on : ℕ → Run → List (List ℕ)
waiting_on e r = waiting r.machine.buf (ep_on r.machine.st Out e) (lens_of r.machine.st Out e)

-- the packets that wait on OUT 1 and on OUT 2, and the wake-ups that were answered last (17: OUT 1's, 18: OUT 2's)
pub record Witnessed : Type 0 where
  pub channel : List (List ℕ)
  pub other : List (List ℕ)
  pub wakes : List ℕ

abbrev pub seen_of : Run → Witnessed
seen_of r = record { channel = waiting_on 1 r; other = waiting_on 2 r; wakes = wakes_of r.answer }

abbrev pub both_seen : Two → Witnessed × Witnessed
both_seen w = (seen_of w.first, seen_of w.second)

-- ---- the two meet the premise

pub passes : Passes config buffer setting moves blank
unfolding computing
passes = refl

abbrev pub pair : Session
pair = session config buffer setting moves blank passes

pub premise : AllOpen false 0 (pair ∷ []) (parting blank)
premise = (opens config buffer setting moves blank passes, tt)

-- what request Fourteen says of them, after every turn
pub holds : Undisturbed false 0 (pair ∷ []) (parting blank)
holds = undisturbed false 0 (pair ∷ []) (parting blank) refl premise

-- ---- what happens

-- after the first interrupt; after the channel's packet was closed; in the end
pub data Moment : Type 0 where
  admitted closed last : Moment

abbrev pub turns_by : Moment → ℕ
turns_by admitted = 14
turns_by closed = 16
turns_by last = 29

-- both runs then
abbrev pub seen_by : Moment → Witnessed × Witnessed
seen_by admitted = (
  record { channel = (1 ∷ 2 ∷ 3 ∷ 4 ∷ []) ∷ []; other = (5 ∷ 5 ∷ []) ∷ []; wakes = 17 ∷ 18 ∷ [] },
  record { channel = (9 ∷ 8 ∷ 7 ∷ []) ∷ []; other = (5 ∷ 5 ∷ []) ∷ []; wakes = 17 ∷ 18 ∷ [] },
)
seen_by closed = (
  record { channel = []; other = (5 ∷ 5 ∷ []) ∷ []; wakes = 17 ∷ 18 ∷ [] },
  record { channel = (9 ∷ 8 ∷ 7 ∷ []) ∷ []; other = (5 ∷ 5 ∷ []) ∷ []; wakes = 17 ∷ 18 ∷ [] },
)
seen_by last = (
  record { channel = (6 ∷ 6 ∷ 6 ∷ []) ∷ []; other = (5 ∷ 5 ∷ []) ∷ (7 ∷ 8 ∷ []) ∷ []; wakes = 17 ∷ 18 ∷ [] },
  record { channel = (9 ∷ 8 ∷ 7 ∷ []) ∷ []; other = (5 ∷ 5 ∷ []) ∷ (7 ∷ 8 ∷ []) ∷ []; wakes = 18 ∷ [] },
)

computed : (p : Moment)
    → (let w = quick_last 1 (take (turns_by p) moves) (parting (quick_set_up config buffer setting moves blank)) in
    both_seen w) ≡ seen_by p
unfolding computing
computed admitted = refl
computed closed = refl
computed last = refl

pub happens : (p : Moment)
    → both_seen (after false 0 (take (turns_by p) pair.turns) (opened false 0 pair (parting blank))) ≡ seen_by p
happens p = ap both_seen (after_is config buffer setting moves blank passes (turns_by p)) ∙ computed p
