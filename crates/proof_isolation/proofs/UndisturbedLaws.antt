-- Laws on the definitions of Undisturbed.antt
use Rattle.std.specs.Prelude.{Bool, List, [], ◌∷◌, ◌≡◌, ℕ}
use Rattle.std.proofs.Common.{ap}
use Rattle.proof_isolation.specs.Schedule.{Two, first, second, Turn, begins, goes, asked, stores, others_time}
use Rattle.proof_isolation.specs.Schedule.{turn}
use Rattle.proof_isolation.specs.Schedule.{first-refused, second-refused, after, May, After, Answered, Allowed}
use Rattle.proof_isolation.specs.Schedule.{Every}
use Rattle.proof_isolation.proofs.Standing.{At, at}
use Rattle.proof_isolation.proofs.StandingLaws.{at-time, at-stands, at-lined, at-alike, at-swap}
use Rattle.proof_isolation.proofs.PartingLaws.{parted}
use Rattle.proof_isolation.specs.Undisturbed.{Session, opened, Opens, AllOpen, Undisturbed}
use Rattle.script.specs.Calls.{Config, Op}
use Rattle.script.specs.Machine.{Buf, Event}
use Rattle.proof_isolation.specs.EqualExcept.{Channel}
use Rattle.proof_isolation.proofs.Runs.{goes_by, begins-by, asked_by_lem, stores-by}
use Rattle.proof_isolation.proofs.AloneLaws.{alone-by, refused-by}

-- ---- one turn

module _ (c : Channel) (share : Bool) (n : ℕ) where
  pub record Steps (t : Turn) (w : Two) : Type 0 where
    pub stand : At c w
    pub after_it : After c t w

  first_stands : {w : Two} → At c w → (d : Event Config Op) → May c (first d) w → At c (turn share n (first d) w)
  first_stands (at st i l q q' h k k' e) d m = alone-by c share n st i l q q' h k k' e d.call d.lent m

  refused_stands : {w : Two} → At c w → (v : ℕ) (b : Buf) → May c (first-refused v b) w
      → At c (turn share n (first-refused v b) w)
  refused_stands (at st i l q q' h k k' e) v b m = refused-by c share n st i l q q' h k k' e v b m

  stepped : (t : Turn) {w : Two} → At c w → Answered c t w → Steps t w
  stepped t y a = record {
    stand = y;
    after_it = record { answers = a; stands = at-stands y; lined = at-lined y; alike = at-alike y; time = at-time y };
  }

  pub step : (t : Turn) {w : Two} → At c w → May c t w → Steps t (turn share n t w)
  step (begins v o b b') (at st i l q q' h k k' e) m = let y = begins-by c share n st i l q q' k k' e v o b b' m in
      stepped (begins v o b b') y.stand y.answers
  step (goes v v' b b') (at st i l q q' h k k' e) m = let y = goes_by c share n st i l q q' k k' e v v' b b' m in
      stepped (goes v v' b b') y.stand y.answers
  step (asked v b b') (at st i l q q' h k k' e) m = let y = asked_by_lem c share n st i l q q' k k' e v b b' m in
      stepped (asked v b b') y.stand y.answers
  step (stores b b') (at st i l q q' h k k' e) m = stepped (stores b b')
      (stores-by c share n st i l q q' h k k' e b b' m) tt
  step (others_time f) (at st i l q q' h k k' e) m = stepped (others_time f) (at st i l q q' h k k' (ap f e)) tt
  step (first d) a m = stepped (first d) (first_stands a d m) tt
  step (second d) a m = stepped (second d) (at-swap (first_stands (at-swap a) d m)) tt
  step (first-refused v b) a m = stepped (first-refused v b) (refused_stands a v b m) tt
  step (second-refused v b) a m = stepped (second-refused v b) (at-swap (refused_stands (at-swap a) v b m)) tt

  -- every list of turns, from where they line up
  pub always : (ts : List Turn) {w : Two} → At c w → Allowed c share n ts w → Every c share n ts w
  always [] a m = tt
  always (t ∷ ts) a m = let s = step t a m.0 in (s.after_it, always ts s.stand m.1)

  pub stands_after : (ts : List Turn) {w : Two} → At c w → Allowed c share n ts w → At c (after share n ts w)
  stands_after [] a m = a
  stands_after (t ∷ ts) a m = stands_after ts (step t a m.0).stand m.1

-- ---- from start-ups on

module _ (share : Bool) (n : ℕ) where
  -- a start-up on whatever was before in each run makes them the same but for the channel's bytes
  pub opened-at : (s : Session) (w : Two) → w.first.time ≡ w.second.time → Opens share n s w
      → At s.channel (opened share n s w)
  opened-at s w e o = (parted share n s w e o).stand

  -- two runs with one record of the bus time, whatever was before
  pub undisturbed : (ss : List Session) (w : Two) → w.first.time ≡ w.second.time → AllOpen share n ss w
      → Undisturbed share n ss w
  undisturbed [] w e o = tt
  undisturbed (s ∷ ss) w e o =
      let a = opened-at s w e o.0 in (
        always s.channel share n s.turns a o.0.allowed,
        undisturbed ss _ (at-time (stands_after s.channel share n s.turns a o.0.allowed)) o.1,
      )
