-- Where a store is seen the two runs do not line up: what `seen_parts` says of them (SeenLaws.antt)
use Rattle.std.specs.Prelude.{Bool, true, false, List, [], ◌∷◌, ◌≡◌, ℕ, ◌<◌}
use Rattle.script.specs.Calls.{Config, Op}
use Rattle.script.specs.Machine.{Event}
use Rattle.proof_isolation.specs.EqualExcept.{Channel}
use Rattle.proof_isolation.specs.Whose.{own}
use Rattle.proof_isolation.specs.Schedule.{Run, Two, called, SameStand}
use Rattle.proof_isolation.specs.Late.{Item, lights_of, AnyStore, Serving, gone, lits, items}

-- it stands at an access made for OUT e, by the test that says whose access it is (Whose.antt)
pub record StandsFor (e : ℕ) (r : Run) : Type 0 where
  pub is : own e r.access r.machine ≡ true

module _ (share : Bool) (n : ℕ) where
  -- it stands at no access made for OUT e, and whatever calls it gets, whatever they bring and are lent, it hands out
  -- none as long as this interrupt is under way
  abbrev pub NoneFor : ℕ → List (Event Config Op) → Run → Type 0
  NoneFor e [] r = own e r.access r.machine ≡ false
  NoneFor e (d ∷ ds) r = (own e r.access r.machine ≡ false)
      × (Serving (called share n d.call d.lent r).machine.under_way_lem
      → NoneFor e ds (called share n d.call d.lent r))

  -- Two runs at an access that is not made for the channel; the late one's continue comes to an access of the channel's
  -- own, with the others' stores first it does not. Then there is another isochronous OUT endpoint, below the channel,
  -- of which:
  pub record Parts (c : Channel) (v v' : ℕ) (es : List Item) (w : Two) : Type 0 where
    pub stores : AnyStore (lights_of es)
    pub endpoint : ℕ
    pub below : endpoint < c.number
    -- with what the others get first, the late run's continue comes to an access made for it
    pub stands : StandsFor endpoint (gone share n v (lits share n (lights_of es) w.first))
    -- so does the other run, which gets it first, and to the same
    pub other : StandsFor endpoint (gone share n v' (items share n es w.second))
    pub same : SameStand
        (gone share n v (lits share n (lights_of es) w.first)).machine.under_way_lem
        (gone share n v' (items share n es w.second)).machine.under_way_lem
        (gone share n v (lits share n (lights_of es) w.first)).access
        (gone share n v' (items share n es w.second)).access
    -- the late run comes to none in the rest of this interrupt
    pub none : (ds : List (Event Config Op)) → NoneFor endpoint ds (gone share n v w.first)
