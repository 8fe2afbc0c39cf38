-- An observer of the driver's calls. It is told each call and its answer, each access and the number brought for it,
-- the slot buffer as each call is lent it and as it leaves it, and nothing of the driver's state; from these it writes
-- its log, and by its log it judges the next answer and the next access
use Rattle.std.specs.Prelude.{Bool, true, false, List, [], ◌∷◌, ℕ, zero, suc}
use Rattle.regs.specs.declared.Access.{Access}
use Rattle.state.specs.Driver.{Driver}
use Rattle.script.specs.Answers.{Answer}
use Rattle.script.specs.Calls.{Config, Op, start_row}
use Rattle.script.specs.Machine.{Buf, Call, start, begin, continue, question, Event, Ans, ended, handed, told, Pending}
use Rattle.script.specs.Machine.{idle, busy, Machine}
use Rattle.machine.specs.Suspended.{drive}

pub record Observer : Type 1 where
  pub Log : Type 0
  pub before : Log  -- at start-up
  pub opens : Op → Buf → Log → Log  -- an operation begins; the slot buffer as it is lent to it
  -- an access, and the number brought for it; the slot buffer as the call left it that handed the access out
  pub saw : Log → Access → ℕ → Buf → Log
  pub closes : Op → Answer → Log → Log  -- a call ends
  -- what is claimed of a call's answer, and of the accesses that it hands out
  pub EndsByReason : Op → Answer → Log → Type 0
  pub Allowed : Op → Log → Access → Type 0
  pub Asks : Op → Access → Type 0
  -- what is claimed of the slot buffer: as an operation's begin leaves it that hands out an access; as each later call
  -- of the operation is lent it, and leaves it
  pub Loads : Op → Log → Buf → Type 0
  pub Spares : Op → Buf → Buf → Type 0
  -- what the driver's state shows, and what is claimed of it where nothing is under way
  pub View : Type 0
  pub view : Driver → View
  pub Stands : Log → View → Type 0

-- what is under way
pub data Under : Type 0 where
  at_rest : Under
  doing : Op → Access → Buf → Under  -- an operation, at an access; the slot buffer as it was left then
  starting : Under

abbrev pub serves : Pending Answer Driver → Bool
serves idle = false
serves (busy i a k) = true

module _ (O : Observer) where
  pub record Watched : Type 0 where
    pub log : O.Log
    pub under : Under

  abbrev pub watched : O.Log → Under → Watched
  watched w u = record { log = w; under = u }

  -- ---- the log of a run

  abbrev pub started_by : Ans Answer → Watched
  started_by (ended a) = watched O.before at_rest
  started_by (handed q) = watched O.before starting
  started_by (told n) = watched O.before at_rest

  -- l: the slot buffer as the call left it
  abbrev pub begun_by : Op → Buf → Buf → Ans Answer → O.Log → Watched
  begun_by o b l (ended a) w = watched (O.closes o a (O.opens o b w)) at_rest
  begun_by o b l (handed q) w = watched (O.opens o b w) (doing o q l)
  begun_by o b l (told n) w = watched w at_rest

  abbrev pub gone_by : Op → Buf → Ans Answer → O.Log → Watched
  gone_by o l (ended a) w = watched (O.closes o a w) at_rest
  gone_by o l (handed q) w = watched w (doing o q l)
  gone_by o l (told n) w = watched w at_rest

  -- a refused continue leaves the operation where it is
  abbrev pub went_on : ℕ → Buf → Ans Answer → Bool → O.Log → Under → Watched
  went_on v l a still w at_rest = watched w at_rest
  went_on v l (ended a) true w (doing o q x) = watched w (doing o q x)
  went_on v l (ended a) false w (doing o q x) = gone_by o l (ended a) (O.saw w q v x)
  went_on v l (handed p) still w (doing o q x) = gone_by o l (handed p) (O.saw w q v x)
  went_on v l (told n) still w (doing o q x) = watched w (doing o q x)
  went_on v l a true w starting = watched w starting
  went_on v l a false w starting = watched w at_rest

  abbrev pub begins_by : Op → Buf → Buf → Ans Answer → O.Log → Under → Watched
  begins_by o b l a w at_rest = begun_by o b l a w
  begins_by o b l a w (doing p q x) = watched w (doing p q x)
  begins_by o b l a w starting = watched w starting

  abbrev pub starts_by : ℕ → Ans Answer → Watched → Watched
  starts_by zero a x = started_by a
  starts_by (suc n) a x = x

  -- a call, the slot buffer as it was lent and as it was left, its answer, whether an operation is under way after it
  abbrev pub noted : Call Config Op → Buf → Buf → Ans Answer → Bool → Watched → Watched
  noted (start c) b l a still x = starts_by (start_row c b) a x
  noted (begin o) b l a still x = begins_by o b l a x.log x.under
  noted (continue v) b l a still x = went_on v l a still x.log x.under
  noted (question q) b l a still x = x

  -- ---- what is claimed of a call

  abbrev pub ClaimAt : Op → Ans Answer → O.Log → Type 0
  ClaimAt o (ended a) w = O.EndsByReason o a w
  ClaimAt o (handed q) w = O.Allowed o w q × O.Asks o q
  ClaimAt o (told n) w = Unit {0}

  abbrev pub ClaimGone : ℕ → Buf → Buf → Ans Answer → Bool → O.Log → Under → Type 0
  ClaimGone v b l a still w at_rest = Unit {0}
  ClaimGone v b l (ended a) true w (doing o q x) = Unit {0}
  ClaimGone v b l (ended a) false w (doing o q x) = ClaimAt o (ended a) (O.saw w q v x) × O.Spares o b l
  ClaimGone v b l (handed p) still w (doing o q x) = ClaimAt o (handed p) (O.saw w q v x) × O.Spares o b l
  ClaimGone v b l (told n) still w (doing o q x) = Unit {0}
  ClaimGone v b l a still w starting = Unit {0}

  abbrev pub ClaimLoaded : Op → Buf → Ans Answer → O.Log → Type 0
  ClaimLoaded o l (ended a) w = Unit {0}
  ClaimLoaded o l (handed q) w = O.Loads o w l
  ClaimLoaded o l (told n) w = Unit {0}

  abbrev pub ClaimBegun : Op → Buf → Buf → Ans Answer → O.Log → Under → Type 0
  ClaimBegun o b l a w at_rest = ClaimAt o a (O.opens o b w) × ClaimLoaded o l a (O.opens o b w)
  ClaimBegun o b l a w (doing p q x) = Unit {0}
  ClaimBegun o b l a w starting = Unit {0}

  abbrev pub Claim : Call Config Op → Buf → Buf → Ans Answer → Bool → Watched → Type 0
  Claim (start c) b l a still x = Unit {0}
  Claim (begin o) b l a still x = ClaimBegun o b l a x.log x.under
  Claim (continue v) b l a still x = ClaimGone v b l a still x.log x.under
  Claim (question q) b l a still x = Unit {0}

  -- where nothing is under way
  abbrev pub Standing : Driver → O.Log → Under → Type 0
  Standing d w at_rest = O.Stands w (O.view d)
  Standing d w (doing o q l) = Unit {0}
  Standing d w starting = Unit {0}

  -- ---- a list of calls

  abbrev pub All : List (Event Config Op) → Machine Answer Driver → Watched → Type 0
  All [] m x = Unit {0}
  All (e ∷ es) m x =
      let y = drive e.call m e.lent in
      let z = noted e.call e.lent y.1.buf y.0 (serves y.1.under_way_lem) x in
      Claim e.call e.lent y.1.buf y.0 (serves y.1.under_way_lem) x
      × Standing y.1.st z.log z.under
      × All es y.1 z
