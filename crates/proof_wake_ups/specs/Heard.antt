-- The driver beside a record of its scripts' wake-ups since the operation's begin: all of them, in their order, however
-- many. What its ends give is what document 02 asks for; the driver itself has room for 64
use Rattle.std.specs.Prelude.{List, [], ◌++◌, ℕ}
use Rattle.state.specs.Driver.{Driver}
use Rattle.script.specs.Script.{Ops, Fetch, oldest, received, received0, gathered, Act}
use Rattle.script.specs.Acts.{on_wakes}
use Rattle.script.specs.Machine.{Buf}
use Rattle.script_ops.specs.Rings.{St}
use Rattle.script_ops.specs.Concrete.{concrete}

abbrev pub Heard : Type 0
Heard = Driver × List ℕ

abbrev pub Hst : Type 0
Hst = Heard × Buf

-- the driver and the buffer
abbrev pub bare : Hst → St
bare t = (t.0.0, t.1)

-- these changed, the record as it was
abbrev pub onto : Hst → St → Hst
onto t s = ((s.0, t.0.1), s.1)

-- the record after a change: a begin has none, and each wake-up stands last
abbrev pub recorded : Act → List ℕ → List ℕ
recorded q l = on_wakes [] (λ codes. l ++ codes) l q

abbrev pub fetch_heard : Fetch → Hst → List ℕ
fetch_heard gathered t = t.0.1
fetch_heard (oldest e) t = concrete.fetch (oldest e) (bare t)
fetch_heard (received e n) t = concrete.fetch (received e n) (bare t)
fetch_heard (received0 n) t = concrete.fetch (received0 n) (bare t)

abbrev pub heard_ops : Ops Hst
heard_ops = record {
  get = λ c t. concrete.get c (bare t);
  put = λ c v t. onto t (concrete.put c v (bare t));
  is = λ q t. concrete.is q (bare t);
  look = λ q t. concrete.look q (bare t);
  fetch = fetch_heard;
  act = λ q t. (((concrete.act q (bare t)).0, recorded q t.0.1), (concrete.act q (bare t)).1);
  hand = λ q t. ((concrete.hand q (bare t)).0, onto t (concrete.hand q (bare t)).1);
  row = λ g n t. ((concrete.row g n (bare t)).0, onto t (concrete.row g n (bare t)).1);
}
