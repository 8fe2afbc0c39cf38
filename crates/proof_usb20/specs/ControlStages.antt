-- The observer of endpoint 0. ControlStagesLaws.antt proves: control stages equal USB 2.0's, over EVERY list of calls
-- from an accepted start-up
use Rattle.script.specs.AddressWrites.{Writes}
use Rattle.script.specs.AddressCalls.{Addresses}
use Rattle.proof_usb20.specs.Log.{Log, before, opens, saw, closes, Armed, EndsByReason, Allowed, Loads, Spares}
use Rattle.proof_usb20.specs.Observer.{Observer}
use Rattle.proof_usb20.specs.Ep0.{View, view}

-- the observer of EP0: by its log EP0's words are as the pipe says, a poll is done exactly after the completion, and an
-- address is written by an accept's poll alone, after its completion, or is 0 at a bus reset
abbrev pub control : Observer
control = record {
  Log = Log;
  before = before;
  opens = opens;
  saw = saw;
  closes = closes;
  EndsByReason = EndsByReason;
  Allowed = Allowed;
  Asks = λ o q. Writes (Addresses o) q;
  Loads = Loads;
  Spares = Spares;
  View = View;
  view = view;
  Stands = λ w x. Armed w;
}
