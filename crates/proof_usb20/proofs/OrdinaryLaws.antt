-- Nothing of an ordinary transfer is exempt: from a setup packet on, the log of a control read, a control write, a
-- transfer without data and one that is rejected, of any number of packets, of any length, the last ACK lost or not,
-- the last packet OUT seen or hidden, is never exempt, and ends with its stage over; nor is it where the function takes
-- its time and interrupts show tokens of EP0 that were answered with NAK
use Rattle.std.specs.Prelude.{Bool, true, false, ◌||◌, List, [], ◌∷◌, ◌≡◌, refl, ℕ}
use Rattle.std.proofs.Common.{ap}
use Rattle.regs.specs.declared.Dir.{Dir}
use Rattle.regs.specs.declared.Dir.TheVariants.{Out, In}
use Rattle.proof_usb20.specs.Pipe.{naks, data_ready, Event, packet, token, Setting, keeps, Choice, takes, gives}
use Rattle.proof_usb20.specs.Pipe.{confirms, rejects, over}
use Rattle.proof_usb20.specs.Log.{Log, is_stage, happens, set_up, choose}

-- the bus moves, or the function does
pub data Move : Type 0 where
  bus : Event → Move
  says : Choice → Move

abbrev pub moved : Move → Log → Log
moved (bus e) w = happens e w
moved (says c) w = choose c w

abbrev pub play : List Move → Log → Log
play [] w = w
play (m ∷ ms) w = play ms (moved m w)

-- a transaction that is complete: its packet, and its token
abbrev sends : List Move → List Move
sends ms = bus (packet In) ∷ bus (token In) ∷ ms

abbrev takes_one : List Move → List Move
takes_one ms = bus (packet Out) ∷ bus (token Out) ∷ ms

-- a control read of packets of these lengths, the last of n bytes; `lost`: no ACK of the last one came, and the status
-- stage's token tells
abbrev pub last_sent : Bool → List Move
last_sent true = takes_one []
last_sent false = sends (takes_one [])

abbrev pub control_read : Bool → List ℕ → ℕ → Bool → List Move
control_read first [] n lost = says (gives n first true) ∷ last_sent lost
control_read first (m ∷ ms) n lost = says (gives m first false) ∷ sends (control_read false ms n lost)

-- a control write of so many packets and one more; `hidden`: no interrupt tells of the last one, and the status stage's
-- first token does, which is answered with NAK
abbrev pub last_taken : Bool → List Move → List Move
last_taken true ms = bus (token In) ∷ ms
last_taken false ms = takes_one ms

abbrev pub control_write : Bool → List ℕ → Bool → List Move
control_write first [] hidden = says (takes first) ∷ last_taken hidden (says (confirms keeps) ∷ sends [])
control_write first (m ∷ ms) hidden = says (takes first) ∷ takes_one (control_write false ms hidden)

-- `s`: of a Set Address, or of another request
abbrev pub no_data : Setting → List Move
no_data s = says (confirms s) ∷ sends []

-- not exempt, and over
abbrev pub Ordinary : Log → Type 0
Ordinary w = (w.exempt ≡ false) × (over w.awaits w.pipe ≡ true)

reads_on : (first lost : Bool) (ms : List ℕ) (n : ℕ) (w : Log) → w.exempt ≡ false → first || w.pipe.inn.begun ≡ true
    → data_ready w.pipe.out.answers ≡ false → Ordinary (play (control_read first ms n lost) w)
reads_on first true [] n w e b d = (rw (e, b, d) refl, refl)
reads_on first false [] n w e b d = (rw (e, b, d) refl, refl)
reads_on first lost (m ∷ ms) n w e b d = reads_on false lost ms n _ (rw (e, b) refl) refl (rw d d)

writes-on : (first hidden : Bool) (ms : List ℕ) (w : Log) → w.exempt ≡ false → first || w.pipe.out.begun ≡ true
    → data_ready w.pipe.inn.answers ≡ false → Ordinary (play (control_write first ms hidden) w)
writes-on first true [] w e b d = (rw (e, b, d) refl, refl)
writes-on first false [] w e b d = (rw (e, b, d) (rw d refl), refl)
writes-on first hidden (m ∷ ms) w e b d = writes-on false hidden ms _ (rw (e, b) refl) refl (rw d d)

-- whatever was before the setup packet
pub ordinary-read : (w : Log) (ms : List ℕ) (n : ℕ) (lost : Bool)
    → Ordinary (play (control_read true ms n lost) (set_up w))
ordinary-read w ms n lost = reads_on true lost ms n (set_up w) refl refl refl

pub ordinary-write : (w : Log) (ms : List ℕ) (hidden : Bool) → Ordinary (play (control_write true ms hidden) (set_up w))
ordinary-write w ms hidden = writes-on true hidden ms (set_up w) refl refl refl

pub ordinary-no-data : (w : Log) (s : Setting) → Ordinary (play (no_data s) (set_up w))
ordinary-no-data w s = (refl, refl)

pub ordinary-reject : (w : Log) → (play (says rejects ∷ []) (set_up w)).exempt ≡ false
ordinary-reject w = refl

-- ---- a function that takes its time

-- transactions that were answered with NAK, and are shown
abbrev pub nakked : List Dir → List Move → List Move
nakked [] ms = ms
nakked (d ∷ ds) ms = bus (packet d) ∷ bus (token d) ∷ nakked ds ms

-- nothing is ready, and no stage's request is there
record Thinks (w : Log) : Type 0 where
  exempt : w.exempt ≡ false
  out : w.pipe.out.answers ≡ naks
  inn : w.pipe.inn.answers ≡ naks
  request : is_stage w.request ≡ false

thinks-on : (d : Dir) (w : Log) → Thinks w → Thinks (moved (bus (token d)) (moved (bus (packet d)) w))
thinks-on Out w t = record {
  exempt = rw (t.exempt, t.out, t.request) refl;
  out = rw t.out refl;
  inn = rw t.inn refl;
  request = t.request;
}
thinks-on In w t = record {
  exempt = rw (t.exempt, t.inn, t.request) refl;
  out = rw t.out refl;
  inn = rw t.inn refl;
  request = t.request;
}

slowly : (ds : List Dir) (ms : List Move) (w : Log) → Thinks w → ((u : Log) → Thinks u → Ordinary (play ms u))
    → Ordinary (play (nakked ds ms) w)
slowly [] ms w t f = f w t
slowly (d ∷ ds) ms w t f = slowly ds ms _ (thinks-on d w t) f

pub slow-read : (w : Log) → is_stage w.request ≡ false → (ds : List Dir) (ms : List ℕ) (n : ℕ) (lost : Bool)
    → Ordinary (play (nakked ds (control_read true ms n lost)) (set_up w))
slow-read w h ds ms n lost = slowly ds (control_read true ms n lost) (set_up w)
    (record { exempt = refl; out = refl; inn = refl; request = h })
    (λ u t. reads_on true lost ms n u t.exempt refl (ap data_ready t.out))

pub slow-write : (w : Log) → is_stage w.request ≡ false → (ds : List Dir) (ms : List ℕ) (hidden : Bool)
    → Ordinary (play (nakked ds (control_write true ms hidden)) (set_up w))
slow-write w h ds ms hidden = slowly ds (control_write true ms hidden) (set_up w)
    (record { exempt = refl; out = refl; inn = refl; request = h })
    (λ u t. writes-on true hidden ms u t.exempt refl (ap data_ready t.inn))
