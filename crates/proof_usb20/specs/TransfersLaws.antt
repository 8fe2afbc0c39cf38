-- The pipe's definitions checked against 8.5.3 itself: a control read, a control write and a transfer without data,
-- packet by packet, each in order and ready
use Rattle.std.specs.Prelude.{Bool, true, false, ◌≡◌, refl, ℕ, zero, suc}
use Rattle.std.proofs.Common.{ap}
use Rattle.regs.specs.declared.Dir.{Dir}
use Rattle.regs.specs.declared.Dir.TheVariants.{Out, In}
use Rattle.script.specs.Usb20Toggles.{other}
use Rattle.script.specs.Usb20Control.{data_pid, status_pid}
use Rattle.proof_usb20.specs.Pipe.{data-stage, status-stage, naks, stalls, acks, is_ready, half, Pipe, Setting}
use Rattle.proof_usb20.specs.Pipe.{setup, packet, token, after, Choice, takes, gives, confirms, rejects}
use Rattle.proof_usb20.specs.Pipe.{chosen, orderly, given, confirmed, over}

-- packet k of a data stage is ready, the k before it went through
abbrev pub stage : (Bool → Choice) → Dir → Pipe → ℕ → Pipe
stage c d p zero = chosen (c true) (after setup p)
stage c d p (suc k) = chosen (c false) (after (packet d) (stage c d p k))

-- a control read's packets, of n bytes each
abbrev reads : ℕ → Bool → Choice
reads n first = gives n first false

module _ (p : Pipe) (n : ℕ) where
  -- a control read: packet k has DATA1, DATA0, ..; the other direction answers NAK
  pub read-ready : (k : ℕ)
      → ((stage (reads n) In p k).inn.answers ≡ acks data-stage) × ((stage (reads n) In p k).out.answers ≡ naks)
  read-ready zero = (refl, refl)
  read-ready (suc k) = (refl, (read-ready k).1)

  pub read-pid : (k : ℕ) → (stage (reads n) In p k).inn.bit ≡ data_pid k
  read-pid zero = refl
  read-pid (suc k) = rw (read-ready k).0 (ap other (read-pid k))

  -- its last packet: the status stage OUT is ready with it, DATA1; the transfer is over after both
  abbrev last : ℕ → Pipe
  last k = chosen (gives n false true) (after (packet In) (stage (reads n) In p k))

  pub read-status : (k : ℕ)
      → ((last k).out.answers ≡ acks status-stage) × ((last k).out.bit ≡ status_pid)
      × ((last k).inn.bit ≡ data_pid (suc k))
  read-status k = (refl, refl, rw (read-ready k).0 (ap other (read-pid k)))

  pub read-over : (k : ℕ)
      → (over (given true) (after (packet In) (last k)) ≡ false)
      × (over (given true) (after (packet Out) (after (packet In) (last k))) ≡ true)
  read-over k = (refl, refl)

  -- where the last ACK was lost, the status stage's token says that the data went through (8.5.3.3)
  pub read-lost : (k : ℕ) → over (given true) (after (token Out) (after (packet Out) (last k))) ≡ true
  read-lost k = refl

  -- a control write
  pub write-ready : (k : ℕ) → (stage takes Out p k).out.answers ≡ acks data-stage
  write-ready zero = refl
  write-ready (suc k) = refl

  pub write-pid : (k : ℕ) → (stage takes Out p k).out.bit ≡ data_pid k
  write-pid zero = refl
  write-pid (suc k) = rw (write-ready k) (ap other (write-pid k))

  abbrev accepted : Setting → ℕ → Pipe
  accepted s k = chosen (confirms s) (after (packet Out) (stage takes Out p k))

  pub write-status : (s : Setting) (k : ℕ)
      → ((accepted s k).inn.answers ≡ acks status-stage) × ((accepted s k).inn.bit ≡ status_pid)
      × (over (confirmed s) (accepted s k) ≡ false) × (over (confirmed s) (after (packet In) (accepted s k)) ≡ true)
  write-status s k = (refl, refl, refl, refl)

  -- none
  pub none-status : (s : Setting)
      → ((chosen (confirms s) (after setup p)).inn.answers ≡ acks status-stage)
      × ((chosen (confirms s) (after setup p)).inn.bit ≡ status_pid)
  none-status s = (refl, refl)

  -- all in order and ready: nothing of it is exempt
  pub read-orderly : (k : ℕ)
      → (orderly (gives n true false) (after setup p) ≡ true) × (is_ready (stage (reads n) In p k).inn.answers ≡ true)
      × (orderly (gives n false false) (after (packet In) (stage (reads n) In p k)) ≡ true)
  read-orderly zero = (refl, refl, refl)
  read-orderly (suc k) = (refl, refl, refl)

  pub write-orderly : (k : ℕ)
      → (orderly (takes true) (after setup p) ≡ true) × (is_ready (stage takes Out p k).out.answers ≡ true)
      × (orderly (takes false) (after (packet Out) (stage takes Out p k)) ≡ true)
  write-orderly zero = (refl, refl, refl)
  write-orderly (suc k) = (refl, refl, refl)

  -- a setup packet from any point: NAK both ways
  pub setup-naks : (d : Dir) → (half d (after setup p)).answers ≡ naks
  setup-naks Out = refl
  setup-naks In = refl

  -- a function that can't serve the request halts both directions, whatever it was at; the next setup packet ends the
  -- halt (8.5.3.4)
  pub reject-stalls : (d : Dir) → (half d (chosen rejects p)).answers ≡ stalls
  reject-stalls Out = refl
  reject-stalls In = refl

  pub setup-ends-halt : (d : Dir) → (half d (after setup (chosen rejects p))).answers ≡ naks
  setup-ends-halt Out = refl
  setup-ends-halt In = refl
