-- Every public call of crate `usbhs`: what its generated contract gives a caller (`Learnt`) is a step of demand 3,
-- with what it saves. The hypothesis of each lemma is the
-- contract itself, as the check of the function's crate states it, so nothing is compared by eye. Of the parameters'
-- values before the call s is the
-- state, slots the slot buffer, time the record; z holds the parameters after the call, in their order; r is the answer
use Rattle.std.specs.Prelude.{[], refl, length}
use Rattle.std.proofs.Common.{ap}
use Rattle.state.specs.State.{view}
use Rattle.script.specs.Statics.{flag}
use Rattle.script.specs.Machine.{begin, continue, pending, overruns, enabled}
use Rattle.script.specs.Calls.{other, slotted, aside, interrupt, Microframe, Allocate, AllocateAll, Start, SetPaced}
use Rattle.script.specs.Calls.{BusEnable, BusDisable, BusPoll, IsStalled, SetStalled, SetEnabled, BeginSetup}
use Rattle.script.specs.Calls.{PollSetup, BeginDataOut, PollDataOut, BeginDataIn, PollDataIn, BeginAccept}
use Rattle.script.specs.Calls.{BeginAcceptSetAddress, PollAccept, BeginReject, Advance, BeginRead, PollRead}
use Rattle.script.specs.Calls.{BeginWrite, PollWrite, Open, Close, Queue}
use Rattle.machine.specs.Suspended.{config_of, answer_of}
use Rattle.machine.specs.KeepsLaws.{kept_by}
use Rattle.calls.proofs.start.allocate.Reads as allocate-contract
use Rattle.calls.proofs.start.start.Reads as start-contract
use Rattle.calls.proofs.begins.begin_microframe.Reads as begin-microframe-contract
use Rattle.calls.proofs.begins.set_paced.Reads as set-paced-contract
use Rattle.calls.proofs.begins.begin_advance.Reads as begin-advance-contract
use Rattle.calls.proofs.begins.begin_interrupt.Reads as begin-interrupt-contract
use Rattle.calls.proofs.listed_calls.allocate_all.Reads as allocate-all-contract
use Rattle.calls.proofs.bus_begins.begin_bus_enable.Reads as begin-bus-enable-contract
use Rattle.calls.proofs.bus_begins.begin_bus_disable.Reads as begin-bus-disable-contract
use Rattle.calls.proofs.bus_begins.begin_bus_poll.Reads as begin-bus-poll-contract
use Rattle.calls.proofs.bus_begins.begin_is_stalled.Reads as begin-is-stalled-contract
use Rattle.calls.proofs.bus_begins.begin_set_stalled.Reads as begin-set-stalled-contract
use Rattle.calls.proofs.control_begins.begin_setup.Reads as begin-setup-contract
use Rattle.calls.proofs.control_begins.begin_data_out.Reads as begin-data-out-contract
use Rattle.calls.proofs.control_begins.begin_data_in.Reads as begin-data-in-contract
use Rattle.calls.proofs.control_begins.begin_accept.Reads as begin-accept-contract
use Rattle.calls.proofs.control_begins.begin_accept_set_address.Reads as begin-accept-set-address-contract
use Rattle.calls.proofs.control_begins.begin_reject.Reads as begin-reject-contract
use Rattle.calls.proofs.control_polls.poll_setup.Reads as poll-setup-contract
use Rattle.calls.proofs.control_polls.poll_data_out.Reads as poll-data-out-contract
use Rattle.calls.proofs.control_polls.poll_data_in.Reads as poll-data-in-contract
use Rattle.calls.proofs.control_polls.poll_accept.Reads as poll-accept-contract
use Rattle.calls.proofs.requests.begin_read.Reads as begin-read-contract
use Rattle.calls.proofs.requests.poll_read.Reads as poll-read-contract
use Rattle.calls.proofs.requests.begin_write.Reads as begin-write-contract
use Rattle.calls.proofs.requests.poll_write.Reads as poll-write-contract
use Rattle.calls.proofs.in_place.open.Reads as open-contract
use Rattle.calls.proofs.in_place.close.Reads as close-contract
use Rattle.calls.proofs.in_place.queue.Reads as queue-contract
use Rattle.calls.proofs.questions.pending.Reads as pending-contract
use Rattle.calls.proofs.questions.overruns.Reads as overruns-contract
use Rattle.calls.proofs.questions.enabled.Reads as enabled-contract
use Rattle.calls.proofs.shared_time.start_up.Reads as start-up-contract
use Rattle.calls.proofs.shared_time.begin_set_enabled.Reads as begin-set-enabled-contract
use Rattle.calls.proofs.proceeds.proceed.Reads as proceed-contract
use Rattle.proof_contracts.specs.Steps.{IsStep, IsStepLent, IsStepInto, IsStepCharged, IsStepStart, IsQuestion}
use Rattle.proof_contracts.specs.StepsLaws.{unlent, lent, filled, asked}

-- ---- allocation and EP0's start (crate `call_start`)

pub allocate-step : (κs s dir kind address maximum interval r z : _)
    → allocate-contract.Learnt κs (s, (dir, (kind, (address, (maximum, (interval, tt)))))) r z
    → IsStep (begin (other (Allocate dir kind address maximum interval))) s.now
    (λ b. answer_of r [] (view z.0.now)) z.0.now
allocate-step κs s dir kind address maximum interval r z h = unlent refl h.0 (λ b. kept_by r _ _ _ _ h.1)

pub start-step : (κs s maximum r z : _) → start-contract.Learnt κs (s, (maximum, tt)) r z
    → IsStep (begin (other (Start maximum))) s.now (λ b. answer_of r [] (view z.0.now)) z.0.now
start-step κs s maximum r z h = unlent refl h.0 (λ b. kept_by r _ _ _ _ h.1)

-- ---- the microframe, pacing, advance, the interrupt; endpoints from a descriptor (`call_driver`)

pub begin-microframe-step : (κs s r z : _) → begin-microframe-contract.Learnt κs (s, tt) r z
    → IsStep (begin (other Microframe)) s.now (λ b. answer_of r [] (view z.0.now)) z.0.now
begin-microframe-step κs s r z h = unlent refl h.0 (λ b. kept_by r _ _ _ _ h.1)

pub set-paced-step : (κs s e on r z : _) → set-paced-contract.Learnt κs (s, (e, (on, tt))) r z
    → IsStep (begin (other (SetPaced e on))) s.now (λ b. answer_of r [] (view z.0.now)) z.0.now
set-paced-step κs s e on r z h = unlent refl h.0 (λ b. h.1)

pub begin-advance-step : (κs s e r z : _) → begin-advance-contract.Learnt κs (s, (e, tt)) r z
    → IsStep (begin (other (Advance e))) s.now (λ b. answer_of r [] (view z.0.now)) z.0.now
begin-advance-step κs s e r z h = unlent refl h.0 (λ b. kept_by r _ _ _ _ h.1)

pub begin-interrupt-step : (κs s r z : _) → begin-interrupt-contract.Learnt κs (s, tt) r z
    → IsStep (begin interrupt) s.now (λ b. answer_of r [] (view z.0.now)) z.0.now
begin-interrupt-step κs s r z h = unlent refl h.0 (λ b. kept_by r _ _ _ _ h.1)

pub allocate-all-step : (κs s bytes r z : _) → allocate-all-contract.Learnt κs (s, (bytes, tt)) r z
    → IsStep (begin (other (AllocateAll bytes.now))) s.now (λ b. answer_of r [] (view z.0.now)) z.0.now
allocate-all-step κs s bytes r z h = unlent refl h.0 (λ b. kept_by r _ _ _ _ h.1)

-- ---- the bus and stalls (`call_bus`)

pub begin-bus-enable-step : (κs s r z : _) → begin-bus-enable-contract.Learnt κs (s, tt) r z
    → IsStep (begin (other BusEnable)) s.now (λ b. answer_of r [] (view z.0.now)) z.0.now
begin-bus-enable-step κs s r z h = unlent refl h.0 (λ b. kept_by r _ _ _ _ h.1)

pub begin-bus-disable-step : (κs s r z : _) → begin-bus-disable-contract.Learnt κs (s, tt) r z
    → IsStep (begin (other BusDisable)) s.now (λ b. answer_of r [] (view z.0.now)) z.0.now
begin-bus-disable-step κs s r z h = unlent refl h.0 (λ b. kept_by r _ _ _ _ h.1)

pub begin-bus-poll-step : (κs s r z : _) → begin-bus-poll-contract.Learnt κs (s, tt) r z
    → IsStep (begin (other BusPoll)) s.now (λ b. answer_of r [] (view z.0.now)) z.0.now
begin-bus-poll-step κs s r z h = unlent refl h.0 (λ b. kept_by r _ _ _ _ h.1)

pub begin-is-stalled-step : (κs s dir e r z : _) → begin-is-stalled-contract.Learnt κs (s, (dir, (e, tt))) r z
    → IsStep (begin (other (IsStalled dir e))) s.now (λ b. answer_of r [] (view z.0.now)) z.0.now
begin-is-stalled-step κs s dir e r z h = unlent refl h.0 (λ b. kept_by r _ _ _ _ h.1)

pub begin-set-stalled-step : (κs s dir e on r z : _)
    → begin-set-stalled-contract.Learnt κs (s, (dir, (e, (on, tt)))) r z
    → IsStep (begin (other (SetStalled dir e on))) s.now (λ b. answer_of r [] (view z.0.now)) z.0.now
begin-set-stalled-step κs s dir e on r z h = unlent refl h.0 (λ b. kept_by r _ _ _ _ h.1)

-- ---- the control pipe (`call_control`)

pub begin-setup-step : (κs s r z : _) → begin-setup-contract.Learnt κs (s, tt) r z
    → IsStep (begin (other BeginSetup)) s.now (λ b. answer_of r [] (view z.0.now)) z.0.now
begin-setup-step κs s r z h = unlent refl h.0 (λ b. kept_by r _ _ _ _ h.1)

pub begin-data-out-step : (κs s n first r z : _) → begin-data-out-contract.Learnt κs (s, (n, (first, tt))) r z
    → IsStep (begin (other (BeginDataOut n first))) s.now (λ b. answer_of r [] (view z.0.now)) z.0.now
begin-data-out-step κs s n first r z h = unlent refl h.0 (λ b. kept_by r _ _ _ _ h.1)

pub begin-data-in-step : (κs s slots bytes first last r z : _)
    → begin-data-in-contract.Learnt κs (s, (slots, (bytes, (first, (last, tt))))) r z
    → IsStepLent (begin (slotted (BeginDataIn bytes.now first last))) s.now (answer_of r [] (view z.0.now))
    z.0.now slots.now z.1.0.now
begin-data-in-step κs s slots bytes first last r z h = lent refl h.0 (kept_by r _ _ _ _ h.1.1) h.1.0

pub begin-accept-step : (κs s r z : _) → begin-accept-contract.Learnt κs (s, tt) r z
    → IsStep (begin (other BeginAccept)) s.now (λ b. answer_of r [] (view z.0.now)) z.0.now
begin-accept-step κs s r z h = unlent refl h.0 (λ b. kept_by r _ _ _ _ h.1)

pub begin-accept-set-address-step : (κs s address r z : _)
    → begin-accept-set-address-contract.Learnt κs (s, (address, tt)) r z
    → IsStep (begin (other (BeginAcceptSetAddress address))) s.now (λ b. answer_of r [] (view z.0.now))
    z.0.now
begin-accept-set-address-step κs s address r z h = unlent refl h.0 (λ b. kept_by r _ _ _ _ h.1)

pub begin-reject-step : (κs s r z : _) → begin-reject-contract.Learnt κs (s, tt) r z
    → IsStep (begin (other BeginReject)) s.now (λ b. answer_of r [] (view z.0.now)) z.0.now
begin-reject-step κs s r z h = unlent refl h.0 (λ b. kept_by r _ _ _ _ h.1)

pub poll-setup-step : (κs s r z : _) → poll-setup-contract.Learnt κs (s, tt) r z
    → IsStep (begin (other PollSetup)) s.now (λ b. answer_of r [] (view z.0.now)) z.0.now
poll-setup-step κs s r z h = unlent refl h.0 (λ b. kept_by r _ _ _ _ h.1)

pub poll-data-out-step : (κs s slots out r z : _) → poll-data-out-contract.Learnt κs (s, (slots, (out, tt))) r z
    → IsStepInto (begin (slotted (PollDataOut (length out.now)))) s.now
    (answer_of r z.1.1.0.now (view z.0.now)) z.0.now slots.now out.now z.1.1.0.now
poll-data-out-step κs s slots out r z h = filled refl h.0 (kept_by r _ _ _ _ h.1.1) h.1.0

pub poll-data-in-step : (κs s r z : _) → poll-data-in-contract.Learnt κs (s, tt) r z
    → IsStep (begin (other PollDataIn)) s.now (λ b. answer_of r [] (view z.0.now)) z.0.now
poll-data-in-step κs s r z h = unlent refl h.0 (λ b. kept_by r _ _ _ _ h.1)

pub poll-accept-step : (κs s r z : _) → poll-accept-contract.Learnt κs (s, tt) r z
    → IsStep (begin (other PollAccept)) s.now (λ b. answer_of r [] (view z.0.now)) z.0.now
poll-accept-step κs s r z h = unlent refl h.0 (λ b. kept_by r _ _ _ _ h.1)

-- ---- reads and writes, packets in place, questions (`call_endpoint`)

pub begin-read-step : (κs s e n r z : _) → begin-read-contract.Learnt κs (s, (e, (n, tt))) r z
    → IsStep (begin (other (BeginRead e n))) s.now (λ b. answer_of r [] (view z.0.now)) z.0.now
begin-read-step κs s e n r z h = unlent refl h.0 (λ b. kept_by r _ _ _ _ h.1)

pub poll-read-step : (κs s slots e out r z : _) → poll-read-contract.Learnt κs (s, (slots, (e, (out, tt)))) r z
    → IsStepInto (begin (slotted (PollRead e (length out.now)))) s.now
    (answer_of r z.1.1.1.0.now (view z.0.now)) z.0.now slots.now out.now z.1.1.1.0.now
poll-read-step κs s slots e out r z h = filled refl h.0 (kept_by r _ _ _ _ h.1.1) h.1.0

pub begin-write-step : (κs s slots e bytes r z : _) → begin-write-contract.Learnt κs (s, (slots, (e, (bytes, tt)))) r z
    → IsStepLent (begin (slotted (BeginWrite e bytes.now))) s.now (answer_of r [] (view z.0.now)) z.0.now
    slots.now z.1.0.now
begin-write-step κs s slots e bytes r z h = lent refl h.0 (kept_by r _ _ _ _ h.1.1) h.1.0

pub poll-write-step : (κs s slots e bytes r z : _) → poll-write-contract.Learnt κs (s, (slots, (e, (bytes, tt)))) r z
    → IsStepLent (begin (slotted (PollWrite e bytes.now))) s.now (answer_of r [] (view z.0.now)) z.0.now
    slots.now z.1.0.now
poll-write-step κs s slots e bytes r z h = lent refl h.0 (kept_by r _ _ _ _ h.1.1) h.1.0

pub open_step : (κs s slots e r z : _) → open-contract.Learnt κs (s, (slots, (e, tt))) r z
    → IsStepLent (begin (aside (Open e))) s.now (answer_of r slots.now (view z.0.now)) z.0.now
    slots.now slots.now
open_step κs s slots e r z h = lent refl h.0 h.1.1 (λ _. refl)

pub close-step : (κs s e r z : _) → close-contract.Learnt κs (s, (e, tt)) r z
    → IsStep (begin (aside (Close e))) s.now (λ b. answer_of r b (view z.0.now)) z.0.now
close-step κs s e r z h = unlent refl h.0 (λ b. h.1)

pub queue-step : (κs s slots e bytes r z : _) → queue-contract.Learnt κs (s, (slots, (e, (bytes, tt)))) r z
    → IsStepLent (begin (aside (Queue e bytes.now))) s.now (answer_of r z.1.0.now (view z.0.now))
    z.0.now slots.now z.1.0.now
queue-step κs s slots e bytes r z h = lent refl h.0 h.1.1 h.1.0

pub pending-step : (κs s e r z : _) → pending-contract.Learnt κs (s, (e, tt)) r z
    → IsQuestion (pending e) s.now r
pending-step κs s e r z h = asked h

pub overruns-step : (κs s e r z : _) → overruns-contract.Learnt κs (s, (e, tt)) r z
    → IsQuestion (overruns e) s.now r
overruns-step κs s e r z h = asked h

pub enabled-step : (κs s dir e r z : _) → enabled-contract.Learnt κs (s, (dir, (e, tt))) r z
    → IsQuestion (enabled dir e) s.now (flag r)
enabled-step κs s dir e r z h = asked (ap flag h)

-- ---- start-up and enabling, with the record (`call_bus_time`)

pub start-up-step : (κs s slots time driver size count callback r z : _)
    → start-up-contract.Learnt κs (s, (slots, (time, (driver, (size, (count, (callback, tt))))))) r z
    → IsStepStart driver (config_of size count callback) s.now (answer_of r [] (view z.0.now)) z.0.now
    slots.now time.now z.1.1.0.now
start-up-step κs s slots time driver size count callback r z h = record { did = h.0; saves = kept_by r _ _ _ _ h.1 }

pub begin-set-enabled-step : (κs s slots time driver dir e on r z : _)
    → begin-set-enabled-contract.Learnt κs (s, (slots, (time, (driver, (dir, (e, (on, tt))))))) r z
    → IsStepCharged driver (begin (slotted (SetEnabled dir e on))) s.now (answer_of r [] (view z.0.now))
    z.0.now slots.now z.1.0.now time.now z.1.1.0.now
begin-set-enabled-step κs s slots time driver dir e on r z h =
    record { did = h.0; saves = kept_by r _ _ _ _ h.1.1; kept = h.1.0 }

-- ---- continue, with the record (`usbhs`)

pub proceed-step : (κs s slots time driver v r z : _)
    → proceed-contract.Learnt κs (s, (slots, (time, (driver, (v, tt))))) r z
    → IsStepCharged driver (continue v) s.now (answer_of r [] (view z.0.now)) z.0.now slots.now
    z.1.0.now
    time.now z.1.1.0.now
proceed-step κs s slots time driver v r z h =
    record { did = h.0; saves = kept_by r _ _ _ _ h.1.1; kept = h.1.0 }
