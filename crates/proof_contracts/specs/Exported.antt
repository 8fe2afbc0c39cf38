-- Every call that crate `usbhs_c` exports: what its generated contract gives a caller (`Learnt`) is a step of demand
-- 3, with what it saves and with an answer that the
-- call's word says: it is the answer's word, and is read back as it (`Says`, machine/specs/Word.antt). The
-- hypothesis of each lemma is the contract itself.
-- Of the parameters' values before the call s is the state, slots the slot buffer, time the record; z holds the
-- parameters after the call, in their
-- order; r is the word or, of a question, the number
use Rattle.std.specs.Prelude.{[], ◌≡◌, refl, ◌%◌, length}
use Rattle.state.specs.State.{view}
use Rattle.script.specs.Answers.{Answer}
use Rattle.script.specs.Machine.{begin, continue, pending, overruns, enabled, Ans}
use Rattle.script.specs.Calls.{other, slotted, aside, interrupt, Microframe, Allocate, AllocateAll, Start, SetPaced}
use Rattle.script.specs.Calls.{BusEnable, BusDisable, BusPoll, IsStalled, SetStalled, SetEnabled, BeginSetup}
use Rattle.script.specs.Calls.{PollSetup, BeginDataOut, PollDataOut, BeginDataIn, PollDataIn, BeginAccept}
use Rattle.script.specs.Calls.{BeginAcceptSetAddress, PollAccept, BeginReject, Advance, BeginRead, PollRead}
use Rattle.script.specs.Calls.{BeginWrite, PollWrite, Open, Close, Queue}
use Rattle.machine.specs.Suspended.{config_of, answer_of, lent_by}
use Rattle.machine.specs.KeepsLaws.{kept_by}
use Rattle.bus_time.specs.Time.{is_in_use}
use Rattle.calls.specs.Shown.{ShownAt}
use Rattle.answer.specs.Word.{Worded}
use Rattle.usbhs_c.specs.Calls.{dir_of, flag_of}
use Rattle.usbhs_c.specs.Stamp.{stamp_by}
use Rattle.usbhs_c.proofs.usbhs_start_up.Reads as start-up-contract
use Rattle.usbhs_c.proofs.usbhs_allocate.Reads as allocate-contract
use Rattle.usbhs_c.proofs.usbhs_start.Reads as start-contract
use Rattle.usbhs_c.proofs.usbhs_continue.Reads as continue-contract
use Rattle.usbhs_c.proofs.usbhs_begin_microframe.Reads as begin-microframe-contract
use Rattle.usbhs_c.proofs.usbhs_set_paced.Reads as set-paced-contract
use Rattle.usbhs_c.proofs.usbhs_begin_advance.Reads as begin-advance-contract
use Rattle.usbhs_c.proofs.usbhs_begin_interrupt.Reads as begin-interrupt-contract
use Rattle.usbhs_c.proofs.usbhs_begin_bus_enable.Reads as begin-bus-enable-contract
use Rattle.usbhs_c.proofs.usbhs_begin_bus_disable.Reads as begin-bus-disable-contract
use Rattle.usbhs_c.proofs.usbhs_begin_bus_poll.Reads as begin-bus-poll-contract
use Rattle.usbhs_c.proofs.usbhs_begin_is_stalled.Reads as begin-is-stalled-contract
use Rattle.usbhs_c.proofs.usbhs_begin_set_stalled.Reads as begin-set-stalled-contract
use Rattle.usbhs_c.proofs.usbhs_begin_set_enabled.Reads as begin-set-enabled-contract
use Rattle.usbhs_c.proofs.usbhs_begin_read.Reads as begin-read-contract
use Rattle.usbhs_c.proofs.usbhs_poll_read.Reads as poll-read-contract
use Rattle.usbhs_c.proofs.usbhs_begin_write.Reads as begin-write-contract
use Rattle.usbhs_c.proofs.usbhs_poll_write.Reads as poll-write-contract
use Rattle.usbhs_c.proofs.usbhs_begin_setup.Reads as begin-setup-contract
use Rattle.usbhs_c.proofs.usbhs_poll_setup.Reads as poll-setup-contract
use Rattle.usbhs_c.proofs.usbhs_begin_data_out.Reads as begin-data-out-contract
use Rattle.usbhs_c.proofs.usbhs_poll_data_out.Reads as poll-data-out-contract
use Rattle.usbhs_c.proofs.usbhs_begin_data_in.Reads as begin-data-in-contract
use Rattle.usbhs_c.proofs.usbhs_poll_data_in.Reads as poll-data-in-contract
use Rattle.usbhs_c.proofs.usbhs_begin_accept.Reads as begin-accept-contract
use Rattle.usbhs_c.proofs.usbhs_begin_accept_set_address.Reads as begin-accept-set-address-contract
use Rattle.usbhs_c.proofs.usbhs_poll_accept.Reads as poll-accept-contract
use Rattle.usbhs_c.proofs.usbhs_begin_reject.Reads as begin-reject-contract
use Rattle.usbhs_c.proofs.listed.usbhs_allocate_all.Reads as allocate-all-contract
use Rattle.usbhs_c.proofs.usbhs_open.Reads as open-contract
use Rattle.usbhs_c.proofs.usbhs_close.Reads as close-contract
use Rattle.usbhs_c.proofs.usbhs_queue.Reads as queue-contract
use Rattle.usbhs_c.proofs.usbhs_pending.Reads as pending-contract
use Rattle.usbhs_c.proofs.usbhs_overruns.Reads as overruns-contract
use Rattle.usbhs_c.proofs.usbhs_enabled.Reads as enabled-contract
use Rattle.usbhs_c.proofs.usbhs_time_in_use.Reads as time-in-use-contract
use Rattle.proof_contracts.specs.Steps.{IsStep, IsStepLent, IsStepInto, IsStepCharged, IsStepStart, IsQuestion}
use Rattle.proof_contracts.specs.StepsLaws.{unlent, lent, filled, answered, asked, worded}

-- ---- calls

pub start-up-step : (κs s slots time driver size count callback r z : _)
    → start-up-contract.Learnt κs (s, (slots, (time, (driver, (size, (count, (callback, tt))))))) r z
    → Worded r (λ step. IsStepStart driver (config_of size count (flag_of callback)) s.now
    (answer_of step [] (view z.0.now)) z.0.now slots.now time.now z.1.1.0.now)
start-up-step κs s slots time driver size count callback r z h =
    worded r h (λ step k. record { did = k.0; saves = kept_by step _ _ _ _ k.1 })

pub allocate-step : (κs s kind address maximum interval dir r z : _)
    → allocate-contract.Learnt κs (s, (kind, (address, (maximum, (interval, (dir, tt)))))) r z
    → Worded r (λ step. IsStep (begin (other (Allocate (dir_of dir) (kind % 4) address maximum interval))) s.now
    (λ b. answer_of step [] (view z.0.now)) z.0.now)
allocate-step κs s kind address maximum interval dir r z h =
    worded r h (λ step k. unlent refl k.0 (λ b. kept_by step _ _ _ _ k.1))

pub start-step : (κs s maximum r z : _) → start-contract.Learnt κs (s, (maximum, tt)) r z
    → Worded r (λ step. IsStep (begin (other (Start maximum))) s.now (λ b. answer_of step [] (view z.0.now))
    z.0.now)
start-step κs s maximum r z h = worded r h (λ step k. unlent refl k.0 (λ b. kept_by step _ _ _ _ k.1))

pub continue-step : (κs s slots time driver value r z : _)
    → continue-contract.Learnt κs (s, (slots, (time, (driver, (value, tt))))) r z
    → Worded r (λ step. IsStepCharged driver (continue value) s.now (answer_of step [] (view z.0.now))
    z.0.now
    slots.now z.1.0.now time.now z.1.1.0.now)
continue-step κs s slots time driver value r z h =
    worded r h (λ step k. record { did = k.0; saves = kept_by step _ _ _ _ k.1.1; kept = k.1.0 })

pub begin-microframe-step : (κs s r z : _) → begin-microframe-contract.Learnt κs (s, tt) r z
    → Worded r (λ step. IsStep (begin (other Microframe)) s.now (λ b. answer_of step [] (view z.0.now))
    z.0.now)
begin-microframe-step κs s r z h = worded r h (λ step k. unlent refl k.0 (λ b. kept_by step _ _ _ _ k.1))

pub set-paced-step : (κs s endpoint paced r z : _) → set-paced-contract.Learnt κs (s, (endpoint, (paced, tt))) r z
    → Worded r (λ step. IsStep (begin (other (SetPaced endpoint (flag_of paced)))) s.now
    (λ b. answer_of step [] (view z.0.now)) z.0.now)
set-paced-step κs s endpoint paced r z h = worded r h (λ _ k. unlent refl k.0 (λ b. k.1))

pub begin-advance-step : (κs s endpoint r z : _) → begin-advance-contract.Learnt κs (s, (endpoint, tt)) r z
    → Worded r (λ step. IsStep (begin (other (Advance endpoint))) s.now (λ b. answer_of step [] (view z.0.now))
    z.0.now)
begin-advance-step κs s endpoint r z h = worded r h (λ step k. unlent refl k.0 (λ b. kept_by step _ _ _ _ k.1))

pub begin-interrupt-step : (κs s r z : _) → begin-interrupt-contract.Learnt κs (s, tt) r z
    → Worded r (λ step. IsStep (begin interrupt) s.now (λ b. answer_of step [] (view z.0.now)) z.0.now)
begin-interrupt-step κs s r z h = worded r h (λ step k. unlent refl k.0 (λ b. kept_by step _ _ _ _ k.1))

pub begin-bus-enable-step : (κs s r z : _) → begin-bus-enable-contract.Learnt κs (s, tt) r z
    → Worded r (λ step. IsStep (begin (other BusEnable)) s.now (λ b. answer_of step [] (view z.0.now))
    z.0.now)
begin-bus-enable-step κs s r z h = worded r h (λ step k. unlent refl k.0 (λ b. kept_by step _ _ _ _ k.1))

pub begin-bus-disable-step : (κs s r z : _) → begin-bus-disable-contract.Learnt κs (s, tt) r z
    → Worded r (λ step. IsStep (begin (other BusDisable)) s.now (λ b. answer_of step [] (view z.0.now))
    z.0.now)
begin-bus-disable-step κs s r z h = worded r h (λ step k. unlent refl k.0 (λ b. kept_by step _ _ _ _ k.1))

pub begin-bus-poll-step : (κs s r z : _) → begin-bus-poll-contract.Learnt κs (s, tt) r z
    → Worded r (λ step. IsStep (begin (other BusPoll)) s.now (λ b. answer_of step [] (view z.0.now)) z.0.now)
begin-bus-poll-step κs s r z h = worded r h (λ step k. unlent refl k.0 (λ b. kept_by step _ _ _ _ k.1))

pub begin-is-stalled-step : (κs s endpoint dir r z : _)
    → begin-is-stalled-contract.Learnt κs (s, (endpoint, (dir, tt))) r z
    → Worded r (λ step. IsStep (begin (other (IsStalled (dir_of dir) endpoint))) s.now
    (λ b. answer_of step [] (view z.0.now)) z.0.now)
begin-is-stalled-step κs s endpoint dir r z h =
    worded r h (λ step k. unlent refl k.0 (λ b. kept_by step _ _ _ _ k.1))

pub begin-set-stalled-step : (κs s endpoint dir stalled r z : _)
    → begin-set-stalled-contract.Learnt κs (s, (endpoint, (dir, (stalled, tt)))) r z
    → Worded r (λ step. IsStep (begin (other (SetStalled (dir_of dir) endpoint (flag_of stalled)))) s.now
    (λ b. answer_of step [] (view z.0.now)) z.0.now)
begin-set-stalled-step κs s endpoint dir stalled r z h =
    worded r h (λ step k. unlent refl k.0 (λ b. kept_by step _ _ _ _ k.1))

pub begin-set-enabled-step : (κs s slots time driver endpoint dir on r z : _)
    → begin-set-enabled-contract.Learnt κs (s, (slots, (time, (driver, (endpoint, (dir, (on, tt))))))) r z
    → Worded r (λ step. IsStepCharged driver (begin (slotted (SetEnabled (dir_of dir) endpoint (flag_of on)))) s.now
    (answer_of step [] (view z.0.now)) z.0.now slots.now z.1.0.now time.now z.1.1.0.now)
begin-set-enabled-step κs s slots time driver endpoint dir on r z h =
    worded r h (λ step k. record { did = k.0; saves = kept_by step _ _ _ _ k.1.1; kept = k.1.0 })

pub begin-read-step : (κs s endpoint n r z : _) → begin-read-contract.Learnt κs (s, (endpoint, (n, tt))) r z
    → Worded r (λ step. IsStep (begin (other (BeginRead endpoint n))) s.now
    (λ b. answer_of step [] (view z.0.now)) z.0.now)
begin-read-step κs s endpoint n r z h = worded r h (λ step k. unlent refl k.0 (λ b. kept_by step _ _ _ _ k.1))

pub poll-read-step : (κs s slots endpoint slice r z : _)
    → poll-read-contract.Learnt κs (s, (slots, (endpoint, (slice, tt)))) r z
    → Worded r (λ step. IsStepInto (begin (slotted (PollRead endpoint (length slice.now)))) s.now
    (answer_of step z.1.1.1.0.now (view z.0.now)) z.0.now slots.now slice.now
    z.1.1.1.0.now)
poll-read-step κs s slots endpoint slice r z h =
    worded r h.0 (λ step k. filled refl k.0 (kept_by step _ _ _ _ k.1) h.1)

pub begin-write-step : (κs s slots endpoint bytes r z : _)
    → begin-write-contract.Learnt κs (s, (slots, (endpoint, (bytes, tt)))) r z
    → Worded r (λ step. IsStepLent (begin (slotted (BeginWrite endpoint bytes.now))) s.now
    (answer_of step [] (view z.0.now)) z.0.now slots.now z.1.0.now)
begin-write-step κs s slots endpoint bytes r z h =
    worded r h (λ step k. lent refl k.0 (kept_by step _ _ _ _ k.1.1) k.1.0)

pub poll-write-step : (κs s slots endpoint bytes r z : _)
    → poll-write-contract.Learnt κs (s, (slots, (endpoint, (bytes, tt)))) r z
    → Worded r (λ step. IsStepLent (begin (slotted (PollWrite endpoint bytes.now))) s.now
    (answer_of step [] (view z.0.now)) z.0.now slots.now z.1.0.now)
poll-write-step κs s slots endpoint bytes r z h =
    worded r h (λ step k. lent refl k.0 (kept_by step _ _ _ _ k.1.1) k.1.0)

pub begin-setup-step : (κs s r z : _) → begin-setup-contract.Learnt κs (s, tt) r z
    → Worded r (λ step. IsStep (begin (other BeginSetup)) s.now (λ b. answer_of step [] (view z.0.now))
    z.0.now)
begin-setup-step κs s r z h = worded r h (λ step k. unlent refl k.0 (λ b. kept_by step _ _ _ _ k.1))

pub poll-setup-step : (κs s packet r z : _) → poll-setup-contract.Learnt κs (s, (packet, tt)) r z
    → Worded r (λ step. IsStep (begin (other PollSetup)) s.now
    (λ b. answer_of step z.1.0.now (view z.0.now)) z.0.now
    × (z.1.0.now ≡ lent_by (answer_of step z.1.0.now (view z.0.now)) packet.now))
poll-setup-step κs s packet r z h = worded r h.0 (λ step k. (
  unlent refl k.0 (λ b. kept_by step _ _ _ _ k.1),
  answered (λ (x : Ans Answer). lent_by x packet.now) (k.0 [] []) (h.1 [] []),
))

pub begin-data-out-step : (κs s n first r z : _) → begin-data-out-contract.Learnt κs (s, (n, (first, tt))) r z
    → Worded r (λ step. IsStep (begin (other (BeginDataOut n (flag_of first)))) s.now
    (λ b. answer_of step [] (view z.0.now)) z.0.now)
begin-data-out-step κs s n first r z h = worded r h (λ step k. unlent refl k.0 (λ b. kept_by step _ _ _ _ k.1))

pub poll-data-out-step : (κs s slots slice r z : _) → poll-data-out-contract.Learnt κs (s, (slots, (slice, tt))) r z
    → Worded r (λ step. IsStepInto (begin (slotted (PollDataOut (length slice.now)))) s.now
    (answer_of step z.1.1.0.now (view z.0.now)) z.0.now slots.now slice.now z.1.1.0.now)
poll-data-out-step κs s slots slice r z h =
    worded r h.0 (λ step k. filled refl k.0 (kept_by step _ _ _ _ k.1) h.1)

pub begin-data-in-step : (κs s slots bytes first last r z : _)
    → begin-data-in-contract.Learnt κs (s, (slots, (bytes, (first, (last, tt))))) r z
    → Worded r (λ step. IsStepLent (begin (slotted (BeginDataIn bytes.now (flag_of first) (flag_of last)))) s.now
    (answer_of step [] (view z.0.now)) z.0.now slots.now z.1.0.now)
begin-data-in-step κs s slots bytes first last r z h =
    worded r h (λ step k. lent refl k.0 (kept_by step _ _ _ _ k.1.1) k.1.0)

pub poll-data-in-step : (κs s r z : _) → poll-data-in-contract.Learnt κs (s, tt) r z
    → Worded r (λ step. IsStep (begin (other PollDataIn)) s.now (λ b. answer_of step [] (view z.0.now))
    z.0.now)
poll-data-in-step κs s r z h = worded r h (λ step k. unlent refl k.0 (λ b. kept_by step _ _ _ _ k.1))

pub begin-accept-step : (κs s r z : _) → begin-accept-contract.Learnt κs (s, tt) r z
    → Worded r (λ step. IsStep (begin (other BeginAccept)) s.now (λ b. answer_of step [] (view z.0.now))
    z.0.now)
begin-accept-step κs s r z h = worded r h (λ step k. unlent refl k.0 (λ b. kept_by step _ _ _ _ k.1))

pub begin-accept-set-address-step : (κs s address r z : _)
    → begin-accept-set-address-contract.Learnt κs (s, (address, tt)) r z
    → Worded r (λ step. IsStep (begin (other (BeginAcceptSetAddress address))) s.now
    (λ b. answer_of step [] (view z.0.now)) z.0.now)
begin-accept-set-address-step κs s address r z h =
    worded r h (λ step k. unlent refl k.0 (λ b. kept_by step _ _ _ _ k.1))

pub poll-accept-step : (κs s r z : _) → poll-accept-contract.Learnt κs (s, tt) r z
    → Worded r (λ step. IsStep (begin (other PollAccept)) s.now (λ b. answer_of step [] (view z.0.now))
    z.0.now)
poll-accept-step κs s r z h = worded r h (λ step k. unlent refl k.0 (λ b. kept_by step _ _ _ _ k.1))

pub begin-reject-step : (κs s r z : _) → begin-reject-contract.Learnt κs (s, tt) r z
    → Worded r (λ step. IsStep (begin (other BeginReject)) s.now (λ b. answer_of step [] (view z.0.now))
    z.0.now)
begin-reject-step κs s r z h = worded r h (λ step k. unlent refl k.0 (λ b. kept_by step _ _ _ _ k.1))

pub allocate-all-step : (κs s bytes r z : _) → allocate-all-contract.Learnt κs (s, (bytes, tt)) r z
    → Worded r (λ step. IsStep (begin (other (AllocateAll bytes.now))) s.now
    (λ b. answer_of step [] (view z.0.now)) z.0.now)
allocate-all-step κs s bytes r z h = worded r h (λ step k. unlent refl k.0 (λ b. kept_by step _ _ _ _ k.1))

pub open_step : (κs s slots endpoint stamp r z : _) → open-contract.Learnt κs (s, (slots, (endpoint, (stamp, tt)))) r z
    → Worded r (λ step. IsStepLent (begin (aside (Open endpoint))) s.now
    (answer_of step slots.now (view z.0.now)) z.0.now slots.now slots.now
    × ShownAt step (view z.0.now) endpoint
    × (z.1.1.1.0.now ≡ stamp_by (answer_of step slots.now (view z.0.now)) stamp.now))
open_step κs s slots endpoint stamp r z h = worded r h.0 (λ step k. (
  lent refl k.0 k.1.1 (λ _. refl),
  k.1.0,
  answered (λ (x : Ans Answer). stamp_by x stamp.now) (k.0 []) (h.1 []),
))

pub close-step : (κs s endpoint r z : _) → close-contract.Learnt κs (s, (endpoint, tt)) r z
    → Worded r (λ step. IsStep (begin (aside (Close endpoint))) s.now (λ b. answer_of step b (view z.0.now))
    z.0.now)
close-step κs s endpoint r z h = worded r h (λ _ k. unlent refl k.0 (λ b. k.1))

pub queue-step : (κs s slots endpoint bytes r z : _)
    → queue-contract.Learnt κs (s, (slots, (endpoint, (bytes, tt)))) r z
    → Worded r (λ step. IsStepLent (begin (aside (Queue endpoint bytes.now))) s.now
    (answer_of step z.1.0.now (view z.0.now)) z.0.now slots.now z.1.0.now)
queue-step κs s slots endpoint bytes r z h = worded r h (λ _ k. lent refl k.0 k.1.1 k.1.0)

-- ---- questions

pub pending-step : (κs s endpoint r z : _) → pending-contract.Learnt κs (s, (endpoint, tt)) r z
    → IsQuestion (pending endpoint) s.now r
pending-step κs s endpoint r z h = asked h

pub overruns-step : (κs s endpoint r z : _) → overruns-contract.Learnt κs (s, (endpoint, tt)) r z
    → IsQuestion (overruns endpoint) s.now r
overruns-step κs s endpoint r z h = asked h

pub enabled-step : (κs s endpoint dir r z : _) → enabled-contract.Learnt κs (s, (endpoint, (dir, tt))) r z
    → IsQuestion (enabled (dir_of dir) endpoint) s.now r
enabled-step κs s endpoint dir r z h = asked h

-- the time in use: the record's, which it is only lent to read
pub time-in-use-step : (κs time r z : _) → time-in-use-contract.Learnt κs (time, tt) r z → r ≡ is_in_use time.now
time-in-use-step κs time r z h = h
