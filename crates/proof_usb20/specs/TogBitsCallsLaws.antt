-- The script of every call keeps the recorded toggles 0 or 1
use Rattle.std.specs.Prelude.{Bool, true, false}
use mathlib.Core.List.{List, [], ◌∷◌}
use Prim.Native.Nat.{ℕ, zero, suc}
use Rattle.regs.specs.declared.Dir.{Dir}
use Rattle.regs.specs.declared.Dir.TheVariants.{Out, In}
use Rattle.regs.specs.declared.Token.{Token}
use Rattle.regs.specs.declared.Token.TheVariants as tok
use Rattle.alloc.specs.declared.Answer as alloc-answer
use Rattle.alloc.specs.declared.Answer.TheVariants as alloc
use Rattle.descriptor.specs.declared.Endpoint.{Endpoint}
use Rattle.descriptor.specs.declared.Answer as reading-answer
use Rattle.descriptor.specs.declared.Answer.TheVariants as reading
use Rattle.script.specs.declared.Transfer.{Transfer}
use Rattle.script.specs.IsoIn.{iso_in_complete, sof_one, sof_walk, late_walk, on_sof, iso_in_completions}
use Rattle.script.specs.IsoOut.{check_walk}
use Rattle.script.specs.Handler.{looks, toggled, retake, settle, dispatch, moved_on, ep0_moved_on, served, on_transfer}
use Rattle.script.specs.Handler.{on_setup, stamped_interrupt}
use Rattle.script.specs.Bus as bus
use Rattle.script.specs.Control.{acks}
use Rattle.script.specs.Driver.{allocated_as, started_as}
use Rattle.script.specs.AllocateAll.{allocate_each, announce, begins_at, announce_after, announce_all, allocate_read}
use Rattle.script.specs.Calls.{Config, Slotted, SetEnabled, PollRead, BeginWrite, PollWrite, PollDataOut, BeginDataIn}
use Rattle.script.specs.Calls.{Other, Allocate, AllocateAll, Start, BusPoll, BusEnable, BusDisable, Microframe}
use Rattle.script.specs.Calls.{SetStalled, IsStalled, SetPaced, Advance, BeginRead, BeginSetup, PollSetup, PollDataIn}
use Rattle.script.specs.Calls.{BeginAccept, PollAccept, BeginReject, BeginDataOut, BeginAcceptSetAddress, Aside, Open}
use Rattle.script.specs.Calls.{Close, Queue, Op, interrupt, slotted, other, aside, slotted_code, other_code, aside_code}
use Rattle.script.specs.Calls.{code, starting}
use Rattle.proof_usb20.specs.TogBitsLaws.{KeepsBits, k_bind, k_test, keeping}

module _ {i : Bool} where
  k-looks : (n : ℕ) → KeepsBits (looks {i = i} n)
  unfolding looks
  k-looks zero = search keeping
  k-looks (suc n) = k_bind (search keeping) (λ m. k_test (search keeping) (k-looks n))

  k-complete : (e : ℕ) → KeepsBits (iso_in_complete {i = i} e)
  k-complete e = search keeping depth 30

  k-sof-one : (frame e : ℕ) → KeepsBits (sof_one {i = i} frame e)
  k-sof-one frame e = search (k-complete, keeping) depth 30

  k-sof-walk : (frame : ℕ) (es : List ℕ) → KeepsBits (sof_walk {i = i} frame es)
  unfolding sof_walk
  k-sof-walk frame [] = search keeping
  k-sof-walk frame (e ∷ es) = k_bind (k-sof-one frame e) (λ _. k-sof-walk frame es)

  k-sof : (frame : ℕ) → KeepsBits (on_sof {i = i} frame)
  k-sof frame = search (k-sof-walk, keeping) depth 30

  k-late-walk : (frame : ℕ) (es : List ℕ) → KeepsBits (late_walk {i = i} frame es)
  unfolding late_walk
  k-late-walk frame [] = search keeping
  k-late-walk frame (e ∷ es) = k_bind (search (k-complete, keeping) depth 30) (λ _. k-late-walk frame es)

  k-check-walk : (y : Transfer) (iso : Bool) (es : List ℕ) → KeepsBits (check_walk {i = i} y iso es)
  unfolding check_walk
  k-check-walk y iso [] = search keeping
  k-check-walk y iso (e ∷ es) = k_bind (search keeping depth 30) (λ _. k-check-walk y iso es)

  k-toggled : (dir : Dir) (e : ℕ) → KeepsBits (toggled {i = i} dir e)
  k-toggled dir e = search (k-looks, keeping) depth 30

  k-retake : (y : Transfer) → KeepsBits (retake {i = i} y)
  k-retake y = search keeping depth 40

  k-settle : (y : Transfer) → KeepsBits (settle {i = i} y)
  k-settle y = search (k-looks, k-retake, keeping) depth 40

  k-dispatch : (t : Token) (y : Transfer) (iso : Bool) (frame : ℕ) → KeepsBits (dispatch {i = i} t y iso frame)
  k-dispatch tok.Sof y iso frame = search (k-sof, keeping) depth 30
  k-dispatch tok.Out y iso frame = search (k-toggled, keeping) depth 30
  k-dispatch tok.In y iso frame = search (k-toggled, k-complete, keeping) depth 30
  k-dispatch tok.Setup y iso frame = search keeping

  k-moved : (dir : Dir) → KeepsBits (moved_on {i = i} dir)
  k-moved dir = search keeping depth 30

  k-ep0-moved : (t : Token) → KeepsBits (ep0_moved_on {i = i} t)
  k-ep0-moved tok.Out = k-moved In
  k-ep0-moved tok.In = k-moved Out
  k-ep0-moved tok.Sof = search keeping
  k-ep0-moved tok.Setup = search keeping

  k-served : (y : Transfer) (iso : Bool) (frame : ℕ) → KeepsBits (served {i = i} y iso frame)
  k-served y iso frame = search (k-sof, k-late-walk, k-dispatch, k-check-walk, k-ep0-moved, keeping) depth 40

  k-on-transfer : KeepsBits (on_transfer {i = i})
  k-on-transfer = search (k-settle, k-served, keeping) depth 40

  k-on-setup : KeepsBits (on_setup {i = i})
  k-on-setup = search keeping depth 60

  k-interrupt : KeepsBits (stamped_interrupt {i = i})
  k-interrupt = search (k-on-transfer, k-on-setup, keeping) depth 60

-- ---- the calls

module _ {i : Bool} where
  k-nak-all : (n e : ℕ) → KeepsBits (bus.nak_all {i = i} n e)
  unfolding bus.nak_all
  k-nak-all zero e = search keeping
  k-nak-all (suc n) e = k_bind (search keeping) (λ _. k_bind (search keeping) (λ _. k-nak-all n (suc e)))

  k-completions : (n e : ℕ) → KeepsBits (iso_in_completions {i = i} n e)
  unfolding iso_in_completions
  k-completions zero e = search keeping
  k-completions (suc n) e = k_bind (k-complete e) (λ _. k-completions n e)

  k-acks : (dir : Dir) (first : Bool) → KeepsBits (acks {i = i} dir first)
  k-acks dir true = search keeping
  k-acks dir false = search keeping

  k-stalled : (dir : Dir) (e : ℕ) (onn : Bool) → KeepsBits (bus.set_stalled {i = i} dir e onn)
  k-stalled Out e true = search keeping depth 20
  k-stalled In e true = search keeping depth 20
  k-stalled Out e false = search keeping depth 20
  k-stalled In e false = search keeping depth 30

  k-allocated : (dir : Dir) (kind maximum : ℕ) (a : alloc-answer.Answer)
      → KeepsBits (allocated_as {i = i} dir kind maximum a)
  k-allocated dir kind maximum (alloc.Refused n) = search keeping
  k-allocated dir kind maximum (alloc.Given e base slots) = search keeping depth 20

  k-each : (es : List Endpoint) → KeepsBits (allocate_each {i = i} es)
  unfolding allocate_each
  k-each [] = search keeping
  k-each (e ∷ es) = k_bind (search keeping) (λ _. k-each es)

  k-begins-at : (dir : Dir) (x left e : ℕ) → KeepsBits (begins_at {i = i} dir x left e)
  unfolding begins_at
  k-begins-at dir x zero e = search keeping
  k-begins-at dir x (suc left) e = k_bind (search keeping) (λ a. k_bind (search keeping) (λ s.
      k_test (search keeping) (k-begins-at dir x left (suc e))))

  k-announce : (dir : Dir) (e : ℕ) → KeepsBits (announce {i = i} dir e)
  k-announce dir e = search keeping depth 20

  k-announce-after : (left total : ℕ) (dir : Dir) (e : ℕ) → KeepsBits (announce_after {i = i} left total dir e)
  unfolding announce_after
  k-announce-after zero total dir e = search keeping
  k-announce-after (suc left) total dir e = k_bind (search keeping depth 10) (λ x. k_bind (k-begins-at Out x 15 1) (λ o.
      k_test
      (k_bind (k-begins-at In x 15 1) (λ n. k_bind (k-announce In n) (λ _. k-announce-after left total In n)))
      (k_bind (k-announce Out o) (λ _. k-announce-after left total Out o))))

  k-announce-all : (es : List Endpoint) → KeepsBits (announce_all {i = i} es)
  k-announce-all [] = search keeping
  k-announce-all (e ∷ es) = search (k-announce, k-announce-after, keeping)

  k-allocate-read : (bytes : List ℕ) (a : reading-answer.Answer) → KeepsBits (allocate_read {i = i} bytes a)
  k-allocate-read bytes (reading.Refused n) = search keeping
  k-allocate-read bytes reading.Listed = search (k-each, k-announce-all, keeping) depth 20

k-enabling : (dir : Dir) (e : ℕ) (onn : Bool) → KeepsBits (bus.set_enabled dir e onn)
k-enabling Out e onn = search keeping depth 40
k-enabling In e onn = search keeping depth 40

k-slotted : (o : Slotted) → KeepsBits (slotted_code o)
k-slotted (SetEnabled dir e onn) = search (k-enabling, keeping) depth 20
k-slotted (PollRead e n) = search keeping depth 40
k-slotted (BeginWrite e bytes) = search keeping depth 40
k-slotted (PollWrite e bytes) = search keeping depth 40
k-slotted (PollDataOut n) = search keeping depth 40
k-slotted (BeginDataIn bytes first true) = search (k-acks, keeping) depth 60
k-slotted (BeginDataIn bytes first false) = search (k-acks, keeping) depth 60

k-aside : (o : Aside) → KeepsBits (aside_code o)
k-aside (Open e) = search keeping depth 40
k-aside (Close e) = search keeping depth 40
k-aside (Queue e bytes) = search keeping depth 40

k-started : (maximum : ℕ) (a : alloc-answer.Answer) → KeepsBits {i = false} (started_as maximum a)
k-started maximum (alloc.Refused n) = search keeping
k-started maximum (alloc.Given e base slots) = search keeping depth 20

k-other : (o : Other) → KeepsBits (other_code o)
k-other (Allocate dir kind address maximum interval) = search (k-allocated, keeping) depth 20
k-other (AllocateAll bytes) = search (k-allocate-read, keeping) depth 20
k-other (Start maximum) = search (k-started, keeping) depth 20
k-other BusPoll = search (k-nak-all, keeping) depth 60
k-other BusEnable = search keeping depth 20
k-other BusDisable = search keeping depth 20
k-other Microframe = search keeping depth 20
k-other (SetStalled dir e onn) = search (k-stalled, keeping) depth 20
k-other (IsStalled dir e) = search keeping depth 20
k-other (SetPaced e onn) = search keeping depth 20
k-other (Advance e) = search (k-completions, keeping) depth 40
k-other (BeginRead e n) = search keeping depth 40
k-other BeginSetup = search keeping depth 20
k-other PollSetup = search keeping depth 20
k-other PollDataIn = search keeping depth 40
k-other BeginAccept = search keeping depth 40
k-other PollAccept = search keeping depth 40
k-other BeginReject = search keeping depth 40
k-other (BeginDataOut n first) = search (k-acks, keeping) depth 60
k-other (BeginAcceptSetAddress a) = search keeping depth 40

pub k-call : (o : Op) → KeepsBits (code o)
k-call interrupt = search (k-interrupt, keeping) depth 20
k-call (slotted o) = k-slotted o
k-call (other o) = k-other o
k-call (aside o) = k-aside o

pub k-starting : (c : Config) → KeepsBits (starting c)
k-starting c = search keeping depth 30
