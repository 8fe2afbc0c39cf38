-- Request One over a list of calls: "Each queued OUT packet carries the microframe index of that reading in the
-- interrupt that admitted it".
-- Definitions; the theorem is in StampingLaws
use Rattle.std.specs.Prelude.{true, false, cond, List, [], ◌∷◌, ◌++◌, ◌≡◌, ℕ, suc, length}
use Rattle.regs.specs.declared.Access.{Access}
use Rattle.regs.specs.declared.Access.TheVariants.{Read, Write, Receive, Transmit, Ep0Dma, Wait, Callback}
use Rattle.regs.specs.declared.Reg.TheVariants.{FrameNo}
use Rattle.frame.specs.Usb20.{index_of}
use Rattle.state.specs.Driver.{Driver}
use Rattle.state.specs.State.{view}
use Rattle.script.specs.Every.{same_reg}
use Rattle.script.specs.Answers.{Answer}
use Rattle.script.specs.Calls.{Config, Op}
use Rattle.script.specs.Machine.{Buf, Call, start, begin, continue, question, Event, Ans, ended, handed, told, Pending}
use Rattle.script.specs.Machine.{idle, busy, Machine}
use Rattle.machine.specs.Suspended.{drive, machine_of}
use Rattle.proof_book.specs.FrontPage.{CallRecord, ring_stamps}

-- ---- "that reading": the number that the first continue of the operation under way brought, where frame_no was asked
-- for

pub data First : Type 0 where
  not_yet_lem unasked : First
  brought : ℕ → First

abbrev pub first_of : ℕ → First → First
first_of v not_yet_lem = brought v
first_of v unasked = unasked
first_of v (brought w) = brought w

-- "Each interrupt now begins with a frame reading": by the access that a begin hands out
abbrev pub asked_by : Access → First
asked_by (Read r e) = cond (same_reg r FrameNo) not_yet_lem unasked
asked_by (Write r e v) = unasked
asked_by (Receive e x) = unasked
asked_by (Transmit e x) = unasked
asked_by (Ep0Dma x) = unasked
asked_by (Wait n) = unasked
asked_by Callback = unasked

-- after a call, by what it was answered: a begin or a start-up that is handed an access begins an operation; a continue
-- that is handed one went on.
-- A refusal and a call that ends at once leave it
abbrev pub noticed : Call Config Op → Ans Answer → First → First
noticed (start c) (handed q) f = not_yet_lem
noticed (start c) (ended a) f = f
noticed (start c) (told n) f = f
noticed (begin o) (handed q) f = asked_by q
noticed (begin o) (ended a) f = f
noticed (begin o) (told n) f = f
noticed (continue v) (handed q) f = first_of v f
noticed (continue v) (ended a) f = f
noticed (continue v) (told n) f = f
noticed (question q) a f = f

-- its microframe index; before it, and where it was not asked for, there is none
abbrev pub Index : First → ℕ → Type 0
Index not_yet_lem x = ⊥
Index unasked x = ⊥
Index (brought v) x = x ≡ index_of v

-- ---- where a continue of an interrupt leaves one packet more, its stamp is that index, and those of the others are as
-- they were

abbrev pub OneMore : First → Driver → Driver → Type 0
OneMore f d d' = (e : ℕ) → length (ring_stamps d' e) ≡ suc (length (ring_stamps d e)) → (x : ℕ) × Index f x
    × (ring_stamps d' e ≡ ring_stamps d e ++ (x ∷ []))

-- of one call: what was under way, the reading as it is after the call, the driver's state before and after it
abbrev pub Stamping : Call Config Op → Pending Answer Driver → First → Driver → Driver → Type 0
Stamping (start c) w f d d' = Unit {0}
Stamping (begin o) w f d d' = Unit {0}
Stamping (question q) w f d d' = Unit {0}
Stamping (continue v) idle f d d' = Unit {0}
Stamping (continue v) (busy false a k) f d d' = Unit {0}
Stamping (continue v) (busy true a k) f d d' = OneMore f d d'

-- of each call of a list
abbrev pub StampsEach : List (Event Config Op) → Machine Answer Driver → First → Type 0
StampsEach [] m f = Unit {0}
StampsEach (e ∷ es) m f =
    let x = drive e.call m e.lent in
    let g = noticed e.call x.0 f in
    Stamping e.call m.under_way_lem g m.st x.1.st × StampsEach es x.1 g

-- of each call made by the code: the state's bytes and the slot buffer before it, and what the first continue brought
abbrev pub StampsMade : List ℕ → Buf → First → List CallRecord → Type 0
StampsMade xs a f [] = Unit {0}
StampsMade xs a f (m ∷ ms) =
    let g = noticed m.event.call m.answer f in
    Stamping m.event.call (machine_of xs a).under_way_lem g (view xs) (view m.bytes)
    × StampsMade m.bytes m.slots g ms
