-- Document 01: "All else, refusals too: no change". Which endpoint each call names; the pages of all others stay.
-- Definitions; FrontPage.antt says it of every call
use Rattle.std.specs.Prelude.{Bool, false, ◌&&◌, ◌≢◌, ◌≡◌, ℕ, ◌%◌, eqb}
use Rattle.regs.specs.declared.Access.{Access}
use Rattle.regs.specs.declared.Access.TheVariants.{Read, Write, Receive, Transmit, Ep0Dma, Wait, Callback}
use Rattle.regs.specs.declared.Reg.TheVariants.{IntFg}
use Rattle.regs.specs.declared.Dir.{Dir}
use Rattle.regs.specs.declared.Dir.TheVariants.{Out, In}
use Rattle.script.specs.Every.{same_reg}
use Rattle.script.specs.Answers.{Answer}
use Rattle.script.specs.Calls.{Config, Op, interrupt, slotted, other, aside, Slotted, SetEnabled, PollRead, BeginWrite}
use Rattle.script.specs.Calls.{PollWrite, PollDataOut, BeginDataIn, Other, Allocate, AllocateAll, Start, BusPoll}
use Rattle.script.specs.Calls.{BusEnable, BusDisable, Microframe, SetStalled, IsStalled, SetPaced, Advance, BeginRead}
use Rattle.script.specs.Calls.{BeginSetup, PollSetup, PollDataIn, BeginAccept, PollAccept, BeginReject, BeginDataOut}
use Rattle.script.specs.Calls.{BeginAcceptSetAddress, Aside, Open, Close, Queue}
use Rattle.script.specs.Machine.{Call, start, begin, continue, question, Ans, ended, handed, told}
use Rattle.proof_book.specs.Pages.{Pages}

-- the release of a bus reset's flag, in which no endpoint keeps its packets
abbrev pub releases : Access → Bool
releases (Read r e) = false
releases (Write r e v) = same_reg r IntFg && eqb v 1
releases (Receive e x) = false
releases (Transmit e x) = false
releases (Ep0Dma x) = false
releases (Wait n) = false
releases Callback = false

-- an answer that hands out such an access
abbrev pub hands_out : (Access → Bool) → Ans Answer → Bool
hands_out f (ended z) = false
hands_out f (handed q) = f q
hands_out f (told k) = false

abbrev pub releasing : Ans Answer → Bool
releasing a = hands_out releases a

-- a transmit address of IN e
abbrev pub sends_to : Access → ℕ → Bool
sends_to (Read r f) e = false
sends_to (Write r f v) e = false
sends_to (Receive f x) e = false
sends_to (Transmit f x) e = eqb (e % 16) (f % 16)
sends_to (Ep0Dma x) e = false
sends_to (Wait n) e = false
sends_to Callback e = false

-- an answer that hands out a receive address of OUT e
abbrev pub gives_to : Access → ℕ → Bool
gives_to (Read r f) e = false
gives_to (Write r f v) e = false
gives_to (Receive f x) e = eqb (f % 16) (e % 16)
gives_to (Transmit f x) e = false
gives_to (Ep0Dma x) e = false
gives_to (Wait n) e = false
gives_to Callback e = false

abbrev pub addressed : Ans Answer → ℕ → Bool
addressed a e = hands_out (λ q. gives_to q e) a

-- the endpoints whose packets a call may change: one, none of them, any
pub data Names : Type 0 where
  only : Dir → ℕ → Names
  none any : Names

abbrev pub slotted_names : Slotted → Names
slotted_names (SetEnabled d e on) = only d e
slotted_names (PollRead e n) = only Out e
slotted_names (BeginWrite e bytes) = none
slotted_names (PollWrite e bytes) = only In e
slotted_names (PollDataOut n) = none
slotted_names (BeginDataIn bytes first last) = none

-- an allocation gives a number of its own choice; it changes no packet (`early_leaves` of FrontPage.antt)
abbrev pub other_names : Other → Names
other_names (Allocate d kind address maximum interval) = any
other_names (AllocateAll bytes) = any
other_names (Start maximum) = none
other_names BusPoll = none
other_names BusEnable = none
other_names BusDisable = none
other_names Microframe = none
other_names (SetStalled d e on) = none
other_names (IsStalled d e) = none
other_names (SetPaced e on) = none
other_names (Advance e) = only In e
other_names (BeginRead e n) = none
other_names BeginSetup = none
other_names PollSetup = none
other_names PollDataIn = none
other_names BeginAccept = none
other_names PollAccept = none
other_names BeginReject = none
other_names (BeginDataOut n first) = none
other_names (BeginAcceptSetAddress a) = none

abbrev pub aside_names : Aside → Names
aside_names (Open e) = only Out e
aside_names (Close e) = only Out e
aside_names (Queue e bytes) = only In e

-- in its begin
abbrev pub op_names : Op → Names
op_names interrupt = none
op_names (slotted o) = slotted_names o
op_names (other o) = other_names o
op_names (aside o) = aside_names o

-- and in its continues; those of an interrupt continue by their accesses (`unmoved`, `unmoved_in`)
abbrev pub on_names : Op → Names
on_names interrupt = any
on_names (slotted o) = slotted_names o
on_names (other o) = other_names o
on_names (aside o) = aside_names o

-- the operation under way, after a call, by what it was answered: that of a begin that is handed an access. A start-up
-- names none
abbrev pub under_way : Call Config Op → Ans Answer → Names → Names
under_way (start c) (handed q) m = none
under_way (start c) (ended a) m = m
under_way (start c) (told n) m = m
under_way (begin o) (handed q) m = on_names o
under_way (begin o) (ended a) m = m
under_way (begin o) (told n) m = m
under_way (continue v) a m = m
under_way (question q) a m = m

-- what a call names, where the operation under way names m. An accepted start-up makes all afresh
abbrev pub call_names : Call Config Op → Names → Names
call_names (start c) m = any
call_names (begin o) m = op_names o
call_names (continue v) m = m
call_names (question q) m = none

-- another endpoint than those named; numbers count modulo 16
abbrev pub Away : Names → Dir → ℕ → Type 0
Away none d e = Unit {0}
Away any d e = ⊥
Away (only Out f) Out e = e % 16 ≢ f % 16
Away (only In f) In e = e % 16 ≢ f % 16
Away (only Out f) In e = Unit {0}
Away (only In f) Out e = Unit {0}

-- its page is as before
abbrev pub SamePage : Dir → ℕ → Pages → Pages → Type 0
SamePage Out e t t' = t'.outs e ≡ t.outs e
SamePage In e t t' = t'.ins e ≡ t.ins e
