-- Which endpoints are isochronous, by the calls: the kind with which each was allocated. Document 01 has no other word
-- for it, and the book's own flag (`iso_of`) is held against this one. Definitions; FrontPage.antt says it of every call
use Rattle.std.specs.Prelude.{Bool, false, List, [], ◌∷◌, ℕ}
use Rattle.regs.specs.declared.Dir.{Dir}
use Rattle.state.specs.declared.Allocator.{Allocator}
use Rattle.alloc.specs.declared.Answer as alloc-answer
use Rattle.alloc.specs.declared.Answer.TheVariants as alloc
use Rattle.alloc.specs.Alloc.{is_iso, allocate_of}
use Rattle.descriptor.specs.declared.Endpoint.{Endpoint}
use Rattle.descriptor.specs.Reading.{list_of}
use Rattle.descriptor.specs.Trial.{direction_of}
use Rattle.script.specs.Answers.{Answer}
use Rattle.script.specs.Calls.{Config, Op, interrupt, slotted, other, aside, Other, Allocate, AllocateAll, Start}
use Rattle.script.specs.Calls.{BusPoll}
use Rattle.script.specs.Calls.{BusEnable, BusDisable, Microframe, SetStalled, IsStalled, SetPaced, Advance, BeginRead}
use Rattle.script.specs.Calls.{BeginSetup, PollSetup, PollDataIn, BeginAccept, PollAccept, BeginReject, BeginDataOut}
use Rattle.script.specs.Calls.{BeginAcceptSetAddress}
use Rattle.script.specs.Machine.{Call, start, begin, continue, question, Ans, ended, handed, told}
use Rattle.proof_book.specs.Pages.{on}

-- is it isochronous?
abbrev pub Sorts : Type 0
Sorts = Dir → ℕ → Bool

-- an allocation of this kind: the number that it gives, if it gives one
abbrev pub sorted_as : Dir → ℕ → alloc-answer.Answer → Sorts → Sorts
sorted_as d kind (alloc.Refused n) f = f
sorted_as d kind (alloc.Given e base slots) f = on d e (is_iso kind) f

-- a list of endpoints, one after the other
abbrev pub all_sorted : Allocator → List Endpoint → Sorts → Sorts
all_sorted a [] f = f
all_sorted a (e ∷ es) f =
    let z = allocate_of a e.kind e.address e.maximum (direction_of e.address) in
    all_sorted z.after es (sorted_as (direction_of e.address) e.kind z.answer f)

-- what a call does that is not refused, where numbers and buffers are given by a: allocations alone change it
abbrev pub other_sorts : Other → Allocator → Sorts → Sorts
other_sorts (Allocate d kind address maximum interval) a f =
    sorted_as d kind (allocate_of a kind address maximum d).answer f
other_sorts (AllocateAll bytes) a f = all_sorted a (list_of bytes) f
other_sorts (Start maximum) a f = f
other_sorts BusPoll a f = f
other_sorts BusEnable a f = f
other_sorts BusDisable a f = f
other_sorts Microframe a f = f
other_sorts (SetStalled d e on) a f = f
other_sorts (IsStalled d e) a f = f
other_sorts (SetPaced e on) a f = f
other_sorts (Advance e) a f = f
other_sorts (BeginRead e n) a f = f
other_sorts BeginSetup a f = f
other_sorts PollSetup a f = f
other_sorts PollDataIn a f = f
other_sorts BeginAccept a f = f
other_sorts PollAccept a f = f
other_sorts BeginReject a f = f
other_sorts (BeginDataOut n first) a f = f
other_sorts (BeginAcceptSetAddress b) a f = f

abbrev pub op_sorts : Op → Allocator → Sorts → Sorts
op_sorts interrupt a f = f
op_sorts (slotted o) a f = f
op_sorts (other o) a f = other_sorts o a f
op_sorts (aside o) a f = f

-- after a call. A start-up that is not refused forgets all; an allocation that is not refused hands out an access
abbrev pub sorts_after : Call Config Op → Ans Answer → Allocator → Sorts → Sorts
sorts_after (start c) (handed q) a f = λ d e. false
sorts_after (start c) (ended z) a f = f
sorts_after (start c) (told n) a f = f
sorts_after (begin o) (handed q) a f = op_sorts o a f
sorts_after (begin o) (ended z) a f = f
sorts_after (begin o) (told n) a f = f
sorts_after (continue v) x a f = f
sorts_after (question q) x a f = f
