-- Laws on the definitions of AddressCalls.antt
use Rattle.std.specs.Prelude.{Bool, true, false, ◌≡◌, refl, ℕ}
use Rattle.std.proofs.Common.{true≢false, sym, eqb-true}
use Rattle.regs.specs.declared.Access.{Access}
use Rattle.regs.specs.declared.Access.TheVariants.{Read, Write, Receive, Transmit, Ep0Dma, Wait, Callback}
use Rattle.regs.specs.declared.Reg.TheVariants.{DevAd}
use Rattle.script.specs.Script.{Script}
use Rattle.script.specs.Calls.{Op, interrupt, slotted, other, aside, SetEnabled, PollRead, BeginWrite}
use Rattle.script.specs.Calls.{PollWrite, PollDataOut, BeginDataIn, Allocate, AllocateAll, Start, BusPoll}
use Rattle.script.specs.Calls.{BusEnable}
use Rattle.script.specs.Calls.{BusDisable, Microframe, SetStalled, IsStalled, SetPaced, Advance, BeginRead}
use Rattle.script.specs.Calls.{BeginSetup, PollSetup, PollDataIn, BeginAccept, PollAccept, BeginReject}
use Rattle.script.specs.Calls.{BeginDataOut}
use Rattle.script.specs.Calls.{BeginAcceptSetAddress, code}
use Rattle.script.specs.Every.{Throughout, same_reg}
use Rattle.script.specs.EveryLaws.{Only}
use Rattle.script.specs.Steps.{Kind, kind_of, may_address, may_ask}
use Rattle.script.proofs.StepsCalls.{call-steps}
use Rattle.script.specs.StepsRunsLaws.{writes-address, accesses}
use Rattle.script.specs.AddressWrites.{Writes}
use Rattle.script.specs.AddressCalls.{Addresses}

abbrev pub None : ℕ → Type 0
None v = ⊥

abbrev pub N : {i : Bool} {A : Type 0} → Script i A → Type 0
N p = Only (Writes None) p

where_so : {X : Type 0} (b : Bool) → (b ≡ true → X) → Throughout b X
where_so true x = x refl
where_so false x = tt

of-kind : {Allowed : ℕ → Type 0} (k : Kind) → ((v : ℕ) → may_address k v ≡ true → Allowed v)
    → (q : Access) → may_ask k q ≡ true → Writes Allowed q
of-kind k f (Write r e v) h = where_so (same_reg r DevAd) (λ g. f v (writes-address k r v h g))
of-kind k f (Read r e) h = tt
of-kind k f (Receive e x) h = tt
of-kind k f (Transmit e x) h = tt
of-kind k f (Ep0Dma x) h = tt
of-kind k f (Wait n) h = tt
of-kind k f Callback h = tt

none : {X : Type 0} → false ≡ true → X
none h = absurd (true≢false (sym h))

allowed : (o : Op) (v : ℕ) → may_address (kind_of o) v ≡ true → Addresses o v
allowed interrupt v h = none h
allowed (slotted (SetEnabled d e on)) v h = none h
allowed (slotted (PollRead e n)) v h = none h
allowed (slotted (BeginWrite e bs)) v h = none h
allowed (slotted (PollWrite e bs)) v h = none h
allowed (slotted (PollDataOut n)) v h = none h
allowed (slotted (BeginDataIn bs first last)) v h = none h
allowed (other (Allocate d kind address maximum interval)) v h = none h
allowed (other (AllocateAll bytes)) v h = none h
allowed (other (Start maximum)) v h = none h
allowed (other BusPoll) v h = eqb-true v 0 h
allowed (other BusEnable) v h = none h
allowed (other BusDisable) v h = none h
allowed (other Microframe) v h = none h
allowed (other (SetStalled d e on)) v h = none h
allowed (other (IsStalled d e)) v h = none h
allowed (other (SetPaced e on)) v h = none h
allowed (other (Advance e)) v h = none h
allowed (other (BeginRead e n)) v h = none h
allowed (other BeginSetup) v h = none h
allowed (other PollSetup) v h = none h
allowed (other PollDataIn) v h = none h
allowed (other BeginAccept) v h = none h
allowed (other PollAccept) v h = tt
allowed (other BeginReject) v h = none h
allowed (other (BeginDataOut n first)) v h = none h
allowed (other (BeginAcceptSetAddress a)) v h = none h
allowed (aside o) v h = none h

pub address-writes : (o : Op) → Only (Writes (Addresses o)) (code o)
address-writes o = accesses (kind_of o) (of-kind (kind_of o) (allowed o)) (code o) (call-steps o)
