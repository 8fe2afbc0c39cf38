-- Laws on the definitions of TransferKinds.antt
use Rattle.std.specs.Prelude.{Bool, false, ◌≡◌, refl, ℕ, length}
use Rattle.std.proofs.Common.{ap, ◌∙◌}
use Rattle.regs.specs.declared.Dir.{Dir}
use Rattle.state.specs.Driver.{Driver, ep_on}
use Rattle.script.specs.Cells.{Cell, Val, globals-cell, control-cell, allocator-cell, ep-cell, request-cell, paced_cell}
use Rattle.script.specs.Script.{Act, DmaStep, Burst}
use Rattle.script.specs.Statics.{is_on}
use Rattle.script.specs.TransferKinds.{TransferKinds, Shows, allocates, Sorted}
use Rattle.script_ops.specs.Rings.{St}
use Rattle.script_ops.specs.Concrete.{concrete}
use Rattle.proof_book.specs.LeavesLaws.{RingsOnly, GivenStays, given_stays, rings-stay, put-given, turns}
use Rattle.proof_book.specs.LeavesLaws.{act-leaves, hand-leaves, turns_row, row_stays}
use Rattle.proof_book.specs.TransferKinds.{Steady, Has}

-- a change of other records than the endpoints'
pub others : (d d' : Driver) → d'.eps ≡ d.eps → d'.globals.iso_out_eps ≡ d.globals.iso_out_eps
    → d'.globals.iso_in_every ≡ d.globals.iso_in_every → d'.allocator ≡ d.allocator
    → length d'.wakes.codes ≡ length d.wakes.codes → Steady d d'
unfolding ep_on
others d d' p o i a c = record {
  places = rw p refl;
  flags = λ dir e. rw p refl;
  outs = o;
  every = i;
  allocator
      = a;
  codes = c;
}

-- what an allocation gave has the flag
sorts-stay : (t : Bool) {d d' : Driver} → GivenStays t d d' → Steady d d'
sorts-stay t p = record {
  places = p.places;
  flags = λ dir e. λ i. (p.each dir e i).0;
  outs = λ i. (p.rest i).1;
  every = λ i. (p.rest i).2;
  allocator = λ i. (p.rest i).4;
  codes = λ i. (p.rest i).5;
}

-- ---- each operation

pub put-steady : (c : Cell) (v : Val c) (s : St) → Steady s.0 (concrete.put c v s).0
put-steady c v s = sorts-stay false (put-given c v s)

pub rings-steady : (t : Bool) {d d' : Driver} → RingsOnly t d d' → Steady d d'
rings-steady t p = sorts-stay t (given_stays t (rings-stay t p))

pub act-steady : (q : Act) → allocates q ≡ false → (s : St) → Steady s.0 (concrete.act q s).0
act-steady q h s = rings-steady (turns q) (act-leaves q h s)

pub hand-steady : (q : DmaStep) (s : St) → Steady s.0 (concrete.hand q s).1.0
hand-steady q s = rings-steady false (hand-leaves q s)

pub row-steady : (g : Burst) (n : ℕ) (s : St) → Steady s.0 (concrete.row g n s).1.0
row-steady g n s = sorts-stay (turns_row g n) (given_stays (turns_row g n) (row_stays g n s))

has-steady : {iso : TransferKinds} {d d' : Driver} → Steady d d' → Has iso d → Has iso d'
has-steady p k = record {
  flags = λ dir e. ap is_on (p.flags dir e) ∙ k.flags dir e;
  outs
      = rw p.outs k.outs;
  every = rw p.every k.every;
}

has-shows : {iso : TransferKinds} (c : Cell) (s : St) → Has iso s.0 → Shows iso c (concrete.get c s)
has-shows globals-cell s k = (k.outs, k.every)
has-shows control-cell s k = tt
has-shows allocator-cell s k = tt
has-shows (ep-cell d e) s k = k.flags d e
has-shows (request-cell d e) s k = tt
has-shows (paced_cell e) s k = tt

-- the driver's own operations leave the sorts of any state in which EP0 is not isochronous
pub sorted : (iso : TransferKinds) → ((dir : Dir) → iso dir 0 ≡ false) → Sorted concrete iso (λ s. Has iso s.0)
sorted iso ep0 = record {
  ep0 = ep0;
  shows = has-shows;
  put = λ c v s k. has-steady (put-steady c v s) k;
  act = λ q h s k. has-steady (act-steady q h s) k;
  hand = λ q s k. has-steady (hand-steady q s) k;
}
