-- What is left to run at each point of a completion
use Rattle.std.specs.Prelude.{◌≡◌, true, List, ℕ}
use Rattle.regs.specs.declared.Reg.TheVariants.{EpTLen}
use Rattle.regs.specs.declared.Dir.TheVariants.{In}
use Rattle.state.specs.Driver.{Driver}
use Rattle.script.specs.Tree as tree
use Rattle.script.specs.Tree.{asks, ends}
use Rattle.script.specs.Script.{Script, run, ◌>>=◌, ◌>>◌, write, look, next_len_lem}
use Rattle.script.specs.Statics.{wake}
use Rattle.script.specs.IsoIn.{iso_in_load}
use Rattle.script.specs.Machine.{Awaits, nothing, awaited}
use Rattle.script_ops.specs.Rings.{St}
use Rattle.script_ops.specs.Concrete.{concrete}
use Rattle.isochronous.specs.declared.complete.Complete.{Complete}
use Rattle.isochronous.specs.declared.complete.Complete.TheVariants as point
use Rattle.isochronous.specs.declared.complete.CompleteNext.{CompleteNext}
use Rattle.isochronous.specs.declared.complete.CompleteNext.TheVariants as next
use Rattle.isochronous.specs.declared.complete.Begun.{Begun}

-- the packet's length, then the wake-up
abbrev pub after_sent : ℕ → Script true Unit
after_sent e = do
  n ← look (next_len_lem In e)
  write EpTLen e n
  wake In e

-- a packet is loaded, then the wake-up
abbrev pub loading : ℕ → Script true Unit
loading e = do
  iso_in_load e
  wake In e

abbrev pub denote : Complete → tree.Prog St Unit
denote (point.Sent e) t = run concrete (after_sent e) t
denote (point.Loaded e) t = run concrete (wake {i = true} In e) t

abbrev pub begun : Begun → Driver → List ℕ → tree.Out St Unit
begun x d b = asks x.access (d, b) (λ _ t. denote x.point t)

abbrev pub meaning : CompleteNext → Driver → List ℕ → tree.Out St Unit
meaning (next.Asks q p) d b = asks q (d, b) (λ _ t. denote p t)
meaning next.Ends d b = ends tt (d, b)

-- nothing is awaited
abbrev pub awaits_at : Complete → Awaits
awaits_at p = nothing

abbrev pub Bound : Begun → Type 0
Bound x = awaited x.access ≡ awaits_at x.point

abbrev pub Linked : CompleteNext → Type 0
Linked (next.Asks q p) = awaited q ≡ awaits_at p
Linked next.Ends = Unit {0}
