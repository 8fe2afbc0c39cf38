-- What is left to run at each point of a transfer that is settled (mod.rs 668-715); the transfer as it was entered is
-- the environment
use Rattle.std.specs.Prelude.{◌≡◌, Bool, true, List, ℕ}
use Rattle.regs.specs.declared.Reg.TheVariants.{IntFg, IntSt, MisSt, RxLen}
use Rattle.regs.specs.Registers.{width_of}
use Rattle.regs.specs.MisStatus.{sie_free}
use Rattle.regs.specs.Flags.{transfer}
use Rattle.state.specs.Driver.{Driver}
use Rattle.script.specs.declared.Transfer.{Transfer}
use Rattle.script.specs.Tree as tree
use Rattle.script.specs.Tree.{asks, ends, bind_out}
use Rattle.script.specs.Script.{Script, run, ret, test, ◌>>=◌, ◌>>◌, read}
use Rattle.script.specs.Machine.{Awaits, reading, awaited}
use Rattle.script.specs.Handler.{nak_non_iso, late_taken, waited, retaken}
use Rattle.script_ops.specs.Rings.{St}
use Rattle.script_ops.specs.Concrete.{concrete}
use Rattle.script_ops.specs.Numbers.{fits}
use Rattle.interrupt.specs.declared.settle.Settle.{Settle}
use Rattle.interrupt.specs.declared.settle.Settle.TheVariants as point
use Rattle.interrupt.specs.declared.settle.SettleNext.{SettleNext}
use Rattle.interrupt.specs.declared.settle.SettleNext.TheVariants as next
use Rattle.interrupt.specs.Wait.{looked}
use Rattle.interrupt.specs.Nak as nak

-- ---- an isochronous OUT was on the bus

abbrev pub after_iso_wait : Transfer → Script true Transfer
after_iso_wait x = do
  now ← read IntSt 0
  len ← read RxLen 0
  ret (late_taken x now len)

-- ---- a bulk or interrupt transaction

abbrev pub after_bulk_wait : Transfer → Script true Transfer
after_bulk_wait x = do
  len ← read RxLen 0
  ret (waited x len)

-- ---- another: `retake`

unfoldable pub after_st : Transfer → ℕ → Script true Transfer
after_st x st = do
  nak_non_iso st
  ret (retaken x st)

unfoldable pub after_flags : Transfer → ℕ → Script true Transfer
after_flags x f = test (transfer f) (ret x) (do
  st ← read IntSt 0
  after_st x st)

unfoldable pub after_mis : Transfer → ℕ → Script true Transfer
after_mis x m = test (sie_free m)
    (do
      f ← read IntFg 0
      after_flags x f)
    (ret x)

abbrev pub denote : Transfer → Settle → ℕ → tree.Prog St Transfer
denote x (point.IsoLook n) v t = bind_out (looked v n t) (λ _ u. run concrete (after_iso_wait x) u)
denote x point.IsoSt v t = run concrete (do
  len ← read {i = true} RxLen 0
  ret (late_taken x v len)) t
denote x (point.IsoLen now) v t = ends (late_taken x now v) t
denote x (point.BulkLook n) v t = bind_out (looked v n t) (λ _ u. run concrete (after_bulk_wait x) u)
denote x point.BulkLen v t = ends (waited x v) t
denote x point.Mis v t = run concrete (after_mis x v) t
denote x point.Flags v t = run concrete (after_flags x v) t
denote x point.St v t = run concrete (after_st x v) t
denote x (point.Nak st p) v t = bind_out (nak.denote st p v t) (λ _ u. ends (retaken x st) u)

abbrev pub meaning : Transfer → SettleNext → Driver → List ℕ → tree.Out St Transfer
meaning x (next.Asks q p) d b = asks q (d, b) (λ v t. denote x p v t)
meaning x (next.Ends y) d b = ends y (d, b)

abbrev pub awaits_at : Settle → Awaits
awaits_at (point.IsoLook n) = reading (width_of MisSt)
awaits_at point.IsoSt = reading (width_of IntSt)
awaits_at (point.IsoLen now) = reading (width_of RxLen)
awaits_at (point.BulkLook n) = reading (width_of MisSt)
awaits_at point.BulkLen = reading (width_of RxLen)
awaits_at point.Mis = reading (width_of MisSt)
awaits_at point.Flags = reading (width_of IntFg)
awaits_at point.St = reading (width_of IntSt)
awaits_at (point.Nak st p) = nak.awaits_at p

abbrev pub Linked : SettleNext → Type 0
Linked (next.Asks q p) = awaited q ≡ awaits_at p
Linked (next.Ends y) = Unit {0}

-- row 16 turned round
unfoldable pub fits_at : Settle → ℕ → Bool
fits_at p v = fits (awaits_at p) v
