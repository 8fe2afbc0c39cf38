-- Looks at a SIE that is busy, at each wait of the interrupt: what is left after them is the wait with so many looks
-- less. Assumes nothing.
use Rattle.std.specs.Prelude.{Bool, true, false, not, ◌||◌, List, ◌≡◌, ℕ, suc, ◌+◌, ◌-◌, ◌<◌, ◌≤◌, eqb, length}
use Rattle.std.proofs.Common.{true≢false, sym, ap, ◌∙◌, arith, ne_eqb}
use Rattle.std.proofs.Math.Path.{refl}
use Rattle.regs.specs.declared.Access.TheVariants.{Read}
use Rattle.regs.specs.declared.Reg.TheVariants.{MisSt}
use Rattle.regs.specs.declared.Dir.{Dir}
use Rattle.regs.specs.Registers.{fits_in}
use Rattle.regs.specs.MisStatus.{sie_free}
use Rattle.state.specs.State.{view, saved}
use Rattle.script.specs.declared.Transfer.{Transfer}
use Rattle.script.specs.Machine.{Buf}
use Rattle.interrupt.specs.declared.Point.TheVariants as point
use Rattle.interrupt.specs.declared.Next.TheVariants as next
use Rattle.interrupt.specs.declared.settle.Settle.{Settle}
use Rattle.interrupt.specs.declared.settle.Settle.TheVariants as settle-point
use Rattle.interrupt.specs.declared.toggled.Toggled.TheVariants as toggled-point
use Rattle.interrupt.specs.Settle as settle
use Rattle.interrupt.specs.Toggled as toggled
use Rattle.interrupt.specs.Points.{fits_at}
use Rattle.interrupt.specs.Wait.{over}
use Rattle.interrupt.specs.WaitLaws.{wait-more}
use Rattle.interrupt.specs.Stands.{Stands}
use Rattle.interrupt.specs.Suspended as under
use Rattle.machine.specs.Suspended.{slots_fit}
use Rattle.readings.specs.Readings.{lent}
use Rattle.readings.specs.Passing.{Looked}
use Rattle.readings.specs.PassingLaws.{looks_on}

-- the wait goes on
goes_on_lem : (v n : ℕ) → sie_free v ≡ false → over v (suc n) ≡ false
unfolding over
goes_on_lem v n busy = ap (λ (x : Bool). x || eqb (suc n) 0) busy ∙ ne_eqb (suc n) 0 (λ h. omega (arith, h))

less : (n : ℕ) → suc n - 1 ≡ n
less n = omega arith

module _ (i v : ℕ) (us : List ℕ) (b : Buf) (time : List ℕ) (long : length us ≡ 2999) (fit : slots_fit (view us) b ≡ true)
    (wide : fits_in v 2 ≡ true) (busy : sie_free v ≡ false) (ys : List ℕ) (k m : ℕ) (some : 0 < k) (few : k ≤ m) where
  -- an isochronous OUT
  pub iso-looks : (setup : Bool) (x : Transfer) → (saved us).tag ≡ 6 → under.decode (saved us)
      ≡ under.Interrupt (point.Settle setup x (settle-point.IsoLook m))
      → {w : ℕ} → Stands w (Read MisSt 0) (point.Settle setup x (settle-point.IsoLook (m - k))) us ys
      → Looked k i v (lent us b time) (lent ys b time)
  unfolding fits_at settle.fits_at
  iso-looks setup x t e h =
      looks_on (λ z. point.Settle setup x (settle-point.IsoLook z)) i v us b time long fit (λ z. wide) (λ z. refl)
      (λ z d. simp (wait-more v (suc z) (goes_on_lem v z busy), less z)) k m (m - k) some (omega (arith, few)) us ys
      (record { tagged = t; decoded = e }) refl h

  -- a bulk or interrupt transaction
  pub bulk-looks : (setup : Bool) (x : Transfer) → (saved us).tag ≡ 6 → under.decode (saved us)
      ≡ under.Interrupt (point.Settle setup x (settle-point.BulkLook m))
      → {w : ℕ} → Stands w (Read MisSt 0) (point.Settle setup x (settle-point.BulkLook (m - k))) us ys
      → Looked k i v (lent us b time) (lent ys b time)
  unfolding fits_at settle.fits_at
  bulk-looks setup x t e h =
      looks_on (λ z. point.Settle setup x (settle-point.BulkLook z)) i v us b time long fit (λ z. wide) (λ z. refl)
      (λ z d. simp (wait-more v (suc z) (goes_on_lem v z busy), less z)) k m (m - k) some (omega (arith, few)) us ys
      (record { tagged = t; decoded = e }) refl h

  -- did a packet go through?
  pub toggled-looks : (d : Dir) (setup : Bool) (x : Transfer) (iso : Bool)
      → (saved us).tag ≡ 6 → under.decode (saved us) ≡ under.Interrupt
      (point.Toggled d setup x iso (toggled-point.Look m))
      → {w : ℕ} → Stands w (Read MisSt 0) (point.Toggled d setup x iso (toggled-point.Look (m - k))) us ys
      → Looked k i v (lent us b time) (lent ys b time)
  unfolding fits_at toggled.fits_at
  toggled-looks dir setup x iso t e h =
      looks_on (λ z. point.Toggled dir setup x iso (toggled-point.Look z)) i v us b time long fit (λ z. wide)
      (λ z. refl)
      (λ z d. simp (wait-more v (suc z) (goes_on_lem v z busy), less z)) k m (m - k) some (omega (arith, few)) us ys
      (record { tagged = t; decoded = e }) refl h

pub is_false : (x : Bool) → not x ≡ true → x ≡ false
is_false true h = absurd (true≢false (sym h))
is_false false h = refl
