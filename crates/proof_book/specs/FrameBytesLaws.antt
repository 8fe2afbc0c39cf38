-- No record changed, and bytes of none that wait: what holds between calls holds still
use Rattle.std.specs.Prelude.{List, ◌⊎◌, ◌≡◌, ℕ, ◌+◌, ◌≤◌, ◌<◌, length}
use Rattle.std.proofs.Common.{inl, inr, sym, ◌∙◌, arith}
use Rattle.regs.specs.declared.Dir.{Dir}
use Rattle.regs.specs.declared.Dir.TheVariants.{Out, In}
use Rattle.state.specs.declared.EpState.{EpState}
use Rattle.state.specs.Driver.{Driver, ep_on}
use Rattle.ring.specs.Slot.{slot_addr, count_of}
use Rattle.ring.specs.Waiting.{waiting, Same, Only}
use Rattle.ring.specs.Laws.{waiting-foreign, waiting_none}
use Rattle.script.specs.Simulates.{Phase}
use Rattle.script.specs.Machine.{Buf}
use Rattle.proof_book.specs.Pages.{Pages}
use Rattle.proof_book.specs.Coupling.{end_of, Apart, lens_of, Held}
use Rattle.proof_book.specs.Coupling.{Coupling}
use Rattle.proof_book.specs.FrameLaws.{changed-not, out-bytes, in_bytes, rebuilt, keeps-changed, slot-foreign}

-- ---- no record changed, bytes of none that wait

-- the tail's slot of every IN ring in which some wait is as it was, whole
abbrev pub TailsStay : Driver → Buf → Buf → Type 0
TailsStay d b b' = (x : ℕ) → 0 < count_of (ep_on d In x)
    → Same (slot_addr (ep_on d In x) (ep_on d In x).tail) (slot_addr (ep_on d In x) (ep_on d In x).tail
    + (ep_on d In x).stride) b b'

module _ {φ : Phase} {b b' : Buf} {d : Driver} {t : Pages} (R : Coupling φ b d t) (long : length b' ≡ length b) where
  pub bytes-changed : ((dir : Dir) (x : ℕ) → waiting b' (ep_on d dir x) (lens_of d dir x)
      ≡ waiting b (ep_on d dir x) (lens_of d dir x))
      → TailsStay d b b' → Coupling φ b' d t
  bytes-changed w s = rebuilt R (keeps-changed (changed-not R.sized Out 0)) long (record {
    step = R.step;
    same = R.same;
    outs = λ x. out-bytes long (w Out x) (R.outs x);
    ins = λ x. in_bytes long (w In x) (s x) (R.ins x);
    arming = R.arming;
  })

  -- in a region apart from every ring in which some wait
  pub bytes-region : (lo hi : ℕ) → Only lo hi b b'
      → ((dir : Dir) (x : ℕ) → Apart lo hi (ep_on d dir x).base (end_of (ep_on d dir x)) ⊎ (count_of (ep_on d dir x) ≡ 0))
      → Coupling φ b' d t
  bytes-region lo hi o away = bytes-changed kept tails
    where
      swap : {x y : ℕ} → Apart lo hi x y → (y ≤ lo) ⊎ (hi ≤ x)
      swap (inl h) = inr h
      swap (inr h) = inl h

      by : {most : ℕ} {r : EpState} {ls : List ℕ} {ws : List (List ℕ)} → Held most b r ls ws
          → Apart lo hi r.base (end_of r) ⊎ (count_of r ≡ 0)
          → waiting b' r ls ≡ waiting b r ls
      by h (inl a) = waiting-foreign h.placed h.ring lo hi b b' o (swap a)
      by {r = r} {ls = ls} h (inr z) = waiting_none b' r ls z ∙ sym (waiting_none b r ls z)

      kept : (dir : Dir) (x : ℕ) → waiting b' (ep_on d dir x) (lens_of d dir x)
          ≡ waiting b (ep_on d dir x) (lens_of d dir x)
      kept Out x = by (R.outs x).held (away Out x)
      kept In x = by (R.ins x).held (away In x)

      tails : TailsStay d b b'
      tails x w = elim (away In x) [
        | inl a ↦ slot-foreign (ep_on d In x).tail b b' (R.ins x).held.placed o (swap a)
        | inr z ↦ absurd (omega (arith, z))
      ]
