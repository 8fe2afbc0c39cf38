-- Bytes of the lent buffer that are no ring's: an endpoint's own slot, and EP0's
use Rattle.std.specs.Prelude.{Bool, true, false, cond, List, ◌⊎◌, ◌≡◌, refl, ℕ, ◌+◌, ◌*◌, ◌≤◌, ltb, length}
use Rattle.std.proofs.Common.{inl, inr, ap, sym, ◌∙◌, arith, ltb-false}
use Rattle.std.proofs.Math.Decide.{ℕ_discrete}
use Rattle.regs.specs.declared.Dir.{Dir}
use Rattle.regs.specs.declared.Dir.TheVariants.{In}
use Rattle.state.specs.declared.Globals.{Globals}
use Rattle.state.specs.Driver.{Driver, key, ep_on}
use Rattle.ring.specs.Slot.{count_of}
use Rattle.ring.specs.Slots.{slot-from, slot-upto}
use Rattle.ring.specs.Copies.{bytes_at, copied}
use Rattle.ring.proofs.MarksSlots.{only-copied}
use Rattle.script.specs.Simulates.{quiet}
use Rattle.script.specs.Cells.{EpCore}
use Rattle.script.specs.Script as script
use Rattle.script.specs.Statics.{is_on}
use Rattle.script.specs.Machine.{Buf}
use Rattle.script_ops.specs.Rings.{word_at, filled_on, filled_ep0}
use Rattle.proof_book.specs.Pages.{Pages}
use Rattle.proof_book.specs.Coupling.{end_of, Apart, Coupling}
use Rattle.proof_book.specs.LensLaws.{key-ep}
use Rattle.proof_book.specs.FrameLaws.{only-bytes}
use Rattle.proof_book.specs.FrameBytesLaws.{bytes-region}
use Rattle.proof_book.specs.LiesLaws.{ep0_lies}
use Rattle.proof_book.specs.HeldLaws.{LookAgrees, FetchAgrees, ActAgrees, HandAgrees}

-- a part of a region is apart from what the region is
narrow : {lo hi h x y : ℕ} → h ≤ hi → Apart lo hi x y → Apart lo h x y
narrow l (inl a) = inl (omega arith)
narrow l (inr a) = inr a

-- ---- an endpoint's own slot

module _ {b : Buf} {d : Driver} {t : Pages} (R : Coupling quiet b d t) (e : ℕ) (bytes : List ℕ) where
  -- the region of another endpoint is apart, and in its own ring none wait
  fill-away : is_on (ep_on d In e).iso ≡ false → length bytes ≤ (ep_on d In e).max_len → (dir : Dir) (x : ℕ)
      → Apart (ep_on d In e).base ((ep_on d In e).base + length bytes) (ep_on d dir x).base (end_of (ep_on d dir x))
      ⊎ (count_of (ep_on d dir x) ≡ 0)
  fill-away i m dir x = elim (ℕ_discrete (key dir x) (key In e)) [
    | yes h ↦ inr (ap count_of (key-ep d dir In x e h) ∙ (R.ins e).ringless i)
    | no n ↦ (let g = (R.ins e).held.placed in
        inl (narrow (omega (arith, (R.ins e).held.least, slot-from g 0, slot-upto g 0))
        (R.apart In dir e x (λ q. n (sym q)))))
  ]

  abbrev Filled : Bool → Bool → Type 0
  Filled i m = Coupling quiet (cond i b (cond m b (copied b (ep_on d In e).base bytes))) d t

  filled-by : (i m : Bool) → is_on (ep_on d In e).iso ≡ i → ltb (ep_on d In e).max_len (length bytes) ≡ m → Filled i m
  filled-by true m p q = R
  filled-by false true p q = R
  filled-by false false p q =
      let o = only-copied b (ep_on d In e).base bytes in
      bytes-region R o.long (ep_on d In e).base ((ep_on d In e).base + length bytes)
      (only-bytes o) (fill-away p (ltb-false (ep_on d In e).max_len (length bytes) q))

pub act-fill : (e : ℕ) (bytes : List ℕ) → ActAgrees (script.fill e bytes)
unfolding filled_on
act-fill e bytes b d t R = (
  ap (λ (p : EpCore). cond (is_on p.iso) b (cond (ltb p.max_len (length bytes)) b (copied b p.base bytes)))
      (R.same.plain In e),
  filled-by R e bytes (is_on (ep_on d In e).iso) (ltb (ep_on d In e).max_len (length bytes)) refl refl,
)

-- ---- EP0's

module _ {b : Buf} {d : Driver} {t : Pages} (R : Coupling quiet b d t) (bytes : List ℕ) where
  filled0-by : (m : Bool) → ltb d.globals.ep0_max (length bytes) ≡ m
      → Coupling quiet (cond m b (copied b d.globals.ep0_buf bytes)) d t
  filled0-by true q = R
  filled0-by false q =
      let o = only-copied b d.globals.ep0_buf bytes in
      let l = ltb-false d.globals.ep0_max (length bytes) q in
      bytes-region R o.long d.globals.ep0_buf (d.globals.ep0_buf + length bytes) (only-bytes o)
      (λ dir x. inl (narrow (omega (arith, R.ep0_least)) (R.ep0_apart dir x)))

pub act-fill0 : (bytes : List ℕ) → ActAgrees (script.fill0 bytes)
unfolding filled_ep0
act-fill0 bytes b d t R = (
  ap (λ (g : Globals). cond (ltb g.ep0_max (length bytes)) b (copied b g.ep0_buf bytes)) R.same.globals,
  filled0-by R bytes (ltb d.globals.ep0_max (length bytes)) refl,
)

pub look-setup-word : (k : ℕ) → LookAgrees (script.setup_word k)
look-setup-word k b d t R = ap (λ (g : Globals). word_at b (g.ep0_buf + k * 4)) R.same.globals

pub fetch-received0 : (n : ℕ) → FetchAgrees (script.received0 n)
fetch-received0 n b d t R = ap (λ (g : Globals). bytes_at b g.ep0_buf n) R.same.globals

pub hand-place0 : HandAgrees script.place0
hand-place0 b d t R = (R, (ap (λ (g : Globals). g.ep0_buf) R.same.globals, ep0_lies R))
