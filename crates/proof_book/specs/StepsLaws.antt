-- What a step of a row has to show; the globals changed, and the enable word
use Rattle.std.specs.Prelude.{Bool, true, false, ◌≢◌, ◌≡◌, ℕ, ◌+◌, ◌%◌}
use Rattle.std.proofs.Math.Path.{refl}
use Rattle.std.proofs.Common.{ap, sym, ◌∙◌, arith, ne_eqb}
use Rattle.std.proofs.Math.Nat.{zero-div}
use Rattle.bits.specs.Bit.{bit_is_set, both}
use Rattle.regs.specs.declared.Dir.TheVariants.{Out}
use Rattle.regs.specs.Enables as enables
use Rattle.regs.specs.EnablesLaws.{on-with}
use Rattle.state.specs.declared.Globals.{Globals}
use Rattle.state.specs.Kept.{with_ep_config}
use Rattle.state.specs.Driver.{Driver, ep_on, len_on, stamp_on, paced_on, request_on, with_globals}
use Rattle.script.specs.Script.{Burst, burst_ask}
use Rattle.script.specs.Simulates.{Phase, mid}
use Rattle.script.specs.Statics.{iso_outs}
use Rattle.script.specs.Machine.{Buf, blank}
use Rattle.script_ops.specs.Rings.{row_on}
use Rattle.proof_book.specs.Pages.{Pages, with_kept, kept_globals}
use Rattle.proof_book.specs.Book.{row_b, feed_b}
use Rattle.proof_book.specs.KeptLaws.{same_values}
use Rattle.proof_book.specs.Coupling.{Arming, PhaseStep, Coupling, Good}
use Rattle.proof_book.specs.FrameLaws.{rebuilt, same_place, changed-not, keeps-changed}
use Rattle.proof_book.specs.HeldLaws.{receives-is}

-- what a step of a row has to show
abbrev pub RowStep : Burst → ℕ → Buf → Driver → Pages → Type 0
RowStep g n b d t =
    let x = row_on g n (d, b) in
    let t' = feed_b (burst_ask g n x.0) (row_b g n (t, b)).1.0 in
    (blank (burst_ask g n x.0) ≡ blank (burst_ask g n (row_b g n (t, b)).0))
    × Coupling (mid g n) x.1.1 x.1.0 t' × Good (burst_ask g n x.0) x.1.1 t'

-- ---- no record and no byte changed

module _ {φ : Phase} {b : Buf} {d : Driver} {t : Pages} (R : Coupling φ b d t) where
  -- nothing but the phase
  pub phase-changed : {ψ : Phase} → PhaseStep ψ → ((e : ℕ)
      → Arming ψ e (bit_is_set (iso_outs d.globals) (e % 16)) (ep_on d Out e) (t.outs e)) → Coupling ψ b d t
  phase-changed s a = rebuilt R (keeps-changed (changed-not R.sized Out 0)) refl
      (record { step = s; same = R.same; outs = R.outs; ins = R.ins; arming = a })

  -- the globals, but not the sets of endpoints nor EP0's buffer
  pub globals-changed : {ψ : Phase} (g h : Globals) → g ≡ h → g.stage ≡ d.globals.stage → g.ep0_buf
      ≡ d.globals.ep0_buf
      → g.ep0_max ≡ d.globals.ep0_max → g.iso_out_eps ≡ d.globals.iso_out_eps → PhaseStep ψ
      → ((e : ℕ) → Arming ψ e (bit_is_set (iso_outs g) (e % 16)) (ep_on d Out e) (t.outs e))
      → Coupling ψ b (with_globals d g) (with_kept t (kept_globals t.kept h))
  unfolding ep_on len_on stamp_on paced_on request_on
  globals-changed g h q stage buf most isos s a = rebuilt R
      (record {
        sized = record {
          eps = R.sized.eps;
          lens = R.sized.lens;
          stamps = R.sized.stamps;
          paced
              = R.sized.paced;
          requests = R.sized.requests;
        };
        allocator = refl;
        stage = stage;
        ep0_buf = buf;
        ep0_max = most;
        iso_outs_lem = isos;
        place = λ dir x. same_place (ep_on d dir x);
        iso = λ dir x. refl;
      })
      refl
      (record {
        step = s;
        same = same_values R.same (λ e. refl, λ dir e. refl, λ dir e. refl) q R.same.wakes R.same.control
            R.same.allocator;
        outs = R.outs;
        ins = R.ins;
        arming = a;
      })

-- ---- the enable word

zero_clear : (j : ℕ) → bit_is_set 0 j ≡ false
unfolding bit_is_set
zero_clear j = rw (zero-div)

both_false : (a : Bool) → both a false ≡ false
both_false true = refl
both_false false = refl

-- none is enabled in 0
pub none-enabled : (g : Globals) (e : ℕ) → bit_is_set (iso_outs (with_ep_config 0 g)) (e % 16) ≡ false
unfolding enables.is_on
none-enabled g e =
    let m = bit_is_set g.iso_out_eps (e % 16) in
    receives-is (with_ep_config 0 g) e ∙ ap (both m) (zero_clear (16 + e % 16)) ∙ both_false m

-- one switched leaves the others
pub others-enabled : (g : Globals) (e x : ℕ) (onn : Bool) → x % 16 ≢ e % 16
    → bit_is_set (iso_outs (with_ep_config (enables.with_on g.ep_config Out e onn) g)) (x % 16) ≡ bit_is_set (iso_outs g) (x % 16)
others-enabled g e x onn n =
    receives-is (with_ep_config (enables.with_on g.ep_config Out e onn) g) x
    ∙ ap (both (bit_is_set g.iso_out_eps (x % 16)))
    (on-with g.ep_config Out e onn Out x ∙ simp (ne_eqb (16 + e % 16) (16 + x % 16) (λ z. n (omega arith))))
    ∙ sym (receives-is g x)
