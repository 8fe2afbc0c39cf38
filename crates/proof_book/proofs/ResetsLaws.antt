-- The row of a bus reset: every endpoint disabled, then every record reset
use Rattle.std.specs.Prelude.{false, ◌≢◌, ◌≡◌, refl, ℕ, zero, suc, ◌%◌, ◌≤◌, ◌<◌}
use Rattle.std.proofs.Common.{true≢false, sym, ◌∙◌, arith}
use mathlib.Core.List.{List, []}
use Rattle.std.proofs.Math.Path.{ap, subst}
use Rattle.std.proofs.Math.Decide.{ℕ_discrete}
use Rattle.std.proofs.Math.ListN.{get_or, length-replicate}
use Rattle.bits.specs.Bit.{bit_is_set}
use Rattle.bits.specs.Tables.{tab}
use Rattle.regs.specs.declared.Dir.{Dir}
use Rattle.regs.specs.declared.Dir.TheVariants.{Out, In}
use Rattle.state.specs.declared.EpState.{EpState}
use Rattle.state.specs.declared.Globals.{Globals}
use Rattle.state.specs.Ep.{reset_of}
use Rattle.state.specs.Fresh.{no_stamps}
use Rattle.state.specs.Kept.{with_ep_config, with_ep_type}
use Rattle.state.specs.Driver.{Driver, key, len_key, no_request, ep_on, with_on, len_on, paced_on, request_on}
use Rattle.state.specs.Laws.{Sized, key_apart, ep_on-same, ep_on-other}
use Rattle.ring.specs.Slot.{count_of}
use Rattle.ring.specs.Waiting.{SamePlace}
use Rattle.ring.specs.Laws.{place-placed, reset-count, reset-waits, reset_ring}
use Rattle.script.specs.Script.{bus_reset_lem}
use Rattle.script.specs.Simulates.{quiet, mid}
use Rattle.script.specs.Statics.{iso_outs, with_setup}
use Rattle.script.specs.Statics as statics
use Rattle.script.specs.Machine.{Buf}
use Rattle.script_ops.specs.Records.{plain_of}
use Rattle.script_ops.specs.RingLaws.{renewed}
use Rattle.script_ops.specs.Rings.{reset_below, reset_all}
use Rattle.proof_book.specs.Pages.{OutPage, InPage, Pages}
use Rattle.proof_book.specs.Book.{empty_out, empty_in, all_reset}
use Rattle.proof_book.specs.Coupling.{SameKept, lens_of, slot_stamps, Held, OutFits, InFits, Coupling}
use Rattle.proof_book.specs.LensLaws.{ep-mod, key-other}
use Rattle.proof_book.specs.FrameLaws.{Rest, rest_of, SamePlaces, rebuilt, changed-on, out-moved, in_moved}
use Rattle.proof_book.specs.EmptyPagesLaws.{empty-out, empty-in}
use Rattle.proof_book.specs.ChipsLaws.{armed-or}
use Rattle.proof_book.specs.StepsLaws.{RowStep, phase-changed, globals-changed, none-enabled}

-- ---- a record reset

pub reset-place : (r : EpState) → SamePlace r (reset_of r)
reset-place r = record { base = refl; stride = refl; slots = refl }

-- none of a reset record wait
reset-held : {most : ℕ} {b : Buf} {r : EpState} {ls : List ℕ} {w : List (List ℕ)} → Held most b r ls w
    → Held most b (reset_of r) ls []
reset-held {most = most} {b = b} {r = r} {ls = ls} h = record {
  placed = place-placed (reset-place r) h.placed;
  ring = reset_ring (reset_of r) refl refl most ls h.ring.whole h.ring.capped;
  least = h.least;
  waits = reset-waits (reset_of r) refl refl b ls;
}

-- nor any stamp, whatever its slots have
pub reset-out : {b : Buf} {r : EpState} {ls ss : List ℕ} {p : OutPage} → OutFits b r ls ss p → (ss' : List ℕ)
    → OutFits b (reset_of r) ls ss' (empty_out p)
reset-out {p = p} f ss' = empty-out refl refl refl (reset-held f.held) p
    (record { lost = f.lost; slot = f.slot; from = f.from; upto = f.upto }) ss'

reset-in : {b : Buf} {r : EpState} {ls : List ℕ} {p : InPage} → InFits b r ls p → InFits b (reset_of r) ls empty_in
reset-in f = empty-in refl refl refl (reset-held f.held)

module _ (d : Driver) (z : Sized d) (dir : Dir) (e : ℕ) where
  renewed-sized : Sized (renewed dir e d)
  renewed-sized = (changed-on z dir e (reset_of (ep_on d dir e)) (reset-place (ep_on d dir e)) refl).sized

  renewed-same : (x : ℕ) → x % 16 ≡ e % 16 → ep_on (renewed dir e d) dir x ≡ reset_of (ep_on d dir x)
  renewed-same x h = ep-mod (renewed dir e d) dir x e h ∙ ep_on-same d dir e (reset_of (ep_on d dir e)) z
      ∙ ap reset_of (sym (ep-mod d dir x e h))

  renewed-other : (dir' : Dir) (x : ℕ) → key dir' x ≢ key dir e → ep_on (renewed dir e d) dir' x ≡ ep_on d dir' x
  renewed-other dir' x n = ep_on-other d dir e (reset_of (ep_on d dir e)) dir' x n

-- both directions of an endpoint
abbrev both_renewed : ℕ → Driver → Driver
both_renewed e d = renewed In e (renewed Out e d)

module _ (d : Driver) (z : Sized d) (e : ℕ) where
  pair-sized : Sized (both_renewed e d)
  pair-sized = renewed-sized (renewed Out e d) (renewed-sized d z Out e) In e

  pair_same : (dir : Dir) (x : ℕ) → x % 16 ≡ e % 16 → ep_on (both_renewed e d) dir x ≡ reset_of (ep_on d dir x)
  pair_same Out x h = renewed-other (renewed Out e d) (renewed-sized d z Out e) In e Out x (key_apart x e)
      ∙ renewed-same d z Out e x h
  pair_same In x h = renewed-same (renewed Out e d) (renewed-sized d z Out e) In e x h
      ∙ ap reset_of (renewed-other d z Out e In x (λ q. key_apart e x (sym q)))

  pair-other : (dir : Dir) (x : ℕ) → x % 16 ≢ e % 16 → ep_on (both_renewed e d) dir x ≡ ep_on d dir x
  pair-other Out x n = renewed-other (renewed Out e d) (renewed-sized d z Out e) In e Out x (key_apart x e)
      ∙ renewed-other d z Out e Out x (key-other Out x e n)
  pair-other In x n = renewed-other (renewed Out e d) (renewed-sized d z Out e) In e In x (key-other In x e n)
      ∙ renewed-other d z Out e In x (λ q. key_apart e x (sym q))

-- the records of the endpoints below n reset, and nothing else
record Below (n : ℕ) (d d' : Driver) : Type 0 where
  sized : Sized d'
  rest : rest_of d' ≡ rest_of d
  lens : d'.lens ≡ d.lens
  these : (dir : Dir) (x : ℕ) → x % 16 < n → ep_on d' dir x ≡ reset_of (ep_on d dir x)
  others : (dir : Dir) (x : ℕ) → n ≤ x % 16 → ep_on d' dir x ≡ ep_on d dir x

reset-below : (n : ℕ) (d : Driver) → n ≤ 16 → Sized d → Below n d (reset_below n d)
unfolding reset_below with_on
reset-below zero d l z = record {
  sized = z;
  rest = refl;
  lens = refl;
  these = λ dir x h. absurd (omega arith);
  others
      = λ dir x h. refl;
}
reset-below (suc n) d l z = more (reset_below n d) (reset-below n d (omega arith) z)
  where
    more : (x : Driver) → Below n d x → Below (suc n) d (both_renewed n x)
    more x w = record {
      sized = pair-sized x w.sized n;
      rest = w.rest;
      lens = w.lens;
      these = λ dir y h. elim (ℕ_discrete (y % 16) (n % 16)) [
        | yes q ↦ pair_same x w.sized n dir y q ∙ ap reset_of (w.others dir y (omega arith))
        | no q ↦ pair-other x w.sized n dir y q ∙ w.these dir y (omega arith)
      ];
      others = λ dir y h. pair-other x w.sized n dir y (λ q. omega arith) ∙ w.others dir y (omega arith);
    }

-- every record, and so its sequence bit to DATA0 (USB 2.0, 9.1.1.5)
pub reset-ep : (d : Driver) → Sized d → (dir : Dir) (x : ℕ) → ep_on (reset_all d) dir x ≡ reset_of (ep_on d dir x)
unfolding reset_all no_stamps ep_on
reset-ep d z dir x = (reset-below 16 d (omega arith) z).these dir x (omega arith)

-- all of them, and no setup packet
module _ {b : Buf} {d : Driver} {t : Pages} (R : Coupling (mid bus_reset_lem 1) b d t) where
  all-below : Below 16 d (reset_below 16 d)
  all-below = reset-below 16 d (omega arith) R.sized

  all-ep : (dir : Dir) (x : ℕ) → ep_on (reset_all d) dir x ≡ reset_of (ep_on d dir x)
  all-ep dir x = reset-ep d R.sized dir x

  all-lens : (dir : Dir) (x : ℕ) → lens_of (reset_all d) dir x ≡ lens_of d dir x
  unfolding reset_all no_stamps len_on
  all-lens dir x = ap (λ (l : List ℕ). tab 16 (λ i. get_or l (len_key dir x i) 0)) all-below.lens

  below_globals : (reset_below 16 d).globals ≡ d.globals
  below_globals = ap (λ (x : Rest). x.0.0) all-below.rest

  all-globals : (reset_all d).globals ≡ with_setup 0 d.globals.setup_low d.globals.setup_high d.globals
  unfolding reset_all no_stamps
  all-globals = ap (λ (g : Globals). with_setup 0 g.setup_low g.setup_high g) below_globals

  all-keeps : SamePlaces d (reset_all d)
  unfolding reset_all no_stamps
  all-keeps = record {
    sized = record {
      eps = all-below.sized.eps;
      lens = all-below.sized.lens;
      stamps = length-replicate {A = ℕ} 256 0;
      paced = all-below.sized.paced;
      requests = all-below.sized.requests;
    };
    allocator = ap (λ (x : Rest). x.0.3) all-below.rest;
    stage = ap (λ (g : Globals). g.stage) below_globals;
    ep0_buf = ap (λ (g : Globals). g.ep0_buf) below_globals;
    ep0_max = ap (λ (g : Globals). g.ep0_max) below_globals;
    iso_outs_lem = ap (λ (g : Globals). g.iso_out_eps) below_globals;
    place = λ dir x. subst (λ r. SamePlace (ep_on d dir x) r) (sym (all-ep dir x)) (reset-place (ep_on d dir x));
    iso = λ dir x. ap (λ (r : EpState). r.iso) (all-ep dir x);
  }

  all_same : SameKept (reset_all d) (all_reset t).kept
  unfolding reset_all no_stamps paced_on request_on
  all_same =
      let r = all-below.rest in
      record {
        globals = all-globals ∙ ap (λ (g : Globals). with_setup 0 g.setup_low g.setup_high g)
            R.same.globals;
        wakes = ap (λ (x : Rest). x.0.1) r ∙ R.same.wakes;
        control = ap (λ (x : Rest). x.0.2) r ∙ R.same.control;
        allocator = ap (λ (x : Rest). x.0.3) r ∙ R.same.allocator;
        paced = λ x. ap (λ (y : Rest). get_or y.1 (x % 16) 0) r ∙ R.same.paced x;
        requests = λ dir x. ap (λ (y : Rest). get_or y.2 (key dir x) no_request) r ∙ R.same.requests dir x;
        plain = λ dir x. ap plain_of (all-ep dir x) ∙ ap statics.renewed (R.same.plain dir x);
      }

  all_disabled : (x : ℕ) → bit_is_set (iso_outs (reset_all d).globals) (x % 16) ≡ false
  unfolding iso_outs
  all_disabled x = ap (λ (g : Globals). bit_is_set (iso_outs g) (x % 16)) all-globals ∙ (R.arming x).0

  pub all_reset_lem : Coupling (mid bus_reset_lem 0) b (reset_all d) (all_reset t)
  all_reset_lem = rebuilt R all-keeps refl (record {
    step = omega arith;
    same = all_same;
    outs = λ x. out-moved (all-ep Out x) (all-lens Out x) refl (reset-out (R.outs x) (slot_stamps (reset_all d) x));
    ins = λ x. in_moved (all-ep In x) (all-lens In x) (reset-in (R.ins x));
    arming = λ x. record {
      armed = λ q. absurd (true≢false (sym q ∙ all_disabled x));
      none = λ q. ap count_of (all-ep Out x) ∙ reset-count (reset_of (ep_on d Out x)) refl refl;
    };
  })

-- ---- its steps

pub reset-first : (b : Buf) (d : Driver) (t : Pages) → Coupling quiet b d t → RowStep bus_reset_lem 3 b d t
reset-first b d t R = (
  refl,
  globals-changed R (with_ep_config 0 d.globals) (with_ep_config 0 t.kept.globals)
      (ap (with_ep_config 0) R.same.globals) refl refl refl refl (omega arith)
      (λ e. (
        none-enabled d.globals e,
        armed-or quiet e (bit_is_set (iso_outs d.globals) (e % 16)) (ep_on d Out e)
            (t.outs e) (R.arming e),
      )),
  tt,
)

pub reset-next : (n : ℕ) (b : Buf) (d : Driver) (t : Pages) → Coupling (mid bus_reset_lem (suc n)) b d t
    → RowStep bus_reset_lem n b d t
unfolding iso_outs
reset-next zero b d t R = (refl, all_reset_lem R, tt)
reset-next (suc zero) b d t R = (refl, phase-changed R (omega arith) R.arming, tt)
reset-next (suc (suc zero)) b d t R = (
  refl,
  globals-changed R (with_ep_type 0 d.globals) (with_ep_type 0 t.kept.globals)
      (ap (with_ep_type 0) R.same.globals) refl refl refl refl (omega arith) R.arming,
  tt,
)
reset-next (suc (suc (suc n))) b d t R = absurd (omega (arith, R.step))
