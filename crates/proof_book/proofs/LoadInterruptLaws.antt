-- The interrupt's script: it loads an IN endpoint where it may, and where it has to it has done so when it ends
use Rattle.std.specs.Prelude.{Bool, ◌&&◌, ◌||◌, ◌⊎◌, ◌≢◌, ◌≡◌, ℕ, ◌%◌, ◌<◌}
use Rattle.std.proofs.Math.Bool.{true, false, not, cond, and-true, and-false}
use Rattle.std.proofs.Common.{true≢false, subst, ◌∙◌, arith}
use mathlib.Core.List.{List, [], ◌∷◌, ◌++◌}
use Rattle.std.proofs.Math.Logic.{inl, inr}
use Rattle.std.proofs.Math.Path.{refl, ap, ap₂, sym}
use Rattle.std.proofs.Math.Dec.{eqb}
use borrow.Author.Tests.{eqb-true, eqb-false, eq-eqb, not-true}
use Rattle.bits.specs.Bit.{bit_is_set}
use Rattle.bits.specs.Walk.{set_bits}
use Rattle.bits.specs.WalkLaws as walk
use Rattle.regs.specs.declared.Access.{Access}
use Rattle.regs.specs.declared.Access.TheVariants.{Read, Write, Transmit, Callback}
use Rattle.regs.specs.declared.Reg.{Reg}
use Rattle.regs.specs.declared.Reg.TheVariants.{IntFg, IntSt, MisSt, RxLen, FrameNo}
use Rattle.regs.specs.declared.Dir.TheVariants.{Out, In}
use Rattle.regs.specs.declared.Token.{Token}
use Rattle.regs.specs.declared.Token.TheVariants as tok
use Rattle.regs.specs.Status.{endpoint, token, is_out, is_in, is_sof, out_token, in_token, sof_token}
use Rattle.regs.specs.MisStatus.{sie_free}
use Rattle.regs.specs.Flags.{bus_rst, transfer, suspend, hst_sof, fifo_ov, setup_act, HST_SOF, FIFO_OV}
use Rattle.regs.specs.IntEn.{with_bus_rst, with_suspend}
use Rattle.frame.specs.Usb20.{index_of, frame_of}
use Rattle.frame.specs.Advance.{NO_FRAME, is_none, previous, in_previous}
use Rattle.frame.specs.Laws.{index-frame, never-none}
use Rattle.script.specs.declared.Transfer.{Transfer}
use Rattle.script.specs.Tree as tree
use Rattle.script.specs.Cells.{EpCore, globals-cell, ep-cell}
use Rattle.script.specs.Every.{same_reg}
use Rattle.script.specs.Script.{Script, run, write, when, waiting, next_len_lem, complete, no_wakes}
use Rattle.script.specs.Calls.{interrupt_code}
use Rattle.script.specs.Answers.{Answer, Refused, End, NotYet, Done, Shown}
use Rattle.script.specs.Statics.{is_on, iso_outs, every_iso_in, with_sof_frame, with_last_frame}
use Rattle.script.specs.IsoIn.{leaving, iso_in_complete, late_one, late_walk, sof_one, sof_walk, unseen, on_sof}
use Rattle.script.specs.Handler.{entered, released, waits_for_iso, waits_for_bulk}
use Rattle.script.specs.Handler.{settle, iso_for, own_in, framed, iso_in_arm, dispatch, served, on_transfer}
use Rattle.script.specs.Handler.{on_interrupt}
use Rattle.proof_book.specs.Book.{Bk, get_b, put_b, act_b, book_ops}
use Rattle.proof_book.specs.Others.{sends_to}
use Rattle.proof_book.specs.Lengths.{Readings, one_more, bringing, first, second}
use Rattle.proof_book.specs.Arrivals.{again, last}
use Rattle.proof_book.specs.Loads.{Heard, unheard, Values, last_in, frame_read, retook}
use Rattle.proof_book.specs.Loads.{settled_status, over, serving}
use Rattle.proof_book.specs.Loads.{own_token, new_frame, late_entry, off_bus, Loads, none}
use Rattle.proof_book.specs.Loads as loads
use Rattle.proof_book.specs.ArrivalQuietLaws.{silent, spares, steady}
use Rattle.proof_book.proofs.ArrivalInterruptLaws.{not_false, head-stays, more-not}
use Rattle.proof_book.proofs.ArrivalInterruptLaws.{neither}
use Rattle.proof_book.proofs.ArrivalInterruptLaws.{last_is, or_left, or_right, both, Stat, once, anew, stat-is}
use Rattle.proof_book.proofs.ArrivalInterruptLaws.{stat-on, spared}
use Rattle.proof_book.specs.LoadScriptsLaws.{At, at-kept, next, Told, t_end, t_ask, Facts, Of, Stable, Calm}
use Rattle.proof_book.specs.LoadScriptsLaws.{told-bind, told-weaker, told-cond, sof-at, last-at, other_at}
use Rattle.proof_book.specs.LoadScriptsLaws.{calm_run}
use Rattle.proof_book.specs.LoadQuietLaws.{of-looks, of-nak, of-out-arm, of-plain-in, of-check-walk}
use Rattle.proof_book.specs.LoadQuietLaws.{of-ep0-moved}
use Rattle.proof_book.specs.LoadQuietLaws.{of-on-setup, of-entered, of-masked}
use Rattle.proof_book.specs.HeldLaws.{left, right}

never_both : (r a c : Bool) → (r && (a && (c && not c))) ≡ false
never_both false a c = refl
never_both true false c = refl
never_both true true true = refl
never_both true true false = refl

-- one token at a time
no-two : (t : Token) → (out_token t ≡ true → (sof_token t ≡ false) × (in_token t ≡ false))
    × (in_token t ≡ true → sof_token t ≡ false)
no-two tok.Out = (λ _. (refl, refl), λ h. absurd (true≢false (sym h)))
no-two tok.Sof = (λ h. absurd (true≢false (sym h)), λ h. absurd (true≢false (sym h)))
no-two tok.In = (λ h. absurd (true≢false (sym h)), λ _. refl)
no-two tok.Setup = (λ h. absurd (true≢false (sym h)), λ h. absurd (true≢false (sym h)))

endpoint-low : (st : ℕ) → endpoint st < 16
unfolding endpoint
endpoint-low st = omega arith

-- the microframe before
previous-is : (frame : ℕ) → in_previous (frame_of (previous (index_of frame))) frame ≡ true
unfolding in_previous is_none previous
previous-is frame =
    let i = previous (index_of frame) in
    both (not (eqb (frame_of i) NO_FRAME)) _ (ap not (by (eqb (frame_of i) NO_FRAME) refl))
    (eq-eqb (index_of (frame_of i)) i (index-frame i ∙ omega arith))
  where
    by : (u : Bool) → eqb (frame_of (previous (index_of frame))) NO_FRAME ≡ u → u ≡ false
    by true h = absurd (never-none _ (eqb-true _ _ h))
    by false h = refl

-- of the readings alone, before a SOF is served
abbrev Lists : Type 1
Lists = Readings → List ℕ → List ℕ → Type 0

abbrev Early : Lists → Facts
Early G h fs gs b c L S = G h fs gs × (S ≡ c)

abbrev StableLists : (Reg → Bool) → Lists → Type 0
StableLists reads G = (r : Reg) (e v : ℕ) (h : Readings) (fs gs : List ℕ) → reads r ≡ true → G h fs gs
    → G (bringing (Read r e) v h) (one_more (same_reg r IntFg) v fs) (one_more (same_reg r FrameNo) v gs)

early-on : (E : ℕ) (G : Lists) {reads : Reg → Bool} → StableLists reads G → Stable E reads (Early G)
early-on E G on r e v h fs gs b c L S u g = (on r e v h fs gs u g.0, g.1)

record Unread (flag : ℕ) (h : Readings) (fs gs : List ℕ) : Type 0 where
  frame : ℕ
  engine : h.engine ≡ []
  status : h.status ≡ []
  flags : fs ≡ flag ∷ []
  frames : gs ≡ frame ∷ []

unread-on : (flag : ℕ) → StableLists silent (Unread flag)
unread-on flag r e v h fs gs u b = absurd (true≢false (sym u))

record Began (flag m st : ℕ) (h : Readings) (fs gs : List ℕ) : Type 0 where
  frame : ℕ
  later : List ℕ
  engine : h.engine ≡ m ∷ later
  status : h.status ≡ st ∷ []
  flags : fs ≡ flag ∷ []
  frames : gs ≡ frame ∷ []

began-on : (flag m st : ℕ) → StableLists spares (Began flag m st)
began-on flag m st r e v h fs gs u b =
    let x = spared r u in
    record {
      frame = b.frame;
      later = one_more (same_reg r MisSt) v b.later;
      engine = head-stays (same_reg r MisSt) v m h.engine b.later b.engine;
      status = more-not (same_reg r IntSt) v h.status x.status ∙ b.status;
      flags = more-not (same_reg r IntFg) v fs x.flags ∙ b.flags;
      frames = more-not (same_reg r FrameNo) v gs x.frames ∙ b.frames;
    }

record Anew (flag m st f now : ℕ) (h : Readings) (fs gs : List ℕ) : Type 0 where
  frame : ℕ
  later : List ℕ
  engine : h.engine ≡ m ∷ later
  status : h.status ≡ st ∷ (now ∷ [])
  flags : fs ≡ flag ∷ (f ∷ [])
  frames : gs ≡ frame ∷ []

anew-on : (flag m st f now : ℕ) → StableLists spares (Anew flag m st f now)
anew-on flag m st f now r e v h fs gs u b =
    let x = spared r u in
    record {
      frame = b.frame;
      later = one_more (same_reg r MisSt) v b.later;
      engine = head-stays (same_reg r MisSt) v m h.engine b.later b.engine;
      status = more-not (same_reg r IntSt) v h.status x.status ∙ b.status;
      flags = more-not (same_reg r IntFg) v fs x.flags ∙ b.flags;
      frames = more-not (same_reg r FrameNo) v gs x.frames ∙ b.frames;
    }

-- the frame with which the interrupt began is read
record Entered (h : Readings) (fs gs : List ℕ) : Type 0 where
  frame : ℕ
  engine : h.engine ≡ []
  status : h.status ≡ []
  flags : fs ≡ []
  frames : gs ≡ frame ∷ []

entered_on : StableLists silent Entered
entered_on r e v h fs gs u b = absurd (true≢false (sym u))

-- ---- one endpoint

module _ (E : ℕ) (small : E < 16) (J : Values) (even : (e f : ℕ) → e % 16 ≡ f % 16 → J.outs e ≡ J.outs f) where
  abbrev Goes : {A : Type 0} → (A → Heard → ℕ → ℕ → Type 0) → Heard → ℕ → tree.Out Bk A → Type 0
  Goes P k L o = Told E J P k L o

  abbrev Holding : Facts → {A : Type 0} → A → Heard → ℕ → ℕ → Type 0
  Holding G a k L S = Of E G k L S

  apart : (e : ℕ) → e < 16 → e ≢ E → e % 16 ≢ E % 16
  apart e h n q = n (omega (arith, h, small, q))

  -- ---- loads

  module _ (G : Facts) where
    load-own : (s : Bk) (k : Heard) (L M S : ℕ) → At E J M S s.0 → sends_to k.known.asked E ≡ false
        → Loads k J E L M true → G k.known.readings k.flags k.frames (k.on_bus E) k.sof M S
        → Goes (Holding G {A = Unit}) k L (run {i = true} book_ops (iso_in_complete E) s)
    load-own s k L M S a asked load g =
        told-bind {P = Holding G {A = Unit}} (told-cond (book_ops.is (waiting In E) (act_b (complete E) s))
        (λ _. t_ask true (eq-eqb (E % 16) (E % 16) refl) load (at-kept refl a)
        (λ v u a. t_ask false (never_both true (eqb (book_ops.look (next_len_lem In E) u) 0) (eqb (E % 16) (E % 16)))
        (none refl) a
        (λ w z a. t_end a (refl, g))))
        (λ _. t_ask true (both (eqb (E % 16) (E % 16)) _ (eq-eqb (E % 16) (E % 16) refl) (ap not asked)) load
        (at-kept refl a)
        (λ v u a. t_end a (refl, g))))
        (λ _ t l N T a g. t_end (record {
          outs = a.outs;
          iso = a.iso;
          last = a.last;
          paced = a.paced;
          every = a.every;
          sof = a.sof;
        }) g)

    load-other : (e : ℕ) → e < 16 → e ≢ E → (s : Bk) (k : Heard) (L S : ℕ) → At E J L S s.0 → Of E G k L S
        → Goes (Holding G {A = Unit}) k L (run {i = true} book_ops (iso_in_complete e) s)
    load-other e h n s k L S a g =
        told-bind {P = Holding G {A = Unit}} (told-cond (book_ops.is (waiting In e) (act_b (complete e) s))
        (λ _. t_ask false other (none refl) (at-kept refl a)
        (λ v u a. t_ask false (no_length (Transmit e 0) (book_ops.look (next_len_lem In e) u)) (none refl) a
        (λ w z a. t_end a (refl, g.1))))
        (λ _. t_ask false (no_length k.known.asked 0) (none refl) (at-kept refl a) (λ v u a. t_end a (refl, g.1))))
        (λ _ t l N T a g. t_end (record {
          outs = a.outs;
          iso = a.iso;
          last = a.last;
          paced = a.paced;
          every = a.every;
          sof = a.sof;
        }) g)
      where
        other : eqb (E % 16) (e % 16) ≡ false
        other = by (eqb (E % 16) (e % 16)) refl
          where
            by : (u : Bool) → eqb (E % 16) (e % 16) ≡ u → u ≡ false
            by true q = absurd (apart e h n (sym (eqb-true (E % 16) (e % 16) q)))
            by false q = refl

        no_length : (q : Access) (w : ℕ) → (eqb w 0 && (eqb (E % 16) (e % 16) && not (sends_to q E))) ≡ false
        no_length q w = ap (λ (u : Bool). eqb w 0 && (u && not (sends_to q E))) other ∙ and-false (eqb w 0)

  -- ---- the first packet of a microframe, from facts G to facts H

  module _ (G H : Facts) (frame : ℕ) where
    first-own : (s : Bk) (k : Heard) (L S : ℕ) → At E J L S s.0 → Of E G k L S
        → (eqb L frame ≡ false → Loads k J E L frame true)
        → (G k.known.readings k.flags k.frames (k.on_bus E) k.sof L S
        → H k.known.readings k.flags k.frames (k.on_bus E) k.sof frame S)
        → Goes (Holding H {A = Unit}) k L (run {i = true} book_ops (late_one frame E) s)
    first-own s k L S a g load turn =
        told-cond (not (eqb (last_in s.0 E) frame))
        (λ first. load-own H _ k L frame S (last-at even E frame refl s a) g.0
        (load (sym (ap (λ (l : ℕ). eqb l frame) (a.last E refl)) ∙ not-true (eqb (last_in s.0 E) frame) first))
        (turn g.1))
        (λ again. let same : L ≡ frame = eqb-true L frame (sym (ap (λ (l : ℕ). eqb l frame) (a.last E refl))
        ∙ not_false (eqb (last_in s.0 E) frame) again) in
        let t : Bk = put_b (ep-cell In E) (with_last_frame frame (s.0.kept.plain In E)) s in
        t_end {t = t} (subst (λ (l : ℕ). At E J l S t.0) (sym same) (last-at even E frame refl s a)) (
          g.0,
          subst (λ (l : ℕ). H k.known.readings k.flags k.frames (k.on_bus E) k.sof l S) (sym same)
              (turn g.1),
        ))

    first-other : (e : ℕ) → e < 16 → e ≢ E → (s : Bk) (k : Heard) (L S : ℕ) → At E J L S s.0 → Of E H k L S
        → Goes (Holding H {A = Unit}) k L (run {i = true} book_ops (late_one frame e) s)
    first-other e h n s k L S a g =
        told-cond (not (eqb (last_in s.0 e) frame))
        (λ _. load-other H e h n _ k L S (other_at even e frame (apart e h n) s a) g)
        (λ _. t_end (other_at even e frame (apart e h n) s a) g)

  -- ---- the transfer, once its frame is read

  module _ (flag m st₀ : ℕ) (R : Bool) (st frame σ : ℕ) (flagged : transfer flag ≡ true) where
    record Ready (h : Readings) (fs gs : List ℕ) : Type 0 where
      es : List ℕ
      ss : List ℕ
      more : List ℕ
      before : ℕ
      engine : h.engine ≡ m ∷ es
      status : h.status ≡ st₀ ∷ ss
      stat : Stat st h fs
      re : retook fs ≡ R
      flags : fs ≡ flag ∷ more
      frames : gs ≡ before ∷ (frame ∷ [])

    ready_on : StableLists steady Ready
    ready_on r e v h fs gs u b =
        let y = neither (same_reg r IntFg) (same_reg r FrameNo) u in
        record {
          es = one_more (same_reg r MisSt) v b.es;
          ss = one_more (same_reg r IntSt) v b.ss;
          more = b.more;
          before = b.before;
          engine = head-stays (same_reg r MisSt) v m h.engine b.es b.engine;
          status = head-stays (same_reg r IntSt) v st₀ h.status b.ss b.status;
          stat = stat-on st r e v h fs y.0 b.stat;
          re = ap retook (more-not (same_reg r IntFg) v fs y.0) ∙ b.re;
          flags = more-not (same_reg r IntFg) v fs y.0 ∙ b.flags;
          frames = more-not (same_reg r FrameNo) v gs y.1 ∙ b.frames;
        }

    abbrev Gone : ℕ → Bool → Type 0
    Gone L b = (L ≡ frame) ⊎ ((in_previous L frame ≡ true) ⊎ (b ≡ true))

    -- what is done of it, where it has to be
    record Prog (Ds Dl Do : Type 0) (S₀ : ℕ) (h : Readings) (fs gs : List ℕ) (b : Bool) (c L S : ℕ) : Type 0 where
      ready : Ready h fs gs
      sof : c ≡ σ
      seen : Ds → Gone L b
      late : Dl → L ≡ frame
      own : Do → L ≡ frame
      now : S ≡ S₀

    gone_on : (z : Bool) {L : ℕ} {b : Bool} → Gone L b → Gone L (z || b)
    gone_on z (inl p) = inl p
    gone_on z (inr (inl p)) = inr (inl p)
    gone_on z (inr (inr p)) = inr (inr (or_right z _ p))

    prog_on : (Ds Dl Do : Type 0) (S₀ : ℕ) → Stable E steady (Prog Ds Dl Do S₀)
    prog_on Ds Dl Do S₀ r e v h fs gs b c L S u p = record {
      ready = ready_on r e v h fs gs u p.ready;
      sof = p.sof;
      seen = λ d. gone_on (same_reg r IntSt && (again gs && leaving v E)) (p.seen d);
      late = p.late;
      own = p.own;
      now = p.now;
    }

    -- it is complete in this microframe
    to_frame : {Ds Dl Do Ds' Dl' Do' : Type 0} {S₀ : ℕ} {h : Readings} {fs gs : List ℕ} {b : Bool} {c L S : ℕ}
        → Prog Ds Dl Do S₀ h fs gs b c L S → Prog Ds' Dl' Do' S₀ h fs gs b c frame S
    to_frame p = record {
      ready = p.ready;
      sof = p.sof;
      seen = λ _. inl refl;
      late = λ _. refl;
      own = λ _. refl;
      now = p.now;
    }

    weaker : {Ds Dl Do Ds' Dl' Do' : Type 0} {S₀ : ℕ} {h : Readings} {fs gs : List ℕ} {b : Bool} {c L S : ℕ}
        → (Ds' → Ds) → (Dl' → Dl) → (Do' → Do) → Prog Ds Dl Do S₀ h fs gs b c L S → Prog Ds' Dl' Do' S₀ h fs gs b c L S
    weaker x y z p = record {
      ready = p.ready;
      sof = p.sof;
      seen = λ d. p.seen (x d);
      late = λ d. p.late (y d);
      own = λ d. p.own (z d);
      now = p.now;
    }

    -- ---- what the note says

    abbrev over_b : Bool
    over_b = sie_free m || R

    abbrev own_b : Bool
    own_b = leaving st E && (over_b || eqb σ frame)

    abbrev new_b : Bool
    new_b = not (eqb σ frame) && (not (is_sof st) || over_b)

    abbrev late_b : Bool
    late_b = not (sie_free m) && (is_out st₀ && J.outs (endpoint st₀))

    module _ (k : Heard) (r : Ready k.known.readings k.flags k.frames) where
      is_frame : frame_read k ≡ frame
      is_frame = ap second r.frames

      is_serving : serving k ≡ true
      is_serving = both (transfer (first k.flags)) _ (ap (λ (l : List ℕ). transfer (first l)) r.flags
          ∙ flagged) (ap again r.frames)

      is_over : over k ≡ over_b
      is_over = ap₂ (λ (l : List ℕ) (u : Bool). sie_free (first l) || u) r.engine r.re

      is_settled : settled_status k ≡ st
      is_settled = stat-is st k.known.readings k.flags r.stat

      is_late : late_entry k J ≡ late_b
      is_late = ap₂ (λ (l s : List ℕ). not (sie_free (first l)) && (is_out (first s) && J.outs (endpoint (first s))))
          r.engine r.status

      module _ (same : k.sof ≡ σ) where
        is_own : own_token k E ≡ own_b
        is_own = ap₂ (λ (s : ℕ) (u : Bool). leaving s E && (u || eqb k.sof (frame_read k))) is_settled is_over
            ∙ ap₂ (λ (c f : ℕ). leaving st E && (over_b || eqb c f)) same is_frame

        is_new : new_frame k ≡ new_b
        is_new = ap₂ (λ (s : ℕ) (u : Bool). not (eqb k.sof (frame_read k)) && (not (is_sof s) || u)) is_settled is_over
            ∙ ap₂ (λ (c f : ℕ). not (eqb c f) && (not (is_sof st) || over_b)) same is_frame

    -- ---- those that went out before a late OUT

    late_walk_lem : late_b ≡ true → (es : List ℕ) → ((e : ℕ) → walk.In e es → e < 16) → (walk.In E es → J.every ≡ true)
        → (Ds Dl Do : Type 0) (S₀ : ℕ) (s : Bk) (k : Heard) (L S : ℕ) → At E J L S s.0
        → Of E (Prog Ds Dl Do S₀) k L S
        → Goes (Holding (Prog Ds (walk.In E es ⊎ Dl) Do S₀) {A = Unit}) k L
        (run {i = true} book_ops (late_walk frame es) s)
    unfolding late_walk
    late_walk_lem due [] low sets Ds Dl Do S₀ s k L S a g = t_end a (g.0, weaker (λ d. d) none_left (λ d. d) g.1)
      where
        none_left : ⊥ ⊎ Dl → Dl
        none_left (inl z) = absurd z
        none_left (inr d) = d
    late_walk_lem due (e ∷ es) low sets Ds Dl Do S₀ s k L S a g =
        told-bind {P = Holding (Prog Ds ((E ≡ e) ⊎ Dl) Do S₀) {A = Unit}} (one (eqb e E) refl)
        (λ _ t l M T a h. told-weaker (λ _ n N U h. (h.0, weaker (λ d. d) parted (λ d. d) h.1))
        (late_walk_lem due es (λ x p. low x (inr p)) (λ p. sets (inr p)) Ds ((E ≡ e) ⊎ Dl) Do S₀ t l M T a h))
      where
        parted : ((E ≡ e) ⊎ walk.In E es) ⊎ Dl → walk.In E es ⊎ ((E ≡ e) ⊎ Dl)
        parted (inl (inl z)) = inr (inl z)
        parted (inl (inr z)) = inl z
        parted (inr z) = inr (inr z)

        one : (u : Bool) → eqb e E ≡ u
            → Goes (Holding (Prog Ds ((E ≡ e) ⊎ Dl) Do S₀) {A = Unit}) k L (run {i = true} book_ops (late_one frame e) s)
        one true q =
            let is : e ≡ E = eqb-true e E q in
            subst (λ (x : ℕ). Goes (Holding (Prog Ds ((E ≡ e) ⊎ Dl) Do S₀) {A = Unit}) k L
            (run {i = true} book_ops (late_one frame x) s))
            (sym is)
            (first-own (Prog Ds Dl Do S₀) (Prog Ds ((E ≡ e) ⊎ Dl) Do S₀) frame s k L S a g
            (λ first. loads.late (is_serving k g.1.ready) (is_late k g.1.ready ∙ due) (sets (inl (sym is)))
            (ap (λ (f : ℕ). eqb L f) (is_frame k g.1.ready) ∙ first) (sym (is_frame k g.1.ready))) to_frame)
        one false q =
            let not_is : e ≢ E = eqb-false e E q in
            first-other (Prog Ds Dl Do S₀) (Prog Ds ((E ≡ e) ⊎ Dl) Do S₀) frame e (low e (inl refl)) not_is s k L S a
            (g.0, weaker (λ d. d) (other_one not_is) (λ d. d) g.1)
          where
            other_one : e ≢ E → (E ≡ e) ⊎ Dl → Dl
            other_one n (inl z) = absurd (n (sym z))
            other_one n (inr d) = d

    -- ---- those of the microframe before

    abbrev before_this : ℕ
    before_this = frame_of (previous (index_of frame))

    unseen_run : new_b ≡ true → J.every ≡ true → (Ds : Type 0) (S₀ : ℕ) (s : Bk) (k : Heard) (L S : ℕ)
        → At E J L S s.0
        → Of E (Prog Ds ⊥ ⊥ S₀) k L S → in_previous L frame ≡ false → off_bus k E ≡ true
        → Goes (Holding (Prog (Unit {0}) ⊥ ⊥ S₀) {A = Unit}) k L (run {i = true} book_ops (unseen frame E) s)
    unseen_run due every Ds S₀ s k L S a g missed off =
        let r = g.1.ready in
        load-own (Prog (Unit {0}) ⊥ ⊥ S₀) _ k L before_this S (last-at even E before_this refl s a) g.0
        (loads.unseen (is_serving k r) (is_new k r g.1.sof ∙ due) every
        (ap (λ (f : ℕ). in_previous L f) (is_frame k r) ∙ missed) off
        (ap (λ (f : ℕ). frame_of (previous (index_of f))) (sym (is_frame k r))))
        (record {
          ready = r;
          sof = g.1.sof;
          seen = λ _. inr (inl (previous-is frame));
          late = λ d. absurd d;
          own = λ d. absurd d;
          now = g.1.now;
        })

    sof_own : new_b ≡ true → J.every ≡ true → (Ds : Type 0) (S₀ : ℕ) (s : Bk) (k : Heard) (L S : ℕ) → At E J L S s.0
        → Of E (Prog Ds ⊥ ⊥ S₀) k L S
        → Goes (Holding (Prog (Unit {0}) ⊥ ⊥ S₀) {A = Unit}) k L (run {i = true} book_ops (sof_one frame E) s)
    sof_own due every Ds S₀ s k L S a g =
        told-cond (in_previous (last_in s.0 E) frame)
        (λ done. t_end a (
          g.0,
          told (inr (inl (ap (λ (l : ℕ). in_previous l frame) (sym (a.last E refl)) ∙ done)))
              g.1,
        ))
        (λ missed. let before : in_previous L frame ≡ false = ap (λ (l : ℕ). in_previous l frame)
        (sym (a.last E refl)) ∙ missed in
        t_ask {q = Read MisSt 0} {t = s} false refl (none refl) a (λ n t a.
        let k₁ : Heard = next (Read MisSt 0) n k in
        let g₁ : Of E (Prog Ds ⊥ ⊥ S₀) k₁ L S = (refl, prog_on Ds ⊥ ⊥ S₀ MisSt 0 n _ _ _ _ _ L S refl g.1) in
        told-cond (sie_free n)
        (λ free. unseen_run due every Ds S₀ t k₁ L S a g₁ before
        (ap sie_free (last_is k.known.readings.engine n) ∙ free))
        (λ _. t_ask {q = Read IntSt 0} {t = t} false refl (none refl) a (λ w u a.
        let k₂ : Heard = next (Read IntSt 0) w k₁ in
        let g₂ : Of E (Prog Ds ⊥ ⊥ S₀) k₂ L S = (refl, prog_on Ds ⊥ ⊥ S₀ IntSt 0 w _ _ _ _ _ L S refl g₁.1) in
        told-cond (leaving w E)
        (λ on. t_end a (
          refl,
          told (inr (inr (or_left _ (k.on_bus E)
              (both (again k.frames) _ (ap again g.1.ready.frames) on)))) g₂.1,
        ))
        (λ off. unseen_run due every Ds S₀ u k₂ L S a g₂ before
        (ap not (ap (λ (x : ℕ). leaving x E) (last_is k.known.readings.status w) ∙ off)))))))
      where
        told : {h : Readings} {fs gs : List ℕ} {b : Bool} {c L S : ℕ} → Gone L b → Prog Ds ⊥ ⊥ S₀ h fs gs b c L S
            → Prog (Unit {0}) ⊥ ⊥ S₀ h fs gs b c L S
        told z p = record { ready = p.ready; sof = p.sof; seen = λ _. z; late = p.late; own = p.own; now = p.now }

    sof_other : (e : ℕ) → e < 16 → e ≢ E → (Ds Dl Do : Type 0) (S₀ : ℕ) (s : Bk) (k : Heard) (L S : ℕ)
        → At E J L S s.0
        → Of E (Prog Ds Dl Do S₀) k L S
        → Goes (Holding (Prog Ds Dl Do S₀) {A = Unit}) k L (run {i = true} book_ops (sof_one frame e) s)
    sof_other e h n Ds Dl Do S₀ s k L S a g =
        told-cond (in_previous (last_in s.0 e) frame) (λ _. t_end a g)
        (λ _. t_ask {q = Read MisSt 0} {t = s} false refl (none refl) a (λ v t a.
        let g₁ : Of E (Prog Ds Dl Do S₀) (next (Read MisSt 0) v k) L S =
        (refl, prog_on Ds Dl Do S₀ MisSt 0 v _ _ _ _ _ L S refl g.1) in
        told-cond (sie_free v) (λ _. goes_on_lem t (next (Read MisSt 0) v k) a g₁)
        (λ _. t_ask {q = Read IntSt 0} {t = t} false refl (none refl) a (λ w u a.
        let k₂ = next (Read IntSt 0) w (next (Read MisSt 0) v k) in
        let g₂ : Of E (Prog Ds Dl Do S₀) k₂ L S = (refl, prog_on Ds Dl Do S₀ IntSt 0 w _ _ _ _ _ L S refl g₁.1) in
        told-cond (leaving w e) (λ _. t_end a g₂) (λ _. goes_on_lem u k₂ a g₂)))))
      where
        goes_on_lem : (s : Bk) (k : Heard) → At E J L S s.0 → Of E (Prog Ds Dl Do S₀) k L S
            → Goes (Holding (Prog Ds Dl Do S₀) {A = Unit}) k L (run {i = true} book_ops (unseen frame e) s)
        goes_on_lem s k a g = load-other (Prog Ds Dl Do S₀) e h n _ k L S (other_at even e before_this (apart e h n) s a) g

    sof_walk_lem : new_b ≡ true → (es : List ℕ) → ((e : ℕ) → walk.In e es → e < 16) → (walk.In E es → J.every ≡ true)
        → (Ds : Type 0) (S₀ : ℕ) (s : Bk) (k : Heard) (L S : ℕ) → At E J L S s.0 → Of E (Prog Ds ⊥ ⊥ S₀) k L S
        → Goes (Holding (Prog (walk.In E es ⊎ Ds) ⊥ ⊥ S₀) {A = Unit}) k L (run {i = true} book_ops (sof_walk frame es) s)
    unfolding sof_walk
    sof_walk_lem due [] low sets Ds S₀ s k L S a g = t_end a (g.0, weaker none_left (λ d. d) (λ d. d) g.1)
      where
        none_left : ⊥ ⊎ Ds → Ds
        none_left (inl z) = absurd z
        none_left (inr d) = d
    sof_walk_lem due (e ∷ es) low sets Ds S₀ s k L S a g =
        told-bind {P = Holding (Prog ((E ≡ e) ⊎ Ds) ⊥ ⊥ S₀) {A = Unit}} (one (eqb e E) refl)
        (λ _ t l M T a h. told-weaker (λ _ n N U h. (h.0, weaker parted (λ d. d) (λ d. d) h.1))
        (sof_walk_lem due es (λ x p. low x (inr p)) (λ p. sets (inr p)) ((E ≡ e) ⊎ Ds) S₀ t l M T a h))
      where
        parted : ((E ≡ e) ⊎ walk.In E es) ⊎ Ds → walk.In E es ⊎ ((E ≡ e) ⊎ Ds)
        parted (inl (inl z)) = inr (inl z)
        parted (inl (inr z)) = inl z
        parted (inr z) = inr (inr z)

        one : (u : Bool) → eqb e E ≡ u
            → Goes (Holding (Prog ((E ≡ e) ⊎ Ds) ⊥ ⊥ S₀) {A = Unit}) k L (run {i = true} book_ops (sof_one frame e) s)
        one true q =
            let is : e ≡ E = eqb-true e E q in
            subst (λ (x : ℕ). Goes (Holding (Prog ((E ≡ e) ⊎ Ds) ⊥ ⊥ S₀) {A = Unit}) k L
            (run {i = true} book_ops (sof_one frame x) s))
            (sym is)
            (told-weaker (λ _ n N U h. (h.0, weaker (λ _. tt) (λ d. d) (λ d. d) h.1))
            (sof_own due (sets (inl (sym is))) Ds S₀ s k L S a g))
        one false q =
            let not_is : e ≢ E = eqb-false e E q in
            sof_other e (low e (inl refl)) not_is ((E ≡ e) ⊎ Ds) ⊥ ⊥ S₀ s k L S a
            (g.0, weaker (other_one not_is) (λ d. d) (λ d. d) g.1)
          where
            other_one : e ≢ E → (E ≡ e) ⊎ Ds → Ds
            other_one n (inl z) = absurd (n (sym z))
            other_one n (inr d) = d

    on_sof_lem : new_b ≡ true → (S₀ : ℕ) (s : Bk) (k : Heard) (L S : ℕ) → At E J L S s.0 → Of E (Prog ⊥ ⊥ ⊥ S₀) k L S
        → Goes (Holding (Prog (J.every ≡ true) ⊥ ⊥ frame) {A = Unit}) k L (run {i = true} book_ops (on_sof frame) s)
    on_sof_lem due S₀ s k L S a g =
        let t : Bk = put_b globals-cell (with_sof_frame frame s.0.kept.globals) s in
        let W = every_iso_in t.0.kept.globals in
        let b : At E J L frame t.0 = sof-at (with_sof_frame frame) frame (λ _. refl) s refl a in
        told-bind {P = Holding (Prog (J.every ≡ true) ⊥ ⊥ frame) {A = Unit}}
        (told-weaker (λ _ n N U h. (
          h.0,
          weaker (λ e. inl (walk.walks-set W E small (b.every ∙ e))) (λ d. d)
              (λ d. d) h.1,
        ))
        (sof_walk_lem due (set_bits W) (λ e p. (walk.walked-set W e p).0)
        (λ p. sym b.every ∙ (walk.walked-set W E p).1) ⊥ frame t k L frame b (
          g.0,
          record {
            ready = g.1.ready;
            sof = g.1.sof;
            seen = λ d. absurd d;
            late = λ d. absurd d;
            own = λ d. absurd d;
            now = refl;
          },
        )))
        (λ _ u l M T a h. told-cond (is_on u.0.kept.globals.callback)
        (λ _. t_ask {q = Callback} {t = u} false refl (none refl) a (λ v w a. t_end {t = w} a (refl, h.1)))
        (λ _. t_end {t = u} a h))

    -- ---- what it has to do, and has done

    abbrev new_due : Bool
    new_due = new_b && J.every

    abbrev late_due : Bool
    late_due = late_b && J.every

    abbrev own_due : Bool
    own_due = own_b && (J.iso && not J.paced)

    abbrev sof_after : ℕ
    sof_after = cond new_b frame σ

    -- before its token is served: a SOF's own is still to come
    abbrev Before : Type 0 → Facts
    Before Dl = Prog ((not (is_sof st) && new_due) ≡ true) Dl ⊥ (cond (is_sof st) σ sof_after)

    abbrev After : Facts
    After = Prog (new_due ≡ true) (late_due ≡ true) (own_due ≡ true) sof_after

    module _ (y : Transfer) (iso : Bool) (same-st : y.st ≡ st) (is-late-entry : y.late ≡ late_b)
        (sof_free : is_sof st ≡ true → y.busy ≡ not over_b)
        (own_free : leaving st E ≡ true → J.iso ≡ true → y.busy ≡ not (over_b || eqb σ frame))
        (own_iso : is_in st ≡ true → endpoint st ≡ E → iso ≡ J.iso)
        (no_late : is_sof st ≡ true → late_b ≡ false) where
      -- ---- a new microframe

      first_step : (s : Bk) (k : Heard) (L S : ℕ) → At E J L S s.0 → Of E (Prog ⊥ ⊥ ⊥ σ) k L S
          → Goes (Holding (Before ⊥) {A = Unit}) k L
          (run {i = true} book_ops (when (not (is_sof y.st) && not (eqb s.0.kept.globals.sof_frame frame))
          (on_sof frame)) s)
      first_step s k L S a g =
          let is : (not (is_sof y.st) && not (eqb s.0.kept.globals.sof_frame frame)) ≡
          (not (is_sof st) && not (eqb σ frame))
          = ap₂ (λ (w c : ℕ). not (is_sof w) && not (eqb c frame)) same-st (a.sof ∙ g.1.now) in
          told-cond (not (is_sof y.st) && not (eqb s.0.kept.globals.sof_frame frame))
          (λ yes. by_new (is_sof st) refl (eqb σ frame) refl (sym is ∙ yes))
          (λ no. t_end a (g.0, by_old (is_sof st) refl (eqb σ frame) refl (sym is ∙ no) g.1))
        where
          by_new : (u : Bool) → is_sof st ≡ u → (w : Bool) → eqb σ frame ≡ w → (not u && not w) ≡ true
              → Goes (Holding (Before ⊥) {A = Unit}) k L (run {i = true} book_ops (on_sof frame) s)
          by_new true p w q h = absurd (true≢false (sym h))
          by_new false p true q h = absurd (true≢false (sym h))
          by_new false p false q h =
              let due : new_b ≡ true = ap₂ (λ (w u : Bool). not w && (not u || over_b)) q p in
              told-weaker (λ _ n N U h. (
                h.0,
                record {
                  ready = h.1.ready;
                  sof = h.1.sof;
                  seen = λ d. h.1.seen (right new_b J.every (right (not (is_sof st)) new_due d));
                  late = λ d. absurd d;
                  own = λ d. absurd d;
                  now = h.1.now ∙ sym (ap (λ (u : Bool). cond u σ sof_after) p
                      ∙ ap (λ (u : Bool). cond u frame σ) due);
                },
              )) (on_sof_lem due σ s k L S a g)

          by_old : (u : Bool) → is_sof st ≡ u → (w : Bool) → eqb σ frame ≡ w → (not u && not w) ≡ false
              → {h : Readings} {fs gs : List ℕ} {b : Bool} {c L S : ℕ} → Prog ⊥ ⊥ ⊥ σ h fs gs b c L S
              → Before ⊥ h fs gs b c L S
          by_old false p false q h x = absurd (true≢false h)
          by_old true p w q h x = record {
            ready = x.ready;
            sof = x.sof;
            seen = λ d. absurd (true≢false (sym d ∙ ap (λ (u : Bool). not u && new_due) p));
            late = λ d. absurd d;
            own = λ d. absurd d;
            now = x.now ∙ sym (ap (λ (u : Bool). cond u σ sof_after) p);
          }
          by_old false p true q h x =
              let none-due : new_b ≡ false = ap (λ (w : Bool). not w && (not (is_sof st) || over_b)) q in
              record {
                ready = x.ready;
                sof = x.sof;
                seen = λ d. absurd (true≢false (sym (left new_b J.every (right (not (is_sof st)) new_due d))
                    ∙ none-due));
                late = λ d. absurd d;
                own = λ d. absurd d;
                now = x.now ∙ sym (ap₂ (λ (u w : Bool). cond u σ (cond w frame σ)) p none-due);
              }

      -- ---- a late entry

      second_step : (s : Bk) (k : Heard) (L S : ℕ) → At E J L S s.0 → Of E (Before ⊥) k L S
          → Goes (Holding (Before (late_due ≡ true)) {A = Unit}) k L
          (run {i = true} book_ops (when y.late (late_walk frame (set_bits (every_iso_in s.0.kept.globals)))) s)
      second_step s k L S a g =
          let W = every_iso_in s.0.kept.globals in
          told-cond y.late
          (λ yes. told-weaker (λ _ n N U h. (
            h.0,
            weaker (λ d. d)
                (λ d. inl (walk.walks-set W E small (a.every ∙ right late_b J.every d))) (λ d. d) h.1,
          ))
          (late_walk_lem (sym is-late-entry ∙ yes) (set_bits W) (λ e p. (walk.walked-set W e p).0)
          (λ p. sym a.every ∙ (walk.walked-set W E p).1)
          ((not (is_sof st) && new_due) ≡ true) ⊥ ⊥ (cond (is_sof st) σ sof_after) s k L S a g))
          (λ no. t_end a (
            g.0,
            weaker (λ d. d)
                (λ d. absurd (true≢false (sym (left late_b J.every d) ∙ (sym is-late-entry ∙ no)))) (λ d. d) g.1,
          ))

      -- ---- its token

      no_own : leaving st E ≡ false → own_due ≡ true → ⊥
      no_own h d = true≢false (sym (left (leaving st E) _ (left own_b _ d)) ∙ h)

      -- where it is no SOF, and its own packet is complete or it has none
      as_after : {Do : Type 0} {h : Readings} {fs gs : List ℕ} {b : Bool} {c L S : ℕ} → is_sof st ≡ false
          → (own_due ≡ true → Do)
          → Prog ((not (is_sof st) && new_due) ≡ true) (late_due ≡ true) Do (cond (is_sof st) σ sof_after) h fs gs b c L S
          → After h fs gs b c L S
      as_after p z x = record {
        ready = x.ready;
        sof = x.sof;
        seen = λ d. x.seen (ap (λ (u : Bool). not u && new_due) p ∙ d);
        late = x.late;
        own = λ d. x.own (z d);
        now = x.now ∙ ap (λ (u : Bool). cond u σ sof_after) p;
      }

      calm_step : {A : Type 0} (G : Facts) → Stable E steady G → {p : Script true A} → Calm steady A p
          → (s : Bk) (k : Heard) (L S : ℕ)
          → At E J L S s.0 → Of E G k L S → Goes (Holding G {A = A}) k L (run book_ops p s)
      calm_step G on x s k L S a g = calm_run even G on x s k L S a g

      is_leaving : token st ≡ tok.In → endpoint st ≡ E → leaving st E ≡ true
      unfolding leaving is_in
      is_leaving t e = both (in_token (token st)) _ (ap in_token t) (eq-eqb (endpoint st) E e)

      not_leaving : (is_in st ≡ false) ⊎ (eqb (endpoint st) E ≡ false) → leaving st E ≡ false
      unfolding leaving
      not_leaving (inl h) = ap (λ (u : Bool). u && eqb (endpoint st) E) h
      not_leaving (inr h) = ap (λ (u : Bool). is_in st && u) h ∙ and-false (is_in st)

      token_in : (t : Token) → token st ≡ t → in_token t ≡ false → is_in st ≡ false
      unfolding is_in
      token_in t p h = ap in_token p ∙ h

      token_sof : (t : Token) → token st ≡ t → sof_token t ≡ false → is_sof st ≡ false
      unfolding is_sof
      token_sof t p h = ap sof_token p ∙ h

      token_is_sof : token st ≡ tok.Sof → is_sof st ≡ true
      unfolding is_sof
      token_is_sof p = ap sof_token p

      token_is_in : token st ≡ tok.In → is_in st ≡ true
      unfolding is_in
      token_is_in p = ap in_token p

      leaving_parts : leaving st E ≡ true → (is_in st ≡ true) × (endpoint st ≡ E)
      unfolding leaving
      leaving_parts h = (left (is_in st) _ h, eqb-true (endpoint st) E (right (is_in st) _ h))

      -- of an isochronous IN
      iso_step : token st ≡ tok.In → y.busy ≡ false → iso ≡ true → (s : Bk) (k : Heard) (L S : ℕ) → At E J L S s.0
          → Of E (Before (late_due ≡ true)) k L S
          → Goes (Holding After {A = Unit}) k L (run {i = true} book_ops (iso_in_arm (endpoint st) frame) s)
      iso_step t free on s k L S a g = by (eqb (endpoint st) E) refl
        where
          no_sof : is_sof st ≡ false
          no_sof = token_sof tok.In t refl

          is_in_lem : is_in st ≡ true
          is_in_lem = token_is_in t

          -- the state's page is E's
          mine : endpoint st ≡ E → Goes (Holding After {A = Unit}) k L (run {i = true} book_ops (iso_in_arm E frame) s)
          mine e = told-cond (bit_is_set s.0.kept.globals.iso_in_paced E)
              (λ paced. t_end a (
                g.0,
                as_after no_sof (λ d. true≢false
                    (sym (right J.iso _ (right own_b _ d)) ∙ ap not (sym a.paced ∙ paced))) g.1,
              ))
              (λ free-running. let served = sym (own_free (is_leaving t e) (sym (own_iso is_in_lem e) ∙ on)) ∙ free in
              let over-or : (over_b || eqb σ frame) ≡ true = not_false (over_b || eqb σ frame) served in
              first-own (Before (late_due ≡ true)) After frame s k L S a g
              (λ first. loads.own (is_serving k g.1.ready)
              (is_own k g.1.ready g.1.sof ∙ both (leaving st E) _ (is_leaving t e) over-or)
              (sym (own_iso is_in_lem e) ∙ on) (sym a.paced ∙ free-running)
              (ap (λ (f : ℕ). eqb L f) (is_frame k g.1.ready) ∙ first) (sym (is_frame k g.1.ready)))
              (λ p. record {
                ready = p.ready;
                sof = p.sof;
                seen = λ _. inl refl;
                late = λ _. refl;
                own = λ _. refl;
                now = p.now ∙ ap (λ (u : Bool). cond u σ sof_after) no_sof;
              }))

          by : (u : Bool) → eqb (endpoint st) E ≡ u
              → Goes (Holding After {A = Unit}) k L (run {i = true} book_ops (iso_in_arm (endpoint st) frame) s)
          by true q =
              let e : endpoint st ≡ E = eqb-true (endpoint st) E q in
              subst (λ (x : ℕ). Goes (Holding After {A = Unit}) k L (run {i = true} book_ops (iso_in_arm x frame) s))
              (sym e) (mine e)
          by false q =
              let z = as_after no_sof (no_own (not_leaving (inr q))) g.1 in
              told-cond (bit_is_set s.0.kept.globals.iso_in_paced (endpoint st)) (λ _. t_end a (g.0, z))
              (λ _. first-other After After frame (endpoint st) (endpoint-low st)
              (eqb-false (endpoint st) E q) s k L S a (g.0, z))

      third_step : y.busy ≡ false → (s : Bk) (k : Heard) (L S : ℕ) → At E J L S s.0
          → Of E (Before (late_due ≡ true)) k L S
          → (t : Token) → token st ≡ t → Goes (Holding After {A = Unit}) k L
          (run {i = true} book_ops (dispatch t y iso frame) s)
      third_step free s k L S a g tok.Setup p = t_end a (
        g.0,
        as_after (token_sof tok.Setup p refl)
            (no_own (not_leaving (inl (token_in tok.Setup p refl)))) g.1,
      )
      third_step free s k L S a g tok.Out p =
          calm_step After (prog_on _ _ _ _) (of-out-arm y iso) s k L S a (
            g.0,
            as_after (token_sof tok.Out p refl)
                (no_own (not_leaving (inl (token_in tok.Out p refl)))) g.1,
          )
      third_step free s k L S a g tok.In p = told-cond iso
          (λ on. subst (λ (w : ℕ). Goes (Holding After {A = Unit}) k L
          (run {i = true} book_ops (iso_in_arm (endpoint w) frame) s)) (sym same-st)
          (iso_step p free on s k L S a g))
          (λ off. calm_step After (prog_on _ _ _ _) (of-plain-in y) s k L S a
          (g.0, as_after (token_sof tok.In p refl) (λ d. no_iso off d) g.1))
        where
          no_iso : iso ≡ false → own_due ≡ true → ⊥
          no_iso off d =
              let lv = leaving_parts (left (leaving st E) _ (left own_b _ d)) in
              true≢false (sym (left J.iso _ (right own_b _ d)) ∙ (sym (own_iso lv.0 lv.1) ∙ off))
      third_step free s k L S a g tok.Sof p =
          let is : is_sof st ≡ true = by_sof in
          let done : over_b ≡ true = not_false over_b (sym (sof_free is) ∙ free) in
          let due-is : new_b ≡ not (eqb σ frame) = ap₂ (λ (u w : Bool). not (eqb σ frame) && (not u || w)) is done
          ∙ and-true (not (eqb σ frame)) in
          told-cond (not (eqb s.0.kept.globals.sof_frame frame))
          (λ yes. let due : new_b ≡ true = due-is ∙ sym (ap (λ (c : ℕ). not (eqb c frame)) (a.sof ∙ now_is is)) ∙ yes in
          told-weaker (λ _ n N U h. (
            h.0,
            record {
              ready = h.1.ready;
              sof = h.1.sof;
              seen = λ d. h.1.seen (right new_b J.every d);
              late = λ d. absurd (true≢false (sym (left late_b J.every d) ∙ no_late is));
              own = λ d. absurd (no_own (not_leaving (inl (token_in tok.Sof p refl))) d);
              now = h.1.now ∙ sym (ap (λ (u : Bool). cond u frame σ) due);
            },
          ))
          (on_sof_lem due _ s k L S a (g.0, weaker (λ d. absurd d) (λ d. absurd d) (λ d. d) g.1)))
          (λ no. let none-due : new_b ≡ false = due-is ∙ sym (ap (λ (c : ℕ). not (eqb c frame)) (a.sof ∙ now_is is))
          ∙ no in
          t_end a (
            g.0,
            record {
              ready = g.1.ready;
              sof = g.1.sof;
              seen = λ d. absurd (true≢false (sym (left new_b J.every d) ∙ none-due));
              late = λ d. absurd (true≢false (sym (left late_b J.every d) ∙ no_late is));
              own = λ d. absurd (no_own (not_leaving (inl (token_in tok.Sof p refl))) d);
              now = g.1.now ∙ ap (λ (u : Bool). cond u σ sof_after) is
                  ∙ sym (ap (λ (u : Bool). cond u frame σ) none-due);
            },
          ))
        where
          by_sof : is_sof st ≡ true
          by_sof = token_is_sof p

          now_is : is_sof st ≡ true → S ≡ σ
          now_is is = g.1.now ∙ ap (λ (u : Bool). cond u σ sof_after) is

      -- its token is still on the bus
      busy_step : y.busy ≡ true → {h : Readings} {fs gs : List ℕ} {b : Bool} {c L S : ℕ}
          → Before (late_due ≡ true) h fs gs b c L S → After h fs gs b c L S
      busy_step busy {h = h} {fs = fs} {gs = gs} {b = b} {c = c} {L = L} {S = S} x = by (is_sof st) refl
        where
          no_own_yet : own_due ≡ true → ⊥
          no_own_yet d =
              let lv = left (leaving st E) _ (left own_b _ d) in
              true≢false (sym (right (leaving st E) _ (left own_b _ d))
              ∙ not-true (over_b || eqb σ frame) (sym (own_free lv (left J.iso _ (right own_b _ d))) ∙ busy))

          by : (u : Bool) → is_sof st ≡ u → After h fs gs b c L S
          by false p = as_after p (λ d. no_own_yet d) x
          by true p =
              let none-due : new_b ≡ false = ap₂ (λ (u w : Bool). not (eqb σ frame) && (not u || w)) p
              (not-true over_b (sym (sof_free p) ∙ busy)) ∙ and-false (not (eqb σ frame)) in
              record {
                ready = x.ready;
                sof = x.sof;
                seen = λ d. absurd (true≢false (sym (left new_b J.every d) ∙ none-due));
                late = x.late;
                own = λ d. absurd (no_own_yet d);
                now = x.now ∙ ap (λ (u : Bool). cond u σ sof_after) p
                    ∙ sym (ap (λ (u : Bool). cond u frame σ) none-due);
              }

      served_told : (s : Bk) (k : Heard) (L S : ℕ) → At E J L S s.0 → Of E (Prog ⊥ ⊥ ⊥ σ) k L S
          → Goes (Holding After {A = Unit}) k L (run {i = true} book_ops (served y iso frame) s)
      served_told s k L S a g =
          told-bind {P = Holding (Before ⊥) {A = Unit}} (first_step s k L S a g)
          (λ _ t k L S a g. told-bind {P = Holding (Before (late_due ≡ true)) {A = Unit}} (second_step t k L S a g)
          (λ _ t k L S a g. told-bind {P = Holding After {A = Unit}} (told-cond (not y.busy)
          (λ free. subst (λ (w : ℕ). Goes (Holding After {A = Unit}) k L
          (run {i = true} book_ops (dispatch (token w) y iso frame) t)) (sym same-st)
          (third_step (not-true y.busy free) t k L S a g (token st) refl))
          (λ busy. t_end a (g.0, busy_step (not_false y.busy busy) g.1)))
          (λ _ t k L S a g. told-bind {P = Holding After {A = Unit}} (told-cond (not (is_sof y.st))
          (λ _. calm_step After (prog_on _ _ _ _) (of-check-walk y iso
          (set_bits (iso_outs t.0.kept.globals))) t k L S a g)
          (λ _. t_end a g))
          (λ _ t k L S a g. told-cond (eqb (endpoint y.st) 0)
          (λ _. calm_step After (prog_on _ _ _ _) (of-ep0-moved (token y.st)) t k L S a g) (λ _. t_end a g)))))

  -- ---- the transfer settled

  record Settles (flag : ℕ) (x : Transfer) (h : Readings) (fs gs : List ℕ) : Type 0 where
    m : ℕ
    st₀ : ℕ
    R : Bool
    es : List ℕ
    ss : List ℕ
    more : List ℕ
    before : ℕ
    engine : h.engine ≡ m ∷ es
    status : h.status ≡ st₀ ∷ ss
    stat : Stat x.st h fs
    re : retook fs ≡ R
    flags : fs ≡ flag ∷ more
    frames : gs ≡ before ∷ []
    late : x.late ≡ (not (sie_free m) && (is_out st₀ && J.outs (endpoint st₀)))
    sof_free : is_sof x.st ≡ true → x.busy ≡ not (sie_free m || R)
    own_free : leaving x.st E ≡ true → J.iso ≡ true → x.busy ≡ not (sie_free m || R)
    no_late : is_sof x.st ≡ true → (not (sie_free m) && (is_out st₀ && J.outs (endpoint st₀))) ≡ false

  tokens_apart : (st : ℕ) → is_out st ≡ true → (is_sof st ≡ false) × (leaving st E ≡ false)
  unfolding is_out is_sof leaving is_in
  tokens_apart st h =
      let z = (no-two (token st)).0 h in (z.0, ap (λ (u : Bool). u && eqb (endpoint st) E) z.1)

  in_apart : (st : ℕ) → is_in st ≡ true → is_sof st ≡ false
  unfolding is_in is_sof
  in_apart st h = (no-two (token st)).1 h

  leaving_in : (st : ℕ) → leaving st E ≡ true → (is_in st ≡ true) × (endpoint st ≡ E)
  unfolding leaving
  leaving_in st h = (left (is_in st) _ h, eqb-true (endpoint st) E (right (is_in st) _ h))

  out_in : (st : ℕ) → is_out st ≡ true → is_in st ≡ false
  unfolding is_out is_in
  out_in st h = ((no-two (token st)).0 h).1

  or_false : (u : Bool) → (u || false) ≡ u
  or_false true = refl
  or_false false = refl

  or_true : (u : Bool) → (u || true) ≡ true
  or_true true = refl
  or_true false = refl

  module _ (flag m st n : ℕ) where
    abbrev x₀ : Transfer
    x₀ = entered m st n

    settle_told : (s : Bk) (k : Heard) (L S : ℕ) → At E J L S s.0 → Of E (Early (Began flag m st)) k L S
        → Told E J (λ x l M T. Of E (Early (Settles flag x)) l M T) k L (run {i = true} book_ops (settle x₀) s)
    unfolding waits_for_iso waits_for_bulk
    settle_told s k L S a b =
        told-cond (waits_for_iso x₀ o)
        (λ u. let busy = not-true (sie_free m) (left (not (sie_free m)) (is_out st && is_on o.iso) u) in
        let out = left (is_out st) (is_on o.iso) (right (not (sie_free m)) _ u) in
        told-bind {P = Holding (Early (Began flag m st)) {A = Unit}}
        (calm_run even (Early (Began flag m st)) (early-on E (Began flag m st) (began-on flag m st))
        (of-looks 2001) s k L S a b)
        (λ _ t l M T a c. t_ask {q = Read IntSt 0} {t = t} false refl (none refl) a
        (λ now w a. t_ask {q = Read RxLen 0} {t = w} false refl (none refl) a (λ len z a. t_end {t = z} a (
          refl,
          (
            record {
              m = m;
              st₀ = st;
              R = false;
              es = c.1.0.later;
              ss = now ∷ [];
              more = [];
              before = c.1.0.frame;
              engine = c.1.0.engine;
              status = ap (λ (l : List ℕ). l ++ (now ∷ [])) c.1.0.status;
              stat = once (now ∷ []) (ap (λ (l : List ℕ). l ++ (now ∷ [])) c.1.0.status)
                  (ap retook c.1.0.flags);
              re = ap retook c.1.0.flags;
              flags = c.1.0.flags;
              frames = c.1.0.frames;
              late = sym (late_is u);
              sof_free = λ h. absurd (true≢false (sym h ∙ (tokens_apart st out).0));
              own_free = λ h _. absurd (true≢false (sym h ∙ (tokens_apart st out).1));
              no_late = λ h. absurd (true≢false (sym h ∙ (tokens_apart st out).0));
            },
            c.1.1,
          ),
        )))))
        (λ free. told-cond (waits_for_bulk x₀ i)
        (λ u. told-bind {P = Holding (Early (Began flag m st)) {A = Unit}}
        (calm_run even (Early (Began flag m st)) (early-on E (Began flag m st) (began-on flag m st))
        (of-looks 2001) s k L S a b)
        (λ _ t l M T a c. t_ask {q = Read RxLen 0} {t = t} false refl (none refl) a (λ len z a. t_end {t = z} a (
          refl,
          (
            record {
              m = m;
              st₀ = st;
              R = false;
              es = c.1.0.later;
              ss = [];
              more = [];
              before = c.1.0.frame;
              engine = c.1.0.engine;
              status = c.1.0.status;
              stat = once [] c.1.0.status (ap retook c.1.0.flags);
              re = ap retook c.1.0.flags;
              flags = c.1.0.flags;
              frames = c.1.0.frames;
              late = sym (late_is free);
              sof_free = λ h. absurd (bulk_no_sof u h);
              own_free = λ h iso. absurd (bulk_no_own u h iso);
              no_late = λ _. late_is free;
            },
            c.1.1,
          ),
        ))))
        (λ _. told-cond (not (sie_free m))
        (λ busy. t_ask {q = Read MisSt 0} {t = s} false refl (none refl) a (λ m₁ t a. told-cond (sie_free m₁)
        (λ _. t_ask {q = Read IntFg 0} {t = t} false refl (none refl) a (λ g w a. told-cond (transfer g)
        (λ taken. t_end {t = w} a (
          refl,
          (
            record {
              m = m;
              st₀ = st;
              R = false;
              es = b.1.0.later ++ (m₁ ∷ []);
              ss = [];
              more = g ∷ [];
              before = b.1.0.frame;
              engine = ap (λ (l : List ℕ). l ++ (m₁ ∷ [])) b.1.0.engine;
              status = b.1.0.status;
              stat = once [] b.1.0.status (ap (λ (l : List ℕ). retook (l ++ (g ∷ []))) b.1.0.flags
                  ∙ ap not taken);
              re = ap (λ (l : List ℕ). retook (l ++ (g ∷ []))) b.1.0.flags ∙ ap not taken;
              flags = ap (λ (l : List ℕ). l ++ (g ∷ [])) b.1.0.flags;
              frames = b.1.0.frames;
              late = sym (late_is free);
              sof_free = λ _. ap not (sym (or_false (sie_free m)));
              own_free = λ _ _. ap not (sym (or_false (sie_free m)));
              no_late = λ _. late_is free;
            },
            b.1.1,
          ),
        ))
        (λ gone. t_ask {q = Read IntSt 0} {t = w} false refl (none refl) a (λ st₁ z a.
        told-bind {P = Holding (Early (Anew flag m st g st₁)) {A = Unit}}
        (calm_run even (Early (Anew flag m st g st₁)) (early-on E (Anew flag m st g st₁) (anew-on flag m st g st₁))
        (of-nak st₁) z _ L S a (
          refl,
          (
            record {
              frame = b.1.0.frame;
              later = b.1.0.later ++ (m₁ ∷ []);
              engine = ap (λ (l : List ℕ). l ++ (m₁ ∷ [])) b.1.0.engine;
              status = ap (λ (l : List ℕ). l ++ (st₁ ∷ [])) b.1.0.status;
              flags = ap (λ (l : List ℕ). l ++ (g ∷ [])) b.1.0.flags;
              frames = b.1.0.frames;
            },
            b.1.1,
          ),
        ))
        (λ _ w l M T a c. t_end {t = w} a (
          c.0,
          (
            record {
              m = m;
              st₀ = st;
              R = true;
              es = c.1.0.later;
              ss = st₁ ∷ [];
              more = g ∷ [];
              before = c.1.0.frame;
              engine = c.1.0.engine;
              status = c.1.0.status;
              stat = anew st [] c.1.0.status (ap retook c.1.0.flags ∙ ap not gone);
              re = ap retook c.1.0.flags ∙ ap not gone;
              flags = c.1.0.flags;
              frames = c.1.0.frames;
              late = sym (late_is free);
              sof_free = λ _. ap not (sym (or_true (sie_free m)));
              own_free = λ _ _. ap not (sym (or_true (sie_free m)));
              no_late = λ _. late_is free;
            },
            c.1.1,
          ),
        ))))))
        (λ _. t_end {t = t} a (
          refl,
          (
            record {
              m = m;
              st₀ = st;
              R = false;
              es = b.1.0.later ++ (m₁ ∷ []);
              ss = [];
              more = [];
              before = b.1.0.frame;
              engine = ap (λ (l : List ℕ). l ++ (m₁ ∷ [])) b.1.0.engine;
              status = b.1.0.status;
              stat = once [] b.1.0.status (ap retook b.1.0.flags);
              re = ap retook b.1.0.flags;
              flags = b.1.0.flags;
              frames = b.1.0.frames;
              late = sym (late_is free);
              sof_free = λ _. ap not (sym (or_false (sie_free m)));
              own_free = λ _ _. ap not (sym (or_false (sie_free m)));
              no_late = λ _. late_is free;
            },
            b.1.1,
          ),
        ))))
        (λ u. t_end {t = s} a (
          b.0,
          (
            record {
              m = m;
              st₀ = st;
              R = false;
              es = b.1.0.later;
              ss = [];
              more = [];
              before = b.1.0.frame;
              engine = b.1.0.engine;
              status = b.1.0.status;
              stat = once [] b.1.0.status (ap retook b.1.0.flags);
              re = ap retook b.1.0.flags;
              flags = b.1.0.flags;
              frames = b.1.0.frames;
              late = sym (late_is free);
              sof_free = λ _. ap not (sym (or_false (sie_free m)));
              own_free = λ _ _. ap not (sym (or_false (sie_free m)));
              no_late = λ _. late_is free;
            },
            b.1.1,
          ),
        ))))
      where
        o : EpCore
        o = get_b (ep-cell Out (endpoint st)) s

        i : EpCore
        i = get_b (ep-cell In (endpoint st)) s

        late_is : {u : Bool} → (not (sie_free m) && (is_out st && is_on o.iso)) ≡ u
            → (not (sie_free m) && (is_out st && J.outs (endpoint st))) ≡ u
        late_is h = ap (λ (w : Bool). not (sie_free m) && (is_out st && w)) (sym (a.outs (endpoint st))) ∙ h

        bulk_no_sof : (not (sie_free m) && (not (eqb (endpoint st) 0) &&
            (is_out st || (is_in st && not (is_on i.iso))))) ≡ true
            → is_sof st ≡ true → ⊥
        bulk_no_sof u h = by (is_out st) refl (right (not (eqb (endpoint st) 0)) _ (right (not (sie_free m)) _ u))
          where
            by : (w : Bool) → is_out st ≡ w → (w || (is_in st && not (is_on i.iso))) ≡ true → ⊥
            by true p z = true≢false (sym h ∙ (tokens_apart st p).0)
            by false p z = true≢false (sym h ∙ in_apart st (left (is_in st) _ z))

        bulk_no_own : (not (sie_free m) && (not (eqb (endpoint st) 0) &&
            (is_out st || (is_in st && not (is_on i.iso))))) ≡ true
            → leaving st E ≡ true → J.iso ≡ true → ⊥
        bulk_no_own u h iso = by (is_out st) refl (right (not (eqb (endpoint st) 0)) _ (right (not (sie_free m)) _ u))
          where
            by : (w : Bool) → is_out st ≡ w → (w || (is_in st && not (is_on i.iso))) ≡ true → ⊥
            by true p z = true≢false (sym h ∙ (tokens_apart st p).1)
            by false p z = true≢false (sym (right (is_in st) _ z)
                ∙ ap not (a.iso (endpoint st) (ap (λ (e : ℕ). e % 16) (leaving_in st h).1) ∙ iso))

  -- ---- with the frame

  framed_st : (x : Transfer) (iso : Bool) (c frame : ℕ) → ((framed x iso c frame).st ≡ x.st)
      × ((framed x iso c frame).late ≡ x.late)
      × ((framed x iso c frame).busy ≡ cond (own_in x iso c frame) false x.busy)
  framed_st x iso c frame = by (own_in x iso c frame)
    where
      by : (u : Bool) → ((cond u (released x) x).st ≡ x.st) × ((cond u (released x) x).late ≡ x.late)
          × ((cond u (released x) x).busy ≡ cond u false x.busy)
      by true = (refl, refl, refl)
      by false = (refl, refl, refl)

  framed_sof : (x : Transfer) (iso : Bool) (c frame : ℕ) → is_sof x.st ≡ true → (framed x iso c frame).busy ≡ x.busy
  unfolding own_in
  framed_sof x iso c frame h = (framed_st x iso c frame).2 ∙ ap
      (λ (u : Bool). cond (x.busy && (iso && (u && eqb c frame))) false x.busy) (by (is_in x.st) refl)
      ∙ ap (λ (u : Bool). cond (x.busy && u) false x.busy) (and-false iso)
      ∙ ap (λ (u : Bool). cond u false x.busy) (and-false x.busy)
    where
      by : (u : Bool) → is_in x.st ≡ u → u ≡ false
      by true p = absurd (true≢false (sym h ∙ in_apart x.st p))
      by false p = refl

  framed_own : (x : Transfer) (iso : Bool) (c frame : ℕ) (o : Bool) → is_in x.st ≡ true → iso ≡ true → x.busy ≡ not o
      → (framed x iso c frame).busy ≡ not (o || eqb c frame)
  unfolding own_in
  framed_own x iso c frame o h on busy = (framed_st x iso c frame).2
      ∙ ap₂ (λ (u i : Bool). cond (x.busy && (i && (u && eqb c frame))) false x.busy) h on
      ∙ ap (λ (b : Bool). cond (b && eqb c frame) false b) busy ∙ by o (eqb c frame)
    where
      by : (o w : Bool) → cond (not o && w) false (not o) ≡ not (o || w)
      by true w = refl
      by false true = refl
      by false false = refl

  in_iso : (st : ℕ) (o n : EpCore) → is_in st ≡ true → iso_for (token st) o n ≡ is_on n.iso
  unfolding is_in iso_for
  in_iso st o n h = by (token st) h
    where
      by : (t : Token) → in_token t ≡ true → iso_for t o n ≡ is_on n.iso
      by tok.In h = refl
      by tok.Out h = absurd (true≢false (sym h))
      by tok.Sof h = absurd (true≢false (sym h))
      by tok.Setup h = absurd (true≢false (sym h))

  -- ---- at its end

  data Over (h : Readings) (fs gs : List ℕ) (b : Bool) (c L S : ℕ) : Type 0 where
    all : (flag m st₀ : ℕ) (R : Bool) (st frame σ : ℕ) (flagged : transfer flag ≡ true)
        → After flag m st₀ R st frame σ flagged h fs gs b c L S → Over h fs gs b c L S
    no_transfer : (flag : ℕ) (more : List ℕ) → fs ≡ flag ∷ more → transfer flag ≡ false → S ≡ c → Over h fs gs b c L S

  over_on : Stable E steady Over
  over_on r e v h fs gs b c L S u (all flag m st₀ R st frame σ flagged p) =
      all flag m st₀ R st frame σ flagged (prog_on flag m st₀ R st frame σ flagged _ _ _ _ r e v h fs gs b c L S u p)
  over_on r e v h fs gs b c L S u (no_transfer flag more p q s) =
      no_transfer flag more (more-not (same_reg r IntFg) v fs (neither (same_reg r IntFg) (same_reg r FrameNo) u).0
      ∙ p) q s

  over_done : (k : Heard) (L S : ℕ) → Of E Over k L S → loads.SentAll k J E L S
  over_done k L S (q, all flag m st₀ R st frame σ flagged p) =
      let r = p.ready in
      let f = is_frame flag m st₀ R st frame σ flagged k r in
      let new = is_new flag m st₀ R st frame σ flagged k r p.sof in
      loads.served (ap loads.some r.flags) (ap (λ (l : List ℕ). transfer (first l)) r.flags ∙ flagged) (record {
        status = ap loads.some r.status;
        frame = ap again r.frames;
        own = λ d. p.own (sym (ap (λ (u : Bool). u && (J.iso && not J.paced))
            (is_own flag m st₀ R st frame σ flagged k r p.sof)) ∙ d) ∙ sym f;
        late = λ d. p.late (sym (ap (λ (u : Bool). u && J.every) (is_late flag m st₀ R st frame σ flagged k r))
            ∙ d) ∙ sym f;
        unseen = λ d. subst (λ (w : ℕ). (L ≡ w) ⊎ ((in_previous L w ≡ true) ⊎ (k.on_bus E ≡ true))) (sym f)
            (p.seen (sym (ap (λ (u : Bool). u && J.every) new) ∙ d));
        sof = p.now ∙ sym (ap₂ (λ (u : Bool) (w : ℕ). cond u w k.sof) new f
            ∙ ap (λ (w : ℕ). cond (new_b flag m st₀ R st frame σ flagged) frame w) p.sof);
      })
  over_done k L S (q, no_transfer flag more p n s) =
      loads.no_transfer (ap loads.some p) (ap (λ (l : List ℕ). transfer (first l)) p ∙ n) s

  -- ---- the script

  transfer_told : (flag : ℕ) → transfer flag ≡ true → (s : Bk) (k : Heard) (L S : ℕ) → At E J L S s.0
      → Of E (Early (Unread flag)) k L S
      → Goes (Holding Over {A = Unit}) k L (run {i = true} book_ops on_transfer s)
  transfer_told flag flagged s k L S a b =
      t_ask {q = Read MisSt 0} {t = s} false refl (none refl) a
      (λ m t a. t_ask {q = Read IntSt 0} {t = t} false refl (none refl) a
      (λ st u a. t_ask {q = Read RxLen 0} {t = u} false refl (none refl) a (λ n w a.
      let l : Heard = next (Read RxLen 0) n (next (Read IntSt 0) st (next (Read MisSt 0) m k)) in
      let c : Of E (Early (Began flag m st)) l L S = (
        refl,
        (
          record {
            frame = b.1.0.frame;
            later = [];
            engine = ap (λ (l : List ℕ). l ++ (m ∷ [])) b.1.0.engine;
            status = ap (λ (l : List ℕ). l ++ (st ∷ [])) b.1.0.status;
            flags = b.1.0.flags;
            frames = b.1.0.frames;
          },
          b.1.1,
        ),
      ) in
      told-bind {P = Holding (Early (Began flag m st)) {A = Unit}}
      (told-cond (not (not (sie_free m)) || (not (is_sof st) && not (eqb (endpoint st) 0)))
      (λ _. calm_run even (Early (Began flag m st)) (early-on E (Began flag m st) (began-on flag m st))
      (of-nak st) w l L S a c) (λ _. t_end a c))
      (λ _ t k L S a c. t_ask {t = t} false refl (none refl) a (λ _ t a.
      told-bind {P = λ x l M T. Of E (Early (Settles flag x)) l M T} (settle_told flag m st n t _ L S a (refl, c.1))
      (λ x t k L S a₁ g. t_ask {q = Read FrameNo 0} {t = t} false refl (none refl) a₁ (λ frame z a.
      let o = t.0.kept.plain Out (endpoint x.st) in
      let i = t.0.kept.plain In (endpoint x.st) in
      let iso = iso_for (token x.st) o i in
      let c = z.0.kept.globals.sof_frame in
      let y = framed x iso c frame in
      let G = g.1.0 in
      let own_iso : is_in x.st ≡ true → endpoint x.st ≡ E → iso ≡ J.iso
      = λ h e. in_iso x.st o i h ∙ a₁.iso (endpoint x.st) (ap (λ (e : ℕ). e % 16) e) in
      let same : c ≡ k.sof = a.sof ∙ g.1.1 in
      told-weaker (λ _ l M T h. (h.0, all flag G.m G.st₀ G.R x.st frame c flagged h.1))
      (served_told flag G.m G.st₀ G.R x.st frame c flagged y iso (framed_st x iso c frame).0
      ((framed_st x iso c frame).1 ∙ G.late)
      (λ h. framed_sof x iso c frame h ∙ G.sof_free h)
      (λ h on. let lv = leaving_in x.st h in
      framed_own x iso c frame (sie_free G.m || G.R) lv.0 (own_iso lv.0 lv.1 ∙ on) (G.own_free h on))
      own_iso G.no_late z (next (Read FrameNo 0) frame k) L S a (
        refl,
        record {
          ready = record {
            es = G.es;
            ss = G.ss;
            more = G.more;
            before = G.before;
            engine = G.engine;
            status = G.status;
            stat = G.stat;
            re = G.re;
            flags = G.flags;
            frames = ap (λ (l : List ℕ). l ++ (frame ∷ [])) G.frames;
          };
          sof = sym same;
          seen = λ d. absurd d;
          late = λ d. absurd d;
          own = λ d. absurd d;
          now = sym a.sof;
        },
      )))))))))

  told_write : (flag : ℕ) (s : Bk) (k : Heard) (L S : ℕ) → At E J L S s.0 → Of E (Early (Unread flag)) k L S
      → (u : Bool) (v : ℕ)
      → Goes (Holding (Early (Unread flag)) {A = Unit}) k L (run {i = true} book_ops (when u (write IntFg 0 v)) s)
  told_write flag s k L S a b u v = told-cond u
      (λ _. t_ask {q = Write IntFg 0 v} {t = s} false refl (none refl) a (λ _ t a. t_end {t = t} a (refl, b.1)))
      (λ _. t_end {t = s} a b)

  entered_told : (s : Bk) (k : Heard) (L S : ℕ) → At E J L S s.0 → Of E (Early Entered) k L S
      → Goes (Holding Over {A = Unit}) k L (run {i = true} book_ops on_interrupt s)
  entered_told s k L S a b =
      t_ask {q = Read IntFg 0} {t = s} false refl (none refl) a (λ flag t a.
      let l : Heard = next (Read IntFg 0) flag k in
      let G : Facts = Early (Unread flag) in
      let on : Stable E silent G = early-on E (Unread flag) (unread-on flag) in
      let c : Of E G l L S = (
        refl,
        (
          record {
            frame = b.1.0.frame;
            engine = b.1.0.engine;
            status = b.1.0.status;
            flags = ap (λ (l : List ℕ). l ++ (flag ∷ [])) b.1.0.flags;
            frames = b.1.0.frames;
          },
          b.1.1,
        ),
      ) in
      told-bind {P = Holding G {A = Unit}} (told-cond (bus_rst flag)
      (λ _. calm_run even G on (of-masked (λ w. with_bus_rst w false)) t l L S a c)
      (λ _. t_end {t = t} a c))
      (λ _ t k L S a b. told-bind {P = Holding G {A = Unit}} (told-cond (suspend flag)
      (λ _. calm_run even G on (of-masked (λ w. with_suspend w false)) t k L S a b) (λ _. t_end {t = t} a b))
      (λ _ t k L S a b. told-bind {P = Holding G {A = Unit}} (told_write flag t k L S a b (fifo_ov flag) FIFO_OV)
      (λ _ t k L S a b. told-bind {P = Holding G {A = Unit}} (told_write flag t k L S a b (hst_sof flag) HST_SOF)
      (λ _ t k L S a b. told-bind {P = Holding Over {A = Unit}} (told-cond (transfer flag)
      (λ flagged. transfer_told flag flagged t k L S a b)
      (λ not_so. t_end {t = t} a (b.0, no_transfer flag [] b.1.0.flags not_so b.1.1)))
      (λ _ t k L S a b. told-cond (setup_act flag) (λ _. calm_run even Over over_on of-on-setup t k L S a b)
      (λ _. t_end {t = t} a b)))))))

  abbrev is_refused : Answer → Bool
  is_refused (Refused n) = true
  is_refused (End n ws) = false
  is_refused NotYet = false
  is_refused (Done bytes) = false
  is_refused (Shown bytes stamp) = false

  -- an interrupt that ends has done it
  abbrev pub Finished : Answer → Heard → ℕ → ℕ → Type 0
  Finished a k L S = (r : ℕ) (ws : List ℕ) → a ≡ End r ws → loads.SentAll k J E L S

  pub interrupt_told : (s : Bk) (k : Heard) (L S : ℕ) → At E J L S s.0 → k ≡ unheard s.0
      → Told E J Finished k L (run {i = true} book_ops interrupt_code s)
  interrupt_told s k L S a is =
      let s₁ : Bk = book_ops.act no_wakes s in
      let a₁ : At E J L S s₁.0 = record {
        outs = a.outs;
        iso = a.iso;
        last = a.last;
        paced = a.paced;
        every = a.every;
        sof = a.sof;
      } in
      told-cond (eqb s.0.kept.globals.stage 2)
      (λ _. told-bind {P = λ (n : ℕ) (l : Heard) (M T : ℕ). Of E Over l M T} (told-bind {P = Holding Over {A = Unit}}
      (told-bind {P = Holding (Early Entered) {A = Unit}}
      (t_ask {q = Read FrameNo 0} {t = s₁} false refl (none refl) a₁ (λ frame t a.
      calm_run even (Early Entered) (early-on E Entered entered_on) (of-entered frame) t
      (next (Read FrameNo 0) frame k) L S a (
        refl,
        subst (λ (k : Heard). Early Entered (next (Read FrameNo 0) frame k).known.readings
            (next (Read FrameNo 0) frame k).flags
            (next (Read FrameNo 0) frame k).frames ((next (Read FrameNo 0) frame k).on_bus E) k.sof L S) (sym is)
            (record { frame = frame; engine = refl; status = refl; flags = refl; frames = refl }, sym a₁.sof),
      )))
      (λ _ t k L S a b. entered_told t k L S a b))
      (λ _ t k L S a b. t_end {t = t} a b))
      (λ n t k L S a b. t_end {t = t} a (λ r ws _. over_done k L S b)))
      (λ _. t_end {t = s} a (λ r ws h. absurd (true≢false (ap is_refused h))))
