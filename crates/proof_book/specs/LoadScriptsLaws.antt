-- Which IN endpoints are loaded, by the interrupt's readings: of each part of its script, up to a call's next access or
-- end. One endpoint E; the book's state only by the kept values on which its loads rest (`At`)
use Rattle.std.specs.Prelude.{Bool, true, false, not, cond, ◌&&◌, ◌||◌, List, ◌≢◌, ◌≡◌, refl, ℕ, ◌-◌, ◌%◌, eqb}
use Rattle.std.proofs.Math.Path.{ap}
use Rattle.std.proofs.Common.{sym, ◌∙◌}
use Rattle.std.specs.Int.Bits.{bit_and}
use Rattle.bits.specs.Bit.{bit_is_set}
use Rattle.regs.specs.declared.Access.{Access}
use Rattle.regs.specs.declared.Access.TheVariants.{Read}
use Rattle.regs.specs.declared.Reg.{Reg}
use Rattle.regs.specs.declared.Reg.TheVariants.{IntFg, IntSt, FrameNo, EpTLen}
use Rattle.regs.specs.declared.Dir.{Dir}
use Rattle.regs.specs.declared.Dir.TheVariants.{Out, In}
use Rattle.regs.specs.Enables.{in_enabled}
use Rattle.state.specs.declared.Globals.{Globals}
use Rattle.script.specs.Tree as tree
use Rattle.script.specs.Tree.{ends, asks, bind_out}
use Rattle.script.specs.Cells.{EpCore, Cell, Val, globals-cell, ep-cell}
use Rattle.script.specs.Script.{Script, ret, done, bind, test, read_then, write_then, callback_then, get_then}
use Rattle.script.specs.Script.{put_then, is_then, look_then, act_then, hand_then, Test, Look, run}
use Rattle.script.specs.Script.{no_wakes, waken, arrive}
use Rattle.script.specs.Every.{same_reg}
use Rattle.script.specs.Statics.{is_on, every_iso_in, with_last_frame}
use Rattle.script.specs.IsoIn.{leaving}
use Rattle.proof_book.specs.Pages.{Kept, Pages, with_out}
use Rattle.proof_book.specs.Book.{Bk, put_b, iso_of, receiving, arrived, packet_b, hand_b, merged_plain, book_ops}
use Rattle.proof_book.specs.FrameLaws.{at-elim}
use Rattle.proof_book.specs.Others.{sends_to}
use Rattle.proof_book.specs.Lengths.{Readings, one_more, bringing}
use Rattle.proof_book.specs.Arrivals.{again}
use Rattle.proof_book.specs.Loads.{Heard, hears, handing, Values, last_in, loads_by, Loads, none}

-- a state whose kept values are these, where IN E was complete last in microframe L and the SOF served last is S
pub record At (E : ℕ) (J : Values) (L S : ℕ) (t : Pages) : Type 0 where
  pub outs : (e : ℕ) → iso_of t Out e ≡ J.outs e
  pub iso : (x : ℕ) → x % 16 ≡ E % 16 → iso_of t In x ≡ J.iso
  pub last : (x : ℕ) → x % 16 ≡ E % 16 → last_in t x ≡ L
  pub paced : bit_is_set t.kept.globals.iso_in_paced E ≡ J.paced
  pub every : bit_is_set (every_iso_in t.kept.globals) E ≡ J.every
  pub sof : t.kept.globals.sof_frame ≡ S

pub at-kept : {E : ℕ} {J : Values} {L S : ℕ} {t u : Pages} → u.kept ≡ t.kept → At E J L S t → At E J L S u
at-kept {E = E} h a = record {
  outs = λ e. ap (λ (k : Kept). is_on (k.plain Out e).iso) h ∙ a.outs e;
  iso = λ x p. ap (λ (k : Kept). is_on (k.plain In x).iso) h ∙ a.iso x p;
  last = λ x p. ap (λ (k : Kept). (k.plain In x).last_frame) h ∙ a.last x p;
  paced = ap (λ (k : Kept). bit_is_set k.globals.iso_in_paced E) h ∙ a.paced;
  every = ap (λ (k : Kept). bit_is_set (every_iso_in k.globals) E) h ∙ a.every;
  sof = ap (λ (k : Kept). k.globals.sof_frame) h ∙ a.sof;
}

-- after an access q, with v brought
abbrev pub next : Access → ℕ → Heard → Heard
next q v k = hears v (handing q k)

module _ (E : ℕ) (J : Values) where
  pub data Told {A : Type 0} (P : A → Heard → ℕ → ℕ → Type 0) : Heard → ℕ → tree.Out Bk A → Type 0 where
    t_end : {k : Heard} {L S : ℕ} {a : A} {t : Bk} → At E J L S t.0 → P a k L S → Told P k L (ends a t)
    t_ask : {k : Heard} {L M S : ℕ} {q : Access} {t : Bk} {f : ℕ → Bk → tree.Out Bk A} (b : Bool)
        → loads_by k.known.asked q E ≡ b → Loads k J E L M b → At E J M S t.0
        → ((v : ℕ) (u : Bk) → At E J M S u.0 → Told P (next q v k) M (f v u)) → Told P k L (asks q t f)

-- what is said of the readings, of whether IN E was seen on the bus, of the SOF before, and of L and S
abbrev pub Facts : Type 1
Facts = Readings → List ℕ → List ℕ → Bool → ℕ → ℕ → ℕ → Type 0

-- with no transmit address of IN E handed out last
abbrev pub Of : ℕ → Facts → Heard → ℕ → ℕ → Type 0
Of E G k L S = (sends_to k.known.asked E ≡ false)
    × G k.known.readings k.flags k.frames (k.on_bus E) k.sof L S

-- readings of these registers leave it so
abbrev pub Stable : ℕ → (Reg → Bool) → Facts → Type 0
Stable E reads G = (r : Reg) (e v : ℕ) (h : Readings) (fs gs : List ℕ) (b : Bool) (c L S : ℕ) → reads r ≡ true
    → G h fs gs b c L S
    → G (bringing (Read r e) v h) (one_more (same_reg r IntFg) v fs) (one_more (same_reg r FrameNo) v gs)
    ((same_reg r IntSt && (again gs && leaving v E)) || b) c L S

-- a part's script, by the registers that it reads: it hands out no load and leaves the kept values
pub data Calm (reads : Reg → Bool) : (A : Type 0) → Script true A → Type 1 where
  c_ret : {A : Type 0} {a : A} → Calm reads A (ret a)
  c_globals : {f : Globals → Globals} → ((g : Globals) → (f g).iso_in_paced ≡ g.iso_in_paced)
      → ((g : Globals) → (f g).sof_frame ≡ g.sof_frame)
      → Calm reads Unit (bind (get_then globals-cell ret) (λ g. put_then globals-cell (f g) done))
  c_globals_then : {A : Type 0} {f : Globals → Globals} {k : Globals → Script true A}
      → ((g : Globals) → (f g).iso_in_paced ≡ g.iso_in_paced) → ((g : Globals) → (f g).sof_frame ≡ g.sof_frame)
      → ((g : Globals) → Calm reads A (k g))
      → Calm reads A (bind (get_then globals-cell ret) (λ g. bind (put_then globals-cell (f g) done) (λ _. k g)))
  c_ep : {d : Dir} {e : ℕ} {f : EpCore → EpCore} → ((p : EpCore) → (f p).last_frame ≡ p.last_frame)
      → Calm reads Unit (bind (get_then (ep-cell d e) ret) (λ p. put_then (ep-cell d e) (f p) done))
  c_bind : {A B : Type 0} {p : Script true B} {f : B → Script true A} → Calm reads B p → ((b : B) → Calm reads A (f b))
      → Calm reads A (bind p f)
  c_test : {A : Type 0} {b : Bool} {p q : Script true A} → Calm reads A p → Calm reads A q → Calm reads A (test b p q)
  c_read : {A : Type 0} {r : Reg} {e : ℕ} {k : ℕ → Script true A} → reads r ≡ true → ((v : ℕ) → Calm reads A (k v))
      → Calm reads A (read_then r e k)
  c_write : {A : Type 0} {r : Reg} {e v : ℕ} {p : Script true A} → same_reg r EpTLen ≡ false → Calm reads A p
      → Calm reads A (write_then r e v p)
  c_callback : {A : Type 0} {p : Script true A} → Calm reads A p → Calm reads A (callback_then p)
  c_get : {A : Type 0} {c : Cell} {k : Val c → Script true A} → ((v : Val c) → Calm reads A (k v))
      → Calm reads A (get_then c k)
  c_is : {A : Type 0} {q : Test} {k : Bool → Script true A} → ((b : Bool) → Calm reads A (k b))
      → Calm reads A (is_then q k)
  c_look : {A : Type 0} {q : Look} {k : ℕ → Script true A} → ((n : ℕ) → Calm reads A (k n))
      → Calm reads A (look_then q k)
  c_no_wakes : {A : Type 0} {p : Script true A} → Calm reads A p → Calm reads A (act_then no_wakes p)
  c_waken : {A : Type 0} {codes : List ℕ} {p : Script true A} → Calm reads A p → Calm reads A (act_then (waken codes) p)
  c_arrive : {A : Type 0} {e n : ℕ} {p : Script true A} → Calm reads A p → Calm reads A (hand_then (arrive e n) p)

module _ {E : ℕ} {J : Values} where
  pub told-bind : {A B : Type 0} {P : A → Heard → ℕ → ℕ → Type 0} {Q : B → Heard → ℕ → ℕ → Type 0} {k : Heard} {L : ℕ}
      {o : tree.Out Bk A} {f : A → Bk → tree.Out Bk B} → Told E J P k L o
      → ((a : A) (t : Bk) (l : Heard) (M S : ℕ) → At E J M S t.0 → P a l M S → Told E J Q l M (f a t))
      → Told E J Q k L (bind_out o f)
  told-bind (t_end a p) h = h _ _ _ _ _ a p
  told-bind (t_ask b m l a g) h = t_ask b m l a (λ v u x. told-bind (g v u x) h)

  pub told-weaker : {A : Type 0} {P Q : A → Heard → ℕ → ℕ → Type 0} {k : Heard} {L : ℕ} {o : tree.Out Bk A}
      → ((a : A) (l : Heard) (M S : ℕ) → P a l M S → Q a l M S) → Told E J P k L o → Told E J Q k L o
  told-weaker w (t_end a p) = t_end a (w _ _ _ _ p)
  told-weaker w (t_ask b m l a g) = t_ask b m l a (λ v u x. told-weaker w (g v u x))

  pub told-cond : {A : Type 0} {P : A → Heard → ℕ → ℕ → Type 0} {k : Heard} {L : ℕ} (b : Bool) {o u : tree.Out Bk A}
      → (b ≡ true → Told E J P k L o) → (b ≡ false → Told E J P k L u) → Told E J P k L (cond b o u)
  told-cond true x y = x refl
  told-cond false x y = y refl

  -- ---- the kept values after an assignment

  pub sof-at : (f : Globals → Globals) (S' : ℕ) → ((g : Globals) → (f g).iso_in_paced ≡ g.iso_in_paced)
      → {L S : ℕ} (s : Bk)
      → (f s.0.kept.globals).sof_frame ≡ S' → At E J L S s.0
      → At E J L S' (put_b globals-cell (f s.0.kept.globals) s).0
  unfolding every_iso_in
  sof-at f S' p s h a = record {
    outs = a.outs;
    iso = a.iso;
    last = a.last;
    paced = ap (λ (w : ℕ). bit_is_set w E) (p s.0.kept.globals) ∙ a.paced;
    every = ap (λ (w : ℕ). bit_is_set (in_enabled s.0.kept.globals.ep_config
        (bit_and s.0.kept.globals.iso_in_every (65535 - w))) E) (p s.0.kept.globals) ∙ a.every;
    sof = h;
  }

  module _ (even : (e f : ℕ) → e % 16 ≡ f % 16 → J.outs e ≡ J.outs f) where
    ep-at : (d : Dir) (e : ℕ) (f : EpCore → EpCore) → ((p : EpCore) → (f p).last_frame ≡ p.last_frame) → {L S : ℕ}
        (s : Bk) → At E J L S s.0 → At E J L S (put_b (ep-cell d e) (f (s.0.kept.plain d e)) s).0
    ep-at Out e f h s a = record {
      outs = λ x. at-elim (λ (p : EpCore). is_on p.iso ≡ J.outs x) e x
          (merged_plain (s.0.kept.plain Out e) (f (s.0.kept.plain Out e))) (s.0.kept.plain Out)
          (λ q. a.outs e ∙ even e x (sym q)) (λ _. a.outs x);
      iso = a.iso;
      last = a.last;
      paced = a.paced;
      every = a.every;
      sof = a.sof;
    }
    ep-at In e f h {L = L} s a = record {
      outs = a.outs;
      iso = λ x c. at-elim (λ (p : EpCore). is_on p.iso ≡ J.iso) e x
          (merged_plain (s.0.kept.plain In e) (f (s.0.kept.plain In e))) (s.0.kept.plain In)
          (λ q. a.iso e (sym q ∙ c)) (λ _. a.iso x c);
      last = λ x c. at-elim (λ (p : EpCore). p.last_frame ≡ L) e x
          (merged_plain (s.0.kept.plain In e) (f (s.0.kept.plain In e))) (s.0.kept.plain In)
          (λ q. h (s.0.kept.plain In e) ∙ a.last e (sym q ∙ c)) (λ _. a.last x c);
      paced = a.paced;
      every = a.every;
      sof = a.sof;
    }

    -- IN E's last microframe is recorded
    pub last-at : (e v : ℕ) → e % 16 ≡ E % 16 → {L S : ℕ} (s : Bk) → At E J L S s.0
        → At E J v S (put_b (ep-cell In e) (with_last_frame v (s.0.kept.plain In e)) s).0
    last-at e v own s a = record {
      outs = a.outs;
      iso = λ x c. at-elim (λ (p : EpCore). is_on p.iso ≡ J.iso) e x
          (merged_plain (s.0.kept.plain In e) (with_last_frame v (s.0.kept.plain In e))) (s.0.kept.plain In)
          (λ q. a.iso e own) (λ _. a.iso x c);
      last = λ x c. at-elim (λ (p : EpCore). p.last_frame ≡ v) e x
          (merged_plain (s.0.kept.plain In e) (with_last_frame v (s.0.kept.plain In e))) (s.0.kept.plain In)
          (λ q. refl) (λ n. absurd (n (c ∙ sym own)));
      paced = a.paced;
      every = a.every;
      sof = a.sof;
    }

    -- another's
    pub other_at : (e v : ℕ) → e % 16 ≢ E % 16 → {L S : ℕ} (s : Bk) → At E J L S s.0
        → At E J L S (put_b (ep-cell In e) (with_last_frame v (s.0.kept.plain In e)) s).0
    other_at e v n {L = L} s a = record {
      outs = a.outs;
      iso = λ x c. at-elim (λ (p : EpCore). is_on p.iso ≡ J.iso) e x
          (merged_plain (s.0.kept.plain In e) (with_last_frame v (s.0.kept.plain In e))) (s.0.kept.plain In)
          (λ q. absurd {0} (n (sym q ∙ c))) (λ _. a.iso x c);
      last = λ x c. at-elim (λ (p : EpCore). p.last_frame ≡ L) e x
          (merged_plain (s.0.kept.plain In e) (with_last_frame v (s.0.kept.plain In e))) (s.0.kept.plain In)
          (λ q. absurd {0} (n (sym q ∙ c))) (λ _. a.last x c);
      paced = a.paced;
      every = a.every;
      sof = a.sof;
    }

    arrive-at : (f n : ℕ) {L S : ℕ} (s : Bk) → At E J L S s.0 → At E J L S (hand_b (arrive f n) s).1.0
    arrive-at f n {L = L} {S = S} s a = by (receiving s.0 f)
      where
        by : (u : Bool) → At E J L S (cond u (with_out s.0 f (arrived (s.0.outs f) (packet_b f n s))) s.0)
        by true = at-kept refl a
        by false = a

    -- ---- a calm part

    module _ (G : Facts) {reads : Reg → Bool} (on : Stable E reads G) where
      pub calm_run : {A : Type 0} {p : Script true A} → Calm reads A p → (s : Bk) (k : Heard) (L S : ℕ)
          → At E J L S s.0 → Of E G k L S → Told E J (λ _ l M T. Of E G l M T) k L (run book_ops p s)
      calm_run c_ret s k L S a g = t_end a g
      calm_run (c_globals {f = f} p q) s k L S a g = t_end (sof-at f S p s (q _ ∙ a.sof) a) g
      calm_run (c_globals_then {f = f} p q x) s k L S a g =
          calm_run (x s.0.kept.globals) _ k L S (sof-at f S p s (q _ ∙ a.sof) a) g
      calm_run (c_ep {d = d} {e = e} {f = f} h) s k L S a g = t_end (ep-at d e f h s a) g
      calm_run (c_bind x y) s k L S a g =
          told-bind (calm_run x s k L S a g) (λ b t l M T a h. calm_run (y b) t l M T a h)
      calm_run (c_test {b = true} x y) s k L S a g = calm_run x s k L S a g
      calm_run (c_test {b = false} x y) s k L S a g = calm_run y s k L S a g
      calm_run (c_read {r = r} {e = e} h x) s k L S a g = t_ask false refl (none refl) a
          (λ v u a. calm_run (x v) u _ L S a (refl, on r e v _ _ _ _ _ L S h g.1))
      calm_run (c_write {r = r} {e = e} {v = w} h x) s k L S a g = t_ask false
          (ap (λ (u : Bool). u && (eqb w 0 && (eqb (E % 16) (e % 16) && not (sends_to k.known.asked E)))) h)
          (none refl) a
          (λ v u a. calm_run x u _ L S a (refl, g.1))
      calm_run (c_callback x) s k L S a g =
          t_ask false refl (none refl) a (λ v u a. calm_run x u _ L S a (refl, g.1))
      calm_run (c_get x) s k L S a g = calm_run (x _) s k L S a g
      calm_run (c_is x) s k L S a g = calm_run (x _) s k L S a g
      calm_run (c_look x) s k L S a g = calm_run (x _) s k L S a g
      calm_run (c_no_wakes x) s k L S a g = calm_run x _ k L S (at-kept₂ a) g
        where
          at-kept₂ : At E J L S s.0 → At E J L S (book_ops.act no_wakes s).0
          at-kept₂ a = record {
            outs = a.outs;
            iso = a.iso;
            last = a.last;
            paced = a.paced;
            every = a.every;
            sof = a.sof;
          }
      calm_run (c_waken {codes = c} x) s k L S a g = calm_run x _ k L S
          (record { outs = a.outs; iso = a.iso; last = a.last; paced = a.paced; every = a.every; sof = a.sof }) g
      calm_run (c_arrive {e = e} {n = n} x) s k L S a g =
          t_ask false refl (none refl) (arrive-at e n s a) (λ v u a. calm_run x u _ L S a (refl, g.1))
