-- A call leaves the pages of the endpoints that it does not name, over every list of calls
use Rattle.std.specs.Prelude.{Bool, true, false, cond, ◌≡◌, refl, ℕ, zero, suc, eqb}
use Rattle.std.proofs.Common.{ap, subst, sym, ◌∙◌}
use Rattle.regs.specs.declared.Access.{Access}
use Rattle.regs.specs.declared.Access.TheVariants.{Read}
use Rattle.regs.specs.declared.Reg.TheVariants.{FrameNo}
use Rattle.regs.specs.declared.Dir.{Dir}
use Rattle.regs.specs.declared.Dir.TheVariants.{Out, In}
use Rattle.script.specs.Tree as tree
use Rattle.script.specs.Tree.{ends, asks}
use Rattle.script.specs.Script.{run, no_wakes}
use Rattle.script.specs.Answers.{Answer, Refused}
use Rattle.script.specs.Calls.{Config, Op, interrupt, slotted, other, aside, calls, code, starting, start_row}
use Rattle.script.specs.Machine.{Buf, Call, start, begin, continue, question, Ans, handed, blank_a, Pending, idle}
use Rattle.script.specs.Machine.{busy, Machine, over, misfit, stay, lent_to, during_interrupt, halt, begun, continued}
use Rattle.script.specs.Machine.{started, fed}
use Rattle.proof_book.specs.Pages.{Pages}
use Rattle.proof_book.specs.Book.{Bk, act_b, fresh_pages, book_ops, book}
use Rattle.proof_book.specs.FrontPage.{book_step}
use Rattle.proof_book.specs.Others.{releasing, Names, none, op_names, on_names, slotted_names, other_names}
use Rattle.proof_book.specs.Others.{aside_names, under_way}
use Rattle.proof_book.specs.Others.{call_names, Away, SamePage}
use Rattle.proof_book.specs.BookTracksLaws.{end, ask}
use Rattle.proof_book.specs.AnswersLaws.{tells-same, releasing-same, addressed-same, sending-same, fed-out}
use Rattle.proof_book.specs.AnswersLaws.{fed-in}
use Rattle.proof_book.specs.OthersStayLaws.{SparesAt, Spared, spare, spared-any, of-slotted, of_other, of-aside}
use Rattle.proof_book.specs.OthersStayLaws.{of-starting}

-- what is left of the operation under way
abbrev pub WaySpared : Names → Pending Answer Pages → Type 0
WaySpared m idle = Unit {0}
WaySpared m (busy i a k) = (v : ℕ) (s : Bk) → Spared m s (k v s)

-- ---- one call; x: the driver's answer, of which the book is told

spared : (o : Op) (s : Bk) → Spared (on_names o) s (run book_ops (code o) s)
spared interrupt s = spared-any s (run book_ops (code interrupt) s)
spared (slotted o) s = spare (of-slotted o) s
spared (other o) s = spare (of_other o) s
spared (aside o) s = spare (of-aside o) s

module _ (x : Ans Answer) where
  abbrev halts : Bool → tree.Out Bk Answer → Ans Answer × Machine Answer Pages
  halts i o = halt calls book.driver (fed book x) i o

  -- the pages of all but those named, from t on
  abbrev AwayStays : Names → Pages → Ans Answer × Machine Answer Pages → Type 0
  AwayStays m t y = blank_a x ≡ blank_a y.0 → releasing x ≡ false → (d : Dir) (e : ℕ) → Away m d e
      → SamePage d e t y.1.st

  unchanged : (m : Names) (t : Pages) (y : Ans Answer × Machine Answer Pages) → y.1.st ≡ t → AwayStays m t y
  unchanged m t y h s r Out e a = ap (λ (t : Pages). t.outs e) h
  unchanged m t y h s r In e a = ap (λ (t : Pages). t.ins e) h

  halted-at : (m : Names) (i : Bool) (s : Bk) (q : Access) (t : Bk) (k : ℕ → Bk → tree.Out Bk Answer) → SparesAt m s q t
      → AwayStays m s.0 (halts i (asks q t k))
  halted-at m i s q t k w same r Out e a =
      fed-out x t.0 e (addressed-same e x (handed q) same ∙ w.receives e a)
      ∙ (w.pages (releasing-same (handed q) x (sym same) ∙ r)).outs e a
  halted-at m i s q t k w same r In e a =
      fed-in x t.0 e (sending-same e x (handed q) same ∙ w.transmits e a)
      ∙ (w.pages (releasing-same (handed q) x (sym same) ∙ r)).ins e a

  halted : (m : Names) (i : Bool) (s : Bk) (o : tree.Out Bk Answer) → Spared m s o → AwayStays m s.0 (halts i o)
  halted m i s (ends z t) (end j q) same r Out e a = q.outs e a
  halted m i s (ends z t) (end j q) same r In e a = q.ins e a
  halted m i s (asks q t k) (ask j w g) same r d e a = halted-at m i s q t k w same r d e a

  halted-way : (m : Names) (i : Bool) {s : Bk} (o : tree.Out Bk Answer) → Spared m s o
      → WaySpared m (halts i o).1.under_way_lem
  halted-way m i (ends z t) w = tt
  halted-way m i (asks q t k) (ask j w g) = λ v u. g v u tt

  pub record Goes (c : Call Config Op) (m : Names) (t : Pages) (y : Ans Answer × Machine Answer Pages) : Type 0 where
    pub under_way_lem : WaySpared (under_way c y.0 m) y.1.under_way_lem
    pub pages : AwayStays (call_names c m) t y

  either : (c : Call Config Op) (m : Names) (t : Pages) (u : Bool) (y z : Ans Answer × Machine Answer Pages)
      → Goes c m t y → Goes c m t z
      → Goes c m t (cond u y z)
  either c m t true y z p q = p
  either c m t false y z p q = q

  -- begun where nothing is under way
  begun_way : (o : Op) (m : Names) {s : Bk} (z : tree.Out Bk Answer) → Spared (on_names o) s z
      → let y = halts (calls.irq o) z in WaySpared (under_way (begin o) y.0 m) y.1.under_way_lem
  begun_way o m (ends a t) w = tt
  begun_way o m (asks q t k) (ask j w g) = λ v u. g v u tt

  -- an interrupt's first access, or row 4: no page changed
  abbrev entry : Bk → (ℕ → Bk → tree.Out Bk Answer) → Bool → tree.Out Bk Answer
  entry s k u = cond u (asks (Read FrameNo 0) (act_b no_wakes s) k) (ends (Refused 4) s)

  entry_leaves : (s : Bk) (k : ℕ → Bk → tree.Out Bk Answer) (u : Bool)
      → AwayStays none s.0 (halts true (entry s k u))
  entry_leaves s k true = halted-at none true s (Read FrameNo 0) (act_b no_wakes s) k
      (record {
        pages = λ _. record { outs = λ e a. refl; ins = λ e a. refl };
        receives = λ e a. refl;
        transmits
            = λ e a. refl;
      })
  entry_leaves s k false = unchanged none s.0 (halts true (ends (Refused 4) s)) refl

  begun_pages : (o : Op) (s : Bk) → AwayStays (op_names o) s.0 (halts (calls.irq o) (run book_ops (code o) s))
  begun_pages interrupt s = entry_leaves s _ (eqb s.0.kept.globals.stage 2)
  begun_pages (slotted o) s = halted (slotted_names o) false s (run book_ops (code (slotted o)) s)
      (spare (of-slotted o) s)
  begun_pages (other o) s = halted (other_names o) false s (run book_ops (code (other o)) s) (spare (of_other o) s)
  begun_pages (aside o) s = halted (aside_names o) false s (run book_ops (code (aside o)) s) (spare (of-aside o) s)

  -- begun while another one is under way: it ends at once, or row 3 stops it
  module _ (n : Machine Answer Pages) (b : Buf) where
    abbrev besides : tree.Out Bk Answer → Ans Answer × Machine Answer Pages
    besides z = during_interrupt calls book.driver (lent_to calls book.driver n b) z

    beside_leaves : (m : Names) (z : tree.Out Bk Answer) → Spared m (n.st, b) z → AwayStays m n.st (besides z)
    beside_leaves m (ends a t) (end j q) s r Out e f = q.outs e f
    beside_leaves m (ends a t) (end j q) s r In e f = q.ins e f
    beside_leaves m (asks q t k) w s r d e f = unchanged m n.st (besides (asks q t k)) refl s r d e f

    beside_entry : (k : ℕ → Bk → tree.Out Bk Answer) (u : Bool)
        → AwayStays none n.st (besides (entry (n.st, b) k u))
    beside_entry k true = unchanged none n.st (besides (entry (n.st, b) k true)) refl
    beside_entry k false = unchanged none n.st (besides (entry (n.st, b) k false)) refl

    beside_pages : (o : Op) → AwayStays (op_names o) n.st (besides (run book_ops (code o) (n.st, b)))
    beside_pages interrupt = beside_entry _ (eqb n.st.kept.globals.stage 2)
    beside_pages (slotted o) = beside_leaves (slotted_names o) (run book_ops (code (slotted o)) (n.st, b))
        (spare (of-slotted o) (n.st, b))
    beside_pages (other o) = beside_leaves (other_names o) (run book_ops (code (other o)) (n.st, b))
        (spare (of_other o) (n.st, b))
    beside_pages (aside o) = beside_leaves (aside_names o) (run book_ops (code (aside o)) (n.st, b))
        (spare (of-aside o) (n.st, b))

    beside_way : (o : Op) (m : Names) (z : tree.Out Bk Answer) → WaySpared m n.under_way_lem
        → WaySpared (under_way (begin o) (besides z).0 m) (besides z).1.under_way_lem
    beside_way o m (ends a t) h = h
    beside_way o m (asks q t k) h = h

  begun_goes : (o : Op) (m : Names) (n : Machine Answer Pages) (b : Buf) → WaySpared m n.under_way_lem
      → (w : Pending Answer Pages)
      → Goes (begin o) m n.st (begun calls book.driver (fed book x) o n w b)
  begun_goes o m n b h idle = record {
    under_way_lem = begun_way o m (run book_ops (code o) (n.st, b)) (spared o (n.st, b));
    pages = begun_pages o (n.st, b);
  }
  begun_goes o m n b h (busy i q k) = either (begin o) m n.st (cond i (calls.aside o) false) _ _
      (record { under_way_lem = beside_way n b o m (run book_ops (code o) (n.st, b)) h; pages = beside_pages n b o })
      (record {
        under_way_lem = h;
        pages = unchanged (op_names o) n.st
            (stay calls book.driver 3 (lent_to calls book.driver n b)) refl;
      })

  continued_goes : (v : ℕ) (m : Names) (n : Machine Answer Pages) (b : Buf) → WaySpared m n.under_way_lem
      → (w : Pending Answer Pages) → WaySpared m w
      → Goes (continue v) m n.st (continued calls book.driver (fed book x) v n w b)
  continued_goes v m n b h idle g = record {
    under_way_lem = h;
    pages
        = unchanged m n.st (stay calls book.driver 15 (lent_to calls book.driver n b)) refl;
  }
  continued_goes v m n b h (busy i q k) g = either (continue v) m n.st (over calls q v)
      (stay calls book.driver 16 (lent_to calls
      book.driver n b)) (halts i (k v (n.st, b)))
      (record {
        under_way_lem = h;
        pages = unchanged m n.st
            (stay calls book.driver 16 (lent_to calls book.driver n b)) refl;
      })
      (record {
        under_way_lem = halted-way m i (k v (n.st, b)) (g v (n.st, b));
        pages
            = halted m i (n.st, b) (k v (n.st, b)) (g v (n.st, b));
      })

  -- a start-up's own accesses change no page
  started_goes : (g : Config) (r : ℕ) (m : Names) (n : Machine Answer Pages) (b : Buf) → WaySpared m n.under_way_lem
      → let y = started calls book.driver (fed book x) g r n b in WaySpared (under_way (start g) y.0 m)
      y.1.under_way_lem
  started_goes g zero m n b h =
      let z = run book_ops (starting g) (fresh_pages g, b) in
      let f = under_way (start g) (halts false z).0 m in
      halted-way f false z (spare (of-starting f g) (fresh_pages g, b))
  started_goes g (suc r) m n b h = h

  pub call_goes : (c : Call Config Op) (m : Names) (n : Machine Answer Pages) (b : Buf) → WaySpared m n.under_way_lem
      → Goes c m n.st (book_step x c n b)
  call_goes (start g) m n b h = record {
    under_way_lem = started_goes g (start_row g b) m n b h;
    pages
        = λ s r d e a. absurd a;
  }
  call_goes (begin o) m n b h = either (begin o) m n.st
      (cond (calls.slots o) (misfit calls book.driver n.st b) false) (stay calls book.driver 1 n)
      (begun calls book.driver (fed book x) o n n.under_way_lem b)
      (record { under_way_lem = h; pages = unchanged (op_names o) n.st (stay calls book.driver 1 n) refl })
      (begun_goes o m n b h n.under_way_lem)
  call_goes (continue v) m n b h = either (continue v) m n.st (misfit calls book.driver n.st b)
      (stay calls book.driver 1 n)
      (continued calls book.driver (fed book x) v n n.under_way_lem b)
      (record { under_way_lem = h; pages = unchanged m n.st (stay calls book.driver 1 n) refl })
      (continued_goes v m n b h n.under_way_lem h)
  call_goes (question q) m n b h = record {
    under_way_lem = h;
    pages
        = unchanged none n.st (book_step x (question q) n b) refl;
  }

-- after an accepted start-up
pub start-spared : (x : Ans Answer) (g : Config) (m : Names) (n : Machine Answer Pages) (b : Buf) → start_row g b ≡ zero
    → WaySpared m (book_step x (start g) n b).1.under_way_lem
start-spared x g m n b row = subst (λ (r : ℕ). WaySpared m
    (started calls book.driver (fed book x) g r n b).1.under_way_lem) (sym row)
    (halted-way x m false (run book_ops (starting g) (fresh_pages g, b)) (spare (of-starting m g) (fresh_pages g, b)))

-- an answer but for its address tells the same
pub under_same : (c : Call Config Op) (a b : Ans Answer) (m : Names) → blank_a a ≡ blank_a b → under_way c b m
    ≡ under_way c a m
under_same c a b m h = by c
  where
    by : (c : Call Config Op) → under_way c b m ≡ under_way c a m
    by (start g) = tells-same (λ z. under_way (start g) z m) (λ _ _. refl, λ _ _. refl, λ _. refl) b a (sym h)
    by (begin o) = tells-same (λ z. under_way (begin o) z m) (λ _ _. refl, λ _ _. refl, λ _. refl) b a (sym h)
    by (continue v) = refl
    by (question q) = refl
