-- One call with the record of bus time: driver and book agree after it, row 19 included
use Rattle.std.specs.Prelude.{Bool, true, false, cond, ◌&&◌, List, ◌≡◌, refl, ℕ, zero, suc, set}
use Rattle.std.proofs.Common.{true≢false, ap₂, sym, ◌∙◌}
use Rattle.std.proofs.Math.Path.{ap, subst}
use Rattle.regs.specs.declared.Access.{Access}
use Rattle.regs.specs.declared.Dir.{Dir}
use Rattle.state.specs.Driver.{Driver}
use Rattle.script.specs.Tree as tree
use Rattle.script.specs.Tree.{ends, asks}
use Rattle.script.specs.Script.{run}
use Rattle.script.specs.Simulates.{Phase}
use Rattle.script.specs.Cells.{EpCore}
use Rattle.script.specs.Answers.{Answer, Refused}
use Rattle.script.specs.Calls.{Config, Op, calls, start_row}
use Rattle.script.specs.Machine.{Buf, Call, start, begin, continue, question, Pending, idle, busy, Machine, Ans, ended}
use Rattle.script.specs.Machine.{handed}
use Rattle.script.specs.Machine.{told, fed, halt, begun, continued, started, call, misfit, stay, lent_to, over, blank_a}
use Rattle.script.specs.Agree.{After, Ways, LentAlike, unless, agrees}
use Rattle.machine.specs.Suspended.{driver_of, drive}
use Rattle.answer.specs.Goes.{StepResult}
use Rattle.bus_time.specs.Time.{charge_of, entry_of, passes}
use Rattle.calls.specs.Sharing.{Sort, enabling, starting, going, apart, op_sort, sort_of, is_handed, charge_on}
use Rattle.calls.specs.Sharing.{turned_down, time_after, settled, shared_call}
use Rattle.proof_book.specs.Pages.{Pages}
use Rattle.proof_book.specs.Book.{book}
use Rattle.proof_book.specs.Coupling.{Coupling, Chip}
use Rattle.proof_book.proofs.StartUpLaws.{fresh_kept}
use Rattle.proof_book.proofs.AgreesLaws.{agree}
use Rattle.proof_book.specs.FrontPage.{book_step, BufferPreserved}
use Rattle.proof_book.proofs.SlotsKeptLaws.{lent_is}
use Rattle.proof_contracts.specs.SharedBook.{charge_in, would_pass, shared_step, time_in}

-- driver and book agree after a call (proof_book/specs/Coupling.antt), and the record is what the book works out
pub record Agreed (i : ℕ) (c : Call Config Op) (x : StepResult) (before after : List ℕ) (b : Buf)
    (n : Machine Answer Pages) : Type 0 where
  pub both : After driver_of book agree calls x (shared_step i x.0 c n before b)
  pub time : after ≡ time_in i (sort_of c) x.0 n.st before

-- ---- what a book answers does not depend on what it is told

module _ (f g : Pages → Pages) where
  halt_same : (i : Bool) (o : tree.Out (Pages × Buf) Answer)
      → (halt calls book.driver f i o).0 ≡ (halt calls book.driver g i o).0
  halt_same i (ends a s) = refl
  halt_same i (asks q s k) = refl

  cond_same : (u : Bool) (z x y : Ans Answer × Machine Answer Pages) → x.0 ≡ y.0 → (cond u z x).0 ≡ (cond u z y).0
  cond_same true z x y h = refl
  cond_same false z x y h = h

  begun_same : (o : Op) (n : Machine Answer Pages) (w : Pending Answer Pages) (b : Buf)
      → (begun calls book.driver f o n w b).0 ≡ (begun calls book.driver g o n w b).0
  begun_same o n idle b = halt_same (calls.irq o) (run book.driver.ops (calls.code o) (n.st, b))
  begun_same o n (busy i q k) b = refl

  continued_same : (v : ℕ) (n : Machine Answer Pages) (w : Pending Answer Pages) (b : Buf)
      → (continued calls book.driver f v n w b).0 ≡ (continued calls book.driver g v n w b).0
  continued_same v n idle b = refl
  continued_same v n (busy i q k) b =
      let o = k v (n.st, b) in
      cond_same (over calls q v) (stay calls book.driver 16 (lent_to calls book.driver n b))
      (halt calls book.driver f i o) (halt calls book.driver g i o) (halt_same i o)

  started_same : (c : Config) (r : ℕ) (n : Machine Answer Pages) (b : Buf)
      → (started calls book.driver f c r n b).0 ≡ (started calls book.driver g c r n b).0
  started_same c zero n b = halt_same false (run book.driver.ops (calls.starts c) (book.driver.fresh c, b))
  started_same c (suc r) n b = refl

  answer-same : (c : Call Config Op) (n : Machine Answer Pages) (b : Buf)
      → (call calls book.driver f c n b).0 ≡ (call calls book.driver g c n b).0
  answer-same (start c) n b = started_same c (start_row c b) n b
  answer-same (begin o) n b =
      cond_same (cond (calls.slots o) (misfit calls book.driver n.st b) false) (stay calls book.driver 1 n)
      (begun calls book.driver f o n n.under_way_lem b) (begun calls book.driver g o n n.under_way_lem b)
      (begun_same o n n.under_way_lem b)
  answer-same (continue v) n b =
      cond_same (misfit calls book.driver n.st b) (stay calls book.driver 1 n)
      (continued calls book.driver f v n n.under_way_lem b) (continued calls book.driver g v n n.under_way_lem b)
      (continued_same v n n.under_way_lem b)
  answer-same (question q) n b = refl

-- answers that are the same but for addresses: both hand out an access, or neither does
handed-same : (x y : Ans Answer) → blank_a x ≡ blank_a y → is_handed x ≡ is_handed y
handed-same x y h = unblank x ∙ ap is_handed h ∙ sym (unblank y)
  where
    unblank : (x : Ans Answer) → is_handed x ≡ is_handed (blank_a x)
    unblank (ended a) = refl
    unblank (handed q) = refl
    unblank (told n) = refl

-- ---- the driver's charges and the book's

module _ {φ : Phase} {b : Buf} {d : Driver} {t : Pages} (r : Coupling φ b d t) where
  charge-same : (dir : Dir) (e : ℕ) → charge_on d dir e ≡ charge_in t dir e
  unfolding charge_on
  charge-same dir e = ap (λ (p : EpCore). charge_of p.kind p.max_len) (r.same.plain dir e)

  pass_same : (i : ℕ) (x : Sort) (a a' : Ans Answer) (time : List ℕ) → is_handed a ≡ is_handed a'
      → turned_down i x a d time ≡ would_pass i x a' t time
  pass_same i (enabling dir e) a a' time h =
      ap₂ (λ (u : Bool) (n : ℕ). u && passes time (entry_of i dir e) n) h (charge-same dir e)
  pass_same i starting a a' time h = refl
  pass_same i going a a' time h = refl
  pass_same i apart a a' time h = refl

  time-handed : (i : ℕ) (x : Sort) (q : Access) (time : List ℕ)
      → time_after i x (handed q) d time ≡ time_in i x (handed q) t time
  time-handed i (enabling dir e) q time = ap (set time (entry_of i dir e)) (charge-same dir e)
  time-handed i starting q time = refl
  time-handed i going q time = refl
  time-handed i apart q time = refl

  time-same : (i : ℕ) (x : Sort) (a : Ans Answer) (time : List ℕ) → time_after i x a d time ≡ time_in i x a t time
  time-same i x (ended a) time = refl
  time-same i x (handed q) time = time-handed i x q time
  time-same i x (told n) time = refl

-- ---- what row 19 stops was not stopped by row 1, so it was lent the run's buffer

not-down : (i : ℕ) (x : Sort) (a : Answer) (d : Driver) (time : List ℕ) → turned_down i x (ended a) d time ≡ false
not-down i (enabling dir e) a d time = refl
not-down i starting a d time = refl
not-down i going a d time = refl
not-down i apart a d time = refl

down_fits : (i : ℕ) (x : Sort) (d : Driver) (m : Machine Answer Driver) (y : StepResult) (time : List ℕ) (u : Bool)
    {X : Type 0}
    → turned_down i x (cond u (stay calls driver_of 1 m) y).0 d time ≡ true → unless driver_of book agree calls u X → X
down_fits i x d m y time true h l = absurd (true≢false (sym h ∙ not-down i x (Refused 1) d time))
down_fits i x d m y time false h l = l

pub down-chip : (i : ℕ) (c : Call Config Op) (m : Machine Answer Driver) (n : Machine Answer Pages) (time : List ℕ)
    (b : Buf)
    → turned_down i (sort_of c) (drive c m b).0 m.st time ≡ true → LentAlike driver_of book agree calls c m n b
    → Chip n.st m.buf b
down-chip i (start c) m n time b h l = absurd (true≢false (sym h))
down-chip i (begin o) m n time b h l =
    down_fits i (op_sort o) m.st m (begun calls driver_of (λ s. s) o m m.under_way_lem b) time
    (cond (calls.slots o) (misfit calls driver_of m.st b) false) h l
down-chip i (continue v) m n time b h l = absurd (true≢false (sym h))
down-chip i (question q) m n time b h l = absurd (true≢false (sym h))

-- ---- one call

module _ (i : ℕ) (c : Call Config Op) (b : Buf) (time : List ℕ) {φ : Phase} (m : Machine Answer Driver)
    (n : Machine Answer Pages)
    (w : Ways driver_of book agree calls φ m.under_way_lem n.under_way_lem) (r : Coupling φ m.buf m.st n.st)
    (l : BufferPreserved c n m.buf b) where
  -- the driver's own call, without the record
  own : After driver_of book agree calls (drive c m b) (book_step (drive c m b).0 c n b)
  own = agrees driver_of book agree calls fresh_kept c b m n w r (lent_is m n r b c l)

  abbrev pub is_down : Bool
  is_down = turned_down i (sort_of c) (drive c m b).0 m.st time

  abbrev outcome : Bool → StepResult × List ℕ
  outcome u = cond u ((ended (Refused 19), lent_to calls driver_of m b), time)
      (drive c m b, time_after i (sort_of c) (drive c m b).0 m.st time)

  abbrev noted : Bool → Ans Answer → Ans Answer × Machine Answer Pages
  noted u z = cond u (ended (Refused 19), lent_to calls book.driver n b) (book_step z c n b)

  -- the book stops just what the driver does, whatever it is told
  pub down-same : (z : Ans Answer) → is_down ≡ would_pass i (sort_of c) (book_step z c n b).0 n.st time
  down-same z =
      pass_same r i (sort_of c) (drive c m b).0 (book_step z c n b).0 time
      (handed-same (drive c m b).0 (book_step (drive c m b).0 c n b).0 own.same
      ∙ ap is_handed (answer-same (fed book (drive c m b).0) (fed book z) c n b))

  by-outcome : (u : Bool) → is_down ≡ u → After driver_of book agree calls (outcome u).0 (noted u (outcome u).0.0)
  by-outcome true h = record {
    same = refl;
    phase = φ;
    ways = w;
    rest = agree.chip m.buf b φ m.st n.st r (down-chip i c m n time b h (lent_is m n r b c l));
    good = tt;
  }
  by-outcome false h = own

  by-time : (u : Bool) → (outcome u).1 ≡ time_in i (sort_of c) (outcome u).0.0 n.st time
  by-time true = refl
  by-time false = time-same r i (sort_of c) (drive c m b).0 time

  pub shared-agrees : Agreed i c (shared_call i c m time b).0 time (shared_call i c m time b).1 b n
  unfolding settled
  shared-agrees = record {
    both = subst (λ (u : Bool). After driver_of book agree calls (outcome is_down).0 (noted u (outcome is_down).0.0))
        (down-same (outcome is_down).0.0) (by-outcome is_down refl);
    time = by-time is_down;
  }
