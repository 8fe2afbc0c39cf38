-- Open, close and queue by the book: what it answers them, and its pages after
use Rattle.std.specs.Prelude.{Bool, true, false, not, cond, ◌&&◌, ◌≡◌, refl, ℕ, ◌+◌, ◌*◌, ◌≤◌, eqb, ltb, length}
use Rattle.std.proofs.Common.{true≢false, ap, subst, sym, ◌∙◌, arith, ltb-true, ltb-false}
use mathlib.Core.List.{List, [], ◌∷◌, ◌++◌, tail}
use Rattle.regs.specs.declared.Dir.TheVariants.{Out, In}
use Rattle.regs.specs.Enables as enables
use Rattle.ring.specs.Copies.{copied}
use Rattle.script.specs.Tree as tree
use Rattle.script.specs.Tree.{ends, asks}
use Rattle.script.specs.Script.{run}
use Rattle.script.specs.Statics.{is_on}
use Rattle.script.specs.Answers.{Answer, Refused, NotYet, Shown, ok, is_allocated}
use Rattle.script.specs.Driver.{open_packet, close_packet, queue_packet}
use Rattle.script.specs.Calls.{aside, Aside, Open, Close, Queue, aside_code, calls}
use Rattle.script.specs.Machine.{Buf, begin, Ans, ended, handed, told, Pending, idle, busy, Machine, misfit, stay}
use Rattle.script.specs.Machine.{lent_to, during_interrupt, halt, begun, fed}
use Rattle.proof_book.specs.Pages.{Packet, bytes_of, OutPage, InPage, Pages, with_out, with_in}
use Rattle.proof_book.specs.Book.{Bk, some, first, first_stamp, front, iso_of, room_b, waits_on, open_out, read_out}
use Rattle.proof_book.specs.Book.{queued_in, book_ops, book}
use Rattle.proof_book.specs.FrameLaws.{out-same, in-same}
use Rattle.proof_book.specs.FrontPage.{ReadsFirst, Joins, book_step}
use Rattle.proof_book.specs.RefusingLaws.{on_answer}

-- ---- answers told apart

abbrev is_refused : Answer → Bool
is_refused a = on_answer (λ _. true) (λ _ _. false) false (λ _. false) (λ _ _. false) a

abbrev row : Answer → ℕ
row a = on_answer (λ n. n) (λ _ _. 0) 0 (λ _. 0) (λ _ _. 0) a

abbrev shown : Answer → List ℕ
shown a = on_answer (λ _. []) (λ _ _. []) [] (λ _. []) (λ bytes _. bytes) a

abbrev stamp_shown : Answer → ℕ
stamp_shown a = on_answer (λ _. 0) (λ _ _. 0) 0 (λ _. 0) (λ _ n. n) a

abbrev pub answered : Ans Answer → Answer
answered (ended a) = a
answered (handed q) = NotYet
answered (told n) = NotYet

-- ---- the call, of the script's end

-- Q of the answer and the pages where it ends
abbrev pub Ends : (Answer → Pages → Type 0) → tree.Out Bk Answer → Type 0
Ends Q (ends a s) = Q a s.0
Ends Q (asks q s k) = Unit {0}

pub by_test : (Q : Answer → Pages → Type 0) (u : Bool) (x y : tree.Out Bk Answer) → (u ≡ true → Ends Q x)
    → (u ≡ false → Ends Q y) → Ends Q (cond u x y)
by_test Q true x y f g = f refl
by_test Q false x y f g = g refl

abbrev Says : (Answer → Pages → Type 0) → Ans Answer × Machine Answer Pages → Type 0
Says Q y = (z : Answer) → y.0 ≡ ended z → Q z y.1.st

module _ (Q : Answer → Pages → Type 0) (a : Ans Answer) (o : Aside) (n : Machine Answer Pages) (b : Buf)
    (r1 : Q (Refused 1) n.st) (r3 : Q (Refused 3) n.st) (h : Ends Q (run book_ops (aside_code o) (n.st, b))) where
  refused : (k : ℕ) (m : Machine Answer Pages) → Q (Refused k) m.st → Says Q (stay calls book.driver k m)
  refused k m q z e = subst (λ (z : Answer). Q z m.st) (ap answered e) q

  alone : (x : tree.Out Bk Answer) → Ends Q x → Says Q (halt calls book.driver (fed book a) false x)
  alone (ends z s) q y e = subst (λ (z : Answer). Q z s.0) (ap answered e) q
  alone (asks q s k) u y e = absurd (true≢false (ap asked e))
    where
      asked : Ans Answer → Bool
      asked (ended z) = false
      asked (handed q) = true
      asked (told n) = true

  passing : (x : tree.Out Bk Answer) → Ends Q x → Says Q
      (during_interrupt calls book.driver (lent_to calls book.driver n b) x)
  passing (ends z s) q y e = subst (λ (z : Answer). Q z s.0) (ap answered e) q
  passing (asks q s k) u y e = refused 3 (lent_to calls book.driver n b) r3 y e

  begins : (w : Pending Answer Pages) → Says Q (begun calls book.driver (fed book a) (aside o) n w b)
  begins idle = alone (run book_ops (aside_code o) (n.st, b)) h
  begins (busy true q k) = passing (run book_ops (aside_code o) (n.st, b)) h
  begins (busy false q k) = refused 3 (lent_to calls book.driver n b) r3

  fits : (u : Bool) → Says Q (cond u (stay calls book.driver 1 n)
      (begun calls book.driver (fed book a) (aside o) n n.under_way_lem b))
  fits true = refused 1 n r1
  fits false = begins n.under_way_lem

  says : Says Q (book_step a (begin (aside o)) n b)
  says = fits (cond (calls.slots (aside o)) (misfit calls book.driver n.st b) false)

-- ---- open

module _ (t : Pages) (e : ℕ) where
  pub record Opened (z : Answer) (t' : Pages) : Type 0 where
    pub leaves : (r : ℕ) → z ≡ Refused r → t' ≡ t
    pub none : z ≡ Refused 12 → (t.outs e).waiting ≡ []
    pub shows : (stamp : ℕ) (bytes : List ℕ) → z ≡ Shown bytes stamp
        → (q : Packet) × (rest : List Packet) × ((t.outs e).waiting ≡ q ∷ rest) × (bytes ≡ q.bytes)
        × (stamp ≡ q.stamp) × ((t'.outs e).opened ≡ true) × ((t'.outs e).waiting ≡ (t.outs e).waiting)
        × ((t'.outs e).admitted ≡ (t.outs e).admitted) × ((t'.outs e).read ≡ (t.outs e).read)

  not_opened : (k : ℕ) → (k ≡ 12 → ⊥) → Opened (Refused k) t
  not_opened k h = record {
    leaves = λ r q. refl;
    none = λ q. absurd (h (ap row q));
    shows
        = λ stamp bytes q. absurd (true≢false (ap is_refused q));
  }

  none_waits : (w : List Packet) → some (bytes_of w) ≡ false → w ≡ []
  none_waits [] h = refl
  none_waits (q ∷ w) h = absurd (true≢false h)

  opens : (w : List Packet) → (t.outs e).waiting ≡ w → (u : Bool) → some (bytes_of (t.outs e).waiting) ≡ u → u ≡ true
      → let t' = cond u (with_out t e (open_out (t.outs e))) t in Opened
      (Shown (first (waits_on t' Out e)) (first_stamp (t'.outs e).waiting)) t'
  opens [] h u g k = let z : false ≡ true = sym (ap (λ (w : List Packet). some (bytes_of w)) h) ∙ g
      ∙ k in absurd (true≢false (sym z))
  opens (q ∷ w) h true g k = record {
    leaves = λ r z. absurd (true≢false (sym (ap is_refused z)));
    none = λ z. absurd (true≢false (sym (ap is_refused z)));
    shows = λ stamp bytes z. (
      q,
      w,
      h,
      sym (ap shown z) ∙ ap (λ (p : OutPage). first (bytes_of p.waiting)) (out-same t e (open_out (t.outs e)))
          ∙ ap (λ (w : List Packet). first (bytes_of w)) h,
      sym (ap stamp_shown z) ∙ ap (λ (p : OutPage). first_stamp p.waiting) (out-same t e (open_out (t.outs e)))
          ∙ ap first_stamp h,
      ap (λ (p : OutPage). p.opened) (out-same t e (open_out (t.outs e))),
      ap (λ (p : OutPage). p.waiting) (out-same t e (open_out (t.outs e))),
      ap (λ (p : OutPage). p.admitted) (out-same t e (open_out (t.outs e))),
      ap (λ (p : OutPage). p.read) (out-same t e (open_out (t.outs e))),
    );
  }
  opens (q ∷ w) h false g k = absurd (true≢false (sym k))

  row_12 : some (bytes_of (t.outs e).waiting) ≡ false → Opened (Refused 12) t
  row_12 h = record {
    leaves = λ r z. refl;
    none = λ _. none_waits (t.outs e).waiting h;
    shows
        = λ stamp bytes q. absurd (true≢false (ap is_refused q));
  }

  open_ends : (b : Buf) → Ends Opened (run book_ops (open_packet {i = false} e) (t, b))
  open_ends b =
      by_test Opened (eqb t.kept.globals.stage 2) _ _
      (λ _. by_test Opened (is_allocated t.kept.allocator Out e) _ _
      (λ _. by_test Opened (not (is_on (t.kept.plain Out e).iso)) _ _
      (λ _. not_opened 11 (λ z. omega (arith, z)))
      (λ _. by_test Opened (some (bytes_of (t.outs e).waiting)) _ _
      (λ h. opens (t.outs e).waiting refl (some (bytes_of (t.outs e).waiting)) refl h)
      (λ h. row_12 h)))
      (λ _. not_opened 5 (λ z. omega (arith, z))))
      (λ _. not_opened 4 (λ z. omega (arith, z)))

pub opened-by : (a : Ans Answer) (e : ℕ) (n : Machine Answer Pages) (b : Buf) (z : Answer)
    → (book_step a (begin (aside (Open e))) n b).0 ≡ ended z
    → Opened n.st e z (book_step a (begin (aside (Open e))) n b).1.st
opened-by a e n b = says (Opened n.st e) a (Open e) n b (not_opened n.st e 1 (λ z. omega (arith, z)))
    (not_opened n.st e 3 (λ z. omega (arith, z))) (open_ends n.st e b)

-- ---- close

-- a page with the first read
pub reads_first : {p p' : OutPage} {q : Packet} {w : List Packet} → p.waiting ≡ q ∷ w → p' ≡ read_out p
    → ReadsFirst p p' q
reads_first {p} {p'} {q} {w} h k = record {
  first = h ∙ ap (λ (w : List Packet). q ∷ w) (sym (ap (λ (p : OutPage). p.waiting) k
      ∙ ap (λ (w : List Packet). tail w) h));
  read = ap (λ (p : OutPage). p.read) k ∙ ap (λ (w : List Packet). p.read ++ front w) h;
  admitted = ap (λ (p : OutPage). p.admitted) k;
  closed = ap (λ (p : OutPage). p.opened) k;
}

module _ (t : Pages) (e : ℕ) (some-open : (t.outs e).opened ≡ true → (q : Packet) × (w : List Packet)
    × ((t.outs e).waiting ≡ q ∷ w)) where
  pub record Closed (z : Answer) (t' : Pages) : Type 0 where
    pub leaves : (r : ℕ) → z ≡ Refused r → t' ≡ t
    pub none : z ≡ Refused 14 → (t.outs e).opened ≡ false
    pub reads : z ≡ ok → ((t.outs e).opened ≡ true) × (q : Packet) × ReadsFirst (t.outs e) (t'.outs e) q

  not_closed : (k : ℕ) → (k ≡ 14 → ⊥) → Closed (Refused k) t
  not_closed k h = record {
    leaves = λ r q. refl;
    none = λ q. absurd (h (ap row q));
    reads
        = λ q. absurd (true≢false (ap is_refused q));
  }

  closes : (u : Bool) → (t.outs e).opened ≡ u → u ≡ true → Closed ok (cond u (with_out t e (read_out (t.outs e))) t)
  closes true h k = record {
    leaves = λ r z. absurd (true≢false (sym (ap is_refused z)));
    none = λ z. absurd (true≢false (sym (ap is_refused z)));
    reads = λ _. (h, (some-open h).0, reads_first (some-open h).2 (out-same t e (read_out (t.outs e))));
  }
  closes false h k = absurd (true≢false (sym k))

  row_14 : (t.outs e).opened ≡ false → Closed (Refused 14) t
  row_14 h = record { leaves = λ r z. refl; none = λ _. h; reads = λ q. absurd (true≢false (ap is_refused q)) }

  close_ends : (b : Buf) → Ends Closed (run book_ops (close_packet {i = false} e) (t, b))
  close_ends b =
      by_test Closed (eqb t.kept.globals.stage 2) _ _
      (λ _. by_test Closed (is_allocated t.kept.allocator Out e) _ _
      (λ _. by_test Closed (t.outs e).opened _ _
      (λ h. closes (t.outs e).opened refl h)
      (λ h. row_14 h))
      (λ _. not_closed 5 (λ z. omega (arith, z))))
      (λ _. not_closed 4 (λ z. omega (arith, z)))

pub closed-by : (a : Ans Answer) (e : ℕ) (n : Machine Answer Pages) (b : Buf)
    (o : (n.st.outs e).opened ≡ true → (q : Packet) × (w : List Packet) × ((n.st.outs e).waiting ≡ q ∷ w))
    (z : Answer)
    → (book_step a (begin (aside (Close e))) n b).0 ≡ ended z
    → Closed n.st e o z (book_step a (begin (aside (Close e))) n b).1.st
closed-by a e n b o = says (Closed n.st e o) a (Close e) n b (not_closed n.st e o 1 (λ z. omega (arith, z)))
    (not_closed n.st e o 3 (λ z. omega (arith, z))) (close_ends n.st e o b)

-- ---- queue

module _ (t : Pages) (e : ℕ) (bytes : List ℕ) where
  left : (x y z : Bool) → (x && (y && z)) ≡ true → y ≡ true
  left true true z h = refl
  left true false z h = absurd (true≢false (sym h))
  left false y z h = absurd (true≢false (sym h))

  pub room-joins : (u : Bool) → room_b t e (length bytes) ≡ u → u ≡ true → (b : Buf)
      → Joins (t.ins e) ((cond {A = Bk} u (
        with_in t e (queued_in (t.ins e) bytes),
        copied b ((t.kept.plain In e).base + (t.ins e).turn * t.kept.allocator.size) bytes,
      ) (t, b)).0.ins e) bytes
  room-joins true h k b = (
    ltb-true (length (t.ins e).waiting) 2
        (left (iso_of t In e) (ltb (length (t.ins e).waiting) 2) (not (ltb t.kept.allocator.size (length bytes)))
        h),
    ap (λ (p : InPage). p.waiting) (in-same t e (queued_in (t.ins e) bytes)),
    ap (λ (p : InPage). p.queued) (in-same t e (queued_in (t.ins e) bytes)),
    ap (λ (p : InPage). p.sending) (in-same t e (queued_in (t.ins e) bytes)),
  )
  room-joins false h k b = absurd (true≢false (sym k))

module _ (t : Pages) (e : ℕ) (bytes : List ℕ) (most : length (t.ins e).waiting ≤ 2) where
  pub record Queued (z : Answer) (t' : Pages) : Type 0 where
    pub leaves : (r : ℕ) → z ≡ Refused r → t' ≡ t
    pub full : z ≡ Refused 13 → length (t.ins e).waiting ≡ 2
    pub joins : z ≡ ok → Joins (t.ins e) (t'.ins e) bytes

  not_queued : (k : ℕ) → (k ≡ 13 → ⊥) → Queued (Refused k) t
  not_queued k h = record {
    leaves = λ r q. refl;
    full = λ q. absurd (h (ap row q));
    joins
        = λ q. absurd (true≢false (ap is_refused q));
  }

  room_by : (x y z : Bool) → x ≡ true → z ≡ false → (x && (y && not z)) ≡ false → y ≡ false
  room_by true true false h k l = absurd (true≢false l)
  room_by true true true h k l = absurd (true≢false k)
  room_by true false z h k l = refl
  room_by false y z h k l = absurd (true≢false (sym h))

  not_false : (x : Bool) → not x ≡ false → x ≡ true
  not_false true h = refl
  not_false false h = absurd (true≢false h)

  joined : (u : Bool) → room_b t e (length bytes) ≡ u → u ≡ true → (b : Buf)
      → Queued ok (cond {A = Bk} u (
        with_in t e (queued_in (t.ins e) bytes),
        copied b ((t.kept.plain In e).base + (t.ins e).turn * t.kept.allocator.size) bytes,
      ) (t, b)).0
  joined true h k b = record {
    leaves = λ r z. absurd (true≢false (sym (ap is_refused z)));
    full = λ z. absurd (true≢false (sym (ap is_refused z)));
    joins = λ _. room-joins t e bytes true h k b;
  }
  joined false h k b = absurd (true≢false (sym k))

  row_13 : ltb t.kept.allocator.size (length bytes) ≡ false
      → not (is_on (t.kept.plain In e).iso) ≡ false → room_b t e (length bytes) ≡ false → Queued (Refused 13) t
  row_13 short iso h = record {
    leaves = λ r z. refl;
    full = λ _.
        let f = ltb-false (length (t.ins e).waiting) 2
        (room_by (iso_of t In e) (ltb (length (t.ins e).waiting) 2)
        (ltb t.kept.allocator.size (length bytes)) (not_false (iso_of t In e) iso) short h) in
        omega (arith, f, most);
    joins = λ q. absurd (true≢false (ap is_refused q));
  }

  queue_ends : (b : Buf) → Ends Queued (run book_ops (queue_packet {i = false} e bytes) (t, b))
  queue_ends b =
      by_test Queued (eqb t.kept.globals.stage 2) _ _
      (λ _. by_test Queued (is_allocated t.kept.allocator In e) _ _
      (λ _. by_test Queued (enables.is_on t.kept.globals.ep_config In e) _ _
      (λ _. by_test Queued (ltb t.kept.allocator.size (length bytes)) _ _
      (λ _. not_queued 10 (λ z. omega (arith, z)))
      (λ short. by_test Queued (not (is_on (t.kept.plain In e).iso)) _ _
      (λ _. not_queued 11 (λ z. omega (arith, z)))
      (λ iso. by_test Queued (room_b t e (length bytes)) _ _
      (λ h. joined (room_b t e (length bytes)) refl h b)
      (λ h. row_13 short iso h))))
      (λ _. not_queued 9 (λ z. omega (arith, z))))
      (λ _. not_queued 5 (λ z. omega (arith, z))))
      (λ _. not_queued 4 (λ z. omega (arith, z)))

pub queued_by : (a : Ans Answer) (e : ℕ) (bytes : List ℕ) (n : Machine Answer Pages) (b : Buf)
    (m : length (n.st.ins e).waiting ≤ 2) (z : Answer)
    → (book_step a (begin (aside (Queue e bytes))) n b).0 ≡ ended z
    → Queued n.st e bytes m z (book_step a (begin (aside (Queue e bytes))) n b).1.st
queued_by a e bytes n b m =
    says (Queued n.st e bytes m) a (Queue e bytes) n b (not_queued n.st e bytes m 1 (λ z. omega (arith, z)))
    (not_queued n.st e bytes m 3 (λ z. omega (arith, z))) (queue_ends n.st e bytes m b)
