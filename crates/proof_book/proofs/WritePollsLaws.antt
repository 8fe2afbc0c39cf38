-- A write's poll ends at once; done on an isochronous IN it queues its bytes, else it leaves the page; "not yet" only
-- where 2 wait
use Rattle.std.specs.Prelude.{Bool, true, false, not, cond, ◌&&◌, List, ◌≡◌, refl, ℕ, ◌≤◌, eqb, ltb, length}
use Rattle.std.proofs.Common.{true≢false, ap, subst, sym, ◌∙◌, arith, ltb-true, ltb-false}
use Rattle.regs.specs.declared.Dir.TheVariants.{In}
use Rattle.regs.specs.Enables as enables
use Rattle.script.specs.Tree as tree
use Rattle.script.specs.Script.{run}
use Rattle.script.specs.Statics.{is_on}
use Rattle.script.specs.Answers.{Answer, Refused, NotYet, is_allocated}
use Rattle.script.specs.Endpoint.{poll_write}
use Rattle.script.specs.Calls.{slotted, PollWrite, calls}
use Rattle.script.specs.Machine.{Buf, begin, Ans, ended, Pending, idle, busy, Machine, misfit, stay, lent_to, halt}
use Rattle.script.specs.Machine.{begun, fed}
use Rattle.proof_book.specs.Pages.{Pages}
use Rattle.proof_book.specs.Book.{Bk, iso_of, room_b, book_ops, book}
use Rattle.proof_book.specs.FrontPage.{is_done, Joins, book_step}
use Rattle.proof_book.proofs.AsidesLaws.{Ends, by_test, room-joins}
use Rattle.proof_book.proofs.OnwardLaws.{of-write-poll}
use Rattle.proof_book.specs.RefusingLaws.{on_answer, silent-ends}

abbrev pub is_not_yet : Answer → Bool
is_not_yet a = on_answer (λ _. false) (λ _ _. false) true (λ _. false) (λ _ _. false) a

not-ltb : (a b : ℕ) → b ≤ a → ltb a b ≡ false
not-ltb a b h = by (ltb a b) refl
  where
    by : (u : Bool) → ltb a b ≡ u → u ≡ false
    by true k = absurd (omega (arith, h, ltb-true a b k))
    by false k = refl

module _ (t : Pages) (e : ℕ) (bytes : List ℕ) where
  pub record Wrote (z : Answer) (t' : Pages) : Type 0 where
    pub joins : is_done z ≡ true → iso_of t In e ≡ true → Joins (t.ins e) (t'.ins e) bytes
    pub leaves : (is_done z && iso_of t In e) ≡ false → t'.ins e ≡ t.ins e
    pub waits : is_not_yet z ≡ true → iso_of t In e ≡ true → length bytes ≤ t.kept.allocator.size
        → 2 ≤ length (t.ins e).waiting

  refused_write : (r : ℕ) {t' : Pages} → t'.ins e ≡ t.ins e → Wrote (Refused r) t'
  refused_write r k = record {
    joins = λ d. absurd (true≢false (sym d));
    leaves = λ _. k;
    waits = λ d. absurd (true≢false (sym d));
  }

  -- no room though the bytes fit a slot: 2 wait
  no_room : (x y z : Bool) → (x && (y && not z)) ≡ false → x ≡ true → z ≡ false → y ≡ false
  no_room true true true h i l = absurd (true≢false l)
  no_room true true false h i l = absurd (true≢false h)
  no_room true false z h i l = refl
  no_room false y z h i l = absurd (true≢false (sym i))

  not_yet_lem : room_b t e (length bytes) ≡ false → Wrote NotYet t
  not_yet_lem h = record {
    joins = λ d. absurd (true≢false (sym d));
    leaves = λ _. refl;
    waits = λ _ iso fits. ltb-false (length (t.ins e).waiting) 2
        (no_room (iso_of t In e) (ltb (length (t.ins e).waiting) 2)
        (ltb t.kept.allocator.size (length bytes)) h iso
        (not-ltb t.kept.allocator.size (length bytes) fits));
  }

  not_iso : iso_of t In e ≡ false → Wrote NotYet t
  not_iso h = record {
    joins = λ d. absurd (true≢false (sym d));
    leaves = λ _. refl;
    waits = λ _ iso. absurd (true≢false (sym iso ∙ h));
  }

  write_ends : (b : Buf) → Ends Wrote (run book_ops (poll_write {i = false} e bytes) (t, b))
  write_ends b =
      by_test Wrote (eqb t.kept.globals.stage 2) _ _
      (λ _. by_test Wrote (is_allocated t.kept.allocator In e) _ _
      (λ _. by_test Wrote (not (is_on (t.kept.requests In e).begun)) _ _
      (λ _. refused_write 15 refl)
      (λ _. by_test Wrote (eqb (t.kept.requests In e).length (length bytes)) _ _
      (λ _. by_test Wrote (is_on (t.kept.plain In e).iso) _ _
      (λ iso. by_test Wrote (enables.is_on t.kept.globals.ep_config In e) _ _
      (λ _. by_test Wrote (room_b t e (length bytes)) _ _
      (λ h. record {
        joins = λ _ _. room-joins t e bytes (room_b t e (length bytes)) refl h b;
        leaves = λ k. absurd (true≢false (sym iso ∙ k));
        waits = λ d. absurd (true≢false (sym d));
      })
      (λ full. not_yet_lem full))
      (λ _. refused_write 9 refl))
      (λ other. by_test Wrote (is_on (t.kept.plain In e).ready) _ _
      (λ _. record {
        joins = λ _ k. absurd (true≢false (sym k ∙ other));
        leaves = λ _. refl;
        waits = λ d. absurd (true≢false (sym d));
      })
      (λ _. by_test Wrote (enables.is_on t.kept.globals.ep_config In e) _ _
      (λ _. not_iso other) (λ _. refused_write 9 refl))))
      (λ _. refused_write 10 refl)))
      (λ _. refused_write 5 refl))
      (λ _. refused_write 4 refl)

-- the call ends at once
module _ (a : Ans Answer) (e : ℕ) (bytes : List ℕ) (n : Machine Answer Pages) (b : Buf) where
  pub record Polled (y : Ans Answer × Machine Answer Pages) : Type 0 where
    pub answer : Answer
    pub ends_with : y.0 ≡ ended answer
    pub wrote : Wrote n.st e bytes answer y.1.st

  refused : (k : ℕ) (m : Machine Answer Pages) → m.st ≡ n.st → Polled (stay calls book.driver k m)
  refused k m h = record {
    answer = Refused k;
    ends_with = refl;
    wrote = refused_write n.st e bytes k (ap (λ (t : Pages). t.ins e) h);
  }

  begins : (w : Pending Answer Pages) → Polled (begun calls book.driver (fed book a) (slotted (PollWrite e bytes)) n
      w b)
  begins idle =
      let r = silent-ends (of-write-poll e bytes) (n.st, b) in
      subst (λ (o : tree.Out Bk Answer). Ends (Wrote n.st e bytes) o → Polled
      (halt calls book.driver (fed book a) false o)) (sym r.2)
      (λ h. record { answer = r.0; ends_with = refl; wrote = h }) (write_ends n.st e bytes b)
  begins (busy true q k) = refused 3 (lent_to calls book.driver n b) refl
  begins (busy false q k) = refused 3 (lent_to calls book.driver n b) refl

  fits : (u : Bool) → Polled
      (cond u (stay calls book.driver 1 n) (begun calls book.driver (fed book a)
      (slotted (PollWrite e bytes)) n n.under_way_lem b))
  fits true = refused 1 n refl
  fits false = begins n.under_way_lem

  pub write_polled : Polled (book_step a (begin (slotted (PollWrite e bytes))) n b)
  write_polled = fits (misfit calls book.driver n.st b)
