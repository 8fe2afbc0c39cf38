-- What may become of the page of an IN on which a packet is being sent: it is being sent still, from the same slot, or
-- the tail has passed it, or the page is empty; of one page, and of all
use Rattle.std.specs.Prelude.{Bool, true, false, cond, ◌⊎◌, ◌≡◌, refl, ℕ, ◌%◌, eqb}
use Rattle.std.proofs.Common.{true≢false, inl, inr, ap, ap₂, subst, sym, ◌∙◌}
use mathlib.Core.List.{List, [], ◌++◌, tail, append-nil}
use Rattle.regs.specs.declared.Dir.TheVariants.{In}
use Rattle.script.specs.Machine.{Buf}
use Rattle.proof_book.specs.Pages.{InPage, Pages, with_in}
use Rattle.proof_book.specs.Book.{some, front, empty_in, passed_in, sent_in, with_sending}
use Rattle.proof_book.specs.Book.{placed_in, loaded_in}
use Rattle.proof_book.specs.FrameLaws.{at-elim}
use Rattle.proof_book.specs.FrontPage.{EmptiedIn, slot_size}

-- numbers count modulo 16; an address that is a load's is that of a packet being sent
pub record Orderly (t : Pages) : Type 0 where
  pub periodic : (x y : ℕ) → x % 16 ≡ y % 16 → t.ins x ≡ t.ins y
  pub bases : (x y : ℕ) → x % 16 ≡ y % 16 → (t.kept.plain In x).base ≡ (t.kept.plain In y).base
  pub loads : (e : ℕ) → (t.ins e).load ≡ true → (t.ins e).sending ≡ true

-- ---- one page

-- the packet being sent is being sent still
pub record SendingStill (p p' : InPage) : Type 0 where
  pub sending : p'.sending ≡ true
  pub shown : p'.shown ≡ p.shown
  pub waiting : p'.waiting ≡ p.waiting
  pub turn : p'.turn ≡ p.turn
  pub passed : p'.passed ≡ p.passed

-- P: of a page on which none is being sent, or none is known to be
pub data Going (P : InPage → Type 0) (p p' : InPage) : Type 0 where
  keeps : SendingStill p p' → Going P p p'
  passes : p'.passed ≡ p.passed ++ front p.waiting → P p' → Going P p p'
  empties : EmptiedIn p' → Going P p p'

pub data Resting (P : InPage → Type 0) (p p' : InPage) : Type 0 where
  rests : p'.passed ≡ p.passed → P p' → Resting P p p'
  emptied : EmptiedIn p' → Resting P p p'

pub record Turns (P : InPage → Type 0) (p p' : InPage) : Type 0 where
  pub going : p.sending ≡ true → Going P p p'
  pub resting : p.sending ≡ false → Resting P p p'
  pub empty : EmptiedIn p → EmptiedIn p'

-- within a call none is being sent from the tail's passing on; at a load the next one is
abbrev pub Unsent : InPage → Type 0
Unsent p = p.sending ≡ false

abbrev pub Either : InPage → Type 0
Either p = Unit {0}

turns_then : {P : InPage → Type 0} {p q r : InPage} → Turns Unsent p q → Turns P q r → Turns P p r
turns_then {P} {p} {q} {r} h k = record {
  going = λ s. going-then (h.going s);
  resting = λ s. resting-then (h.resting s);
  empty = λ x. k.empty (h.empty x);
}
  where
    going-keeps : SendingStill p q → Going P q r → Going P p r
    going-keeps x (keeps y) = keeps (record {
      sending = y.sending;
      shown = y.shown ∙ x.shown;
      waiting = y.waiting ∙ x.waiting;
      turn = y.turn ∙ x.turn;
      passed = y.passed ∙ x.passed;
    })
    going-keeps x (passes y z) = passes (y ∙ ap₂ (λ (a w : List (List ℕ)). a ++ front w) x.passed x.waiting) z
    going-keeps x (empties z) = empties z

    going-passes : q.passed ≡ p.passed ++ front p.waiting → Resting P q r → Going P p r
    going-passes x (rests y z) = passes (y ∙ x) z
    going-passes x (emptied z) = empties z

    going-then : Going Unsent p q → Going P p r
    going-then (keeps x) = going-keeps x (k.going x.sending)
    going-then (passes x s) = going-passes x (k.resting s)
    going-then (empties x) = empties (k.empty x)

    resting-rests : q.passed ≡ p.passed → Resting P q r → Resting P p r
    resting-rests x (rests y z) = rests (y ∙ x) z
    resting-rests x (emptied z) = emptied z

    resting-then : Resting Unsent p q → Resting P p r
    resting-then (rests x s) = resting-rests x (k.resting s)
    resting-then (emptied x) = emptied (k.empty x)

-- the same page, but for whether the address told last is a load's, and which it is
abbrev pub SameButLoad : InPage → InPage → Type 0
SameButLoad p p' = p' ≡ with_sending p p.sending p'.load p'.source p.shown

pub alike-empty : {p p' : InPage} → SameButLoad p p' → EmptiedIn p → EmptiedIn p'
alike-empty h x = record {
  waiting = ap (λ (q : InPage). q.waiting) h ∙ x.waiting;
  sending = ap (λ (q : InPage). q.sending) h ∙ x.sending;
  queued = ap (λ (q : InPage). q.queued) h ∙ x.queued;
  sent = ap (λ (q : InPage). q.sent) h ∙ x.sent;
  passed = ap (λ (q : InPage). q.passed) h ∙ x.passed;
}

turns-alike : {p p' : InPage} → SameButLoad p p' → Turns Unsent p p'
turns-alike {p} {p'} h =
    let s : p'.sending ≡ p.sending = ap (λ (q : InPage). q.sending) h in
    let o : p'.passed ≡ p.passed = ap (λ (q : InPage). q.passed) h in
    record {
      going = λ x. keeps (record {
        sending = s ∙ x;
        shown = ap (λ (q : InPage). q.shown) h;
        waiting = ap (λ (q : InPage). q.waiting) h;
        turn = ap (λ (q : InPage). q.turn) h;
        passed = o;
      });
      resting = λ x. rests o (s ∙ x);
      empty = alike-empty {p = p} {p' = p'} h;
    }

pub turns-refl : {p : InPage} → Turns Unsent p p
turns-refl {p} = turns-alike {p = p} {p' = p} refl

pub weaker : {p p' : InPage} → Turns Unsent p p' → Turns Either p p'
weaker {p} {p'} h = record { going = λ s. goes (h.going s); resting = λ s. stays (h.resting s); empty = h.empty }
  where
    goes : Going Unsent p p' → Going Either p p'
    goes (keeps x) = keeps x
    goes (passes x s) = passes x tt
    goes (empties x) = empties x

    stays : Resting Unsent p p' → Resting Either p p'
    stays (rests x s) = rests x tt
    stays (emptied x) = emptied x

pub passed-turns : (p : InPage) → Turns Unsent p (passed_in p)
passed-turns p = record {
  going = λ s. passes (ap (λ (u : Bool). p.passed ++ cond u (front p.waiting) []) s) refl;
  resting = λ s. rests (ap (λ (u : Bool). p.passed ++ cond u (front p.waiting) []) s ∙ append-nil p.passed) refl;
  empty = λ x. record {
    waiting = ap₂ (λ (u : Bool) (w : List (List ℕ)). cond u (tail w) w) x.sending x.waiting;
    sending = refl;
    queued = x.queued;
    sent = x.sent;
    passed = ap₂ (λ (c : List (List ℕ)) (u : Bool). c ++ cond u (front p.waiting) []) x.passed x.sending;
  };
}

pub none_left : EmptiedIn empty_in
none_left = record { waiting = refl; sending = refl; queued = refl; sent = refl; passed = refl }

pub empty-turns : {P : InPage → Type 0} {p : InPage} → Turns P p empty_in
empty-turns = record { going = λ _. empties none_left; resting = λ _. emptied none_left; empty = λ _. none_left }

pub placed-turns : (p : InPage) → Turns Unsent p (placed_in p)
placed-turns p = turns-alike {p = p} {p' = placed_in p} refl

-- a second load of the same packet keeps the bytes as they were shown by the first
pub loaded-turns : (p : InPage) (b : Buf) → Turns Either p (loaded_in p b)
loaded-turns p b = by (some p.waiting) refl
  where
    by : (u : Bool) → some p.waiting ≡ u → Turns Either p (cond u (sent_in p b) (placed_in p))
    by true h = record {
      going = λ s. keeps (record {
        sending = refl;
        shown = ap (λ (u : Bool). cond u p.shown b) s;
        waiting
            = refl;
        turn = refl;
        passed = refl;
      });
      resting = λ s. rests refl tt;
      empty = λ x. absurd (true≢false (sym h ∙ ap (λ (w : List (List ℕ)). some w) x.waiting));
    }
    by false h = weaker (placed-turns p)

-- ---- all pages

pub record Follows (P : InPage → Type 0) (t t' : Pages) : Type 0 where
  pub size : slot_size t' ≡ slot_size t
  pub base : (e : ℕ) → ((t'.kept.plain In e).base ≡ (t.kept.plain In e).base) ⊎ EmptiedIn (t'.ins e)
  pub pages : (e : ℕ) → Turns P (t.ins e) (t'.ins e)

pub follows_then : {P : InPage → Type 0} {s t u : Pages} → Follows Unsent s t → Follows P t u → Follows P s u
follows_then {P} {s} {t} {u} h k = record {
  size = k.size ∙ h.size;
  base = λ e. base-then e (h.base e) (k.base e);
  pages = λ e. turns_then (h.pages e) (k.pages e);
}
  where
    base-then : (e : ℕ) → ((t.kept.plain In e).base ≡ (s.kept.plain In e).base) ⊎ EmptiedIn (t.ins e)
        → ((u.kept.plain In e).base ≡ (t.kept.plain In e).base) ⊎ EmptiedIn (u.ins e)
        → ((u.kept.plain In e).base ≡ (s.kept.plain In e).base) ⊎ EmptiedIn (u.ins e)
    base-then e (inl x) (inl y) = inl (y ∙ x)
    base-then e (inr x) (inl y) = inr ((k.pages e).empty x)
    base-then e z (inr y) = inr y

pub record Done (P : InPage → Type 0) (t t' : Pages) : Type 0 where
  pub orderly : Orderly t'
  pub follows : Follows P t t'

pub done-weaker : {t t' : Pages} → Done Unsent t t' → Done Either t t'
done-weaker h = record {
  orderly = h.orderly;
  follows = record { size = h.follows.size; base = h.follows.base; pages = λ e. weaker (h.follows.pages e) };
}

-- no page of an IN changed
pub record NoInPageChange (t t' : Pages) : Type 0 where
  pub ins : (e : ℕ) → t'.ins e ≡ t.ins e
  pub base : (e : ℕ) → (t'.kept.plain In e).base ≡ (t.kept.plain In e).base
  pub size : slot_size t' ≡ slot_size t

pub calm : {t : Pages} → NoInPageChange t t
calm = record { ins = λ e. refl; base = λ e. refl; size = refl }

pub calm-or : (u : Bool) {t x y : Pages} → NoInPageChange t x → NoInPageChange t y → NoInPageChange t (cond u x y)
calm-or true h k = h
calm-or false h k = k

pub calm-orderly : {t t' : Pages} → Orderly t → NoInPageChange t t' → Orderly t'
calm-orderly i c = record {
  periodic = λ x y m. c.ins x ∙ i.periodic x y m ∙ sym (c.ins y);
  bases = λ x y m. c.base x ∙ i.bases x y m ∙ sym (c.base y);
  loads = λ e l. ap (λ (p : InPage). p.sending) (c.ins e)
      ∙ i.loads e (sym (ap (λ (p : InPage). p.load) (c.ins e)) ∙ l);
}

pub calm_done : {t t' : Pages} → Orderly t → NoInPageChange t t' → Done Unsent t t'
calm_done {t} i c = record {
  orderly = calm-orderly i c;
  follows = record {
    size = c.size;
    base = λ e. inl (c.base e);
    pages
        = λ e. subst (λ (p : InPage). Turns Unsent (t.ins e) p) (sym (c.ins e)) turns-refl;
  };
}

-- one page
pub orderly-with : (t : Pages) (f : ℕ) (p : InPage) → (p.load ≡ true → p.sending ≡ true) → Orderly t
    → Orderly (with_in t f p)
orderly-with t f p l i = record {
  periodic = λ x y m. ap₂ (λ (k : ℕ) (q : InPage). cond (eqb k (f % 16)) p q) m (i.periodic x y m);
  bases = i.bases;
  loads = λ e. at-elim (λ (q : InPage). q.load ≡ true → q.sending ≡ true) f e p t.ins (λ _. l) (λ _. i.loads e);
}

pub with-page : {P : InPage → Type 0} → ((p : InPage) → Turns P p p) → (t : Pages) (f : ℕ) (p : InPage)
    → (p.load ≡ true → p.sending ≡ true) → Turns P (t.ins f) p → Orderly t → Done P t (with_in t f p)
with-page {P} r t f p l h i = record {
  orderly = orderly-with t f p l i;
  follows = record {
    size = refl;
    base = λ e. inl refl;
    pages = λ e. at-elim (λ (q : InPage). Turns P (t.ins e) q) f e p t.ins
        (λ m. subst (λ (q : InPage). Turns P q p) (i.periodic f e (sym m)) h) (λ _. r (t.ins e));
  };
}

pub never : {X : Type 0} → false ≡ true → X
never h = absurd (true≢false (sym h))
