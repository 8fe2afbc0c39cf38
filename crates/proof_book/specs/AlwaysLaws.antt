-- Laws on the definitions of Always.antt
use Rattle.std.specs.Prelude.{Bool, true, false, cond, List, [], ◌∷◌, ◌≡◌, refl, ℕ, zero}
use Rattle.std.proofs.Common.{sym, subst}
use Rattle.script.specs.Cells.{Cell, Val}
use Rattle.script.specs.Script.{Test, Look, Fetch, Act, DmaStep, Burst, last_of, burst_ask}
use Rattle.script.specs.Simulates.{Phase}
use Rattle.script.specs.Machine.{Buf, Question, Call, start, begin, continue, question, Event, Machine, Calls, Instance}
use Rattle.script.specs.Machine.{Book, fed, blank, misfit, started, call}
use Rattle.script.specs.Agree.{Agree, Ways, LentAlike, unless, write_up, agrees, from_start}
use Rattle.proof_book.specs.Always.{after}

pub record Invariant {C S : Type 0} (D : Instance C S) (P : S → Type 0) : Type 0 where
  pub put : (c : Cell) (v : Val c) (s : S × Buf) → P s.0 → P (D.ops.put c v s).0
  pub act : (q : Act) (s : S × Buf) → P s.0 → P (D.ops.act q s).0
  pub hand : (q : DmaStep) (s : S × Buf) → P s.0 → P (D.ops.hand q s).1.0
  pub row : (g : Burst) (n : ℕ) (s : S × Buf) → P s.0 → P (D.ops.row g n s).1.0

-- one state, of which it holds
data Both {S : Type 0} (P : S → Type 0) (s : S) : S → Type 0 where
  both : P s → Both P s s

holds : {S : Type 0} {P : S → Type 0} {s t : S} → Both P s t → P s
holds (both p) = p

module _ {C S : Type 0} (D : Instance C S) {P : S → Type 0} (K : Invariant D P) where
  -- the driver as its own book, which is told nothing
  abbrev itself : Book C S
  itself = record { driver = D; feed = λ q t. t }

  sizes : {s t : S} → Both P s t → D.size s ≡ D.size t
  sizes (both p) = refl

  answers : (q : Question) {s t : S} → Both P s t → D.question q s ≡ D.question q t
  answers q (both p) = refl

  gets : (c : Cell) (b : Buf) {s t : S} → Both P s t → D.ops.get c (s, b) ≡ D.ops.get c (t, b)
  gets c b (both p) = refl

  puts : (c : Cell) (v : Val c) (b : Buf) {s t : S} → Both P s t
      → ((D.ops.put c v (s, b)).1 ≡ (D.ops.put c v (t, b)).1)
      × Both P (D.ops.put c v (s, b)).0 (D.ops.put c v (t, b)).0
  puts c v b {s = s} (both p) = (refl, both (K.put c v (s, b) p))

  tests : (q : Test) (b : Buf) {s t : S} → Both P s t → D.ops.is q (s, b) ≡ D.ops.is q (t, b)
  tests q b (both p) = refl

  looks : (q : Look) (b : Buf) {s t : S} → Both P s t → D.ops.look q (s, b) ≡ D.ops.look q (t, b)
  looks q b (both p) = refl

  fetches : (q : Fetch) (b : Buf) {s t : S} → Both P s t → D.ops.fetch q (s, b) ≡ D.ops.fetch q (t, b)
  fetches q b (both p) = refl

  acts : (q : Act) (b : Buf) {s t : S} → Both P s t
      → ((D.ops.act q (s, b)).1 ≡ (D.ops.act q (t, b)).1) × Both P (D.ops.act q (s, b)).0 (D.ops.act q (t, b)).0
  acts q b {s = s} (both p) = (refl, both (K.act q (s, b) p))

  hands : (q : DmaStep) (b : Buf) {s t : S} → Both P s t
      → Both P (D.ops.hand q (s, b)).1.0 (D.ops.hand q (t, b)).1.0
  hands q b {s = s} (both p) = both (K.hand q (s, b) p)

  row-steps : (g : Burst) (n : ℕ) (b : Buf) {s t : S} → Both P s t
      → (blank (burst_ask g n (D.ops.row g n (s, b)).0) ≡ blank (burst_ask g n (D.ops.row g n (t, b)).0))
      × Both P (D.ops.row g n (s, b)).1.0 (D.ops.row g n (t, b)).1.0 × Unit {0}
  row-steps g n b {s = s} (both p) = (refl, both (K.row g n (s, b) p), tt)

  abbrev agree_itself : Agree D itself
  agree_itself = record {
    Coupling = λ φ b s t. Both P s t;
    Good = λ q b t. Unit {0};
    Chip = λ t b b'. Unit {0};
    chip = λ b b' φ s t r c. r;
    size = λ φ b s t r. sizes r;
    answer = λ q φ b s t r. answers q r;
    unfed = λ q h t. refl;
    good_bare = λ q h b t. tt;
    get = λ c b s t r. gets c b r;
    put = λ c v b s t r. puts c v b r;
    is = λ q b s t r. tests q b r;
    look = λ q b s t r. looks q b r;
    fetch = λ q b s t r. fetches q b r;
    act = λ q b s t r. acts q b r;
    hand = λ q b s t r. (hands q b r, tt);
    first = λ g b s t r. row-steps g (last_of g) b r;
    next = λ g n b s t r. row-steps g n b r;
    finish = λ g b s t r. r;
  }

  module _ {Op A : Type 0} (L : Calls C Op A) (fresh : (c : C) (b : Buf) → L.refuses c b ≡ zero → P (D.fresh c)) where
    any : (g : Bool) → unless D itself agree_itself L g (Unit {0})
    any true = tt
    any false = tt

    lent : (c : Call C Op) (m n : Machine A S) (b : Buf) → LentAlike D itself agree_itself L c m n b
    lent (start c) m n b = tt
    lent (begin o) m n b = any (cond (L.slots o) (misfit L D m.st b) false)
    lent (continue v) m n b = any (misfit L D m.st b)
    lent (question q) m n b = tt

    always : (es : List (Event C Op)) {φ : Phase} (m n : Machine A S)
        → Ways D itself agree_itself L φ m.under_way_lem n.under_way_lem → Both P m.st n.st → P (after L D es m).st
    always [] m n w r = holds r
    always (e ∷ es) m n w r =
        let x = call L D (λ s. s) e.call m e.lent in
        let y = write_up D itself agree_itself L x.0 e.call n e.lent in
        let a = agrees D itself agree_itself L (λ c b h. both (fresh c b h)) e.call e.lent m n w r
        (lent e.call m n e.lent) in
        always es x.1 y.1 a.ways a.rest

    -- every list of calls that follows an accepted start-up, from whatever was before
    pub from-accepted : (c : C) (b : Buf) → L.refuses c b ≡ zero
        → (es : List (Event C Op)) (m : Machine A S) → P (after L D (record { call = start c; lent = b } ∷ es) m).st
    from-accepted c b h es m =
        let x = started L D (λ s. s) c zero m b in
        let y = started L D (fed itself x.0) c zero m b in
        let a = (from_start D itself agree_itself L (λ c b h. both (fresh c b h)) c b h [] m m tt).0 in
        subst (λ n. P (after L D es (started L D (λ s. s) c n m b).1).st) (sym h)
        (always es x.1 y.1 a.ways a.rest)
