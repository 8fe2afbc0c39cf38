-- Laws on the definitions of Flush.antt: what a reader gives of the whole card at any cut.
use Rattle.std.specs.Prelude.{◌≡◌, refl, true, List, [], ◌∷◌, ◌++◌, ℕ, zero, suc, ◌+◌, ◌-◌, ◌*◌, ◌/◌, ◌%◌, ◌≤◌, ◌<◌, length, take, drop, get_or}
use Rattle.std.proofs.Common.{sym, ap, ap₂, subst, ◌∙◌, append_assoc, arith, lt-ltb, eq-eqb, ne_eqb, length-append, length-drop, get_or-take, get_or-drop, get_or-append-add, length-take-le, ext_get_or, take_at}
use Rattle.std.proofs.lemmas.Bool.{false≢true}
use Rattle.std.proofs.Math.Decide.{ℕ_discrete, dec_lt}
use Rattle.std.proofs.Math.ListN.{get_or-append}
use Rattle.std.proofs.Math.Seq.{drop-append-add}
use Rattle.card.specs.Packet.{Packet, All, data_of}
use Rattle.card.specs.Kept.{kept_from, first_in}
use Rattle.card.specs.Written.{filled, body, sealed, block_of}
use Rattle.card.specs.Streams.{block_at, good_block, placed, checked, view}
use Rattle.card.specs.Places.{number-written, check-written, length-filled, get_d-filled}
use Rattle.card.proofs.Begins.{data-append, first-append, first-settled}
use Rattle.card.proofs.Theorem.{first-here}
use Rattle.card.proofs.StreamLaws.{length-snoc}
use Rattle.card.specs.Runs.{read_run}
use Rattle.recorder.specs.EndedLaws.{ended-gives}
use Rattle.recorder.specs.Ring.{slot_in}
use Rattle.recorder.specs.RingLaws.{slot-long}
use Rattle.recorder.specs.Flush.{put_block, Store, after_stores, pending, Torn, OnCard, told, Flushes, flush_stores}

-- ---- blocks of a card

-- 512 bytes put at a place, at that place and at another
pub mid-same : (s b : List ℕ) (a : ℕ) → a ≤ length s → length b ≡ 512
    → take 512 (drop a (take a s ++ (b ++ drop (a + 512) s))) ≡ b
mid-same s b a l h =
    let n : length (take a s) ≡ a = length-take-le a s l in
    let e : a ≡ length (take a s) + 0 = omega arith in
    let d : drop a (take a s ++ (b ++ drop (a + 512) s)) ≡ b ++ drop (a + 512) s =
    ap (λ (x : ℕ). drop x (take a s ++ (b ++ drop (a + 512) s))) e
    ∙ drop-append-add (take a s) (b ++ drop (a + 512) s) 0 in
    ap (take 512) d ∙ take_at b (drop (a + 512) s) 512 h

mid-before : (s b : List ℕ) (a i : ℕ) → a ≤ length s → i < a → get_or (take a s ++ (b ++ drop (a + 512) s)) i 0
    ≡ get_or s i 0
mid-before s b a i l h =
    get_or-append (take a s) (b ++ drop (a + 512) s) 0 i (omega (arith, length-take-le a s l)) ∙ get_or-take a s i 0 h

mid-behind : (s b : List ℕ) (a i : ℕ) → a ≤ length s → length b ≡ 512
    → get_or (take a s ++ (b ++ drop (a + 512) s)) (a + (512 + i)) 0 ≡ get_or s (a + 512 + i) 0
mid-behind s b a i l h =
    let n : length (take a s) ≡ a = length-take-le a s l in
    let e : a + (512 + i) ≡ length (take a s) + (512 + i) = omega arith in
    let f : 512 + i ≡ length b + i = omega arith in
    ap (λ (x : ℕ). get_or (take a s ++ (b ++ drop (a + 512) s)) x 0) e
    ∙ get_or-append-add (take a s) (b ++ drop (a + 512) s) (512 + i) 0
    ∙ ap (λ (x : ℕ). get_or (b ++ drop (a + 512) s) x 0) f
    ∙ get_or-append-add b (drop (a + 512) s) i 0
    ∙ get_or-drop (a + 512) s i 0

pub mid-long : (s b : List ℕ) (a : ℕ) → a + 512 ≤ length s → length b ≡ 512
    → length (take a s ++ (b ++ drop (a + 512) s)) ≡ length s
mid-long s b a l h =
    omega (
      arith,
      length-append (take a s) (b ++ drop (a + 512) s),
      length-append b (drop (a + 512) s),
      length-take-le a s (omega arith),
      length-drop (a + 512) s,
    )

-- other 512 bytes from c on
pub mid-other : (s b : List ℕ) (a c : ℕ) → a + 512 ≤ length s → c + 512 ≤ length s → length b ≡ 512
    → (a < c + 512 → a + 512 ≤ c)
    → take 512 (drop c (take a s ++ (b ++ drop (a + 512) s))) ≡ take 512 (drop c s)
mid-other s b a c l m h o =
    let t = take a s ++ (b ++ drop (a + 512) s) in
    let long : length t ≡ length s = mid-long s b a l h in
    let x : length (take 512 (drop c t)) ≡ 512 = length-take-le 512 (drop c t) (omega (arith, length-drop c t)) in
    let y : length (take 512 (drop c s)) ≡ 512 = length-take-le 512 (drop c s) (omega (arith, length-drop c s)) in
    ext_get_or 0 (take 512 (drop c t)) (take 512 (drop c s)) (x ∙ sym y)
    (λ i g. get_or-take 512 (drop c t) i 0 (omega (arith, x)) ∙ get_or-drop c t i 0 ∙ same i (omega (arith, x))
    ∙ sym (get_or-take 512 (drop c s) i 0 (omega (arith, x)) ∙ get_or-drop c s i 0))
  where
    same : (i : ℕ) → i < 512 → get_or (take a s ++ (b ++ drop (a + 512) s)) (c + i) 0 ≡ get_or s (c + i) 0
    same i g = elim (dec_lt a (c + 512)) [
      | yes z ↦ (let low = o z in
          let e : c + i ≡ a + (512 + (c + i - a - 512)) = omega arith in
          let f : a + 512 + (c + i - a - 512) ≡ c + i = omega arith in
          ap (λ (q : ℕ). get_or (take a s ++ (b ++ drop (a + 512) s)) q 0) e
          ∙ mid-behind s b a (c + i - a - 512) (omega arith) h ∙ ap (λ (q : ℕ). get_or s q 0) f)
      | no z ↦ mid-before s b a (c + i) (omega arith) (omega arith)
    ]

pub put-long : (s : List ℕ) (k : ℕ) (b : List ℕ) → k < length s / 512 → length b ≡ 512 → length (put_block s k b)
    ≡ length s
unfolding put_block
put-long s k b l h = mid-long s b (k * 512) (omega arith) h

pub put_same : (s : List ℕ) (k : ℕ) (b : List ℕ) → k < length s / 512 → length b ≡ 512 → block_at (put_block s k b) k ≡ b
unfolding put_block
put_same s k b l h = mid-same s b (k * 512) (omega arith) h

pub put_other : (s : List ℕ) (k j : ℕ) (b : List ℕ) → k < length s / 512 → j < length s / 512 → length b ≡ 512
    → (k ≡ j → ⊥)
    → block_at (put_block s k b) j ≡ block_at s j
unfolding put_block
put_other s k j b l m h n = mid-other s b (k * 512) (j * 512) (omega arith) (omega arith) h (λ z. later n z)
  where
    later : (k ≡ j → ⊥) → k * 512 < j * 512 + 512 → k * 512 + 512 ≤ j * 512
    later o z = elim (dec_lt k j) [
      | yes y ↦ omega arith
      | no y ↦ absurd (o (omega arith))
    ]

-- ---- a stream's blocks

-- a block that is as written is good
pub block-good : (s : List ℕ) (ps : List Packet) (k : ℕ) → k < length s / 512 → block_at s k ≡ block_of ps k
    → good_block s k ≡ true
unfolding good_block placed checked
block-good s ps k l e =
    rw (lt-ltb k (length s / 512) l, eq-eqb _ _ (number-written s ps k e), eq-eqb _ _ (check-written s ps k e))

-- a block that the first packets fill is the same whatever follows them
pub block_settled : (xs ys : List Packet) (k : ℕ) → (k + 1) * 504 ≤ length (data_of xs) → block_of (xs ++ ys) k
    ≡ block_of xs k
unfolding block_of
block_settled xs ys k h =
    ap₂ (λ (f : ℕ) (d : List ℕ). sealed (body k f d)) (first-settled xs ys k h) same
  where
    at : (i : ℕ) → i < 504 → get_or (data_of (xs ++ ys)) (k * 504 + i) 0 ≡ get_or (data_of xs) (k * 504 + i) 0
    at i g =
        ap (λ (l : List ℕ). get_or l (k * 504 + i) 0) (data-append xs ys)
        ∙ get_or-append (data_of xs) (data_of ys) 0 (k * 504 + i) (omega arith)

    same : filled 504 (drop (k * 504) (data_of (xs ++ ys))) ≡ filled 504 (drop (k * 504) (data_of xs))
    same =
        let a = length-filled 504 (drop (k * 504) (data_of (xs ++ ys))) in
        let b = length-filled 504 (drop (k * 504) (data_of xs)) in
        ext_get_or 0 (filled 504 (drop (k * 504) (data_of (xs ++ ys)))) (filled 504 (drop (k * 504) (data_of xs)))
        (a ∙ sym b)
        (λ i g. get_d-filled 504 (drop (k * 504) (data_of (xs ++ ys))) i (omega (arith, a))
        ∙ get_or-drop (k * 504) (data_of (xs ++ ys)) i 0
        ∙ at i (omega (arith, a))
        ∙ sym (get_d-filled 504 (drop (k * 504) (data_of xs)) i (omega (arith, a)) ∙ get_or-drop (k * 504) (data_of xs) i 0))

-- ---- what a card with an end gives

-- the end begins in its block, so that block names a begin
end-named : (xs : List Packet) (e : Packet) → first_in (length (data_of xs) / 504) 0 (xs ++ (e ∷ [])) ≡ 65535 → ⊥
end-named xs e h =
    let m = length (data_of xs) / 504 in
    let z : 0 + length (data_of xs) ≡ length (data_of xs) = omega arith in
    let here : first_in m (0 + length (data_of xs)) (e ∷ []) ≡ 6 + length (data_of xs) % 504
    = rw z (first-here e [] m (length (data_of xs)) refl) in
    let both = sym (first-append xs (e ∷ []) m 0) ∙ h in
    elim (ℕ_discrete (first_in m 0 xs) 65535) [
      | yes y ↦ (let x : first_in m (0 + length (data_of xs)) (e ∷ []) ≡ 65535
          = rw (eq-eqb (first_in m 0 xs) 65535 y) at both in omega (arith, here, x))
      | no y ↦ y (rw (ne_eqb (first_in m 0 xs) 65535 y) at both)
    ]

-- The packets and their end are read, and nothing behind them, where the good blocks up to the end's are as written and
-- the end's is good.
pub reads_end : (s room : List ℕ) (xs : List Packet) (e : Packet) → length s % 512 ≡ 0 → All (xs ++ (e ∷ []))
    → length (data_of xs) / 504 < length s / 512 → length e.bytes ≡ 10 → length (data_of xs) % 504 ≤ 488
    → ((k : ℕ) → k ≤ length (data_of xs) / 504 → good_block s k ≡ true → block_at s k ≡ block_of (xs ++ (e ∷ [])) k)
    → good_block s (length (data_of xs) / 504) ≡ true → 1024 ≤ length room → read_run s room
    ≡ kept_from (view s) 0 (xs ++ (e ∷ []))
reads_end s room xs e whole fine inside short fits written good r =
    ended-gives (xs ++ (e ∷ [])) fine s room whole (length (data_of xs) / 504)
    (record {
      inside = inside;
      written = written;
      good = good;
      begun = end-named xs e;
      ends = omega (arith, length-snoc xs e);
    }) r

pub on-card-gives : (s room : List ℕ) (xs : List Packet) (e : Packet) → OnCard s xs e → 1024 ≤ length room
    → read_run s room ≡ kept_from (view s) 0 (xs ++ (e ∷ []))
on-card-gives s room xs e c r =
    let m = length (data_of xs) / 504 in
    reads_end s room xs e c.whole c.fine c.inside c.short c.fits (λ k l g. c.written k l)
    (block-good s (xs ++ (e ∷ [])) m c.inside (c.written m (omega arith))) r

-- ---- the stores of a flush

slot-512 : (room : List ℕ) (k : ℕ) → length room ≡ 2048 → length (slot_in room k) ≡ 512
slot-512 room k h = slot-long room k h

length-pending : (from left : ℕ) (room : List ℕ) → length (pending from left room) ≡ left
unfolding pending
length-pending from zero room = refl
length-pending from (suc left) room = ap suc (length-pending _ left room)

no_store : (made : List Store) (x : Store) (rest : List Store) → ◌≡◌ {A = List Store} [] (made ++ (x ∷ rest)) → ⊥
no_store [] x rest e = let z : ◌≡◌ {A = ℕ} 0 1 = cc in omega arith
no_store (y ∷ made) x rest e = let z : ◌≡◌ {A = ℕ} 0 1 = cc in omega arith

-- at a cut the blocks behind that of the cut are stored, the others are as they were
record AtCut (s : List ℕ) (from left : ℕ) (room : List ℕ) (made : List Store) (x : Store) (rest : List Store) : Type
    0 where
  place : x.place ≡ from + length rest
  few : length rest < left
  block : x.block ≡ slot_in room (from + length rest)
  long : length (after_stores s made) ≡ length s
  stored : (k : ℕ) → from + length rest < k → k < from + left → block_at (after_stores s made) k ≡ slot_in room k
  before : (k : ℕ) → k ≤ from + length rest → block_at (after_stores s made) k ≡ block_at s k
  behind : (k : ℕ) → from + left ≤ k → k < length s / 512 → block_at (after_stores s made) k ≡ block_at s k

at_cut : (from left : ℕ) (s room : List ℕ) (made : List Store) (x : Store) (rest : List Store) → length room ≡ 2048
    → from + left ≤ length s / 512 → pending from left room ≡ made ++ (x ∷ rest) → AtCut s from left room made x rest
unfolding pending after_stores
at_cut from zero s room made x rest l i e = absurd (no_store made x rest e)
at_cut from (suc left) s room [] x rest l i e =
    let same : record { place = from + left; block = slot_in room (from + left) } ≡ x = cc in
    let more : pending from left room ≡ rest = cc in
    let n : length rest ≡ left = ap length (sym more) ∙ length-pending from left room in
    let here : from + left ≡ from + length rest = omega arith in
    record {
      place = ap (λ (y : Store). y.place) (sym same) ∙ here;
      few = omega arith;
      block = ap (λ (y : Store). y.block) (sym same) ∙ ap (slot_in room) here;
      long = refl;
      stored = λ k a b. absurd (omega arith);
      before = λ k a. refl;
      behind = λ k a b. refl;
    }
at_cut from (suc left) s room (y ∷ made) x rest l i e =
    let first : record { place = from + left; block = slot_in room (from + left) } ≡ y = cc in
    let more : pending from left room ≡ made ++ (x ∷ rest) = cc in
    let b = slot_in room (from + left) in
    let t = put_block s (from + left) b in
    let is : put_block s y.place y.block ≡ t = ap (λ (z : Store). put_block s z.place z.block) (sym first) in
    let tl : length t ≡ length s = put-long s (from + left) b (omega arith) (slot-512 room (from + left) l) in
    let ih : AtCut t from left room made x rest = at_cut from left t room made x rest l (omega arith) more in
    let last : block_at t (from + left) ≡ b = put_same s (from + left) b (omega arith) (slot-512 room (from + left) l) in
    let other : (k : ℕ) → (from + left ≡ k → ⊥) → k < length s / 512 → block_at t k ≡ block_at s k =
    λ k n h. put_other s (from + left) k b (omega arith) h (slot-512 room (from + left) l) n in
    let go : after_stores s (y ∷ made) ≡ after_stores t made = ap (λ (q : List ℕ). after_stores q made) is in
    let block-go : (k : ℕ) → block_at (after_stores s (y ∷ made)) k ≡ block_at (after_stores t made) k
    = λ k. ap (λ (q : List ℕ). block_at q k) go in
    record {
      place = ih.place;
      few = omega (arith, ih.few);
      block = ih.block;
      long = ap length go ∙ ih.long ∙ tl;
      stored = λ k a c. block-go k ∙ elim (ℕ_discrete k (from + left)) [
        | yes h ↦ rw h (ih.behind (from + left) (omega arith) (omega arith) ∙ last)
        | no h ↦ ih.stored k a (omega arith)
      ];
      before = λ k a. block-go k ∙ ih.before k a ∙ other k (λ h. omega (arith, ih.few)) (omega (arith, ih.few));
      behind = λ k a c. block-go k ∙ ih.behind k (omega arith) (omega arith) ∙ other k (λ h. omega arith) c;
    }

-- ---- a cut in a flush

module _ (s : List ℕ) (xs ys : List Packet) (e end : Packet) (room : List ℕ) (c : OnCard s xs e)
    (f : Flushes s xs ys end room)
    (made : List Store) (x : Store) (rest : List Store) (split : flush_stores xs ys room ≡ made ++ (x ∷ rest))
    (torn : List ℕ) (t : Torn (after_stores s made) x torn) (reads : List ℕ) (r : 1024 ≤ length reads) where
  abbrev n : ℕ
  n = length (data_of xs) / 504

  abbrev m : ℕ
  m = length (data_of (xs ++ ys)) / 504

  cut : AtCut s n (suc (m - n)) room made x rest
  cut = at_cut n (suc (m - n)) s room made x rest f.long (omega (arith, f.later, f.inside)) split

  abbrev u : List ℕ
  u = put_block (after_stores s made) x.place torn

  place_in : x.place < length (after_stores s made) / 512
  place_in = omega (arith, cut.place, cut.few, cut.long, f.later, f.inside)

  long : length u ≡ length s
  long = put-long (after_stores s made) x.place torn place_in t.long ∙ cut.long

  other : (k : ℕ) → (x.place ≡ k → ⊥) → k < length s / 512 → block_at u k ≡ block_at (after_stores s made) k
  other k d h = put_other (after_stores s made) x.place k torn place_in (omega (arith, cut.long)) t.long d

  before : (k : ℕ) → k < x.place → block_at u k ≡ block_at s k
  before k h = other k (λ z. omega arith) (omega (arith, place_in, cut.long))
      ∙ cut.before k (omega (arith, cut.place))

  -- the block at the cut, where it is good
  at_place : (k : ℕ) → k ≡ x.place → good_block u k ≡ true → block_at u k ≡ x.block
  at_place k h g =
      let good : good_block u x.place ≡ true = subst (λ (q : ℕ). good_block u q ≡ true) h g in
      ap (block_at u) h ∙ put_same (after_stores s made) x.place torn place_in t.long
      ∙ t.either (λ bad. false≢true (sym bad ∙ good))

  by : (left : List Store) → AtCut s n (suc (m - n)) room made x left
      → read_run u reads ≡ kept_from (view u) 0 (told left (xs ++ (e ∷ [])) ((xs ++ ys) ++ (end ∷ [])))
  by (y ∷ left) a =
      on-card-gives u reads xs e
      (record {
        whole = omega (arith, long, c.whole);
        fine = c.fine;
        inside = omega (arith, long, c.inside);
        short = c.short;
        fits = c.fits;
        written = λ k l. before k (omega (arith, a.place)) ∙ c.written k l;
      }) r
  by [] a =
      let here : x.place ≡ n = omega (arith, a.place) in
      let behind : (k : ℕ) → n < k → k ≤ m → block_at u k ≡ block_of ((xs ++ ys) ++ (end ∷ [])) k =
      λ k l h. other k (λ z. omega arith) (omega (arith, f.inside)) ∙ a.stored k (omega arith) (omega arith)
      ∙ f.ready k (omega arith) h in
      let last = behind m (omega (arith, f.later)) (omega arith) in
      reads_end u reads (xs ++ ys) end (omega (arith, long, c.whole)) f.fine (omega (arith, long, f.inside))
      f.short f.fits
      (λ k l g. elim (dec_lt k n) [
        | yes h ↦ before k (omega arith) ∙ c.written k (omega arith) ∙ block_settled xs (e ∷ []) k (omega arith)
            ∙ sym (ap (λ (q : List Packet). block_of q k) (append_assoc xs ys (end ∷ []))
            ∙ block_settled xs (ys ++ (end ∷ [])) k (omega arith))
        | no h ↦ elim (ℕ_discrete k n) [
          | yes z ↦ (let at : n + 0 ≡ k = omega arith in
              at_place k (omega arith) g ∙ a.block ∙ f.ready (n + 0) (omega arith) (omega (arith, f.later))
              ∙ ap (block_of ((xs ++ ys) ++ (end ∷ []))) at)
          | no z ↦ behind k (omega arith) l
        ]
      ])
      (block-good u ((xs ++ ys) ++ (end ∷ [])) m (omega (arith, long, f.inside)) last) r

  -- At any cut in a flush the reader gives exactly the packets that the stores tell of and that lie wholly in good
  -- blocks, then the end record.
  pub flush-gives : read_run u reads ≡ kept_from (view u) 0 (told rest (xs ++ (e ∷ [])) ((xs ++ ys) ++ (end ∷ [])))
  flush-gives = by rest cut
