-- Laws of packets that are given many at once.
use Rattle.std.specs.Prelude.{◌≡◌, ℕ, zero, suc, ◌+◌, ◌-◌, ◌/◌, ◌%◌, ◌<◌, ◌≤◌, true, false, List, ◌∷◌, ◌++◌, length, take, drop, ◌≢◌, refl, Some, None, Err}
use Rattle.std.proofs.Common.{sym, ap, ap₂, ◌∙◌, append_assoc, append-nil, arith, lt-ltb, le-ltb, eq-eqb, ne_eqb, length-append, take_at, take_all, drop-drop}
use Rattle.std.proofs.Math.Seq.{drop-append-add, paste}
use Rattle.card.specs.declared.stream.Found.{Found}
use Rattle.card.specs.Reading.{View, total, bytes_from, find, block_end}
use Rattle.card.proofs.Clean.{clean-part}
use Rattle.card.proofs.Progress.{find-clean}
use Rattle.card.specs.Seen.{Seen}
use Rattle.card.specs.Inside.{Standing}
use Rattle.card.specs.Batches.{Several, none, before, some_from, some, front, Takes, answer_by, batch_of, batch_room_of}
use Rattle.card.specs.declared.batches.Taken.{Taken}
use Rattle.card.specs.declared.refusal.Refusal.TheVariants.{Card}

-- some more behind so many packets with these bytes
abbrev pub behind : ℕ → List ℕ → Several → Several
behind n bytes s = record { count = n + s.count; bytes = bytes ++ s.bytes; at = s.at; short = s.short }

behind-before : (n : ℕ) (bytes more : List ℕ) (s : Several) → behind n bytes (before more s)
    ≡ behind (n + 1) (bytes ++ more) s
behind-before n bytes more s =
    let e : n + suc s.count ≡ n + 1 + s.count = omega arith in
    rw (e, append_assoc bytes more s.bytes)

-- ---- by what is found next

pub some_end : (v : View) (f d room : ℕ) → room < f → find v (total v) d ≡ None → some_from v f d room
    ≡ none d false
unfolding some_from
some_end v zero d room l h = absurd (omega arith)
some_end v (suc f) d room l h = rw (h, some_from)

pub some-short : (v : View) (f d room : ℕ) (p : Found) → room < f → find v (total v) d ≡ Some p → room < 3 + p.len
    → some_from v f d room ≡ none d true
unfolding some_from
some-short v zero d room p l h s = absurd (omega arith)
some-short v (suc f) d room p l h s = rw (h, some_from, lt-ltb room (3 + p.len) s)

pub some_more : (v : View) (f d room : ℕ) (p : Found) (count : ℕ) (bytes : List ℕ) (all : Several) → room < f
    → find v (total v) d ≡ Some p → 3 + p.len ≤ room
    → behind count bytes (some_from v f d room) ≡ all
    → (g : ℕ) × (room - (3 + p.len) < g)
    × (behind (count + 1) (bytes ++ bytes_from v p.at (3 + p.len))
    (some_from v g (p.at + (3 + p.len)) (room - (3 + p.len))) ≡ all)
unfolding some_from
some_more v zero d room p count bytes all l h s e = absurd (omega arith)
some_more v (suc f) d room p count bytes all l h s e = (
  f,
  omega arith,
  sym (behind-before count bytes (bytes_from v p.at (3 + p.len))
      (some_from v f (p.at + (3 + p.len)) (room - (3 + p.len)))) ∙ first ∙ e,
)
  where
    first : behind count bytes (before (bytes_from v p.at (3 + p.len))
        (some_from v f (p.at + (3 + p.len)) (room - (3 + p.len))))
        ≡ behind count bytes (some_from v (suc f) d room)
    first = sym (rw (h, some_from, le-ltb room (3 + p.len) s))

-- places one behind the other
bytes-join : (v : View) (n m d : ℕ) → bytes_from v d n ++ bytes_from v (d + n) m ≡ bytes_from v d (n + m)
unfolding bytes_from
bytes-join v zero m d =
    let e : d + 0 ≡ d = omega arith in
    let f : 0 + m ≡ m = omega arith in
    rw (e, f)
bytes-join v (suc n) m d =
    let e : d + suc n ≡ d + 1 + n = omega arith in
    let f : suc n + m ≡ suc (n + m) = omega arith in
    rw (e, f) (ap (λ (l : List ℕ). v.byte d ∷ l) (bytes-join v n m (d + 1)))

-- packets that stand one behind the other: none, and one more
some-none : (v : View) (f d room count : ℕ) (bytes : List ℕ) (all : Several) → behind count bytes (some_from v f d room)
    ≡ all
    → behind (count + 0) (bytes ++ bytes_from v d 0) (some_from v f (d + 0) (room - 0)) ≡ all
unfolding bytes_from
some-none v f d room count bytes all e =
    let here : d + 0 ≡ d = omega arith in
    let same : room - 0 ≡ room = omega arith in
    let none_more : count + 0 ≡ count = omega arith in
    rw (here, same, none_more, append-nil bytes) e

some_next : (v : View) (f d room at a n k m count : ℕ) (bytes : List ℕ) (all : Several) → room < f → find v (total v) at
    ≡ Some (record { at = at; endpoint = a; len = n })
    → at ≡ d + k → m ≡ k + (3 + n) → 3 + n ≤ room → behind count (bytes ++ bytes_from v d k) (some_from v f at room) ≡ all
    → (g : ℕ) × (room - (3 + n) < g) × (behind (count + 1) (bytes ++ bytes_from v d m)
    (some_from v g (d + m) (room - (3 + n))) ≡ all)
some_next v f d room at a n k m count bytes all l h e i r b =
    let next = some_more v f at room (record { at = at; endpoint = a; len = n }) count
    (bytes ++ bytes_from v d k) all l h r b in
    let place : at + (3 + n) ≡ d + m = omega arith in
    let join : (bytes ++ bytes_from v d k) ++ bytes_from v at (3 + n) ≡ bytes ++ bytes_from v d m =
    append_assoc bytes (bytes_from v d k) (bytes_from v at (3 + n))
    ∙ ap (λ (x : List ℕ). bytes ++ x)
    (ap (λ (x : ℕ). bytes_from v d k ++ bytes_from v x (3 + n)) e ∙ bytes-join v k (3 + n) d
    ∙ ap (λ (x : ℕ). bytes_from v d x) (sym i)) in
    let moved : behind (count + 1) (bytes ++ bytes_from v d m) (some_from v next.0 (d + m) (room - (3 + n)))
    ≡ behind (count + 1) ((bytes ++ bytes_from v d k) ++ bytes_from v at (3 + n))
    (some_from v next.0 (at + (3 + n)) (room - (3 + n))) =
    ap₂ (λ (x : List ℕ) (y : ℕ). behind (count + 1) x (some_from v next.0 y (room - (3 + n)))) (sym join)
    (sym place) in
    (next.0, next.1, moved ∙ next.2)

pub some-standing : (v : View) (c f d n room count : ℕ) (bytes : List ℕ) (all : Several) → room < f
    → Standing v d c n → n
    ≤ room
    → behind count bytes (some_from v f d room) ≡ all
    → (g : ℕ) × (room - n < g) × (behind (count + c) (bytes ++ bytes_from v d n) (some_from v g (d + n) (room - n)) ≡ all)
unfolding Standing
some-standing v zero f d n room count bytes all l s r e = rw s (f, omega arith, some-none v f d room count bytes all e)
some-standing v (suc c) f d n room count bytes all l (m, s, last) r e =
    one_more last.endpoint last.len last.next last.ends
    (λ h. some-standing v c f d m room count bytes all l s h e)
  where
    one_more : (a len : ℕ) → find v (total v) (d + m)
        ≡ Some (record { at = d + m; endpoint = a; len = len }) → n ≡ m + (3 + len)
        → (m ≤ room → (g : ℕ) × (room - m < g) × (behind (count + c) (bytes ++ bytes_from v d m)
        (some_from v g (d + m) (room - m)) ≡ all))
        → (g : ℕ) × (room - n < g) × (behind (count + suc c) (bytes ++ bytes_from v d n)
        (some_from v g (d + n) (room - n)) ≡ all)
    one_more a len h ends before =
        let i = before (omega arith) in
        let next = some_next v i.0 d (room - m) (d + m) a len m n (count + c) bytes all i.1 h refl ends
        (omega arith) i.2 in
        let counts : count + c + 1 ≡ count + suc c = omega arith in
        let left : room - m - (3 + len) ≡ room - n = omega arith in
        (next.0, omega (arith, next.1), rw (counts, left) at next.2)

-- ---- the room

pub front-more : (bytes more room now : List ℕ) (used n : ℕ) → used ≡ length bytes → n ≡ length more → now
    ≡ front bytes room
    → paste now used more n ≡ front (bytes ++ more) room
front-more bytes more room now used n u l e =
    let before_it : take used now ≡ bytes = rw e (take_at bytes (drop (length bytes) room) used (sym u)) in
    let all : take n more ≡ more = take_all n more (omega arith) in
    let both : length bytes + n ≡ length (bytes ++ more) = omega (arith, length-append bytes more) in
    let far : drop (used + n) now ≡ drop (length (bytes ++ more)) room =
    rw (e, u) (drop-append-add bytes (drop (length bytes) room) n ∙ drop-drop n (length bytes) room
    ∙ ap (λ (k : ℕ). drop k room) both) in
    rw (before_it, all, far)

-- ---- what was looked at

pub found-seen : (v : View) (f d : ℕ) (p : Found) → find v f d ≡ Some p
    → Seen v (p.at + (3 + p.len)) ((p.at + (3 + p.len) + 503) / 504)
found-seen v f d p h =
    let at = p.at in
    let n = p.len in
    let e : at + 3 + n ≡ at + (3 + n) = omega arith in
    let clean = find-clean v f d p h in
    record {
      low = omega arith;
      high = omega arith;
      good = rw e at (clean-part v (at / 504) ((at + 3 + n) / 504) (block_end (at + 3 + n)) (omega arith) (omega arith)
          clean);
    }

-- ---- the answer

pub batch-torn : (s : List ℕ) (at room : ℕ) → (length s % 512 ≢ 0) → Err Card ≡ batch_of s at room
unfolding batch_of
batch-torn s at room h = rw (ne_eqb (length s % 512) 0 h)

pub batch-room-torn : (s : List ℕ) (at : ℕ) (room : List ℕ) → (length s % 512 ≢ 0) → room ≡ batch_room_of s at room
unfolding batch_room_of
batch-room-torn s at room h = rw (ne_eqb (length s % 512) 0 h)

pub batch-taken : (s : List ℕ) (at room : ℕ) (t : Taken) → length s % 512 ≡ 0 → Takes t (some s at room)
    → answer_by t.count t.used t.at t.short ≡ batch_of s at room
unfolding batch_of
batch-taken s at room t h e = rw (eq-eqb (length s % 512) 0 h, e.count, e.used, e.at, e.short)

pub batch-room : (s : List ℕ) (at : ℕ) (room : List ℕ) → length s % 512 ≡ 0
    → front (some s at (length room)).bytes room ≡ batch_room_of s at room
unfolding batch_room_of
batch-room s at room h = rw (eq-eqb (length s % 512) 0 h)
