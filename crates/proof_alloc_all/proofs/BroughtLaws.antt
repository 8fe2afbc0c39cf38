-- A list allocated as one operation is its endpoints allocated one by one, whatever numbers the continues bring and
-- whatever is stored in the slots between: allocations neither read nor look at a slot. Assumes nothing.
use Rattle.std.specs.Prelude.{Bool, true, false, not, ◌&&◌, List, [], ◌∷◌, ◌++◌, ◌≡◌, refl, ℕ, zero, suc, ◌%◌, ◌<◌, eqb, length, get_or}
use Rattle.std.proofs.Common.{sym, ap, ap₂, subst, ◌∙◌}
use Rattle.regs.specs.declared.Access.{Access}
use Rattle.regs.specs.declared.Dir.{Dir}
use Rattle.regs.specs.declared.Dir.TheVariants.{Out, In}
use Rattle.state.specs.Driver.{Driver, none_gathered}
use Rattle.alloc.specs.declared.Answer as alloc-answer
use Rattle.alloc.specs.declared.Answer.TheVariants as alloc
use Rattle.alloc.specs.Alloc.{allocate_of}
use Rattle.descriptor.specs.declared.Endpoint.{Endpoint}
use Rattle.descriptor.specs.declared.Answer as reading-answer
use Rattle.descriptor.specs.declared.Answer.TheVariants as reading
use Rattle.descriptor.specs.Reading.{reading_of, list_of}
use Rattle.descriptor.specs.Trial.{direction_of, trial_of}
use Rattle.script.specs.Tree as tree
use Rattle.script.specs.Tree.{ends, asks, bind_out}
use Rattle.script.specs.Script.{Script, ret, bind, test, run}
use Rattle.script.specs.Answers as answers
use Rattle.script.specs.Answers.{End, operation, staged, is_allocated}
use Rattle.script.specs.Driver.{new_endpoint, allocated_as}
use Rattle.script.specs.AllocateAll.{allocate_each, announce, begins_at, announce_after, announce_all, allocate_read}
use Rattle.script.specs.Calls.{AllocateAll, other_code}
use Rattle.script_ops.specs.Rings.{St}
use Rattle.script_ops.specs.Concrete.{concrete}
use Rattle.proof_alloc_all.specs.Hands.{hands_out, ends_with, allocation, one_by_one}
use Rattle.proof_alloc_all.specs.Brought.{Brings, hands_as, ends_as, one_by_one_as}
use Rattle.proof_alloc_all.specs.Settled.{Settled}
use Rattle.proof_alloc_all.proofs.OrderLaws.{in_order_lem}

-- ---- two runs with the same accesses, answer and driver, whatever is brought and stored

abbrev pub Same : {A : Type 0} → tree.Out St A → tree.Out St A → Type 0
Same (ends a s) (ends c t) = (a ≡ c) × (s.0 ≡ t.0)
Same (asks q s k) (asks r t l) = (q ≡ r) × (s.0 ≡ t.0)
    × ((v w : ℕ) (b c : List ℕ) → Same (k v (s.0, b)) (l w (t.0, c)))
Same (ends a s) (asks r t l) = ⊥
Same (asks q s k) (ends c t) = ⊥

to-hands : {A : Type 0} (f : Brings) (i : ℕ) (o u : tree.Out St A) → Same o u → hands_as f i o ≡ hands_out u
to-hands f i (ends a s) (ends c t) h = refl
to-hands f i (asks q s k) (asks r t l) h =
    ap₂ (λ (x : Access) (y : List Access). x ∷ y) h.0
    (to-hands f (suc i) (k (f i).0 (s.0, (f i).1)) (l 0 t) (h.2 (f i).0 0 (f i).1 t.1))
to-hands f i (ends a s) (asks r t l) h = absurd h
to-hands f i (asks q s k) (ends c t) h = absurd h

to-ends : {A : Type 0} (f : Brings) (i : ℕ) (o u : tree.Out St A) → Same o u → ends_as f i o
    ≡ ((ends_with u).0, (ends_with u).1.0)
to-ends f i (ends a s) (ends c t) h = λ x. (h.0 x, h.1 x)
to-ends f i (asks q s k) (asks r t l) h = to-ends f (suc i) (k (f i).0 (s.0, (f i).1)) (l 0 t)
    (h.2 (f i).0 0 (f i).1 t.1)
to-ends f i (ends a s) (asks r t l) h = absurd h
to-ends f i (asks q s k) (ends c t) h = absurd h

bind-same : {A B : Type 0} (o u : tree.Out St A) (f : A → St → tree.Out St B)
    → Same o u → ((a : A) (d : Driver) (b c : List ℕ) → Same (f a (d, b)) (f a (d, c)))
    → Same (bind_out o f) (bind_out u f)
bind-same {A} (ends a s) (ends c t) f h g =
    subst (λ (z : A × Driver). Same (f a s) (f z.0 (z.1, t.1))) (λ x. (h.0 x, h.1 x)) (g a s.0 s.1 t.1)
bind-same (asks q s k) (asks r t l) f h g = (
  h.0,
  h.1,
  λ v w b c. bind-same (k v (s.0, b)) (l w (t.0, c)) f
      (h.2 v w b c) g,
)
bind-same (ends a s) (asks r t l) f h g = absurd h
bind-same (asks q s k) (ends c t) f h g = absurd h

-- ---- scripts that are so

pub record IgnoresBuffer {A : Type 0} (p : Script false A) : Type 0 where
  pub same : (d : Driver) (b c : List ℕ) → Same (run concrete p (d, b)) (run concrete p (d, c))

returns : {A : Type 0} (a : A) → IgnoresBuffer (ret a)
returns a = record { same = λ d b c. (refl, refl) }

then : {A B : Type 0} {p : Script false A} {k : A → Script false B} → IgnoresBuffer p → ((a : A) → IgnoresBuffer (k a))
    → IgnoresBuffer (bind p k)
then {p = p} {k = k} h g = record {
  same = λ d b c. bind-same (run concrete p (d, b)) (run concrete p (d, c)) (λ a s. run concrete (k a) s)
      (h.same d b c) (λ a d b c. (g a).same d b c);
}

tests : {A : Type 0} (t : Bool) {p q : Script false A} → IgnoresBuffer p → IgnoresBuffer q → IgnoresBuffer (test t p q)
tests true h g = record { same = λ d b c. h.same d b c }
tests false h g = record { same = λ d b c. g.same d b c }

new : (dir : Dir) (kind maximum n : ℕ) → IgnoresBuffer (new_endpoint dir kind maximum n)
new dir kind maximum n =
    then (record { same = λ d b c. (refl, refl, λ v w b c. (refl, refl)) }) (λ _.
    then (tests (not (eqb (kind % 4) 0)) (record { same = λ d b c. (refl, refl, λ v w b c. (refl, refl)) })
    (returns tt)) (λ _. returns n))

operates : {p : Script false ℕ} → IgnoresBuffer p → IgnoresBuffer (operation p)
operates h =
    then (record { same = λ d b c. (refl, refl) }) (λ _. then h
    (λ n. then (record { same = λ d b c. (refl, refl) }) (λ w. returns (End n w))))

announces : (dir : Dir) (n : ℕ) → IgnoresBuffer (announce dir n)
announces dir n = then (record { same = λ d b c. (refl, refl) }) (λ s. new dir s.kind s.max_len n)

finds : (dir : Dir) (x left n : ℕ) → IgnoresBuffer (begins_at dir x left n)
unfolding begins_at
finds dir x zero n = returns 0
finds dir x (suc left) n =
    then (record { same = λ d b c. (refl, refl) }) (λ a. then (record { same = λ d b c. (refl, refl) }) (λ s.
    tests (is_allocated a dir n && eqb s.base x) (returns n) (finds dir x left (suc n))))

after : (left total : ℕ) (dir : Dir) (n : ℕ) → IgnoresBuffer (announce_after left total dir n)
unfolding announce_after
after zero total dir n = returns total
after (suc left) total dir n =
    then (then (record { same = λ d b c. (refl, refl) })
    (λ a. then (record { same = λ d b c. (refl, refl) }) (λ s. returns _))) (λ x.
    then (finds Out x 15 1) (λ o.
    tests (eqb o 0) (then (finds In x 15 1) (λ n. then (announces In n) (λ _. after left total In n)))
    (then (announces Out o) (λ _. after left total Out o))))

all-announced : (es : List Endpoint) → IgnoresBuffer (announce_all es)
all-announced [] = returns 0
all-announced (e ∷ es) =
    then (announces (direction_of e.address) (e.address % 128))
    (λ _. after (length es) (suc (length es)) (direction_of e.address) (e.address % 128))

all-allocated : (es : List Endpoint) → IgnoresBuffer (allocate_each es)
unfolding allocate_each
all-allocated [] = returns tt
all-allocated (e ∷ es) = then (record { same = λ d b c. (refl, refl) }) (λ _. all-allocated es)

all_read : (bytes : List ℕ) (x : reading-answer.Answer) → IgnoresBuffer (allocate_read bytes x)
all_read bytes (reading.Refused n) = returns (answers.Refused n)
all_read bytes reading.Listed = then (record { same = λ d b c. (refl, refl) }) (λ a.
    tests (eqb (trial_of a (list_of bytes)).refusal 0) (then (all-allocated (list_of bytes))
    (λ _. operates (all-announced (list_of bytes)))) (returns _))

staged-deaf : (n : ℕ) {p : Script false answers.Answer} → IgnoresBuffer p → IgnoresBuffer (staged n p)
staged-deaf n h = then (record { same = λ d b c. (refl, refl) })
    (λ g. tests (eqb g.stage n) h (returns (answers.Refused 4)))

pub whole : (bytes : List ℕ) → IgnoresBuffer (other_code (AllocateAll bytes))
whole bytes = staged-deaf 1 (all_read bytes (reading_of bytes).answer)

as_answered : (dir : Dir) (kind maximum : ℕ) (x : alloc-answer.Answer) → IgnoresBuffer (allocated_as dir kind maximum x)
as_answered dir kind maximum (alloc.Refused n) = returns (answers.Refused n)
as_answered dir kind maximum (alloc.Given n base slots) = operates (new dir kind maximum n)

pub single : (e : Endpoint) → IgnoresBuffer (allocation e)
single e =
    let dir = direction_of e.address in
    staged-deaf 1 (then (record { same = λ d b c. (refl, refl) })
    (λ a. then (record { same = λ d b c. (refl, refl) }) (λ _.
    as_answered dir e.kind e.maximum (allocate_of a e.kind e.address e.maximum dir).answer)))

-- ---- one by one

singly : (g : ℕ → Brings) (bs : ℕ → List ℕ) (j : ℕ) (es : List Endpoint) (d : Driver) (b : List ℕ)
    → one_by_one_as g bs j es d ≡ ((one_by_one es (d, b)).0, (one_by_one es (d, b)).1.0)
unfolding one_by_one_as one_by_one
singly g bs j [] d b = refl
singly g bs j (e ∷ es) d b =
    let o = run concrete (allocation e) (d, bs j) in
    let u = run concrete (allocation e) (d, b) in
    let s = (single e).same d (bs j) b in
    let t = (ends_with u).1 in
    ap (λ (z : Driver). (hands_as (g j) 0 o ++ (one_by_one_as g bs (suc j) es z).0, (one_by_one_as g bs (suc j) es z).1))
    (ap (λ (z : answers.Answer × Driver). z.1) (to-ends (g j) 0 o u s))
    ∙ ap (λ (z : List Access × Driver). (hands_as (g j) 0 o ++ z.0, z.1)) (singly g bs (suc j) es t.0 t.1)
    ∙ ap (λ (l : List Access). (l ++ (one_by_one es t).0, (one_by_one es t).1.0)) (to-hands (g j) 0 o u s)

-- ---- the operation

-- as `in_order`, for any numbers and slots brought to the operation's continues, f, and to those of each allocation, g
-- and bs
pub record InOrderAs (d : Driver) (b bytes : List ℕ) (f : Brings) (g : ℕ → Brings) (bs : ℕ → List ℕ) : Type 0 where
  pub hands : hands_as f 0 (run concrete (other_code (AllocateAll bytes)) (d, b)) ≡ (one_by_one_as g bs 0 (list_of bytes) d).0
  pub ends_so : ends_as f 0 (run concrete (other_code (AllocateAll bytes)) (d, b))
      ≡ (End (length (list_of bytes)) [], none_gathered (one_by_one_as g bs 0 (list_of bytes) d).1)

pub in-order-as : (d : Driver) (b bytes : List ℕ)
    → Settled d → d.globals.stage ≡ 1 → ((j : ℕ) → get_or bytes j 0 < 256) → (reading_of bytes).answer ≡ reading.Listed
    → (trial_of d.allocator (list_of bytes)).refusal ≡ 0 → (f : Brings) (g : ℕ → Brings) (bs : ℕ → List ℕ)
    → InOrderAs d b bytes f g bs
in-order-as d b bytes s stage small reads given f g bs =
    let o = run concrete (other_code (AllocateAll bytes)) (d, b) in
    let r = in_order_lem d b bytes s stage small reads given in
    let z = singly g bs 0 (list_of bytes) d b in
    record {
      hands = to-hands f 0 o o ((whole bytes).same d b b) ∙ r.hands ∙ sym (ap (λ (x : List Access × Driver). x.0) z);
      ends_so =
          to-ends f 0 o o ((whole bytes).same d b b) ∙ ap (λ (x : answers.Answer × St). (x.0, x.1.0)) r.ends_so
          ∙ sym (ap (λ (x : List Access × Driver). (End (length (list_of bytes)) [], none_gathered x.1)) z);
    }
