-- The trial is what allocating one by one gives, up to the first refusal. Assumes nothing.
use Rattle.std.specs.Prelude.{◌≡◌, refl, List, [], ◌∷◌, ◌++◌, ℕ, suc, ◌+◌, ◌-◌, ◌≤◌, ◌<◌, length, get_or, set, replicate}
use Rattle.std.proofs.Common.{ap, ◌∙◌, append-nil, add-zero, zero-add, arith, length-append}
use Rattle.std.proofs.Math.Seq.{set-append_seam, append_snoc}
use Rattle.state.specs.declared.Allocator.{Allocator}
use Rattle.alloc.specs.declared.Answer.{Answer}
use Rattle.alloc.specs.declared.Answer.TheVariants.{Refused, Given}
use Rattle.descriptor.specs.declared.Endpoint.{Endpoint}
use Rattle.descriptor.specs.declared.preview.Trial.{Trial}
use Rattle.descriptor.specs.Trial.{asked, given, answered, step, tried, trial_of}
use Rattle.descriptor.specs.declared.Answer.TheVariants.{Listed}
use Rattle.descriptor.specs.Reading.{list_of, reading_of}
use Rattle.descriptor.specs.ListsLaws.{few}
use Rattle.descriptor.specs.ReadBackLaws.{accepted}
use Rattle.descriptor.specs.Asked.{Fair, fair-asked}
use Rattle.descriptor.specs.TrialLaws.{tried-stopped}

-- from the allocator a, for a list: the numbers given, the buffers that they take, the refusal that ended it or 0, the
-- allocator afterwards
pub data Run : Allocator → List Endpoint → List ℕ → ℕ → ℕ → Allocator → Type 0 where
  all : (a : Allocator) → Run a [] [] 0 0 a
  stopped : (a : Allocator) (e : Endpoint) (es : List Endpoint) (n : ℕ) → (asked a e).answer ≡ Refused n → 6 ≤ n → n ≤ 8
      → Run a (e ∷ es) [] 0 n a
  goes : (a : Allocator) (e : Endpoint) (es : List Endpoint) (k base slots : ℕ) → (asked a e).answer ≡ Given k base slots
      → (ns : List ℕ) (buffers n : ℕ) (b : Allocator) → Run (asked a e).after es ns buffers n b
      → Run a (e ∷ es) (k ∷ ns) (slots + buffers) n b

-- the buffers that are counted are those that are used
pub buffers-used : {a b : Allocator} {es : List Endpoint} {ns : List ℕ} {buffers n : ℕ} → Run a es ns buffers n b
    → b.next ≡ a.next + buffers
buffers-used (all a) = omega arith
buffers-used (stopped a e es n q l m) = omega arith
buffers-used (goes a e es k base slots q ns buffers n b r) =
    let i = buffers-used r in
    let u : (slots ≤ 16) × ((asked a e).after.next ≡ a.next + slots) = rw q at (fair-asked a e) in
    omega arith

-- ---- a trial under way

-- the numbers, and zeros after them
abbrev pub padded : List ℕ → List ℕ
padded ns = ns ++ replicate (32 - length ns) 0

padded-more : (ns : List ℕ) (k : ℕ) → length ns < 32 → set (padded ns) (length ns) k ≡ padded (ns ++ (k ∷ []))
padded-more ns k h =
    let a : 32 - length ns ≡ suc (31 - length ns) = omega arith in
    let b : 32 - length (ns ++ (k ∷ [])) ≡ 31 - length ns = omega (arith, length-append ns (k ∷ [])) in
    rw (a, b, set-append_seam ns 0 (replicate (31 - length ns) 0) k, append_snoc ns k (replicate (31 - length ns) 0))

-- with these numbers given so far, and no refusal
abbrev under : Allocator → List ℕ → ℕ → ℕ → Trial
under a ns buffers n = record { after = a; numbers = padded ns; count = length ns; buffers = buffers; refusal = n }

step-refused : (a : Allocator) (ns : List ℕ) (buffers : ℕ) (e : Endpoint) (n : ℕ) → (asked a e).answer ≡ Refused n
    → step (under a ns buffers 0) e ≡ under a ns buffers n
unfolding step answered
step-refused a ns buffers e n q = rw q

step_given : (a : Allocator) (ns : List ℕ) (buffers : ℕ) (e : Endpoint) (k base slots : ℕ) → (asked a e).answer
    ≡ Given k base slots → length ns < 32
    → step (under a ns buffers 0) e ≡ under (asked a e).after (ns ++ (k ∷ [])) (buffers + slots) 0
unfolding step answered given
step_given a ns buffers e k base slots q h =
    let c : length ns + 1 ≡ length (ns ++ (k ∷ [])) = omega (arith, length-append ns (k ∷ [])) in
    rw q
    (ap (λ (x : List ℕ). record {
      after = (asked a e).after;
      numbers = x;
      count = length ns + 1;
      buffers = buffers
          + slots;
      refusal = 0;
    }) (padded-more ns k h)
    ∙ ap (λ (x : ℕ). record {
      after = (asked a e).after;
      numbers = padded (ns ++ (k ∷ []));
      count = x;
      buffers = buffers
          + slots;
      refusal = 0;
    }) c)

record Rest (a : Allocator) (ns : List ℕ) (buffers : ℕ) (es : List Endpoint) : Type 0 where
  more : List ℕ
  slots : ℕ
  refusal : ℕ
  after : Allocator
  run : Run a es more slots refusal after
  same : tried (under a ns buffers 0) es ≡ under after (ns ++ more) (buffers + slots) refusal

-- nothing more is given
ended : (a : Allocator) (ns : List ℕ) (buffers n : ℕ) → under a ns buffers n ≡ under a (ns ++ []) (buffers + 0) n
ended a ns buffers n = rw (append-nil ns, add-zero buffers)

rest-refused : (a : Allocator) (ns : List ℕ) (buffers : ℕ) (e : Endpoint) (es : List Endpoint) (n : ℕ)
    → (asked a e).answer ≡ Refused n → 6 ≤ n → n ≤ 8
    → Rest a ns buffers (e ∷ es)
unfolding tried
rest-refused a ns buffers e es n q l m = record {
  more = [];
  slots = 0;
  refusal = n;
  after = a;
  run = stopped a e es n q l m;
  same =
      ap (λ (x : Trial). tried x es) (step-refused a ns buffers e n q)
      ∙ tried-stopped (under a ns buffers n) es (λ d. omega arith)
      ∙ ended a ns buffers n;
}

rest-given : (a : Allocator) (ns : List ℕ) (buffers : ℕ) (e : Endpoint) (es : List Endpoint) (k base slots : ℕ)
    → (asked a e).answer ≡ Given k base slots
    → length ns < 32 → Rest (asked a e).after (ns ++ (k ∷ [])) (buffers + slots) es → Rest a ns buffers (e ∷ es)
unfolding tried
rest-given a ns buffers e es k base slots q h j = record {
  more = k ∷ j.more;
  slots = slots + j.slots;
  refusal = j.refusal;
  after = j.after;
  run = goes a e es k base slots q j.more j.slots j.refusal j.after j.run;
  same =
      ap (λ (x : Trial). tried x es) (step_given a ns buffers e k base slots q h)
      ∙ j.same
      ∙ ap (λ (x : List ℕ). under j.after x (buffers + slots + j.slots) j.refusal) (append_snoc ns k j.more)
      ∙ ap (λ (x : ℕ). under j.after (ns ++ k ∷ j.more) x j.refusal)
      (let z : buffers + slots + j.slots ≡ buffers + (slots + j.slots) = omega arith in z);
}

rest : (es : List Endpoint) (a : Allocator) (ns : List ℕ) (buffers : ℕ) → length ns + length es ≤ 32
    → Rest a ns buffers es
unfolding tried
rest [] a ns buffers h = record {
  more = [];
  slots = 0;
  refusal = 0;
  after = a;
  run = all a;
  same
      = ended a ns buffers 0;
}
rest (e ∷ es) a ns buffers h =
    go (asked a e).answer refl (fair-asked a e)
    (λ k slots. rest es (asked a e).after (ns ++ (k ∷ [])) (buffers + slots)
    (omega (arith, length-append ns (k ∷ []))))
  where
    go : (x : Answer) → (asked a e).answer ≡ x → Fair a (asked a e).after x
        → ((k slots : ℕ) → Rest (asked a e).after (ns ++ (k ∷ [])) (buffers + slots) es)
        → Rest a ns buffers (e ∷ es)
    go (Refused n) q r i = rest-refused a ns buffers e es n q r.0 r.1
    go (Given k base slots) q r i = rest-given a ns buffers e es k base slots q (omega arith) (i k slots)

-- ---- the whole trial

pub record OneByOne (a : Allocator) (es : List Endpoint) : Type 0 where
  pub numbers : List ℕ
  pub buffers : ℕ
  pub refusal : ℕ
  pub after : Allocator
  pub run : Run a es numbers buffers refusal after
  pub trial : trial_of a es
      ≡ record { after = after; numbers = padded numbers; count = length numbers; buffers = buffers; refusal = refusal }

pub one_by_one_lem : (a : Allocator) (es : List Endpoint) → length es ≤ 32 → OneByOne a es
one_by_one_lem a es h =
    let r = rest es a [] 0 (omega arith) in
    record {
      numbers = r.more;
      buffers = r.slots;
      refusal = r.refusal;
      after = r.after;
      run = r.run;
      trial = r.same ∙ ap (λ (x : ℕ). under r.after r.more x r.refusal) (zero-add r.slots);
    }

-- of every descriptor that has neither error
pub previewed : (a : Allocator) (s : List ℕ) → ((j : ℕ) → get_or s j 0 < 256) → (reading_of s).answer ≡ Listed
    → OneByOne a (list_of s)
previewed a s b h = one_by_one_lem a (list_of s) (few (list_of s) (accepted s b h).good)
