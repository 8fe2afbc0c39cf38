-- What the points of every operation have in common: the promise of a function that leads to one. Its answer means a
-- run (m, each operation's `meaning`), which is the one asked for (f); and the access is the one that its point awaits
-- (L, each operation's `Linked`)
use Rattle.std.specs.Prelude.{List, ◌≡◌, ℕ}
use Rattle.state.specs.Driver.{Driver}
use Rattle.state.specs.State.{view, saved}
use Rattle.script.specs.Tree.{Out, Prog}

-- of a function that takes no state: on any
abbrev pub Means : {A : Type 0} → (Driver → List ℕ → Out (Driver × List ℕ) A) → Type 0 → Prog (Driver × List ℕ) A
    → Type 0
Means m L f = ((d : Driver) (b : List ℕ) → m d b ≡ f (d, b)) × L

-- of one that only looks at the lent bytes xs
abbrev pub MeansAt : {A : Type 0} → (Driver → List ℕ → Out (Driver × List ℕ) A) → Type 0 → Prog (Driver × List ℕ) A
    → List ℕ → Type 0
MeansAt m L f xs = ((b : List ℕ) → m (view xs) b ≡ f (view xs, b)) × L

-- of one that makes xs into ys; what is saved stays
abbrev pub MeansFrom : {A : Type 0} → (Driver → List ℕ → Out (Driver × List ℕ) A) → Type 0 → Prog (Driver × List ℕ) A
    → List ℕ → List ℕ → Type 0
MeansFrom m L f xs ys = ((b : List ℕ) → m (view ys) b ≡ f (view xs, b)) × ((saved ys ≡ saved xs) × L)

-- of one that makes the slots b into c too
abbrev pub MeansWithSlots : {A : Type 0} → (Driver → List ℕ → Out (Driver × List ℕ) A) → Type 0
    → Prog (Driver × List ℕ) A
    → List ℕ → List ℕ → List ℕ → List ℕ → Type 0
MeansWithSlots m L f xs b ys c = (m (view ys) c ≡ f (view xs, b)) × ((saved ys ≡ saved xs) × L)
