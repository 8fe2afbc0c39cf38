-- Laws on the definitions of Each.antt
use Rattle.std.specs.Prelude.{false, List, [], ◌∷◌, ◌++◌, ◌≡◌, refl, ℕ, zero, suc, ◌+◌, ◌-◌, ◌%◌, length, get_or}
use Rattle.std.proofs.Common.{ap, sym, ◌∙◌, add-one, arith, length-append}
use Rattle.descriptor.specs.declared.Endpoint.{Endpoint}
use Rattle.descriptor.specs.Endpoints.{none}
use Rattle.descriptor.specs.Writing.{up_to}
use Rattle.descriptor.specs.Trial.{direction_of}
use Rattle.state.specs.Driver.{Driver}
use Rattle.script.specs.Tree.{ends}
use Rattle.script.specs.AllocateAll as script
use Rattle.script.specs.AllocateAll.{allocate_each}
use Rattle.script_ops.specs.Concrete.{go}
use Rattle.driver.specs.Announce.{announcing}
use Rattle.driver.specs.Each.{one_on, each_on, announce_all}

-- that is the script's
pub each-run : (es : List Endpoint) (d : Driver) (b : List ℕ) → go (allocate_each {i = false} es) d b
    ≡ ends tt (each_on d es, b)
unfolding allocate_each each_on one_on
each-run [] d b = refl
each-run (e ∷ es) d b = each-run es (one_on d e) b

each_snoc : (es : List Endpoint) (d : Driver) (e : Endpoint) → each_on d (es ++ (e ∷ [])) ≡ one_on (each_on d es) e
unfolding each_on
each_snoc [] d e = refl
each_snoc (x ∷ es) d e = each_snoc es (one_on d x) e

pub each_none : (d : Driver) (es : List Endpoint) → each_on d (up_to 0 es) ≡ d
unfolding up_to each_on
each_none d es = refl

pub each_more : (d : Driver) (es : List Endpoint) (i : ℕ) → each_on d (up_to (i + 1) es)
    ≡ one_on (each_on d (up_to i es)) (get_or es i none)
unfolding up_to
each_more d es i = rw add-one (each_snoc (up_to i es) d (get_or es i none))

record Headed (x : Endpoint) (n : ℕ) (es : List Endpoint) : Type 0 where
  left : List Endpoint
  same : es ≡ x ∷ left
  many : length left ≡ n

headed-more : (x e : Endpoint) (n : ℕ) (es : List Endpoint) → Headed x n es → Headed x (suc n) (es ++ (e ∷ []))
headed-more x e n es h = record {
  left = h.left ++ (e ∷ []);
  same = ap (λ (l : List Endpoint). l ++ (e ∷ [])) h.same;
  many = omega (arith, length-append h.left (e ∷ []), h.many);
}

headed : (n : ℕ) (es : List Endpoint) → Headed (get_or es 0 none) n (up_to (suc n) es)
unfolding up_to
headed zero es = record { left = []; same = refl; many = refl }
headed (suc n) es = headed-more (get_or es 0 none) (get_or es (suc n) none) n (up_to (suc n) es) (headed n es)

pub announce-none : (es : List Endpoint) (d : Driver) (b : List ℕ) → go (announce_all (up_to 0 es)) d b ≡ ends 0 (d, b)
unfolding up_to
announce-none es d b = refl

-- the first, then as many as are left
pub announce-first : (n : ℕ) (es : List Endpoint) (d : Driver) (b : List ℕ) → (n ≡ 0 → ⊥)
    → go (announcing (n - 1) n (direction_of (get_or es 0 none).address) ((get_or es 0 none).address % 128)) d b
    ≡ go (announce_all (up_to n es)) d b
announce-first n es d b h =
    let m : n ≡ suc (n - 1) = omega arith in
    let z = headed (n - 1) es in
    sym (ap (λ (k : ℕ). go (announce_all (up_to k es)) d b) m
    ∙ ap (λ (l : List Endpoint). go (announce_all l) d b) z.same
    ∙ ap (λ (k : ℕ). go (announcing k (suc k) (direction_of (get_or es 0 none).address) ((get_or es 0 none).address % 128)) d
    b) z.many
    ∙ ap (λ (k : ℕ). go (announcing (n - 1) k (direction_of (get_or es 0 none).address) ((get_or es 0 none).address % 128)) d
    b) (sym m))
