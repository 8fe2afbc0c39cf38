-- A preview is what the calls of its own give each endpoint, one after the other on a copy of the state, up to the
-- first refusal (request Four)
use Rattle.std.specs.Prelude.{List, [], ◌∷◌, ◌≡◌, ℕ, ◌+◌, ◌<◌, length}
use Rattle.std.proofs.Common.{◌∙◌}
use Rattle.state.specs.Driver.{Driver}
use Rattle.alloc.specs.declared.Answer.TheVariants.{Refused}
use Rattle.descriptor.specs.declared.Endpoint.{Endpoint}
use Rattle.descriptor.specs.declared.Answer.TheVariants as reading
use Rattle.descriptor.specs.Reading.{list_of}
use Rattle.descriptor.specs.declared.preview.Said.TheVariants as said
use Rattle.descriptor.specs.Preview.{preview_of}
use Rattle.descriptor.specs.OneByOne.{padded}
use Rattle.script.specs.Tree.{ends}
use Rattle.script.specs.Script.{run}
use Rattle.script.specs.Answers as answers
use Rattle.script.specs.Answers.{End}
use Rattle.script_ops.specs.Rings.{St}
use Rattle.script_ops.specs.Concrete.{concrete}
use Rattle.proof_alloc_all.specs.Hands.{ends_with, allocation}

-- from a state, for a list: the numbers that the calls end with, the refusal that ended it or 0, and the state then
pub data Calls : St → List Endpoint → List ℕ → ℕ → St → Type 0 where
  all_given : (s : St) → Calls s [] [] 0 s
  refused : (s : St) (e : Endpoint) (es : List Endpoint) (n : ℕ) → run concrete (allocation e) s
      ≡ ends (answers.Refused n) s → Calls s (e ∷ es) [] n s
  ended : (s t u : St) (e : Endpoint) (es : List Endpoint) (k : ℕ) → ends_with (run concrete (allocation e) s)
      ≡ (End k [], t) → (ns : List ℕ) (n : ℕ)
      → Calls t es ns n u → Calls s (e ∷ es) (k ∷ ns) n u

-- a descriptor without error: the preview's numbers and its refusal are those of the calls, and its buffers those that
-- the calls took
pub record ByCalls (d : Driver) (b bytes : List ℕ) : Type 0 where
  pub numbers : List ℕ
  pub buffers : ℕ
  pub refusal : ℕ
  pub after : St
  pub calls : Calls (d, b) (list_of bytes) numbers refusal after
  pub taken : after.0.allocator.next ≡ d.allocator.next + buffers
  pub same : preview_of d.allocator bytes
      ≡ record {
        said = said.Tried;
        numbers = padded numbers;
        count = length numbers;
        buffers = buffers;
        refusal
            = refusal;
      }
