-- A list is refused with the row that its preview tells, and not where this tells none (requests Three and Four). Rows
-- 3 and 4 come before, of both:
-- `previewed` (calls/specs/Listed.antt) and `staged`. Assumes nothing.
use Rattle.std.specs.Prelude.{Bool, true, false, cond, List, ◌≡◌, refl, ℕ, eqb}
use Rattle.std.proofs.Common.{ap, sym, ◌∙◌, eq-eqb, eqb-true}
use Rattle.state.specs.Wakes.{listed}
use Rattle.state.specs.Driver.{Driver, none_gathered}
use Rattle.descriptor.specs.declared.Endpoint.{Endpoint}
use Rattle.descriptor.specs.declared.Answer as reading-answer
use Rattle.descriptor.specs.declared.Answer.TheVariants as reading
use Rattle.descriptor.specs.Reading.{reading_of, list_of}
use Rattle.descriptor.specs.declared.preview.Said.{Said}
use Rattle.descriptor.specs.declared.preview.Said.TheVariants as said
use Rattle.descriptor.specs.declared.preview.Shown.{Shown}
use Rattle.descriptor.specs.Trial.{trial_of}
use Rattle.descriptor.specs.Preview.{shown_of, preview_of}
use Rattle.script.specs.Tree as tree
use Rattle.script.specs.Tree.{ends, asks, bind_out}
use Rattle.script.specs.Script.{run}
use Rattle.script.specs.Answers as answers
use Rattle.script.specs.Answers.{End, operation}
use Rattle.script.specs.AllocateAll.{allocate_each, allocate_tried, allocate_read}
use Rattle.script.specs.Calls.{AllocateAll, other_code}
use Rattle.script_ops.specs.Rings.{St}
use Rattle.script_ops.specs.Concrete.{concrete, go}
use Rattle.driver.specs.Each.{each_on, announce_all}
use Rattle.driver.specs.EachLaws.{each-run}

-- the row that a preview tells: 17 or 18, or the first refusal of an allocation; 0 where there is none
abbrev pub said_row : Said → ℕ → ℕ
said_row (said.Refused n) refusal = n
said_row said.Tried refusal = refusal

abbrev pub row_in : Shown → ℕ
row_in p = said_row p.said p.refusal

-- is the call refused, and with which row
abbrev pub row_of : tree.Out St answers.Answer → ℕ
row_of (ends (answers.Refused n) s) = n
row_of (ends (End n w) s) = 0
row_of (ends answers.NotYet s) = 0
row_of (ends (answers.Done bs) s) = 0
row_of (ends (answers.Shown bs k) s) = 0
row_of (asks q s k) = 0

begun-row : (o : tree.Out St ℕ) → row_of (bind_out o (λ k u. ends (End k (listed u.0.wakes)) u)) ≡ 0
begun-row (ends n s) = refl
begun-row (asks q s k) = refl

tried-row : (es : List Endpoint) (d : Driver) (b : List ℕ) (n : ℕ)
    → row_of (run {i = false} concrete (allocate_tried es n) (d, b)) ≡ n
tried-row es d b n = by (eqb n 0) refl
  where
    by : (t : Bool) → eqb n 0 ≡ t
        → row_of
        (cond t (bind_out (go (allocate_each {i = false} es) d b)
        (λ _ u. run {i = false} concrete (operation (announce_all es)) u))
        (ends (answers.Refused n) (d, b))) ≡ n
    by false e = refl
    by true e =
        ap (λ (o : tree.Out St Unit). row_of (bind_out o
        (λ _ u. run {i = false} concrete (operation (announce_all es)) u))) (each-run es d b)
        ∙ begun-row (go (announce_all es) (none_gathered (each_on d es)) b) ∙ sym (eqb-true n 0 e)

pub same_row : (d : Driver) (b bytes : List ℕ) → d.globals.stage ≡ 1
    → row_of (run concrete (other_code (AllocateAll bytes)) (d, b)) ≡ row_in (preview_of d.allocator bytes)
unfolding shown_of
same_row d b bytes stage =
    ap (λ (t : Bool). row_of (cond t (run {i = false} concrete (allocate_read bytes (reading_of bytes).answer) (d, b))
    (ends (answers.Refused 4) (d, b))))
    (eq-eqb d.globals.stage 1 stage) ∙ by (reading_of bytes).answer
  where
    by : (x : reading-answer.Answer) → row_of (run {i = false} concrete (allocate_read bytes x) (d, b))
        ≡ row_in (shown_of d.allocator bytes x)
    by (reading.Refused n) = refl
    by reading.Listed = tried-row (list_of bytes) d b (trial_of d.allocator (list_of bytes)).refusal
