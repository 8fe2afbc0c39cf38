-- A preview is what the calls of its own give each endpoint, one after the other on a copy of the state, up to the
-- first refusal (request Four)
use Rattle.std.specs.Prelude.{Bool, false, cond, List, ◌∷◌, ◌≡◌, refl, ℕ, ◌+◌, ◌<◌, get_or}
use Rattle.std.proofs.Common.{ap, subst, ◌∙◌, eq-eqb}
use Rattle.state.specs.declared.Allocator.{Allocator}
use Rattle.state.specs.Wakes.{unwoken}
use Rattle.state.specs.Driver.{Driver, with_allocator, none_gathered}
use Rattle.alloc.specs.declared.Answer.{Answer}
use Rattle.alloc.specs.declared.Answer.TheVariants.{Refused}
use Rattle.alloc.specs.Alloc.{allocate_of}
use Rattle.descriptor.specs.declared.Endpoint.{Endpoint}
use Rattle.descriptor.specs.declared.Answer.TheVariants as reading
use Rattle.descriptor.specs.Reading.{reading_of, list_of}
use Rattle.descriptor.specs.ListsLaws.{few}
use Rattle.descriptor.specs.ReadBackLaws.{accepted}
use Rattle.descriptor.specs.declared.preview.Said.TheVariants as said
use Rattle.descriptor.specs.declared.preview.Trial.{Trial}
use Rattle.descriptor.specs.Trial.{direction_of, asked}
use Rattle.descriptor.specs.Preview.{shown, shown_of}
use Rattle.descriptor.specs.Asked.{Fair, fair-asked}
use Rattle.descriptor.specs.OneByOne.{Run, all, stopped, goes, buffers-used, one_by_one_lem}
use Rattle.script.specs.Tree.{ends}
use Rattle.script.specs.Script.{run}
use Rattle.script.specs.Answers as answers
use Rattle.script.specs.Driver.{allocated_as}
use Rattle.script_ops.specs.Records.{given_to, allocated_on}
use Rattle.script_ops.specs.Concrete.{concrete}
use Rattle.driver.specs.Each.{one_on}
use Rattle.proof_alloc_all.specs.Hands.{allocation}
use Rattle.proof_alloc_all.specs.Given.{one-allocator, one-stage}
use Rattle.proof_alloc_all.specs.Settled.{Settled}
use Rattle.proof_alloc_all.specs.SettledLaws.{settled}
use Rattle.proof_alloc_all.proofs.OrderLaws.{settled-wakes, one-ends}
use Rattle.proof_alloc_all.specs.Preview.{all_given, refused, ended, Calls, ByCalls}

-- ---- a refused call changes nothing

refused-on : (d : Driver) (e : Endpoint) (n : ℕ) → (asked d.allocator e).answer ≡ Refused n → one_on d e ≡ d
unfolding one_on allocated_on given_to asked
refused-on d e n q =
    let f : Fair d.allocator (asked d.allocator e).after (Refused n) =
    subst (Fair d.allocator (asked d.allocator e).after) q (fair-asked d.allocator e) in
    ap (λ (z : Answer). given_to (direction_of e.address) e.kind e.maximum e.interval z
    (with_allocator d (asked d.allocator e).after)) q
    ∙ ap (with_allocator d) f.2

refused-run : (d : Driver) (b : List ℕ) (e : Endpoint) (n : ℕ) → d.globals.stage ≡ 1
    → (asked d.allocator e).answer ≡ Refused n → run concrete (allocation e) (d, b) ≡ ends (answers.Refused n) (d, b)
unfolding one_on asked
refused-run d b e n stage q =
    ap (λ (t : Bool). cond t (run {i = false} concrete (allocated_as (direction_of e.address) e.kind e.maximum
    (allocate_of d.allocator e.kind e.address e.maximum (direction_of e.address)).answer) (one_on d e, b))
    (ends (answers.Refused 4) (d, b))) (eq-eqb d.globals.stage 1 stage)
    ∙ ap (λ (z : Answer). run {i = false} concrete (allocated_as (direction_of e.address) e.kind e.maximum z)
    (one_on d e, b)) q
    ∙ ap (λ (z : Driver). ends (answers.Refused n) (z, b)) (refused-on d e n q)

-- ---- the allocator's run is the calls'

record Ran (d : Driver) (b : List ℕ) (es : List Endpoint) (ns : List ℕ) (n : ℕ) (c : Allocator) : Type 0 where
  after : Driver
  calls : Calls (d, b) es ns n (after, b)
  leaves : after.allocator ≡ c

by-calls : {a c : Allocator} {es : List Endpoint} {ns : List ℕ} {buffers n : ℕ} → Run a es ns buffers n c
    → (d : Driver) (b : List ℕ)
    → d.allocator ≡ a → Settled d → d.globals.stage ≡ 1 → Ran d b es ns n c
by-calls (all a) d b h s stage = record { after = d; calls = all_given (d, b); leaves = h }
by-calls (stopped a e es n q l m) d b h s stage = record {
  after = d;
  calls = refused (d, b) e es n (refused-run d b e n stage (ap (λ (z : Allocator). (asked z e).answer) h ∙ q));
  leaves = h;
}
by-calls (goes a e es k base slots q ns buffers n c r) d b h s stage =
    let p = ap (λ (z : Allocator). (asked z e).answer) h ∙ q in
    let d2 = none_gathered (one_on d e) in
    let i = by-calls r d2 b (one-allocator d e k base slots p ∙ ap (λ (z : Allocator). (asked z e).after) h)
    (settled-wakes (one_on d e) (unwoken (one_on d e).wakes) (settled d e k base slots p s))
    (one-stage d e k base slots p ∙ stage) in
    record {
      after = i.after;
      calls = ended (d, b) (d2, b) (i.after, b) e es k (one-ends d b e k base slots p s stage) ns n i.calls;
      leaves = i.leaves;
    }

pub previewed-by-calls : (d : Driver) (b bytes : List ℕ) → Settled d → d.globals.stage ≡ 1
    → ((j : ℕ) → get_or bytes j 0 < 256)
    → (reading_of bytes).answer ≡ reading.Listed → ByCalls d b bytes
unfolding shown_of
previewed-by-calls d b bytes s stage small listed =
    let es = list_of bytes in
    let o = one_by_one_lem d.allocator es (few es (accepted bytes small listed).good) in
    let r = by-calls o.run d b refl s stage in
    record {
      numbers = o.numbers;
      buffers = o.buffers;
      refusal = o.refusal;
      after = (r.after, b);
      calls = r.calls;
      taken = ap (λ (z : Allocator). z.next) r.leaves ∙ buffers-used o.run;
      same = rw listed (ap (λ (t : Trial). shown t) o.trial);
    }
