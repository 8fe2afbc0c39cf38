-- Laws on the definitions of Listed.antt
use Rattle.std.specs.Prelude.{Bool, true, false, List, ◌≡◌, refl, ℕ, eqb}
use Rattle.std.proofs.Common.{ap, sym, ◌∙◌, eq-eqb, ne_eqb}
use Rattle.descriptor.specs.declared.Endpoint.{Endpoint}
use Rattle.descriptor.specs.declared.Answer as reading-answer
use Rattle.descriptor.specs.declared.Answer.TheVariants as reading
use Rattle.descriptor.specs.Reading.{reading_of, list_of}
use Rattle.descriptor.specs.Trial.{trial_of}
use Rattle.state.specs.Driver.{Driver, none_gathered}
use Rattle.script.specs.Tree as tree
use Rattle.script.specs.Tree.{bind_out}
use Rattle.script.specs.Script.{Script, run}
use Rattle.script.specs.Answers.{Answer, Refused, operation}
use Rattle.script.specs.AllocateAll.{allocate_read}
use Rattle.script.specs.Calls.{other, AllocateAll}
use Rattle.script.specs.Machine.{Buf, Pending, ended, begin}
use Rattle.script_ops.specs.Rings.{St}
use Rattle.script_ops.specs.Concrete.{concrete, go}
use Rattle.driver.specs.Each.{each_on, announce_all}
use Rattle.driver.specs.EachLaws.{each-run}
use Rattle.machine.specs.declared.Suspended.{Suspended}
use Rattle.machine.specs.Suspended.{machine_at, finish, drive, halts}
use Rattle.machine.specs.Rows.{is_idle, stop_of}
use Rattle.machine.proofs.RowsLaws.{back, other-call, passed, passed-idle, ends-idle, Passes}
use Rattle.calls.specs.Listed.{trying, allocated_all}

module _ (es : List Endpoint) (d : Driver) (b : Buf) (n : ℕ) (refusal : n ≡ (trial_of d.allocator es).refusal) where
  tried-as : allocated_all es d b ≡ halts (run concrete (trying es n) (d, b))
  tried-as = ap (λ (k : ℕ). halts (run concrete (trying es k) (d, b))) (sym refusal)

  pub all-refused : (u : Suspended) → is_idle u ≡ true → (n ≡ 0 → ⊥) → (ended (Refused n), machine_at u d b)
      ≡ allocated_all es d b
  all-refused u i h = ends-idle u d b (Refused n) i ∙ sym (tried-as ∙ rw (ne_eqb n 0 h))

  given : n ≡ 0 → halts (bind_out (go (announce_all es) (none_gathered (each_on d es)) b)
      (λ k t. run concrete (finish k) t)) ≡ allocated_all es d b
  given h = sym (tried-as ∙ rw (eq-eqb n 0 h)
      (ap (λ (o : tree.Out St Unit). halts (bind_out o (λ _ t. run {i = false} concrete (operation (announce_all es)) t)))
      (each-run es d b)))

  -- all are allocated, and no wake-up is gathered yet
  pub all_given : (between after : Driver) (o : tree.Out St ℕ)
      → n ≡ 0 → o ≡ go (announce_all es) after b → after ≡ none_gathered between → between ≡ each_on d es
      → halts (bind_out o (λ k t. run concrete (finish k) t)) ≡ allocated_all es d b
  all_given between after o h announced cleared each =
      ap (λ (x : tree.Out St ℕ). halts (bind_out x (λ k t. run concrete (finish k) t)))
      (announced ∙ ap (λ (x : Driver). go (announce_all es) x b) (cleared ∙ ap none_gathered each))
      ∙ given h

-- ---- the call

abbrev pub reading_all : List ℕ → Script false Answer
reading_all bytes = allocate_read bytes (reading_of bytes).answer

module _ (u : Suspended) (d : Driver) (a b : Buf) (bytes : List ℕ) where
  reads : Passes 1 u d → (x : reading-answer.Answer) → (reading_of bytes).answer ≡ x
      → drive (begin (other (AllocateAll bytes))) (machine_at u d a) b
      ≡ halts (run {i = false} concrete (allocate_read bytes x) (d, b))
  reads h x e = other-call (AllocateAll bytes) 1 (reading_all bytes) u d a b refl ∙ passed 1 u d b (reading_all bytes) h
      ∙ ap (λ (z : reading-answer.Answer). halts (run {i = false} concrete (allocate_read bytes z) (d, b))) e

  pub all-unread : (n : ℕ) → Passes 1 u d → (reading_of bytes).answer ≡ reading.Refused n
      → (ended (Refused n), machine_at u d b) ≡ drive (begin (other (AllocateAll bytes))) (machine_at u d a) b
  all-unread n h e = back (reads h (reading.Refused n) e)
      (ap (λ (w : Pending Answer Driver). (ended (Refused n), record { under_way_lem = w; st = d; buf = b }))
      (passed-idle 1 u d h))

  pub all_read : (es : List Endpoint) → Passes 1 u d → (reading_of bytes).answer ≡ reading.Listed
      → es ≡ list_of bytes → allocated_all es d b ≡ drive (begin (other (AllocateAll bytes))) (machine_at u d a) b
  all_read es h e l = back (reads h reading.Listed e) (ap (λ (x : List Endpoint). allocated_all x d b) l)

-- no row: nothing was under way
idle-of : (x : Bool) (k stage : ℕ) → eqb (stop_of x k stage) 0 ≡ true → x ≡ true
unfolding stop_of
idle-of true k stage h = refl
idle-of false k stage h = h

pub passes-idle : (u : Suspended) (d : Driver) → Passes 1 u d → is_idle u ≡ true
passes-idle u d h = idle-of (is_idle u) 1 d.globals.stage h
