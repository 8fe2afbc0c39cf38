-- An allocation, an endpoint's or EP0's: the allocator is loaded, asked and stored, and what it answered is recorded. A
-- maximum above the buffer size is refused, and nothing is recorded: there the code ends after the allocator is stored.
-- Assumes nothing.
use mathlib.Core.Bool.{Bool, true, false}
use mathlib.Core.List.{List}
use mathlib.Core.Path.{◌≡◌, refl, sym, ap, ◌∙◌}
use Prim.Native.Nat.{ℕ, ◌<◌}
use lib.Dec.{eqb, ltb}
use borrow.Author.Tests.{lt-ltb}
use Rattle.regs.specs.declared.Dir.{Dir}
use Rattle.state.specs.declared.Allocator.{Allocator}
use Rattle.state.specs.Driver.{Driver, with_allocator}
use Rattle.state.specs.State.{view, saved}
use Rattle.alloc.specs.declared.Answer.{Answer}
use Rattle.alloc.specs.declared.Answer.TheVariants.{Refused}
use Rattle.alloc.specs.declared.Allocation.{Allocation}
use Rattle.alloc.specs.Alloc.{if, refused, allocate_of, allocate_ep0_of}

-- row 6
pub large : (a : Allocator) (kind address maximum : ℕ) (dir : Dir) → a.size < maximum
    → allocate_of a kind address maximum dir ≡ refused 6 a
unfolding allocate_of
large a kind address maximum dir h = simp (lt-ltb a.size maximum h)

-- row 6, or 22 before it
pub large0 : (a : Allocator) (maximum : ℕ) → a.size < maximum → allocate_ep0_of a maximum
    ≡ refused (if (eqb maximum 64) 6 22) a
unfolding allocate_ep0_of
large0 a maximum h = by (eqb maximum 64) _
  where
    by : (t : Bool) (x : Allocation) → if t (if (ltb a.size maximum) (refused 6 a) x) (refused 22 a)
        ≡ refused (if t 6 22) a
    by true x = simp (lt-ltb a.size maximum h)
    by false x = refl

-- from the bytes xs: the allocator is `asked`, its answer `gives` records
module _ (xs : List ℕ) (asked : Allocator → Allocation) (gives : ℕ → Answer → Driver → Driver) (maximum : ℕ) where
  -- the answer, and the bytes afterwards
  abbrev pub Allocates : Answer → List ℕ → Type 0
  Allocates r ys =
      let z = asked (view xs).allocator in
      (r ≡ z.answer) × ((view ys ≡ gives maximum z.answer (with_allocator (view xs) z.after))
      × (saved ys ≡ saved xs))

  abbrev pub Stored : Allocation → List ℕ → Type 0
  Stored z ys = (view ys ≡ with_allocator (view xs) z.after) × (saved ys ≡ saved xs)

  abbrev recorded : Allocation → Driver
  recorded z = gives maximum z.answer (with_allocator (view xs) z.after)

  module _ (a : Allocator) (z : Allocation) (loaded : a ≡ (view xs).allocator) (said : z ≡ asked a) (ys : List ℕ)
      (stored : Stored z ys) where
    answered : z.answer ≡ (asked (view xs).allocator).answer
    answered = ap (λ (w : Allocation). w.answer) (said ∙ ap asked loaded)

    -- refused, and the code ends
    pub ended : (n : ℕ) → asked a ≡ refused n a → ((d : Driver) → gives maximum (Refused n) d ≡ d)
        → Allocates z.answer ys
    ended n e nothing = (
      answered,
      (
        stored.0 ∙ ap (λ (w : Allocation). with_allocator (view xs) w.after) (said ∙ e)
            ∙ sym (nothing (with_allocator (view xs) a))
            ∙ ap recorded (sym e ∙ ap asked loaded),
        stored.1,
      ),
    )

    -- what was answered is recorded
    pub went_on_lem : (m : ℕ) (zs : List ℕ) → m ≡ maximum → (view zs ≡ gives m z.answer (view ys))
        × (saved zs ≡ saved ys) → Allocates z.answer zs
    went_on_lem m zs p g = (
      answered,
      (
        g.0 ∙ ap (λ (n : ℕ). gives n z.answer (view ys)) p ∙ ap (gives maximum z.answer) stored.0
            ∙ ap recorded (said ∙ ap asked loaded),
        g.1 ∙ stored.1,
      ),
    )
