-- An accepted allocation leaves its kind, modulo 4, and its maximum in the endpoint's record, and its number is taken
use Rattle.std.specs.Prelude.{true, ◌≡◌, ℕ, ◌%◌, length}
use Rattle.std.proofs.Math.Path.{refl, ap}
use Rattle.std.proofs.Common.{subst, sym, ◌∙◌, arith, get_or-set_same}
use borrow.Author.Tests.{eq-eqb}
use Rattle.bits.specs.Bit.{bit_is_set}
use Rattle.regs.specs.declared.Dir.{Dir}
use Rattle.regs.specs.declared.Dir.TheVariants.{Out, In}
use Rattle.state.specs.declared.EpState.{EpState}
use Rattle.state.specs.declared.Allocator.{Allocator}
use Rattle.state.specs.Driver.{Driver, key, no_ep, ep_on, with_on, with_allocator}
use Rattle.state.specs.Laws.{key-lt}
use Rattle.alloc.specs.declared.Answer.{Answer}
use Rattle.alloc.specs.declared.Answer.TheVariants.{Refused, Given}
use Rattle.alloc.specs.declared.Allocation.{Allocation}
use Rattle.alloc.specs.Alloc.{is_out, taken_ins, allocated, allocate_of}
use Rattle.alloc.specs.Outcome.{same_dir, Outcome, six, seven, eight, given}
use Rattle.alloc.proofs.OutcomeLaws.{outcome}
use Rattle.script_ops.specs.Records.{record_given, sets_given, given_to, allocated_on}
use Rattle.proof_bus_time.specs.Enabled.{is_taken}

-- the number that was given
number_in : Answer → ℕ
number_in (Refused n) = 0
number_in (Given e base n) = e

IsGiven : Answer → Type 0
IsGiven (Refused n) = ⊥
IsGiven (Given e base n) = Unit {0}

own : (dir : Dir) → same_dir dir dir ≡ true
unfolding is_out
own Out = refl
own In = refl

of-record : (d : Driver) (dir : Dir) (kind maximum interval e base n : ℕ) → length d.eps ≡ 32 → let r =
    ep_on (given_to dir kind maximum interval (Given e base n) d) dir e in (r.kind ≡ kind % 4) × (r.max_len ≡ maximum)
unfolding given_to sets_given record_given ep_on with_on allocated
of-record d dir kind maximum interval e base n l =
    let p = get_or-set_same d.eps (key dir e) (allocated (ep_on d dir e) kind maximum base d.allocator.size n) no_ep
    (omega (arith, l, key-lt dir e)) in
    (ap (λ (r : EpState). r.kind) p, ap (λ (r : EpState). r.max_len) p)

module _ (a : Allocator) (dir : Dir) (kind address maximum e base n : ℕ) where
  of_number : (z : Allocation) → Outcome a kind address maximum dir z → z.answer ≡ Given e base n
      → bit_is_set (taken_ins z.after dir) (e % 16) ≡ true
  unfolding IsGiven number_in
  of_number z (six l) h = absurd (subst IsGiven (sym h) tt)
  of_number z (seven m q) h = absurd (subst IsGiven (sym h) tt)
  of_number z (eight x m q l) h = absurd (subst IsGiven (sym h) tt)
  of_number z (given x y w b m q g) h =
      let t = g.number in
      let k : x ≡ e % 16 = omega (arith, ap number_in h, t.high) in
      t.takes dir (e % 16) ∙ rw (own dir, eq-eqb x (e % 16) k) refl

pub allocation-gives : (d : Driver) (dir : Dir) (kind address maximum interval e base n : ℕ)
    → length d.eps ≡ 32 → (allocate_of d.allocator kind address maximum dir).answer ≡ Given e base n
    → let d' = allocated_on d dir kind address maximum interval in ((ep_on d' dir e).kind ≡ kind % 4)
    × ((ep_on d' dir e).max_len ≡ maximum) × (is_taken d' dir e ≡ true)
unfolding allocated_on given_to sets_given record_given with_on
allocation-gives d dir kind address maximum interval e base n l h = (p.0, p.1, t)
  where
    z : Allocation
    z = allocate_of d.allocator kind address maximum dir

    after : Answer → Driver
    after x = given_to dir kind maximum interval x (with_allocator d z.after)

    p : ((ep_on (after z.answer) dir e).kind ≡ kind % 4) × ((ep_on (after z.answer) dir e).max_len ≡ maximum)
    p = subst (λ x. ((ep_on (after x) dir e).kind ≡ kind % 4) × ((ep_on (after x) dir e).max_len ≡ maximum))
        (sym h) (of-record (with_allocator d z.after) dir kind maximum interval e base n l)

    t : is_taken (after z.answer) dir e ≡ true
    t = subst (λ x. is_taken (after x) dir e ≡ true) (sym h)
        (of_number d.allocator dir kind address maximum e base n z (outcome d.allocator kind address maximum dir)
        h)
