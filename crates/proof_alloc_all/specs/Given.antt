-- An accepted allocation: the endpoint's record, and every other one as before
use Rattle.std.specs.Prelude.{Bool, true, false, cond, ◌≢◌, ◌≡◌, refl, ℕ, ◌/◌, ◌%◌, ◌<◌, eqb, ltb, leb}
use Rattle.std.proofs.Math.Path.{ap, subst}
use Rattle.std.proofs.Common.{sym, ◌∙◌, arith, lt-ltb}
use Rattle.std.proofs.Math.ListN.{length-set}
use Rattle.bits.specs.Bit.{with_bit}
use Rattle.regs.specs.declared.Dir.{Dir}
use Rattle.regs.specs.declared.Dir.TheVariants.{Out, In}
use Rattle.state.specs.declared.EpState.{EpState}
use Rattle.state.specs.declared.Allocator.{Allocator}
use Rattle.state.specs.declared.Globals.{Globals}
use Rattle.state.specs.Driver.{Driver, key, ep_on, with_on, with_allocator}
use Rattle.state.specs.Laws.{Sized, ep_on-same, ep_on-other}
use Rattle.alloc.specs.declared.Found.TheVariants.{Number, Nothing}
use Rattle.alloc.specs.declared.Answer.{Answer}
use Rattle.alloc.specs.declared.Answer.TheVariants.{Given}
use Rattle.alloc.specs.declared.Allocation.{Allocation}
use Rattle.alloc.specs.Alloc.{if, is_iso, is_free, dir_bit, asked_of, number_of, allocated}
use Rattle.alloc.specs.Outcome.{Gives, Outcome, six, seven, eight, given}
use Rattle.alloc.proofs.OutcomeLaws.{outcome}
use Rattle.descriptor.specs.declared.Endpoint.{Endpoint}
use Rattle.descriptor.specs.Trial.{direction_of, asked}
use Rattle.script_ops.specs.Records.{with_iso_sets, iso_added, with_sets, record_given, sets_given, given_to, allocated_on}
use Rattle.driver.specs.Each.{one_on}

-- ---- what the allocator gave

never : {A : Type 0} → ◌≡◌ {A = ℕ} 0 1 → A
never h = absurd (omega arith)

number-asked : (k n : ℕ) (d z l f : Bool) → if d (if z Nothing (if l Nothing (if f (Number k) Nothing))) Nothing
    ≡ Number n → n ≡ k
number-asked k n true false false true h = cc
number-asked k n true false false false h = never (cc)
number-asked k n true false true f h = never (cc)
number-asked k n true true l f h = never (cc)
number-asked k n false z l f h = never (cc)

-- an address that is asked for gives its own number
number_is : (a : Allocator) (iso : Bool) (address : ℕ) (dir : Dir) (n : ℕ) → address < 256 → number_of a iso address dir
    ≡ Number n → n ≡ address % 128
unfolding number_of asked_of
number_is a iso address dir n h q =
    number-asked (address % 128) n (eqb (address / 128) (dir_bit dir)) (eqb (address % 128) 0) (leb 16 (address % 128))
    (is_free a iso dir (address % 128))
    (rw (lt-ltb address 256 h) at q)

module _ (a : Allocator) (kind address maximum : ℕ) (dir : Dir) (n x slots : ℕ) where
  by-outcome : (z : Allocation) → Outcome a kind address maximum dir z → z.answer ≡ Given n x slots
      → Gives a (is_iso kind) dir n x slots z.after × (number_of a (is_iso kind) address dir ≡ Number n)
  by-outcome z (six h) q = never (cc)
  by-outcome z (seven h m) q = never (cc)
  by-outcome z (eight e h m l) q = never (cc)
  by-outcome z (given e base k b h m g) q =
      let pe : e ≡ n = cc in
      let px : base ≡ x = cc in
      let pk : k ≡ slots = cc in (
        subst (λ (s : ℕ). Gives a (is_iso kind) dir n x s b) pk
            (subst (λ (y : ℕ). Gives a (is_iso kind) dir n y k b) px
            (subst (λ (i : ℕ). Gives a (is_iso kind) dir i base k b) pe g)),
        m ∙ ap Number pe,
      )

module _ (a : Allocator) (e : Endpoint) (n x slots : ℕ) (q : (asked a e).answer ≡ Given n x slots) where
  gave : Gives a (is_iso e.kind) (direction_of e.address) n x slots (asked a e).after
      × (number_of a (is_iso e.kind) e.address (direction_of e.address) ≡ Number n)
  unfolding asked
  gave = by-outcome a e.kind e.address e.maximum (direction_of e.address) n x slots
      (asked a e) (outcome a e.kind e.address e.maximum (direction_of e.address)) q

  pub gives : Gives a (is_iso e.kind) (direction_of e.address) n x slots (asked a e).after
  gives = gave.0

  pub given-number : e.address < 256 → n ≡ e.address % 128
  given-number h = number_is a (is_iso e.kind) e.address (direction_of e.address) n h gave.1

-- ---- the state

sets_stage : (dir : Dir) (kind interval n : ℕ) (g : Globals) → (with_sets dir kind interval n g).stage ≡ g.stage
unfolding with_sets
sets_stage dir kind interval n g = by (is_iso kind) dir (ltb interval 2)
  where
    every : (l : Bool) → (cond l (with_iso_sets g.iso_out_eps (with_bit g.iso_in_every (n % 16) true) g) g).stage
        ≡ g.stage
    every true = refl
    every false = refl

    by : (i : Bool) (dir : Dir) (l : Bool) → (cond i (iso_added dir interval n g) g).stage ≡ g.stage
    by true Out l = refl
    by true In l = every (ltb interval 2)
    by false dir l = refl

sets-records : (dir : Dir) (kind interval n : ℕ) (d : Driver) (dir' : Dir) (m : ℕ)
    → ep_on (sets_given dir kind interval n d) dir' m ≡ ep_on d dir' m
unfolding sets_given ep_on
sets-records dir kind interval n d dir' m = refl

between-records : (d : Driver) (a : Allocator) (dir : Dir) (m : ℕ) → ep_on (with_allocator d a) dir m ≡ ep_on d dir m
unfolding ep_on
between-records d a dir m = refl

between-sized : (d : Driver) (a : Allocator) → Sized d → Sized (with_allocator d a)
between-sized d a s = record {
  eps = s.eps;
  lens = s.lens;
  stamps = s.stamps;
  paced = s.paced;
  requests
      = s.requests;
}

module _ (d : Driver) (e : Endpoint) (n x slots : ℕ) (q : (asked d.allocator e).answer ≡ Given n x slots) where
  one-is : one_on d e ≡ sets_given (direction_of e.address) e.kind e.interval n
      (record_given (direction_of e.address) e.kind e.maximum n x slots
      (with_allocator d (asked d.allocator e).after))
  unfolding one_on allocated_on asked given_to
  one-is = ap (λ (z : Answer). given_to (direction_of e.address) e.kind e.maximum e.interval z
      (with_allocator d (asked d.allocator e).after)) q

  pub one-allocator : (one_on d e).allocator ≡ (asked d.allocator e).after
  unfolding sets_given record_given with_on
  one-allocator = ap (λ (z : Driver). z.allocator) one-is

  pub one-stage : (one_on d e).globals.stage ≡ d.globals.stage
  unfolding sets_given record_given with_on
  one-stage = ap (λ (z : Driver). z.globals.stage) one-is
      ∙ sets_stage (direction_of e.address) e.kind e.interval n d.globals

  pub one-sized : Sized d → Sized (one_on d e)
  unfolding sets_given record_given with_on
  one-sized s = subst Sized (sym one-is) (record {
    eps = length-set d.eps (key (direction_of e.address) n) _ ∙ s.eps;
    lens = s.lens;
    stamps = s.stamps;
    paced = s.paced;
    requests = s.requests;
  })

  pub one-here : Sized d → ep_on (one_on d e) (direction_of e.address) n
      ≡ allocated (ep_on d (direction_of e.address) n) e.kind e.maximum x (asked d.allocator e).after.size
      slots
  unfolding record_given
  one-here s =
      let b = with_allocator d (asked d.allocator e).after in
      ap (λ (z : Driver). ep_on z (direction_of e.address) n) one-is
      ∙ sets-records (direction_of e.address) e.kind e.interval n
      (record_given (direction_of e.address) e.kind e.maximum n x slots b) (direction_of e.address) n
      ∙ ep_on-same b (direction_of e.address) n _ (between-sized d (asked d.allocator e).after s)
      ∙ ap (λ (r : EpState). allocated r e.kind e.maximum x (asked d.allocator e).after.size slots)
      (between-records d (asked d.allocator e).after (direction_of e.address) n)

  pub one-other : (dir : Dir) (m : ℕ) → key dir m ≢ key (direction_of e.address) n → ep_on (one_on d e) dir m
      ≡ ep_on d dir m
  unfolding record_given
  one-other dir m h =
      let b = with_allocator d (asked d.allocator e).after in
      ap (λ (z : Driver). ep_on z dir m) one-is
      ∙ sets-records (direction_of e.address) e.kind e.interval n
      (record_given (direction_of e.address) e.kind e.maximum n x slots b) dir m
      ∙ ep_on-other b (direction_of e.address) n _ dir m h
      ∙ between-records d (asked d.allocator e).after dir m
