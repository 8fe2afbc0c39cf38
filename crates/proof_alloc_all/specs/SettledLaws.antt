-- Laws on the definitions of Settled.antt
use Rattle.std.specs.Prelude.{Bool, true, false, ◌≢◌, ◌≡◌, refl, ℕ, ◌+◌, ◌*◌, ◌%◌, ◌≤◌, ◌<◌, eqb}
use Rattle.std.proofs.Common.{true≢false, sym, subst, ◌∙◌, arith, add-mul, mul-le-mul_right, eqb-true, eq-eqb}
use Rattle.std.proofs.Math.Path.{ap}
use Rattle.std.proofs.lemmas.Bool.{eqb-false}
use Rattle.bits.specs.Bit.{bit_is_set}
use Rattle.regs.specs.declared.Dir.{Dir}
use Rattle.regs.specs.declared.Dir.TheVariants.{Out, In}
use Rattle.state.specs.declared.EpState.{EpState}
use Rattle.state.specs.declared.Allocator.{Allocator}
use Rattle.state.specs.Driver.{Driver, key, ep_on}
use Rattle.state.specs.Laws.{key_apart, key-same}
use Rattle.alloc.specs.declared.Answer.TheVariants.{Given}
use Rattle.alloc.specs.Alloc.{if, is_iso, is_out, slots_of, allocated_ins, allocated}
use Rattle.alloc.specs.Outcome.{same_dir, in_added, Gives}
use Rattle.alloc.specs.Run.{endpoint}
use Rattle.alloc.specs.Sound.{Sound}
use Rattle.alloc.proofs.SoundLaws.{sound-call}
use Rattle.descriptor.specs.declared.Endpoint.{Endpoint}
use Rattle.descriptor.specs.Trial.{direction_of, asked}
use Rattle.driver.specs.Each.{one_on}
use Rattle.proof_alloc_all.specs.Given.{gives, one-allocator, one-sized, one-here, one-other}
use Rattle.proof_alloc_all.specs.Settled.{Settled}

-- endpoint n is allocated with this kind and maximum, and of all its buffers alone begin at byte x
pub record Owns (d : Driver) (dir : Dir) (n kind maximum x : ℕ) : Type 0 where
  pub low : 1 ≤ n
  pub high : n ≤ 15
  pub allocated : bit_is_set (allocated_ins d.allocator dir) n ≡ true
  pub has_kind : (ep_on d dir n).kind ≡ kind % 4
  pub has_maximum : (ep_on d dir n).max_len ≡ maximum
  pub base : (ep_on d dir n).base ≡ x
  pub armed : (ep_on d dir n).armed_slot ≡ x
  pub only : (dir' : Dir) (m : ℕ) → m ≤ 15 → bit_is_set (allocated_ins d.allocator dir') m ≡ true → (ep_on d dir' m).base ≡ x
      → key dir' m ≡ key dir n

-- ---- keys and sets

ep_on-key : (d : Driver) (dir dir' : Dir) (n m : ℕ) → key dir' m ≡ key dir n → ep_on d dir' m ≡ ep_on d dir n
unfolding ep_on
ep_on-key d dir dir' n m h = rw h

added-other : (dir dir' : Dir) (w n m : ℕ) → key dir' m ≢ key dir n → in_added (same_dir dir dir') w n m ≡ bit_is_set w m
unfolding is_out
added-other Out Out w n m h = go (eqb n m) refl
  where
    go : (t : Bool) → eqb n m ≡ t → if t true (bit_is_set w m) ≡ bit_is_set w m
    go true p = absurd (h (ap (key Out) (sym (eqb-true n m p))))
    go false p = refl
added-other In In w n m h = go (eqb n m) refl
  where
    go : (t : Bool) → eqb n m ≡ t → if t true (bit_is_set w m) ≡ bit_is_set w m
    go true p = absurd (h (ap (key In) (sym (eqb-true n m p))))
    go false p = refl
added-other Out In w n m h = refl
added-other In Out w n m h = refl

added-here : (dir : Dir) (w n : ℕ) → in_added (same_dir dir dir) w n n ≡ true
unfolding is_out
added-here Out w n = rw (eq-eqb n n refl)
added-here In w n = rw (eq-eqb n n refl)

apart-key : (a : Allocator) (dir dir' : Dir) (n m : ℕ) → n ≤ 15
    → m ≤ 15 → bit_is_set (allocated_ins a dir) n ≡ false → bit_is_set (allocated_ins a dir') m ≡ true → key dir' m ≢ key dir n
apart-key a Out Out n m h l f t k = let e : m ≡ n = omega (arith, key-same Out m n k) in true≢false
    (sym t ∙ ap (λ (j : ℕ). bit_is_set (allocated_ins a Out) j) e ∙ f)
apart-key a In In n m h l f t k = let e : m ≡ n = omega (arith, key-same In m n k) in true≢false
    (sym t ∙ ap (λ (j : ℕ). bit_is_set (allocated_ins a In) j) e ∙ f)
apart-key a Out In n m h l f t k = key_apart n m (sym k)
apart-key a In Out n m h l f t k = key_apart m n k

pub slots-some : (iso : Bool) (dir : Dir) → 1 ≤ slots_of iso dir
unfolding slots_of
slots-some false dir = omega arith
slots-some true Out = omega arith
slots-some true In = omega arith

-- ---- an accepted allocation

module _ (d : Driver) (e : Endpoint) (n x slots : ℕ) (q : (asked d.allocator e).answer ≡ Given n x slots)
    (s : Settled d) where
  g : Gives d.allocator (is_iso e.kind) (direction_of e.address) n x slots (asked d.allocator e).after
  g = gives d.allocator e n x slots q

  pub same_size : (one_on d e).allocator.size ≡ d.allocator.size
  same_size = ap (λ (a : Allocator). a.size) (one-allocator d e n x slots q) ∙ g.number.same_size

  next-is : (one_on d e).allocator.next ≡ d.allocator.next + slots
  next-is = ap (λ (a : Allocator). a.next) (one-allocator d e n x slots q) ∙ g.used

  sets : (dir : Dir) (m : ℕ) → bit_is_set (allocated_ins (one_on d e).allocator dir) m
      ≡ in_added (same_dir (direction_of e.address) dir) (allocated_ins d.allocator dir) n m
  sets dir m = ap (λ (a : Allocator). bit_is_set (allocated_ins a dir) m) (one-allocator d e n x slots q) ∙ g.allocates dir m

  before : (dir : Dir) (m : ℕ) → key dir m ≢ key (direction_of e.address) n
      → bit_is_set (allocated_ins (one_on d e).allocator dir) m ≡ true → bit_is_set (allocated_ins d.allocator dir) m ≡ true
  before dir m h t = sym (added-other (direction_of e.address) dir (allocated_ins d.allocator dir) n m h)
      ∙ sym (sets dir m) ∙ t

  new-key : (dir : Dir) (m : ℕ) → m ≤ 15 → bit_is_set (allocated_ins d.allocator dir) m ≡ true
      → key dir m ≢ key (direction_of e.address) n
  new-key dir m h t = apart-key d.allocator (direction_of e.address) dir n m
      g.number.high h (sym (s.sound.taken (direction_of e.address) n) ∙ g.number.untaken) t

  here : ep_on (one_on d e) (direction_of e.address) n
      ≡ allocated (ep_on d (direction_of e.address) n) e.kind e.maximum x (asked d.allocator e).after.size
      slots
  here = one-here d e n x slots q s.sized

  base-here : (ep_on (one_on d e) (direction_of e.address) n).base ≡ x
  unfolding allocated
  base-here = ap (λ (r : EpState). r.base) here

  -- its buffers end where the next free one begins
  pub more : x + slots * d.allocator.size ≡ (one_on d e).allocator.next * (one_on d e).allocator.size
  more = rw (same_size, next-is, g.starts) (sym (add-mul d.allocator.next slots d.allocator.size))

  some-room : 1 ≤ slots * d.allocator.size
  some-room =
      let l : 1 ≤ slots = omega (arith, g.slots, slots-some (is_iso e.kind) (direction_of e.address)) in
      omega (arith, mul-le-mul_right d.allocator.size l, s.some)

  -- a fact of every endpoint's base: of the new one's, and of the others'
  by_key : (P : ℕ → Type 0) (dir : Dir) (m : ℕ) → (key dir m ≡ key (direction_of e.address) n → P x)
      → (key dir m ≢ key (direction_of e.address) n → P (ep_on d dir m).base) → P (ep_on (one_on d e) dir m).base
  by_key P dir m f h = go (eqb (key dir m) (key (direction_of e.address) n)) refl
    where
      go : (t : Bool) → eqb (key dir m) (key (direction_of e.address) n) ≡ t → P (ep_on (one_on d e) dir m).base
      go true t = let k = eqb-true _ _ t in
          subst P (sym (ap (λ (r : EpState). r.base) (ep_on-key (one_on d e) (direction_of e.address) dir n m k)
          ∙ base-here)) (f k)
      go false t = let k = eqb-false _ _ t in subst P (sym
          (ap (λ (r : EpState). r.base) (one-other d e n x slots q dir m k))) (h k)

  sound-after : Sound (asked d.allocator e).after
  unfolding asked
  sound-after = sound-call d.allocator (endpoint e.kind e.address e.maximum (direction_of e.address))
      s.sound

  pub settled : Settled (one_on d e)
  settled = record {
    sized = one-sized d e n x slots q s.sized;
    sound = subst Sound (sym (one-allocator d e n x slots q)) sound-after;
    some = omega (arith, same_size, s.some);
    below = λ dir m h t. by_key (λ (b : ℕ). b < (one_on d e).allocator.next * (one_on d e).allocator.size) dir m
        (λ k. omega (arith, more, some-room))
        (λ k. omega (arith, more, g.starts, s.below dir m h (before dir m k t)));
  }

  pub owns : Owns (one_on d e) (direction_of e.address) n e.kind e.maximum x
  unfolding allocated
  owns = record {
    low = g.number.low;
    high = g.number.high;
    allocated = sets (direction_of e.address) n ∙ added-here (direction_of e.address) _ n;
    has_kind = ap (λ (r : EpState). r.kind) here;
    has_maximum = ap (λ (r : EpState). r.max_len) here;
    base = base-here;
    armed = ap (λ (r : EpState). r.armed_slot) here;
    only = λ dir m h t. by_key (λ (b : ℕ). b ≡ x → key dir m ≡ key (direction_of e.address) n) dir m
        (λ k _. k)
        (λ k b. absurd (omega (arith, g.starts, s.below dir m h (before dir m k t))));
  }

  -- those that had their place keep it
  pub still : (dir : Dir) (m kind maximum y : ℕ) → Owns d dir m kind maximum y → Owns (one_on d e) dir m kind maximum y
  still dir m kind maximum y o =
      let k = new-key dir m o.high o.allocated in
      let r = one-other d e n x slots q dir m k in
      let l = s.below dir m o.high o.allocated in
      record {
        low = o.low;
        high = o.high;
        allocated = sets dir m ∙ added-other (direction_of e.address) dir _ n m k ∙ o.allocated;
        has_kind = ap (λ (z : EpState). z.kind) r ∙ o.has_kind;
        has_maximum = ap (λ (z : EpState). z.max_len) r ∙ o.has_maximum;
        base = ap (λ (z : EpState). z.base) r ∙ o.base;
        armed = ap (λ (z : EpState). z.armed_slot) r ∙ o.armed;
        only = λ dir' j h t. by_key (λ (b : ℕ). b ≡ y → key dir' j ≡ key dir m) dir' j
            (λ _ b. absurd (omega (arith, g.starts, l, o.base)))
            (λ z b. o.only dir' j h (before dir' j z t) b);
      }
