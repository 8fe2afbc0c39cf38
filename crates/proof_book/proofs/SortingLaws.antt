-- Laws on the definitions of Sorting.antt
use Rattle.std.specs.Prelude.{Bool, true, false, cond, List, ◌∷◌, ◌≢◌, ◌≡◌, refl, ℕ, zero, ◌+◌, ◌%◌, ◌<◌, ltb}
use Rattle.std.proofs.Common.{true≢false, sym, ◌∙◌, arith, get_or-set_same, get_or-set_other, eq-eqb, ne_eqb}
use Rattle.std.proofs.Math.Path.{ap}
use Rattle.std.proofs.Math.Nat.{zero-div}
use Rattle.std.proofs.Math.ListN.{length-set}
use Rattle.bits.specs.Bit.{bit_is_set, with_bit}
use Rattle.bits.specs.BitLaws.{set-with}
use Rattle.regs.specs.declared.Dir.{Dir}
use Rattle.regs.specs.declared.Dir.TheVariants.{Out, In}
use Rattle.state.specs.declared.EpState.{EpState}
use Rattle.state.specs.declared.Globals.{Globals}
use Rattle.state.specs.declared.Allocator.{Allocator}
use Rattle.state.specs.Fresh.{fresh_driver}
use Rattle.state.specs.Driver.{Driver, key, no_ep, ep_on, with_on, with_allocator}
use Rattle.state.specs.Laws.{key-lt}
use Rattle.alloc.specs.declared.Allocation.{Allocation}
use Rattle.alloc.specs.Alloc as alloc
use Rattle.alloc.specs.Alloc.{is_out, taken_ins, allocated_ins, is_iso, allocated, allocate_of, allocate_ep0_of, with_next}
use Rattle.alloc.specs.Outcome.{same_dir, Takes, Outcome, six, seven, eight, given}
use Rattle.alloc.proofs.OutcomeLaws.{stays, outcome}
use Rattle.alloc.specs.Run.{endpoint, ep0, Step, kept, gave_ep0}
use Rattle.alloc.proofs.RunLaws.{step}
use Rattle.alloc.specs.Sound.{Sound}
use Rattle.alloc.proofs.SoundLaws.{sound-call}
use Rattle.script.specs.Script.{Act}
use Rattle.script.specs.Statics.{is_on}
use Rattle.script.specs.Simulates.{Phase}
use Rattle.script.specs.Answers.{Answer}
use Rattle.script.specs.Machine.{Buf, Event, Machine, start}
use Rattle.script.specs.Calls.{Config, Op, calls, start_row}
use Rattle.script.specs.TransferKinds.{Among}
use Rattle.script_ops.specs.Records.{with_iso_sets, iso_added, with_sets, record_given, sets_given, given_to, allocated_on}
use Rattle.script_ops.specs.Records.{started_with, allocated_ep0}
use Rattle.script_ops.specs.Rings.{St}
use Rattle.script_ops.specs.Concrete.{concrete}
use Rattle.machine.specs.Suspended.{driver_of}
use Rattle.proof_book.specs.Pages.{Pages}
use Rattle.proof_book.specs.Coupling.{Coupling, Shape}
use Rattle.proof_book.specs.CellsLaws.{key-by, on-key}
use Rattle.proof_book.proofs.StartUpLaws.{fresh_kept}
use Rattle.proof_book.specs.TransferKinds.{Steady}
use Rattle.proof_book.specs.TransferKindsLaws.{others, put-steady, rings-steady, hand-steady, row-steady}
use Rattle.proof_book.specs.LeavesLaws.{turns, by-act}
use Rattle.proof_book.specs.Always.{after}
use Rattle.proof_book.specs.AlwaysLaws.{Invariant, from-accepted}
use Rattle.proof_book.specs.Sorting.{sorts_of, Sorting}

pub ep0-plain : {d : Driver} → Sorting d → (dir : Dir) → sorts_of d dir 0 ≡ false
ep0-plain k dir = k.free dir 0 (k.sound.not_zero dir)

-- ---- all but allocations

steady-sorting : {d d' : Driver} → Steady d d' → Sorting d → Sorting d'
steady-sorting p k = record {
  places = p.places ∙ k.places;
  sound = rw p.allocator k.sound;
  free = λ dir e h. ap is_on (p.flags dir e) ∙ k.free dir e (rw p.allocator at h);
  has = record {
    flags = λ dir e. refl;
    outs = λ e l h. ap is_on (p.flags Out e) ∙ k.has.outs e l (rw p.outs at h);
    every = λ e l h. ap is_on (p.flags In e) ∙ k.has.every e l (rw p.every at h);
  };
  codes = p.codes ∙ k.codes;
}

-- ---- an allocator by which no more numbers are free

further-sorting : {d : Driver} → Sorting d → (a : Allocator)
    → Sound a → ((dir : Dir) (j : ℕ) → bit_is_set (taken_ins a dir) j ≡ false → bit_is_set (taken_ins d.allocator dir) j ≡ false)
    → Sorting (with_allocator d a)
unfolding ep_on
further-sorting k a s f = record {
  places = k.places;
  sound = s;
  free = λ dir e h. k.free dir e (f dir (e % 16) h);
  has = record { flags = λ dir e. refl; outs = k.has.outs; every = k.has.every };
  codes = k.codes;
}

untaken : {a b : Allocator} {iso : Bool} {dir : Dir} {e : ℕ}
    → Takes a iso dir e b → (d : Dir) (j : ℕ) → bit_is_set (taken_ins b d) j ≡ false → bit_is_set (taken_ins a d) j ≡ false
untaken {a = a} {dir = dir} {e = e} t d j h = by (bit_is_set (taken_ins a d) j) refl
  where
    by : (x : Bool) → bit_is_set (taken_ins a d) j ≡ x → bit_is_set (taken_ins a d) j ≡ false
    by true q = absurd (true≢false (sym (t.takes d j ∙ stays (same_dir dir d) (taken_ins a d) e j q) ∙ h))
    by false q = q

-- ---- EP0's start

ep0-sorting : {d : Driver} → Sorting d → (maximum : ℕ) (z : Allocation) → Sound z.after
    → Step d.allocator (ep0 maximum) z → Sorting (started_with maximum z.answer (with_allocator d z.after))
unfolding started_with with_next taken_ins
ep0-sorting {d = d} k maximum z s (kept c n w full) = further-sorting k d.allocator s (λ dir j h. h)
ep0-sorting {d = d} k maximum z s (gave_ep0 m x small l) = steady-sorting
    (others _ _ refl refl refl refl refl) (further-sorting k (with_next d.allocator (d.allocator.next + 1)) s same)
  where
    same : (dir : Dir) (j : ℕ) → bit_is_set (taken_ins (with_next d.allocator (d.allocator.next + 1)) dir) j ≡ false
        → bit_is_set (taken_ins d.allocator dir) j ≡ false
    same Out j h = h
    same In j h = h

-- ---- an endpoint's allocation

-- the set of a direction
abbrev iso_set : Globals → Dir → ℕ
iso_set g Out = g.iso_out_eps
iso_set g In = g.iso_in_every

-- a set has the endpoints that it had, but for the one that is given
sets-there : (dir : Dir) (kind interval e : ℕ) (g : Globals) (dir' : Dir) (x : ℕ)
    → x < 16 → key dir' x ≢ key dir e → bit_is_set (iso_set (with_sets dir kind interval e g) dir') x ≡ bit_is_set (iso_set g dir') x
unfolding with_sets key
sets-there dir kind interval e g dir' x l q = by (is_iso kind) dir dir' q
  where
    not-it : (w : ℕ) → x % 16 ≢ e % 16 → bit_is_set (with_bit w (e % 16) true) x ≡ bit_is_set w x
    not-it w q = set-with w (e % 16) true x ∙ rw (ne_eqb (e % 16) x (λ z. q (omega (arith, z)))) refl

    outs : (often : Bool)
        → bit_is_set (cond often (with_iso_sets g.iso_out_eps (with_bit g.iso_in_every (e % 16) true) g)
        g).iso_out_eps x
        ≡ bit_is_set g.iso_out_eps x
    outs true = refl
    outs false = refl

    every : (often : Bool) → x % 16 ≢ e % 16
        → bit_is_set (cond often (with_iso_sets g.iso_out_eps (with_bit g.iso_in_every (e % 16) true) g)
        g).iso_in_every x
        ≡ bit_is_set g.iso_in_every x
    every true q = not-it g.iso_in_every q
    every false q = refl

    by : (i : Bool) (dir dir' : Dir) → key dir' x ≢ key dir e
        → bit_is_set (iso_set (cond i (iso_added dir interval e g) g) dir') x ≡ bit_is_set (iso_set g dir') x
    by false dir dir' q = refl
    by true Out Out q = not-it g.iso_out_eps q
    by true Out In q = refl
    by true In Out q = outs (ltb interval 2)
    by true In In q = every (ltb interval 2) (λ z. q (ap (λ (k : ℕ). 16 + k) z))

sets-plain : (dir : Dir) (kind interval e : ℕ) (g : Globals) → is_iso kind ≡ false → with_sets dir kind interval e g ≡ g
unfolding with_sets
sets-plain dir kind interval e g h = rw h refl

flag-says : (i : Bool) → is_on (alloc.flag i) ≡ i
unfolding is_on
flag-says true = refl
flag-says false = refl

own : (dir : Dir) → same_dir dir dir ≡ true
unfolding is_out
own Out = refl
own In = refl

module _ {d : Driver} (k : Sorting d) (dir : Dir) (kind maximum interval e base n : ℕ) (b : Allocator)
    (t : Takes d.allocator (is_iso kind) dir e b) where
  abbrev taker : Driver
  taker = sets_given dir kind interval e (record_given dir kind maximum e base n (with_allocator d b))

  flag-here : (x : ℕ) → x % 16 ≡ e % 16 → sorts_of taker dir x ≡ is_iso kind
  unfolding sets_given record_given ep_on with_on allocated
  flag-here x q = rw (key-by dir x e q)
      (ap (λ (r : EpState). is_on r.iso) (get_or-set_same d.eps (key dir e) _ no_ep
      (omega (arith, k.places, key-lt dir e)))
      ∙ flag-says (is_iso kind))

  flag-there : (dir' : Dir) (x : ℕ) → key dir' x ≢ key dir e → sorts_of taker dir' x ≡ sorts_of d dir' x
  unfolding sets_given record_given ep_on with_on
  flag-there dir' x q = ap (λ (r : EpState). is_on r.iso) (get_or-set_other d.eps (key dir e) (key dir' x) _ no_ep q)

  number : (x : ℕ) → x % 16 ≡ e % 16 → x % 16 ≡ e
  number x q = omega (arith, q, t.high)

  taken_here : (x : ℕ) → x % 16 ≡ e % 16 → bit_is_set (taken_ins b dir) (x % 16) ≡ true
  taken_here x q = t.takes dir (x % 16) ∙ rw (own dir, eq-eqb e (x % 16) (sym (number x q))) refl

  free-after : (dir' : Dir) (x : ℕ) → bit_is_set (taken_ins b dir') (x % 16) ≡ false → sorts_of taker dir' x ≡ false
  free-after = on-key (λ dir' x. bit_is_set (taken_ins b dir') (x % 16) ≡ false → sorts_of taker dir' x ≡ false) dir e
      (λ x q h. absurd (true≢false (sym (taken_here x q) ∙ h)))
      (λ dir' x q h. flag-there dir' x q ∙ k.free dir' x (untaken t dir' (x % 16) h))

  among-before : (dir' : Dir) → Among (sorts_of d dir') (iso_set d.globals dir')
  among-before Out = k.has.outs
  among-before In = k.has.every

  -- its own number had no sort, so it was in no set
  among-here : (x : ℕ) → x % 16 ≡ e % 16 → x < 16 → bit_is_set (iso_set (with_sets dir kind interval e d.globals) dir) x
      ≡ true → sorts_of taker dir x ≡ true
  among-here x q l h = by (is_iso kind) refl
    where
      by : (i : Bool) → is_iso kind ≡ i → sorts_of taker dir x ≡ true
      by true p = flag-here x q ∙ p
      by false p =
          let was : sorts_of d dir x ≡ true = among-before dir x l
          (rw (sets-plain dir kind interval e d.globals p) at h) in
          let none : sorts_of d dir x ≡ false = k.free dir x (rw (number x q) t.untaken) in
          absurd (true≢false (sym was ∙ none))

  among-after : (dir' : Dir) → Among (sorts_of taker dir') (iso_set (with_sets dir kind interval e d.globals) dir')
  among-after = on-key
      (λ dir' x. x < 16 → bit_is_set (iso_set (with_sets dir kind interval e d.globals) dir') x ≡ true
      → sorts_of taker dir' x ≡ true) dir e among-here
      (λ dir' x q l h. flag-there dir' x q ∙ among-before dir' x l
      (sym (sets-there dir kind interval e d.globals dir' x l q) ∙ h))

  given-sorting : Sound b → Sorting taker
  unfolding sets_given record_given with_on
  given-sorting s = record {
    places = length-set d.eps (key dir e) _ ∙ k.places;
    sound = s;
    free = free-after;
    has = record { flags = λ dir e. refl; outs = among-after Out; every = among-after In };
    codes = k.codes;
  }

allocated-sorting : {d : Driver} → Sorting d → (dir : Dir) (kind address maximum interval : ℕ) (z : Allocation)
    → Sound z.after → Outcome d.allocator kind address maximum dir z
    → Sorting (given_to dir kind maximum interval z.answer (with_allocator d z.after))
unfolding given_to
allocated-sorting {d = d} k dir kind address maximum interval z s (six l)
    = further-sorting k d.allocator s (λ dir j h. h)
allocated-sorting {d = d} k dir kind address maximum interval z s (seven m q)
    = further-sorting k d.allocator s (λ dir j h. h)
allocated-sorting {d = d} k dir kind address maximum interval z s (eight e m q l)
    = further-sorting k d.allocator s (λ dir j h. h)
allocated-sorting {d = d} k dir kind address maximum interval z s (given e base n a m q g)
    = given-sorting k dir kind maximum interval e base n a g.number s

-- ---- each operation

acts : (q : Act) (s : St) → Sorting s.0 → Sorting (concrete.act q s).0
unfolding allocated_on allocated_ep0
acts q s k =
    let a = s.0.allocator in
    by-act {K = λ _ d. Sorting d} s (λ q _ p. steady-sorting (rings-steady (turns q) p) k)
    (λ dir kind address maximum interval. allocated-sorting k dir kind address maximum interval
    (allocate_of a kind address maximum dir)
    (sound-call a (endpoint kind address maximum dir) k.sound) (outcome a kind address maximum dir))
    (λ maximum. ep0-sorting k maximum (allocate_ep0_of a maximum) (sound-call a (ep0 maximum) k.sound)
    (step a (ep0 maximum))) q

keeps : Invariant driver_of Sorting
keeps = record {
  put = λ c v s k. steady-sorting (put-steady c v s) k;
  act = acts;
  hand = λ q s k. steady-sorting (hand-steady q s) k;
  row = λ g n s k. steady-sorting (row-steady g n s) k;
}

-- ---- start-up

unshaped : {φ : Phase} {b : Buf} {d : Driver} {t : Pages} → Coupling φ b d t
    → (dir : Dir) (e : ℕ) → bit_is_set (taken_ins d.allocator dir) (e % 16) ≡ false → sorts_of d dir e ≡ false
unfolding is_on
unshaped {d = d} r dir e h = by (bit_is_set (allocated_ins d.allocator dir) (e % 16)) refl (r.shape dir e)
  where
    by : (u : Bool) → bit_is_set (allocated_ins d.allocator dir) (e % 16) ≡ u → Shape u d.allocator dir (ep_on d dir e)
        → sorts_of d dir e ≡ false
    by true q x = absurd (true≢false (sym q ∙ (sym (r.sound.taken dir (e % 16)) ∙ h)))
    by false q x = rw x.iso refl

none : {X : Type 0} (e : ℕ) → bit_is_set 0 e ≡ true → X
unfolding bit_is_set
none e h = absurd (true≢false (sym h ∙ rw zero-div refl))

fresh-sorting : (c : Config) (b : Buf) → start_row c b ≡ zero → Sorting (driver_of.fresh c)
unfolding fresh_driver
fresh-sorting c b row =
    let r = fresh_kept c b row in
    record {
      places = r.sized.eps;
      sound = r.sound;
      free = unshaped r;
      has = record { flags = λ dir e. refl; outs = λ e l h. none e h; every = λ e l h. none e h };
      codes = refl;
    }

-- after every list of calls from an accepted start-up
pub after-sorting : (c : Config) (b : Buf) → start_row c b ≡ zero → (es : List (Event Config Op)) (m : Machine Answer Driver)
    → Sorting (after calls driver_of (record { call = start c; lent = b } ∷ es) m).st
after-sorting = from-accepted driver_of keeps calls fresh-sorting
