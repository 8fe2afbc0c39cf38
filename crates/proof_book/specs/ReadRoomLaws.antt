-- A read that is begun has room for a packet of its endpoint's maximum: each operation of a script but the assignment
-- of its request keeps it
use Rattle.std.specs.Prelude.{Bool, true, false, List, ◌≢◌, ◌≡◌, refl, ℕ, ◌+◌, ◌%◌, ◌≤◌, length, get_or, set}
use Rattle.std.proofs.Common.{true≢false, ap, sym, ◌∙◌, arith, length-set, get_or-set_same, get_or-set_other}
use Rattle.std.proofs.Math.Path.{subst}
use Rattle.std.proofs.Math.Decide.{ℕ_discrete, dec_lt}
use Rattle.std.proofs.Math.ListN.{get_or-eq_default}
use Rattle.bits.specs.Bit.{bit_is_set}
use Rattle.regs.specs.declared.Dir.{Dir}
use Rattle.regs.specs.declared.Dir.TheVariants.{Out, In}
use Rattle.state.specs.declared.EpState.{EpState}
use Rattle.state.specs.declared.Request.{Request}
use Rattle.state.specs.declared.Allocator.{Allocator}
use Rattle.state.specs.Driver.{Driver, key, no_ep, no_request, ep_on, with_on, request_on, with_request_on, with_allocator}
use Rattle.state.specs.Laws.{key-same, key_apart}
use Rattle.alloc.specs.declared.Allocation.{Allocation}
use Rattle.alloc.specs.Alloc.{taken_ins, allocate_of, allocate_ep0_of, with_next, is_iso}
use Rattle.alloc.specs.Outcome.{same_dir, Takes, Outcome, six, seven, eight, given}
use Rattle.alloc.proofs.OutcomeLaws.{stays, outcome}
use Rattle.alloc.specs.Run.{endpoint, ep0, Step, kept, gave_ep0}
use Rattle.alloc.proofs.RunLaws.{step}
use Rattle.alloc.specs.Sound.{Sound}
use Rattle.alloc.proofs.SoundLaws.{sound-call}
use Rattle.script.specs.Script.{Act}
use Rattle.script.specs.Statics.{is_on}
use Rattle.script_ops.specs.Records.{record_given, sets_given, given_to, allocated_on, started_with, allocated_ep0}
use Rattle.script_ops.specs.Rings.{St}
use Rattle.script_ops.specs.Concrete.{concrete}
use Rattle.proof_book.specs.CellsLaws.{ep_on-by}
use Rattle.proof_book.specs.LeavesLaws.{RequestsStay, turns, rings-stay, by-act}

pub record ReadRoom (d : Driver) : Type 0 where
  pub sound : Sound d.allocator
  pub reads : (e : ℕ) → is_on (request_on d Out e).begun ≡ true
      → (bit_is_set (taken_ins d.allocator Out) (e % 16) ≡ true) × ((ep_on d Out e).max_len ≤ (request_on d Out e).length)

same-request : (t : Bool) {d d' : Driver} → RequestsStay t d d' → (e : ℕ) → request_on d' Out e ≡ request_on d Out e
unfolding request_on
same-request t p e = λ i. get_or (p.rest i).1 (key Out e) no_request

same-allocator : (t : Bool) {d d' : Driver} → RequestsStay t d d' → d'.allocator ≡ d.allocator
same-allocator t p = λ i. (p.rest i).0.4

same-maximum : (t : Bool) {d d' : Driver} → RequestsStay t d d' → (e : ℕ) → (ep_on d' Out e).max_len
    ≡ (ep_on d Out e).max_len
same-maximum t p e = λ i. (p.each Out e i).2

pub room-stays : (t : Bool) {d d' : Driver} → RequestsStay t d d' → ReadRoom d → ReadRoom d'
room-stays t p k = record {
  sound = rw (same-allocator t p) k.sound;
  reads = λ e h. let z = k.reads e (sym (ap (λ (r : Request). is_on r.begun) (same-request t p e)) ∙ h) in
      (rw (same-allocator t p) z.0, rw (same-maximum t p e, same-request t p e) z.1);
}

-- ---- a request assigned

-- at its own place, if there is such a place
request-here : (l : List Request) (k : ℕ) (v : Request) (P : Request → Type 0) → P no_request → P v
    → P (get_or (set l k v) k no_request)
request-here l k v P a b = elim (dec_lt k (length l)) [
  | yes q ↦ subst P (sym (get_or-set_same l k v no_request q)) b
  | no q ↦ subst P (sym (get_or-eq_default (set l k v) no_request {n = k} (omega (arith, length-set l k v)))) a
]

pub off : is_on 0 ≡ false
unfolding is_on
off = refl

pub put-out : {d : Driver} (e : ℕ) (v : Request)
    → (is_on v.begun ≡ true → (bit_is_set (taken_ins d.allocator Out) (e % 16) ≡ true)
    × ((ep_on d Out e).max_len ≤ v.length))
    → ReadRoom d → ReadRoom (with_request_on d Out e v)
unfolding with_request_on request_on ep_on
put-out {d} e v f k = record {
  sound = k.sound;
  reads = λ x. elim (ℕ_discrete (key Out x) (key Out e)) [
    | yes q ↦ subst (λ j. Fits x (get_or (set d.requests (key Out e) v) j no_request)) (sym q)
        (request-here d.requests (key Out e) v (Fits x) (λ h. absurd (true≢false (sym h ∙ off)))
        (λ h. let z = f h in let m = key-same Out x e q in
        (rw m z.0, subst (λ (r : EpState). r.max_len ≤ v.length) (sym (ep_on-by d Out x e m)) z.1)))
    | no n ↦ subst (Fits x) (sym (get_or-set_other d.requests (key Out e) (key Out x) v no_request n)) (k.reads x)
  ];
}
  where
    Fits : ℕ → Request → Type 0
    Fits x r = is_on r.begun ≡ true → (bit_is_set (taken_ins d.allocator Out) (x % 16) ≡ true)
        × ((ep_on d Out x).max_len ≤ r.length)

pub put_in : {d : Driver} (e : ℕ) (v : Request) → ReadRoom d → ReadRoom (with_request_on d In e v)
unfolding with_request_on request_on ep_on
put_in {d} e v k = record {
  sound = k.sound;
  reads = λ x. subst (λ (r : Request). is_on r.begun ≡ true → (bit_is_set (taken_ins d.allocator Out) (x % 16) ≡ true)
      × ((ep_on d Out x).max_len ≤ r.length))
      (sym (get_or-set_other d.requests (key In e) (key Out x) v no_request (key_apart x e))) (k.reads x);
}

-- ---- allocations

further-room : {d : Driver} → ReadRoom d → (a : Allocator) → Sound a
    → ((j : ℕ) → bit_is_set (taken_ins d.allocator Out) j ≡ true → bit_is_set (taken_ins a Out) j ≡ true)
    → ReadRoom (with_allocator d a)
unfolding ep_on request_on
further-room k a s f = record { sound = s; reads = λ e h. (f (e % 16) (k.reads e h).0, (k.reads e h).1) }

ep0-room : {d : Driver} → ReadRoom d → (maximum : ℕ) (z : Allocation) → Sound z.after
    → Step d.allocator (ep0 maximum) z → ReadRoom (started_with maximum z.answer (with_allocator d z.after))
unfolding started_with with_next taken_ins ep_on request_on
ep0-room {d = d} k maximum z s (kept c n w full) = further-room k d.allocator s (λ j h. h)
ep0-room {d = d} k maximum z s (gave_ep0 m x small l) =
    let q = further-room k (with_next d.allocator (d.allocator.next + 1)) s (λ j h. h) in
    record { sound = q.sound; reads = q.reads }

module _ {d : Driver} (k : ReadRoom d) (dir : Dir) (kind maximum interval e base n : ℕ) (b : Allocator)
    (t : Takes d.allocator (is_iso kind) dir e b) where
  abbrev taker : Driver
  taker = sets_given dir kind interval e (record_given dir kind maximum e base n (with_allocator d b))

  -- the number given was free
  not-it : (dir : Dir) → bit_is_set (taken_ins d.allocator dir) e ≡ false → (x : ℕ)
      → bit_is_set (taken_ins d.allocator Out) (x % 16) ≡ true → key Out x ≢ key dir e
  not-it Out u x h q = absurd (true≢false (sym h ∙ ap (λ (j : ℕ). bit_is_set (taken_ins d.allocator Out) j)
      (omega (arith, key-same Out x e q, t.high)) ∙ u))
  not-it In u x h q = key_apart x e q

  given-room : Sound b → ReadRoom taker
  unfolding sets_given record_given with_on ep_on request_on
  given-room s = record {
    sound = s;
    reads = λ x h. let z = k.reads x h in (
      t.takes Out (x % 16) ∙ stays (same_dir dir Out) (taken_ins d.allocator Out) e (x % 16) z.0,
      subst (λ (r : EpState). r.max_len ≤ (request_on d Out x).length)
          (sym (get_or-set_other d.eps (key dir e) (key Out x) _ no_ep (not-it dir t.untaken x z.0))) z.1,
    );
  }

allocated-room : {d : Driver} → ReadRoom d → (dir : Dir) (kind address maximum interval : ℕ) (z : Allocation)
    → Sound z.after → Outcome d.allocator kind address maximum dir z
    → ReadRoom (given_to dir kind maximum interval z.answer (with_allocator d z.after))
unfolding given_to
allocated-room {d = d} k dir kind address maximum interval z s (six l) = further-room k d.allocator s (λ j h. h)
allocated-room {d = d} k dir kind address maximum interval z s (seven m q) = further-room k d.allocator s (λ j h. h)
allocated-room {d = d} k dir kind address maximum interval z s (eight e m q l)
    = further-room k d.allocator s (λ j h. h)
allocated-room {d = d} k dir kind address maximum interval z s (given e base n a m q g)
    = given-room k dir kind maximum interval e base n a g.number s

-- ---- each change

pub act-room : (q : Act) (s : St) → ReadRoom s.0 → ReadRoom (concrete.act q s).0
unfolding allocated_on allocated_ep0
act-room q s k =
    let a = s.0.allocator in
    by-act {K = λ _ d. ReadRoom d} s (λ q _ p. room-stays (turns q) (rings-stay (turns q) p) k)
    (λ dir kind address maximum interval. allocated-room k dir kind address maximum interval
    (allocate_of a kind address maximum dir)
    (sound-call a (endpoint kind address maximum dir) k.sound) (outcome a kind address maximum dir))
    (λ maximum. ep0-room k maximum (allocate_ep0_of a maximum) (sound-call a (ep0 maximum) k.sound)
    (step a (ep0 maximum))) q
