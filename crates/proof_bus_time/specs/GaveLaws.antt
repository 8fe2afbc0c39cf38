-- What an allocation gave an endpoint stays, whatever a script does: an allocation gives a number that was not taken
use Rattle.std.specs.Prelude.{Bool, false, cond, ◌≢◌, ◌≡◌, refl, ℕ, zero, suc, ◌+◌, ◌%◌}
use Rattle.std.proofs.Math.Bool.{true}
use Rattle.std.proofs.Common.{true≢false, sym, ◌∙◌, arith, get_or-set_other}
use Rattle.std.proofs.Math.Path.{ap}
use Rattle.bits.specs.Bit.{bit_is_set}
use Rattle.regs.specs.declared.Access.{Access}
use Rattle.regs.specs.declared.Dir.{Dir}
use Rattle.regs.specs.declared.Dir.TheVariants.{Out, In}
use Rattle.state.specs.declared.Allocator.{Allocator}
use Rattle.state.specs.Driver.{Driver, key, no_ep, ep_on, with_on, with_allocator}
use Rattle.alloc.specs.declared.Allocation.{Allocation}
use Rattle.alloc.specs.Alloc.{taken_ins, is_iso, with_next}
use Rattle.alloc.proofs.OutcomeLaws as outcomes
use Rattle.alloc.specs.Outcome.{same_dir, Takes, Outcome, six, seven, eight, given}
use Rattle.alloc.proofs.OutcomeLaws.{outcome}
use Rattle.alloc.specs.Run.{ep0, Step, kept, gave_ep0}
use Rattle.alloc.proofs.RunLaws.{step}
use Rattle.script.specs.Tree as tree
use Rattle.script.specs.Tree.{ends, asks, bind_out}
use Rattle.script.specs.Script.{Script, ret, bind, test, read_then, write_then, wait_then, callback_then, get_then}
use Rattle.script.specs.Script.{put_then, is_then, look_then, fetch_then, act_then, hand_then, row_then, run, rows}
use Rattle.script.specs.Script.{last_of, Act}
use Rattle.script.specs.Script.{Burst}
use Rattle.script_ops.specs.Records.{record_given, sets_given, given_to, allocated_on, started_with, allocated_ep0}
use Rattle.script_ops.specs.Rings.{St}
use Rattle.script_ops.specs.Concrete.{concrete}
use Rattle.proof_book.specs.CellsLaws.{on-key}
use Rattle.proof_book.specs.LeavesLaws.{RingsOnly, turns, by-act, hand-leaves, given_of, GivenStays, given_stays}
use Rattle.proof_book.specs.LeavesLaws.{rings-stay, put-given, turns_row, row_stays}
use Rattle.proof_bus_time.specs.Enabled.{is_taken}

pub record Gave (d d' : Driver) : Type 0 where
  pub taken : (dir : Dir) (e : ℕ) → is_taken d dir e ≡ true → is_taken d' dir e ≡ true
  pub given : (dir : Dir) (e : ℕ) → is_taken d dir e ≡ true → given_of (ep_on d' dir e) ≡ given_of (ep_on d dir e)

pub gave_then : {d x y : Driver} → Gave d x → Gave x y → Gave d y
gave_then p q = record {
  taken = λ dir e h. q.taken dir e (p.taken dir e h);
  given
      = λ dir e h. q.given dir e (p.taken dir e h) ∙ p.given dir e h;
}

pub gave-same : (d : Driver) → Gave d d
gave-same d = record { taken = λ dir e h. h; given = λ dir e h. refl }

-- with the allocator as it was
of-given : (t : Bool) {d d' : Driver} → GivenStays t d d' → Gave d d'
of-given t p = record { taken = λ dir e h. rw (allocators p) h; given = λ dir e h. p.each dir e }
  where
    allocators : {d d' : Driver} → GivenStays t d d' → d'.allocator ≡ d.allocator
    allocators p = λ i. (p.rest i).4

of-rings : (t : Bool) {d d' : Driver} → RingsOnly t d d' → Gave d d'
of-rings t p = of-given t (given_stays t (rings-stay t p))

-- the endpoints' records too
of-records : (d d' : Driver) → d'.eps ≡ d.eps → ((dir : Dir) (e : ℕ) → is_taken d' dir e ≡ is_taken d dir e) → Gave d d'
unfolding ep_on
of-records d d' p a = record { taken = λ dir e h. a dir e ∙ h; given = λ dir e h. rw p refl }

-- ---- an allocation

module _ (d : Driver) (dir : Dir) (kind maximum interval e base n : ℕ) (b : Allocator)
    (t : Takes d.allocator (is_iso kind) dir e b) where
  abbrev taker : Driver
  taker = sets_given dir kind interval e (record_given dir kind maximum e base n (with_allocator d b))

  -- its own number was not taken
  own : (x : ℕ) → x % 16 ≡ e % 16 → is_taken d dir x ≡ true → given_of (ep_on taker dir x) ≡ given_of (ep_on d dir x)
  own x q h = absurd (true≢false (sym h ∙ (ap (bit_is_set (taken_ins d.allocator dir)) number ∙ t.untaken)))
    where
      number : x % 16 ≡ e
      number = omega (arith, q, t.high)

  there : (dir' : Dir) (x : ℕ) → key dir' x ≢ key dir e → is_taken d dir' x ≡ true → given_of (ep_on taker dir' x)
      ≡ given_of (ep_on d dir' x)
  unfolding sets_given record_given ep_on with_on
  there dir' x q h = ap given_of (get_or-set_other d.eps (key dir e) (key dir' x) _ no_ep q)

  given-gave : Gave d taker
  unfolding sets_given record_given with_on
  given-gave = record {
    taken = λ dir' x h. t.takes dir' (x % 16) ∙ outcomes.stays (same_dir dir dir') (taken_ins d.allocator dir') e
        (x % 16) h;
    given = on-key (λ dir' x. is_taken d dir' x ≡ true → given_of (ep_on taker dir' x) ≡ given_of (ep_on d dir' x)) dir e own
        there;
  }

allocated-gave : (d : Driver) (dir : Dir) (kind address maximum interval : ℕ) (z : Allocation)
    → Outcome d.allocator kind address maximum dir z
    → Gave d (given_to dir kind maximum interval z.answer (with_allocator d z.after))
unfolding given_to
allocated-gave d dir kind address maximum interval z (six l) = gave-same d
allocated-gave d dir kind address maximum interval z (seven m q) = gave-same d
allocated-gave d dir kind address maximum interval z (eight e m q l) = gave-same d
allocated-gave d dir kind address maximum interval z (given e base n a m q g)
    = given-gave d dir kind maximum interval e base n a g.number

ep0-gave : (d : Driver) (maximum : ℕ) (z : Allocation)
    → Step d.allocator (ep0 maximum) z → Gave d (started_with maximum z.answer (with_allocator d z.after))
unfolding started_with with_next taken_ins
ep0-gave d maximum z (kept c n w full) = gave-same d
ep0-gave d maximum z (gave_ep0 m x small l) = of-records d _ refl same
  where
    same : (dir : Dir) (x : ℕ) → is_taken (with_allocator d (with_next d.allocator (d.allocator.next + 1))) dir x
        ≡ is_taken d dir x
    same Out x = refl
    same In x = refl

-- ---- each operation

act-gave : (q : Act) (s : St) → Gave s.0 (concrete.act q s).0
unfolding allocated_on allocated_ep0
act-gave q s = by-act {K = λ _ d. Gave s.0 d} s (λ q _ p. of-rings (turns q) p)
    (λ dir kind address maximum interval. allocated-gave s.0 dir kind address maximum interval _
    (outcome s.0.allocator kind address maximum dir))
    (λ maximum. ep0-gave s.0 maximum _ (step s.0.allocator (ep0 maximum))) q

row-gave : (g : Burst) (n : ℕ) (s : St) → Gave s.0 (concrete.row g n s).1.0
row-gave g n s = of-given (turns_row g n) (given_stays (turns_row g n) (row_stays g n s))

-- ---- every script

-- from a state to the next access or the end, and again from whatever the state is in the next call
pub data Moves {A : Type 0} : Driver → tree.Out St A → Type 0 where
  to_end : {d : Driver} {a : A} {s : St} → Gave d s.0 → Moves d (ends a s)
  to_ask : {d : Driver} {q : Access} {s : St} {k : ℕ → St → tree.Out St A} → Gave d s.0
      → ((v : ℕ) (t : St) → Moves t.0 (k v t)) → Moves d (asks q s k)

after : {A : Type 0} {d x : Driver} {o : tree.Out St A} → Gave d x → Moves x o → Moves d o
after p (to_end q) = to_end (gave_then p q)
after p (to_ask q r) = to_ask (gave_then p q) r

moves-bind : {A B : Type 0} {d : Driver} {o : tree.Out St A} {f : A → St → tree.Out St B}
    → Moves d o → ((a : A) (s : St) → Moves s.0 (f a s)) → Moves d (bind_out o f)
moves-bind (to_end p) k = after p (k _ _)
moves-bind (to_ask p r) k = to_ask p (λ v t. moves-bind (r v t) k)

moves-cond : {A : Type 0} {d : Driver} (b : Bool) {o u : tree.Out St A} → Moves d o → Moves d u → Moves d (cond b o u)
moves-cond true x y = x
moves-cond false x y = y

rows-move : {A : Type 0} (g : Burst) (n : ℕ) {k : St → tree.Out St A} → ((t : St) → Moves t.0 (k t)) → (s : St)
    → Moves s.0 (rows concrete g n k s)
rows-move g zero x s = to_ask (row-gave g zero s) (λ _ t. x t)
rows-move g (suc n) x s = to_ask (row-gave g (suc n) s) (λ _ t. rows-move g n x t)

pub run-moves : {i : Bool} {A : Type 0} (p : Script i A) (s : St) → Moves s.0 (run concrete p s)
run-moves (ret a) s = to_end (gave-same s.0)
run-moves (bind p f) s = moves-bind (run-moves p s) (λ a t. run-moves (f a) t)
run-moves (test b p q) s = moves-cond b (run-moves p s) (run-moves q s)
run-moves (read_then r e k) s = to_ask (gave-same s.0) (λ v t. run-moves (k v) t)
run-moves (write_then r e v p) s = to_ask (gave-same s.0) (λ _ t. run-moves p t)
run-moves (wait_then n p) s = to_ask (gave-same s.0) (λ _ t. run-moves p t)
run-moves (callback_then p) s = to_ask (gave-same s.0) (λ _ t. run-moves p t)
run-moves (get_then c k) s = run-moves (k (concrete.get c s)) s
run-moves (put_then c v p) s = after (of-given false (put-given c v s)) (run-moves p (concrete.put c v s))
run-moves (is_then q k) s = run-moves (k (concrete.is q s)) s
run-moves (look_then q k) s = run-moves (k (concrete.look q s)) s
run-moves (fetch_then q k) s = run-moves (k (concrete.fetch q s)) s
run-moves (act_then q p) s = after (act-gave q s) (run-moves p (concrete.act q s))
run-moves (hand_then q p) s = to_ask (of-rings false (hand-leaves q s)) (λ _ t. run-moves p t)
run-moves (row_then g p) s = rows-move g (last_of g) (run-moves p) s
