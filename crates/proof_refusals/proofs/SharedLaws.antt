-- The same of the calls that bring the bus time which drivers share (request Seven): a refusal, row 19 too, leaves that
-- record as it was
use Rattle.std.specs.Prelude.{Bool, true, false, cond, List, ◌≡◌, refl, ℕ}
use Rattle.std.proofs.Common.{true≢false, ap, subst, sym, ◌∙◌}
use Rattle.state.specs.Driver.{Driver}
use Rattle.script.specs.Answers.{Answer, Refused, End, NotYet, Done, Shown}
use Rattle.script.specs.Calls.{Config, Op, calls}
use Rattle.script.specs.Machine.{Buf, Call, start, begin, continue, question, Pending, Machine, Ans, ended, handed}
use Rattle.script.specs.Machine.{told, begun, stay}
use Rattle.machine.specs.declared.Suspended.{Suspended}
use Rattle.machine.specs.Suspended.{way_of, machine_at, driver_of, drive, slots_fit}
use Rattle.calls.specs.Sharing.{Sort, enabling, starting, going, apart, op_sort, sort_of, turned_down, time_after, settled}
use Rattle.calls.specs.Sharing.{shared_call}
use Rattle.proof_refusals.specs.Left.{left, buffers_row}
use Rattle.proof_refusals.specs.Refusals.{Called, machine_in, AnsIs, Is}
use Rattle.proof_refusals.proofs.RefusalsLaws.{call-is}
use Rattle.proof_refusals.specs.Shared.{AnsShares, Shares}

-- not turned down
passed : (f : ℕ → Machine Answer Driver) (i : ℕ) (x : Sort) (d : Driver) (t : List ℕ) (a : Ans Answer)
    (m : Machine Answer Driver)
    → AnsIs f a m → AnsShares f t a m (time_after i x a d t)
passed f i x d t (ended (Refused n)) m h = (h, refl)
passed f i x d t (ended (End n w)) m h = tt
passed f i x d t (ended NotYet) m h = tt
passed f i x d t (ended (Done bs)) m h = tt
passed f i x d t (ended (Shown bs k)) m h = tt
passed f i x d t (handed q) m h = tt
passed f i x d t (told n) m h = tt

settles-as : (f : ℕ → Machine Answer Driver) (i : ℕ) (x : Sort) (d : Driver) (m : Machine Answer Driver) (t : List ℕ)
    (y : Called) (down : Bool)
    → (down ≡ true → m ≡ f 19) → Is f y → Shares f t (cond down ((ended (Refused 19), m), t)
    (y, time_after i x y.0 d t))
settles-as f i x d m t y true h k = (h refl, refl)
settles-as f i x d m t y false h k = passed f i x d t y.0 y.1 k

-- what is turned down is not stopped by row 1
not-down : (i : ℕ) (x : Sort) (a : Answer) (d : Driver) (t : List ℕ) → turned_down i x (ended a) d t ≡ false
not-down i (enabling dir e) a d t = refl
not-down i starting a d t = refl
not-down i going a d t = refl
not-down i apart a d t = refl

fits-first : (i : ℕ) (o : Op) (w : Pending Answer Driver) (d : Driver) (a b : Buf) (t : List ℕ) (misfits : Bool)
    → turned_down i (op_sort o)
    (cond misfits (stay calls driver_of 1 (machine_in w d a)) (begun calls driver_of (λ s. s) o (machine_in w d a) w b)).0
    d t
    ≡ true → misfits ≡ false
fits-first i o w d a b t true h = absurd (true≢false (sym h ∙ not-down i (op_sort o) (Refused 1) d t))
fits-first i o w d a b t false h = refl

turned : (i : ℕ) (c : Call Config Op) (u : Suspended) (d : Driver) (a b : Buf) (t : List ℕ)
    → turned_down i (sort_of c) (drive c (machine_at u d a) b).0 d t ≡ true → machine_at u d b
    ≡ machine_at u (left c 19 d) (cond (buffers_row c d b) a b)
unfolding slots_fit
turned i (start c) u d a b t h = absurd (true≢false (sym h))
turned i (begin o) u d a b t h = ap (λ (x : Bool). machine_at u d (cond x a b))
    (sym (fits-first i o (way_of u) d a b t (buffers_row (begin o) d b) h))
turned i (continue v) u d a b t h = absurd (true≢false (sym h))
turned i (question q) u d a b t h = absurd (true≢false (sym h))

pub shared-refusal : (i : ℕ) (c : Call Config Op) (u : Suspended) (d : Driver) (a b : Buf) (t : List ℕ) (n : ℕ)
    → (shared_call i c (machine_at u d a) t b).0.0 ≡ ended (Refused n)
    → ((shared_call i c (machine_at u d a) t b).0.1 ≡ machine_at u (left c n d) (cond (buffers_row c d b) a b))
    × ((shared_call i c (machine_at u d a) t b).1 ≡ t)
unfolding settled
shared-refusal i c u d a b t n q =
    let f : ℕ → Machine Answer Driver = λ k. machine_at u (left c k d) (cond (buffers_row c d b) a b) in
    let z : Called × List ℕ = shared_call i c (machine_at u d a) t b in
    subst (λ (x : Ans Answer). AnsShares f t x z.0.1 z.1) q
    (settles-as f i (sort_of c) d (machine_at u d b) t (drive c (machine_at u d a) b)
    (turned_down i (sort_of c) (drive c (machine_at u d a) b).0 d t) (λ h. turned i c u d a b t h) (call-is c u d a b))
