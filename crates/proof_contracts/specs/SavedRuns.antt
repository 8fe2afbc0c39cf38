-- The saved bytes are canonical after every call: SavedPage.antt has the statement
use Rattle.std.specs.Prelude.{Bool, true, false, List, [], ◌∷◌, ◌≡◌, refl, ℕ, zero}
use Rattle.std.proofs.Common.{true≢false, ap, subst, sym, ◌∙◌}
use Rattle.state.specs.declared.Saved.{Saved}
use Rattle.state.specs.Driver.{Driver}
use Rattle.state.specs.State.{view, saved}
use Rattle.state.specs.Fresh.{nothing}
use Rattle.state.specs.Determined.{Bytes, determined}
use Rattle.script.specs.Answers.{Answer, Refused, End, NotYet, Done, Shown}
use Rattle.script.specs.Calls.{Config, Op, calls, start_row}
use Rattle.script.specs.Machine.{Buf, Event, Call, start, idle, Machine, Ans, ended, handed, told, started}
use Rattle.machine.specs.declared.Suspended.{Suspended}
use Rattle.machine.specs.declared.Suspended.TheVariants as under
use Rattle.machine.specs.Suspended.{encode, decode, way_of, machine_of, driver_of, Canonical}
use Rattle.machine.specs.Rows.{idle_way}
use Rattle.machine.specs.Keeps.{KeptBy}
use Rattle.machine.specs.KeepsLaws.{canonical}
use Rattle.answer.specs.Goes.{StepResult}
use Rattle.calls.specs.Sharing.{shared_call, settled, is_handed}
use Rattle.proof_contracts.specs.SharedPage.{MadeShared}
use Rattle.proof_contracts.specs.SavedPage.{passes, SavesAs, Saves, Saving, Pinned, AllPinned, CodeCanonical}

-- ---- nothing is under way

none_of : (u : Suspended) → way_of u ≡ idle → u ≡ under.Idle
none_of under.Idle h = refl
none_of (under.Driver p) h = absurd (true≢false (sym (ap idle_way h)))
none_of (under.Bus p) h = absurd (true≢false (sym (ap idle_way h)))
none_of (under.Control p) h = absurd (true≢false (sym (ap idle_way h)))
none_of (under.Endpoint p) h = absurd (true≢false (sym (ap idle_way h)))
none_of (under.Advance p) h = absurd (true≢false (sym (ap idle_way h)))
none_of (under.Interrupt p) h = absurd (true≢false (sym (ap idle_way h)))

all-zero : encode under.Idle ≡ nothing
unfolding encode
all-zero = refl

zeros_of : (xs : List ℕ) → Canonical xs → way_of (decode (saved xs)) ≡ idle → saved xs ≡ nothing
zeros_of xs h w = h ∙ ap encode (none_of (decode (saved xs)) w) ∙ all-zero

pinned : (m : MadeShared) → Canonical m.bytes → Pinned m
pinned m h = record { encoded = h; zeros = λ w. zeros_of m.bytes h w }

-- ---- one call

stays : (xs ys : List ℕ) → saved ys ≡ saved xs → Canonical xs → Canonical ys
stays xs ys e h = e ∙ h ∙ ap (λ (x : Saved). encode (decode x)) (sym e)

cleared : (ys : List ℕ) → saved ys ≡ nothing → Canonical ys
cleared ys e = canonical under.Idle ys (e ∙ sym all-zero)

by_end : (x : Answer) (xs ys : List ℕ) → KeptBy (ended x) xs ys → Canonical xs → Canonical ys
by_end (Refused n) xs ys k h = stays xs ys k h
by_end (End n ws) xs ys k h = cleared ys k
by_end NotYet xs ys k h = stays xs ys k h
by_end (Done bytes) xs ys k h = stays xs ys k h
by_end (Shown bytes stamp) xs ys k h = stays xs ys k h

by_answer_lem : (x : Ans Answer) (xs ys : List ℕ) → KeptBy x xs ys → Canonical xs → Canonical ys
by_answer_lem (ended x) xs ys k h = by_end x xs ys k h
by_answer_lem (handed q) xs ys k h = k
by_answer_lem (told n) xs ys k h = stays xs ys k h

by-sort : (p : Bool) (x : Ans Answer) (xs ys : List ℕ) → SavesAs p x xs ys → Canonical xs → Canonical ys
by-sort true x xs ys k h = stays xs ys k h
by-sort false x xs ys k h = by_answer_lem x xs ys k h

-- what is canonical before a call is so after it
pub stays-canonical : (c : Call Config Op) (x : Ans Answer) (xs ys : List ℕ) → Saves c x xs ys
    → Canonical xs → Canonical ys
stays-canonical c x xs ys k h = by-sort (passes c) x xs ys k h

-- ---- an accepted start-up

by-access : (x : Ans Answer) (xs ys : List ℕ) → is_handed x ≡ true → KeptBy x xs ys → Canonical ys
by-access (ended x) xs ys h k = absurd (true≢false (sym h))
by-access (handed q) xs ys h k = k
by-access (told n) xs ys h k = absurd (true≢false (sym h))

-- it hands out an access
begins : (i : ℕ) (c : Config) (b : Buf) → start_row c b ≡ zero → (m : Machine Answer Driver) (time : List ℕ)
    → is_handed (shared_call i (start c) m time b).0.0 ≡ true
unfolding settled
begins i c b row m time = ap (λ (n : ℕ). is_handed (started calls driver_of (λ s. s) c n m b).0) row

-- whatever was saved before it
pub start-canonical : (i : ℕ) (c : Config) (b : Buf) → start_row c b ≡ zero → (xs : List ℕ) (a : Buf) (m : MadeShared)
    → m.event ≡ record { call = start c; lent = b } → Saving i xs a (m ∷ []) → Canonical m.bytes
start-canonical i c b row xs a m is-start run =
    let did =
    subst (λ (v : Event Config Op). m.answer ≡ (shared_call i v.call (machine_of xs a) m.before v.lent).0.0)
    is-start (ap (λ (z : StepResult × List ℕ). z.0.0) run.0) in
    let saves = subst (λ (v : Event Config Op). Saves v.call m.answer xs m.bytes) is-start run.1 in
    by-access m.answer xs m.bytes (ap is_handed did ∙ begins i c b row (machine_of xs a) m.before) saves

-- ---- every list of calls

all-canonical : (i : ℕ) (ms : List MadeShared) (xs : List ℕ) (a : Buf) → Canonical xs → Saving i xs a ms → AllPinned ms
all-canonical i [] xs a h run = tt
all-canonical i (m ∷ ms) xs a h run =
    let after = stays-canonical m.event.call m.answer xs m.bytes run.1 h in
    (pinned m after, all-canonical i ms m.bytes m.slots after run.2)

pub code-canonical : CodeCanonical
code-canonical i c b row xs a first is-start ms run =
    let after = start-canonical i c b row xs a first is-start (run.0, run.1, tt) in
    (pinned first after, all-canonical i ms first.bytes first.slots after run.2)

-- so what the driver's part of the state is, and what is under way, determine every byte of the state
pub bytes-follow : (xs ys : List ℕ) → Bytes xs → Bytes ys → Canonical xs → Canonical ys
    → view ys ≡ view xs → decode (saved ys) ≡ decode (saved xs) → ys ≡ xs
bytes-follow xs ys x y h g v u = determined xs ys x y v (g ∙ ap encode u ∙ sym h)
