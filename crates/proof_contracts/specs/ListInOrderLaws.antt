-- Requests Three and Four over calls that were made (ListInOrder.antt): `code-in-order`, `code-none-given`,
-- `code-preview`. The calls of an operation follow its script (`operation-follows`), and of an allocation's script it
-- does not matter what numbers and slots the continues bring (`single`, `whole`)
use Rattle.std.specs.Prelude.{Bool, true, false, not, cond, List, [], ◌∷◌, ◌++◌, ◌⊎◌, ◌≡◌, refl, ℕ, zero, suc, ◌+◌, eqb, length}
use Rattle.std.proofs.Common.{true≢false, inl, inr, ⊎_elim, ap, ap₂, subst, sym, ◌∙◌}
use Rattle.regs.specs.declared.Access.{Access}
use Rattle.regs.specs.declared.Access.TheVariants.{Callback}
use Rattle.state.specs.Driver.{Driver, none_gathered}
use Rattle.state.specs.State.{view, saved}
use Rattle.descriptor.specs.declared.Endpoint.{Endpoint}
use Rattle.descriptor.specs.declared.preview.Said.TheVariants as said
use Rattle.descriptor.specs.OneByOne.{padded}
use Rattle.script.specs.Tree as tree
use Rattle.script.specs.Tree.{ends, asks}
use Rattle.script.specs.Script.{run}
use Rattle.script.specs.Simulates.{Phase, quiet}
use Rattle.script.specs.Answers.{Answer, Refused, End, NotYet, Done, Shown}
use Rattle.script.specs.Calls.{Config, Op, other, Other, AllocateAll, other_code, calls, code, starting, start_row}
use Rattle.script.specs.Machine.{Buf, Event, Call, start, begin, continue, question, Ans, ended, handed, told, Awaits}
use Rattle.script.specs.Machine.{awaited}
use Rattle.script.specs.Machine.{Pending, idle, busy, Machine, over, misfit, halt, begun, continued, started}
use Rattle.script.specs.Agree.{After, Ways, both_idle, both_busy, agrees, from_start}
use Rattle.script_ops.specs.Rings.{St}
use Rattle.script_ops.specs.Concrete.{concrete}
use Rattle.machine.specs.Suspended.{driver_of, drive, machine_of, decode}
use Rattle.machine.specs.Rows.{idle_way, is_idle, stop_of}
use Rattle.calls.specs.Listed.{previewed}
use Rattle.proof_alloc_all.specs.Hands.{hands_out, ends_with, allocation, one_by_one}
use Rattle.proof_alloc_all.specs.Settled.{Settled}
use Rattle.proof_alloc_all.proofs.OrderLaws.{in_order_lem, none_given}
use Rattle.proof_alloc_all.proofs.BroughtLaws.{Same, single, whole}
use Rattle.proof_alloc_all.specs.Preview as preview
use Rattle.proof_alloc_all.proofs.PreviewLaws.{previewed-by-calls}
use Rattle.proof_book.specs.Pages.{Pages}
use Rattle.proof_book.specs.Book.{book}
use Rattle.proof_book.specs.Coupling.{Coupling}
use Rattle.proof_book.proofs.StartUpLaws.{fresh_kept}
use Rattle.proof_book.proofs.AgreesLaws.{agree}
use Rattle.proof_book.specs.ListedLaws.{rest-settled}
use Rattle.proof_book.specs.FrontPage.{CallRecord, CallStep, book_step}
use Rattle.proof_book.specs.FrontPage as page
use Rattle.proof_book.proofs.SlotsKeptLaws.{lent_is}
use Rattle.proof_book.specs.AnswersLaws.{is_handed}
use Rattle.proof_book.specs.CodeReadings.{Steps, bytes_after, slots_after}
use Rattle.proof_contracts.specs.ListInOrder.{Passes, asked, refused, ToItsEnd, hands, passes, stops}
use Rattle.proof_contracts.specs.ListInOrder.{Operation, at_once, goes_on_lem, own_call, OneByOne, none, next}
use Rattle.proof_contracts.specs.ListInOrder.{UpToRefusal, all_given, given, AtRest, InOrder, NoneGiven, Previews}
use Rattle.proof_contracts.specs.ListInOrder as made

-- ---- a script that is followed: each access is handed out, and the answer to it and the slots then are any

data Follows : tree.Out St Answer → List Access → Answer → Driver → Type 0 where
  f_end : (z : Answer) (s : St) → Follows (ends z s) [] z s.0
  f_ask : (q : Access) (s : St) (k : ℕ → St → tree.Out St Answer) (v : ℕ) (b : Buf) (qs : List Access) (z : Answer)
      (d : Driver)
      → Follows (k v (s.0, b)) qs z d → Follows (asks q s k) (q ∷ qs) z d

-- of a script to which these do not matter
follows_same : {o : tree.Out St Answer} {qs : List Access} {z : Answer} {d : Driver} → Follows o qs z d
    → (u : tree.Out St Answer)
    → Same o u → (qs ≡ hands_out u) × (z ≡ (ends_with u).0) × (d ≡ (ends_with u).1.0)
follows_same (f_end z s) (ends c t) h = (refl, h.0, h.1)
follows_same (f_end z s) (asks r t l) h = absurd h
follows_same (f_ask q s k v b qs z d f) (asks r t l) h =
    let i = follows_same f (l 0 t) (h.2 v 0 b t.1) in
    (ap₂ (λ (x : Access) (y : List Access). x ∷ y) h.0 i.0, i.1, i.2)
follows_same (f_ask q s k v b qs z d f) (ends c t) h = absurd h

-- ---- one call of the driver's machine

abbrev Out : Type 0
Out = tree.Out St Answer

abbrev Came : Type 0
Came = Ans Answer × Machine Answer Driver

abbrev access_of : Ans Answer → Access
access_of (ended z) = Callback
access_of (handed q) = q
access_of (told n) = Callback

abbrev answer_of : Ans Answer → Answer
answer_of (ended z) = z
answer_of (handed q) = NotYet
answer_of (told n) = NotYet

abbrev is_refused : Answer → Bool
is_refused (Refused n) = true
is_refused (End n ws) = false
is_refused NotYet = false
is_refused (Done bytes) = false
is_refused (Shown bytes stamp) = false

abbrev halts : Bool → Out → Came
halts i o = halt calls driver_of (λ s. s) i o

record Handed (q : Access) (o : Out) (N : Machine Answer Driver) : Type 0 where
  state : St
  rest : ℕ → St → Out
  tree_is : o ≡ asks q state rest
  under_way_lem : N.under_way_lem ≡ busy false (awaited q) rest
  st : N.st ≡ state.0

halt-handed : (o : Out) (q : Access) (N : Machine Answer Driver) → ◌≡◌ {A = Came} (handed q, N) (halts false o)
    → Handed q o N
halt-handed (ends z s) q N h = absurd (true≢false (ap (λ (x : Came). is_handed x.0) h))
halt-handed (asks r s k) q N h =
    let same : q ≡ r = ap (λ (x : Came). access_of x.0) h in
    subst (λ (p : Access). Handed p (asks r s k) N) (sym same) (record {
      state = s;
      rest = k;
      tree_is = refl;
      under_way_lem = ap (λ (x : Came). x.1.under_way_lem) h;
      st = ap (λ (x : Came). x.1.st) h;
    })

record Ended (z : Answer) (o : Out) (N : Machine Answer Driver) : Type 0 where
  state : St
  tree_is : o ≡ ends z state
  under_way_lem : N.under_way_lem ≡ idle
  st : N.st ≡ state.0

halt-ended : (o : Out) (z : Answer) (N : Machine Answer Driver) → ◌≡◌ {A = Came} (ended z, N) (halts false o)
    → Ended z o N
halt-ended (asks r s k) z N h = absurd (true≢false (sym (ap (λ (x : Came). is_handed x.0) h)))
halt-ended (ends y s) z N h =
    let same : z ≡ y = ap (λ (x : Came). answer_of x.0) h in
    subst (λ (p : Answer). Ended p (ends y s) N) (sym same) (record {
      state = s;
      tree_is = refl;
      under_way_lem = ap (λ (x : Came). x.1.under_way_lem) h;
      st = ap (λ (x : Came). x.1.st) h;
    })

-- a call that hands out nothing leaves an operation that is no interrupt where it was, or ends it
abbrev Left : Pending Answer Driver → Driver → Came → Type 0
Left w d x = ((x.1.under_way_lem ≡ w) × (x.1.st ≡ d)) ⊎ (x.1.under_way_lem ≡ idle)

abbrev plain : Pending Answer Driver → Bool
plain idle = true
plain (busy i q k) = not i

module _ (w : Pending Answer Driver) (d : Driver) (a b : Buf) where
  abbrev M : Machine Answer Driver
  M = record { under_way_lem = w; st = d; buf = a }

  abbrev Leaves : Came → Type 0
  Leaves x = is_handed x.0 ≡ false → Left w d x

  halted : (i : Bool) (o : Out) → Leaves (halts i o)
  halted i (ends z s) h = inr refl
  halted i (asks q s k) h = absurd (true≢false h)

  either : (u : Bool) (x y : Came) → Leaves x → Leaves y → Leaves (cond u x y)
  either true x y p q = p
  either false x y p q = q

  begins : (o : Op) (v : Pending Answer Driver) → v ≡ w → plain v ≡ true
      → Leaves (begun calls driver_of (λ s. s) o M v b)
  begins o idle e p = halted (calls.irq o) (run concrete (code o) (d, b))
  begins o (busy false q k) e p = λ h. inl (refl, refl)
  begins o (busy true q k) e p = λ h. absurd (true≢false (sym p))

  goes : (n : ℕ) (v : Pending Answer Driver) → v ≡ w → plain v ≡ true
      → Leaves (continued calls driver_of (λ s. s) n M v b)
  goes n idle e p = λ h. inl (refl, refl)
  goes n (busy false q k) e p = either (over calls q n) _ _ (λ h. inl (refl, refl)) (halted false (k n (d, b)))
  goes n (busy true q k) e p = λ h. absurd (true≢false (sym p))

  quiet-call : (c : Call Config Op) → plain w ≡ true → Leaves (drive c M b)
  quiet-call (start c) p = by (start_row c b)
    where
      by : (r : ℕ) → Leaves (started calls driver_of (λ s. s) c r M b)
      by zero = halted false (run concrete (starting c) (driver_of.fresh c, b))
      by (suc r) = λ h. inl (refl, refl)
  quiet-call (begin o) p = either (cond (calls.slots o) (misfit calls driver_of d b) false) _ _
      (λ h. inl (refl, refl)) (begins o w refl p)
  quiet-call (continue v) p = either (misfit calls driver_of d b) _ _ (λ h. inl (refl, refl)) (goes v w refl p)
  quiet-call (question q) p = λ h. inl (refl, refl)

-- ---- a call that was made

passes-unhanded : (m : CallRecord) → Passes m → is_handed m.answer ≡ false
passes-unhanded m (asked k h) = ap is_handed h
passes-unhanded m (refused r h) = ap is_handed h

module _ (xs : List ℕ) (a : Buf) (m : CallRecord) (did : CallStep xs a m) where
  abbrev l : Buf
  l = m.event.lent

  abbrev N : Machine Answer Driver
  N = machine_of m.bytes m.slots

  -- with what is under way, and the call
  step-as : (w : Pending Answer Driver) → (machine_of xs a).under_way_lem ≡ w → (c : Call Config Op) → m.event.call ≡ c
      → (y : Ans Answer) → m.answer ≡ y
      → ◌≡◌ {A = Came} (y, N) (drive c (record { under_way_lem = w; st = view xs; buf = a }) l)
  step-as w h c g y k =
      ap (λ (z : Ans Answer). (z, N)) (sym k) ∙ (did
      ∙ (ap (λ (c : Call Config Op). drive c (machine_of xs a) l) g
      ∙ ap (λ (w : Pending Answer Driver). drive c (record { under_way_lem = w; st = view xs; buf = a }) l) h))

  passed : (w : Pending Answer Driver) → (machine_of xs a).under_way_lem ≡ w → plain w ≡ true → Passes m → Left w (view xs)
      (m.answer, N)
  passed w h p q =
      let s = step-as w h m.event.call refl m.answer refl in
      subst (λ (x : Came). Left w (view xs) x) (sym s)
      (quiet-call w (view xs) a l m.event.call p (sym (ap (λ (x : Came). is_handed x.0) s) ∙ passes-unhanded m q))

-- a continue that is not stopped by a row before it

not-ended : (q : Access) (N : Machine Answer Driver) (x : Came) → is_handed x.0 ≡ false → ◌≡◌ {A = Came}
    (handed q, N) x → ⊥
not-ended q N x f h = true≢false (ap (λ (x : Came). is_handed x.0) h ∙ f)

goes-handed : (u v : Bool) (r s : Came) (o : Out) (q : Access) (N : Machine Answer Driver) → is_handed r.0 ≡ false
    → is_handed s.0 ≡ false
    → ◌≡◌ {A = Came} (handed q, N) (cond u r (cond v s (halts false o))) → Handed q o N
goes-handed true v r s o q N f g h = absurd (not-ended q N r f h)
goes-handed false true r s o q N f g h = absurd (not-ended q N s g h)
goes-handed false false r s o q N f g h = halt-handed o q N h

not-refused : (k : ℕ) (ws : List ℕ) (N : Machine Answer Driver) (x : Came) → is_refused (answer_of x.0) ≡ true
    → ◌≡◌ {A = Came} (ended (End k ws), N) x → ⊥
not-refused k ws N x f h = true≢false (sym f ∙ sym (ap (λ (x : Came). is_refused (answer_of x.0)) h))

goes-ended : (u v : Bool) (r s : Came) (o : Out) (k : ℕ) (ws : List ℕ) (N : Machine Answer Driver) → is_refused
    (answer_of r.0) ≡ true
    → is_refused (answer_of s.0) ≡ true → ◌≡◌ {A = Came} (ended (End k ws), N) (cond u r (cond v s (halts false o)))
    → Ended (End k ws) o N
goes-ended true v r s o k ws N f g h = absurd (not-refused k ws N r f h)
goes-ended false true r s o k ws N f g h = absurd (not-refused k ws N s g h)
goes-ended false false r s o k ws N f g h = halt-ended o (End k ws) N h

-- with nothing under way nothing is continued
idle-answers : (u : Bool) (r s : Came) (P : Came → Type 0) → P r → P s → P (cond u r s)
idle-answers true r s P p q = p
idle-answers false r s P p q = q

never-idle : {ms : List CallRecord} {qs : List Access} {z : Answer} → ToItsEnd ms qs z → (xs : List ℕ) (a : Buf)
    → (machine_of xs a).under_way_lem ≡ idle → Steps xs a ms → ⊥
never-idle (hands m v q ms qs z c k t) xs a w s =
    let g = step-as xs a m s.0 idle w (continue v) c (handed q) k in
    not-ended q (machine_of m.bytes m.slots) (drive (continue v)
    (record { under_way_lem = idle; st = view xs; buf = a })
    m.event.lent)
    (idle-answers (misfit calls driver_of (view xs) m.event.lent) _ _ (λ (x : Came). is_handed x.0 ≡ false) refl
    refl) g
never-idle (stops m v k ws c h) xs a w s =
    let g = step-as xs a m s.0 idle w (continue v) c (ended (End k ws)) h in
    not-refused k ws (machine_of m.bytes m.slots)
    (drive (continue v) (record { under_way_lem = idle; st = view xs; buf = a })
    m.event.lent)
    (idle-answers (misfit calls driver_of (view xs) m.event.lent) _ _ (λ (x : Came). is_refused (answer_of x.0) ≡
    true) refl refl) g
never-idle (passes m ms qs z p t) xs a w s =
    never-idle t m.bytes m.slots (⊎_elim (λ h. h.0) (λ h. h) (passed xs a m s.0 idle w refl p)) s.1

-- ---- an operation

record Done-so (k : ℕ → St → Out) (xs : List ℕ) (a : Buf) (qs : List Access) (z : Answer) (ys : List ℕ) (b : Buf) :
    Type 0 where
  brought : ℕ
  lent : Buf
  follows : Follows (k brought (view xs, lent)) qs z (view ys)
  rests : (machine_of ys b).under_way_lem ≡ idle

follow : {ms : List CallRecord} {qs : List Access} {z : Answer} → ToItsEnd ms qs z
    → (xs : List ℕ) (a : Buf) (q : Awaits)
    (k : ℕ → St → Out)
    → (machine_of xs a).under_way_lem ≡ busy false q k → Steps xs a ms
    → Done-so k xs a qs z (bytes_after xs ms) (slots_after a ms)
follow (hands m v r ms qs z c h t) xs a q k w s =
    let b = m.event.lent in
    let g = goes-handed (misfit calls driver_of (view xs) b) (over calls q v) _ _ (k v (view xs, b)) r
    (machine_of m.bytes m.slots) refl refl
    (step-as xs a m s.0 (busy false q k) w (continue v) c (handed r) h) in
    let i = follow t m.bytes m.slots (awaited r) g.rest g.under_way_lem s.1 in
    record {
      brought = v;
      lent = b;
      follows = subst (λ (o : Out). Follows o (r ∷ qs) z (view (bytes_after m.bytes ms))) (sym g.tree_is)
          (f_ask r g.state g.rest i.brought i.lent qs z (view (bytes_after m.bytes ms))
          (subst (λ (d : Driver). Follows (g.rest i.brought (d, i.lent)) qs z (view (bytes_after m.bytes ms)))
          g.st i.follows));
      rests = i.rests;
    }
follow (stops m v n ws c h) xs a q k w s =
    let b = m.event.lent in
    let g = goes-ended (misfit calls driver_of (view xs) b) (over calls q v) _ _ (k v (view xs, b)) n ws
    (machine_of m.bytes m.slots) refl refl
    (step-as xs a m s.0 (busy false q k) w (continue v) c (ended (End n ws)) h) in
    record {
      brought = v;
      lent = b;
      follows = subst (λ (o : Out). Follows o [] (End n ws) (view m.bytes)) (sym g.tree_is)
          (subst (λ (d : Driver). Follows (ends (End n ws) g.state) [] (End n ws) d) (sym g.st)
          (f_end (End n ws) g.state));
      rests = g.under_way_lem;
    }
follow (passes m ms qs z p t) xs a q k w s = ⊎_elim
    (λ h. let i = follow t m.bytes m.slots q k h.0 s.1 in
    record {
      brought = i.brought;
      lent = i.lent;
      follows = subst (λ (d : Driver). Follows (k i.brought (d, i.lent)) qs z (view (bytes_after m.bytes ms)))
          h.1 i.follows;
      rests = i.rests;
    })
    (λ h. absurd (never-idle t m.bytes m.slots h s.1))
    (passed xs a m s.0 (busy false q k) w refl p)

record Followed (o : Other) (xs : List ℕ) (qs : List Access) (z : Answer) (ys : List ℕ) (b : Buf) : Type 0 where
  lent : Buf
  follows : Follows (run concrete (other_code o) (view xs, lent)) qs z (view ys)
  rests : (machine_of ys b).under_way_lem ≡ idle

operation-follows : (o : Other) {ms : List CallRecord} {qs : List Access} {z : Answer} → Operation (other o) ms qs z
    → (xs : List ℕ) (a : Buf)
    → (machine_of xs a).under_way_lem ≡ idle → Steps xs a ms → Followed o xs qs z (bytes_after xs ms) (slots_after a ms)
operation-follows o (at_once m z c h) xs a w s =
    let b = m.event.lent in
    let g = halt-ended (run concrete (other_code o) (view xs, b)) z (machine_of m.bytes m.slots)
    (step-as xs a m s.0 idle w (begin (other o)) c (ended z) h) in
    record {
      lent = b;
      follows = subst (λ (o : Out). Follows o [] z (view m.bytes)) (sym g.tree_is)
          (subst (λ (d : Driver). Follows (ends z g.state) [] z d) (sym g.st) (f_end z g.state));
      rests = g.under_way_lem;
    }
operation-follows o (goes_on_lem m r ms qs z c h t) xs a w s =
    let b = m.event.lent in
    let g = halt-handed (run concrete (other_code o) (view xs, b)) r (machine_of m.bytes m.slots)
    (step-as xs a m s.0 idle w (begin (other o)) c (handed r) h) in
    let i = follow t m.bytes m.slots (awaited r) g.rest g.under_way_lem s.1 in
    record {
      lent = b;
      follows = subst (λ (o : Out). Follows o (r ∷ qs) z (view (bytes_after m.bytes ms))) (sym g.tree_is)
          (f_ask r g.state g.rest i.brought i.lent qs z (view (bytes_after m.bytes ms))
          (subst (λ (d : Driver). Follows (g.rest i.brought (d, i.lent)) qs z (view (bytes_after m.bytes ms)))
          g.st i.follows));
      rests = i.rests;
    }

-- ---- one after the other

steps_apart : (ms ns : List CallRecord) (xs : List ℕ) (a : Buf) → Steps xs a (ms ++ ns) → Steps xs a ms × Steps
    (bytes_after xs ms) (slots_after a ms) ns
steps_apart [] ns xs a s = (tt, s)
steps_apart (m ∷ ms) ns xs a s = let i = steps_apart ms ns m.bytes m.slots s.1 in ((s.0, i.0), i.1)

bytes_apart : (ms ns : List CallRecord) (xs : List ℕ) → bytes_after xs (ms ++ ns) ≡ bytes_after (bytes_after xs ms) ns
bytes_apart [] ns xs = refl
bytes_apart (m ∷ ms) ns xs = bytes_apart ms ns m.bytes

-- an endpoint's own call, as its script has it with any slots
own-follows : (e : Endpoint) {ms : List CallRecord} {qs : List Access} {z : Answer} → Operation (own_call e) ms qs z
    → (xs : List ℕ) (a : Buf) (b : Buf)
    → (machine_of xs a).under_way_lem ≡ idle → Steps xs a ms → let u = run concrete (allocation e) (view xs, b) in
    (qs ≡ hands_out u) × (z ≡ (ends_with u).0) × (view (bytes_after xs ms) ≡ (ends_with u).1.0)
    × ((machine_of (bytes_after xs ms) (slots_after a ms)).under_way_lem ≡ idle)
own-follows e o xs a b w s =
    let f = operation-follows _ o xs a w s in
    let g = follows_same f.follows (run concrete (allocation e) (view xs, b))
    ((single e).same (view xs) f.lent b) in
    (g.0, g.1, g.2, f.rests)

each-follows : {es : List Endpoint} {ms : List CallRecord} {rs : List Access} → OneByOne es ms rs
    → (xs : List ℕ) (a : Buf)
    (d : Driver) (b : Buf)
    → view xs ≡ d → (machine_of xs a).under_way_lem ≡ idle → Steps xs a ms
    → (rs ≡ (one_by_one es (d, b)).0) × (view (bytes_after xs ms) ≡ (one_by_one es (d, b)).1.0)
unfolding one_by_one
each-follows none xs a d b h w s = (refl, h)
each-follows (next e es ms ns qs rs z o t) xs a d b h w s =
    let p = steps_apart ms ns xs a s in
    let g = own-follows e o xs a b w p.0 in
    let u = run concrete (allocation e) (d, b) in
    let same : run concrete (allocation e) (view xs, b) ≡ u = ap (λ (d : Driver). run concrete (allocation e) (d, b))
    h in
    let i = each-follows t (bytes_after xs ms) (slots_after a ms) (ends_with u).1.0 (ends_with u).1.1
    (g.2 ∙ ap (λ (o : Out). (ends_with o).1.0) same) g.3 p.1 in (
      ap₂ (λ (x y : List Access). x ++ y) (g.0 ∙ ap hands_out same) i.0,
      ap view (bytes_apart ms ns xs) ∙ i.1,
    )

-- ---- request Three

module _ (xs : List ℕ) (a : Buf) (bytes : List ℕ) (settled : Settled (view xs)) (r : AtRest xs a bytes) where
  list-in-order : InOrder xs a bytes
  list-in-order none-refused all qs z s o each rs t e =
      let f = operation-follows (AllocateAll bytes) o xs a r.nothing s in
      let u = run concrete (other_code (AllocateAll bytes)) (view xs, f.lent) in
      let g = follows_same f.follows u ((whole bytes).same (view xs) f.lent f.lent) in
      let i = in_order_lem (view xs) f.lent bytes settled r.stage r.small r.listed none-refused in
      let j = each-follows e xs a (view xs) f.lent refl r.nothing t in (
        g.0 ∙ (i.hands ∙ sym j.0),
        g.1 ∙ ap (λ (x : Answer × St). x.0) i.ends_so,
        g.2 ∙ (ap (λ (x : Answer × St). x.1.0) i.ends_so ∙ sym (ap (λ (d : Driver). none_gathered d) j.1)),
      )

  list-none-given : NoneGiven xs a bytes
  list-none-given n refuses some all qs z s o =
      let f = operation-follows (AllocateAll bytes) o xs a r.nothing s in
      let same = none_given (view xs) f.lent bytes n r.stage r.listed refuses some in
      follows_same (subst (λ (o : Out). Follows o qs z (view (bytes_after xs all))) same f.follows)
      (ends (Refused n) (view xs, f.lent)) (refl, refl)

-- ---- request Four

refused-is : (n k : ℕ) → ◌≡◌ {A = Answer} (Refused n) (Refused k) → n ≡ k
refused-is n k h = ap row h
  where
    row : Answer → ℕ
    row (Refused n) = n
    row (End n ws) = 0
    row NotYet = 0
    row (Done bytes) = 0
    row (Shown bytes stamp) = 0

number_is : (n k : ℕ) (ws vs : List ℕ) → ◌≡◌ {A = Answer} (End n ws) (End k vs) → n ≡ k
number_is n k ws vs h = ap number h
  where
    number : Answer → ℕ
    number (Refused n) = 0
    number (End n ws) = n
    number NotYet = 0
    number (Done bytes) = 0
    number (Shown bytes stamp) = 0

record Alike (ks js : List ℕ) (n m : ℕ) (d e : Driver) : Type 0 where
  numbers : ks ≡ js
  row : n ≡ m
  driver : d ≡ e

made_alike : {es : List Endpoint} {ms : List CallRecord} {ks : List ℕ} {n : ℕ} → UpToRefusal es ms ks n
    → {s u : St} {js : List ℕ} {k : ℕ}
    → preview.Calls s es js k u → (xs : List ℕ) (a : Buf) → view xs ≡ s.0 → (machine_of xs a).under_way_lem ≡ idle
    → Steps xs a ms
    → Alike ks js n k (view (bytes_after xs ms)) u.0
made_alike all_given (preview.all_given s) xs a h w t = record { numbers = refl; row = refl; driver = h }
made_alike (made.refused e es ms qs n o) (preview.refused s _ _ k same) xs a h w t =
    let g = own-follows e o xs a s.1 w t in
    let u : run concrete (allocation e) (view xs, s.1) ≡ ends (Refused k) s = ap (λ (d : Driver). run concrete
    (allocation e) (d, s.1)) h ∙ same in
    record {
      numbers = refl;
      row = refused-is n k (g.1 ∙ ap (λ (o : Out). (ends_with o).0) u);
      driver = g.2 ∙ ap (λ (o : Out). (ends_with o).1.0) u;
    }
made_alike (made.refused e es ms qs n o) (preview.ended s v u _ _ k same js m c) xs a h w t =
    let g = own-follows e o xs a s.1 w t in
    let z : Refused n ≡ End k [] = g.1 ∙ (ap (λ (d : Driver). (ends_with (run concrete (allocation e) (d, s.1))).0) h
    ∙ ap (λ (x : Answer × St). x.0) same) in
    absurd (true≢false (ap is_refused z))
made_alike (given e es ms ns qs j ws ks n o r) (preview.refused s _ _ k same) xs a h w t =
    let p = steps_apart ms ns xs a t in
    let g = own-follows e o xs a s.1 w p.0 in
    let z : End j ws ≡ Refused k = g.1 ∙ (ap (λ (d : Driver). (ends_with (run concrete (allocation e) (d, s.1))).0) h
    ∙ ap (λ (o : Out). (ends_with o).0) same) in
    absurd (true≢false (sym (ap is_refused z)))
made_alike (given e es ms ns qs j ws ks n o r) (preview.ended s v u _ _ k same js m c) xs a h w t =
    let p = steps_apart ms ns xs a t in
    let g = own-follows e o xs a s.1 w p.0 in
    let ends_so : ends_with (run concrete (allocation e) (view xs, s.1)) ≡ (End k [], v) =
    ap (λ (d : Driver). ends_with (run concrete (allocation e) (d, s.1))) h ∙ same in
    let i = made_alike r c (bytes_after xs ms) (slots_after a ms) (g.2 ∙ ap (λ (x : Answer × St). x.1.0) ends_so)
    g.3 p.1 in
    record {
      numbers = ap₂ (λ (x : ℕ) (y : List ℕ). x ∷ y)
          (number_is j k ws [] (g.1 ∙ ap (λ (x : Answer × St). x.0) ends_so)) i.numbers;
      row = i.row;
      driver = ap view (bytes_apart ms ns xs) ∙ i.driver;
    }

-- at rest and at stage 1 no row before stops the preview
unstopped : (xs : List ℕ) (a : Buf) → (machine_of xs a).under_way_lem ≡ idle → (view xs).globals.stage ≡ 1
    → stop_of (is_idle (decode (saved xs))) 1 (view xs).globals.stage ≡ 0
unfolding is_idle stop_of
unstopped xs a w h =
    ap (λ (u : Bool). cond u (cond (eqb (view xs).globals.stage 1) 0 4) 3) (ap idle_way w)
    ∙ ap (λ (n : ℕ). cond (eqb n 1) 0 4) h

module _ (xs : List ℕ) (a : Buf) (bytes : List ℕ) (settled : Settled (view xs)) (r : AtRest xs a bytes) where
  list-previews : Previews xs a bytes
  list-previews each ks n s t =
      let p = previewed-by-calls (view xs) [] bytes settled r.stage r.small r.listed in
      let i = made_alike t p.calls xs a refl r.nothing s in (
        p.buffers,
        ap (λ (d : Driver). d.allocator.next) i.driver ∙ p.taken,
        ap (λ (k : ℕ). previewed k (view xs).allocator bytes) (unstopped xs a r.nothing r.stage) ∙ (p.same
            ∙ (ap (λ (js : List ℕ). record {
              said = said.Tried;
              numbers = padded js;
              count = length js;
              buffers =
                  p.buffers;
              refusal = p.refusal;
            })
            (sym i.numbers)
            ∙ ap (λ (k : ℕ). record {
              said = said.Tried;
              numbers = padded ks;
              count = length ks;
              buffers = p.buffers;
              refusal = k;
            }) (sym i.row))),
      )

-- ---- after any calls

record Coupled (xs : List ℕ) (a : Buf) (n : Machine Answer Pages) : Type 0 where
  phase : Phase
  ways : Ways driver_of book agree calls phase (machine_of xs a).under_way_lem n.under_way_lem
  rest : Coupling phase a (view xs) n.st

coupled : (ms : List CallRecord) (xs : List ℕ) (a : Buf) (n : Machine Answer Pages) → Coupled xs a n
    → page.Calls xs a n ms
    → Coupled (bytes_after xs ms) (slots_after a ms) (page.book_after_all n ms)
coupled [] xs a n h p = h
coupled (m ∷ ms) xs a n h p =
    let c = m.event.call in
    let b = m.event.lent in
    let k : After driver_of book agree calls (m.answer, machine_of m.bytes m.slots) (page.book_after m n)
    = subst (λ (x : Came). After driver_of book agree calls x (book_step x.0 c n b)) (sym p.0)
    (agrees driver_of book agree calls fresh_kept c b (machine_of xs a) n h.ways h.rest
    (lent_is (machine_of xs a) n h.rest b c p.1)) in
    coupled ms m.bytes m.slots (page.book_after m n).1
    (record { phase = k.phase; ways = k.ways; rest = k.rest })
    p.2

idle-quiet : {φ : Phase} {w : Pending Answer Driver} {v : Pending Answer Pages} → Ways driver_of book agree calls φ w v
    → idle_way w ≡ true → φ ≡ quiet
idle-quiet both_idle h = refl
idle-quiet (both_busy i a f k) h = absurd (true≢false (sym h))

module _ (c : Config) (b : Buf) (row : start_row c b ≡ zero) (xs : List ℕ) (a : Buf) (n : Machine Answer Pages)
    (first : CallRecord)
    (is : first.event ≡ record { call = start c; lent = b }) (ms : List CallRecord)
    (p : page.Calls xs a n (first ∷ ms))
    (bytes : List ℕ)
    (r : AtRest (bytes_after xs (first ∷ ms)) (slots_after a (first ∷ ms)) bytes) where
  abbrev ys : List ℕ
  ys = bytes_after xs (first ∷ ms)

  abbrev here : Buf
  here = slots_after a (first ∷ ms)

  started-so : After driver_of book agree calls (first.answer, machine_of first.bytes first.slots)
      (page.book_after first n)
  started-so = subst (λ (x : Came). After driver_of book agree calls x (book_step x.0 first.event.call n
      first.event.lent))
      (sym p.0) (subst (λ (v : Event Config Op). let x = drive v.call (machine_of xs a) v.lent in
      After driver_of book agree calls x (book_step x.0 v.call n v.lent)) (sym is)
      (rw row (from_start driver_of book agree calls fresh_kept c b row [] (machine_of xs a) n tt).0))

  settled_here : Settled (view ys)
  settled_here =
      let k = coupled ms first.bytes first.slots (page.book_after first n).1
      (record { phase = started-so.phase; ways = started-so.ways; rest = started-so.rest }) p.2 in
      rest-settled (subst (λ (φ : Phase). Coupling φ here (view ys) (page.book_after_all n (first ∷ ms)).st)
      (idle-quiet k.ways (ap idle_way r.nothing)) k.rest)

  pub code-in-order : InOrder ys here bytes
  code-in-order = list-in-order ys here bytes settled_here r

  pub code-none-given : NoneGiven ys here bytes
  code-none-given = list-none-given ys here bytes settled_here r

  pub code-preview : Previews ys here bytes
  code-preview = list-previews ys here bytes settled_here r
