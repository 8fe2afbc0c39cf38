-- What a call answers, over the drivers that its stores come to
use mathlib.Core.Path.{◌≡◌, refl, ap, sym, ◌∙◌}
use mathlib.Core.Bool.{Bool, true, false, not, cond, ◌||◌}
use mathlib.Core.List.{List, []}
use Prim.Native.Nat.{ℕ, ◌≤◌, ◌<◌, min}
use native.Mathlib.Omega.{arith}
use native.Mathlib.Decide.{dec_lt}
use borrow.Author.Tests.{ltb-false, eq-eqb, ne_eqb}
use lib.Dec.{eqb, ltb}
use lib.ListN.{length, take, drop, length-take}
use lib.Seq.{take_all, take-take}
use Rattle.ring.specs.Copies.{over, bytes_at}
use Rattle.regs.specs.declared.Reg.TheVariants.{EpTLen, EpRxCtrl}
use Rattle.regs.specs.declared.Access.TheVariants.{Read, Write}
use Rattle.regs.specs.declared.Dir.{Dir}
use Rattle.regs.specs.declared.Dir.TheVariants.{Out, In}
use Rattle.regs.specs.Enables as enables
use Rattle.state.specs.declared.EpState.{EpState}
use Rattle.state.specs.Driver.{Driver, ep_on, request_on, with_request_on, none_gathered}
use Rattle.state.specs.declared.Request.{Request}
use Rattle.script.specs.Tree as tree
use Rattle.script.specs.Tree.{ends}
use Rattle.script.specs.Cells.{EpCore}
use Rattle.script.specs.Script.{Script, ret, test}
use Rattle.script.specs.Statics.{is_on, with_ready, with_armed}
use Rattle.script.specs.Answers.{Answer, Refused, NotYet, Done, is_allocated, staged, named}
use Rattle.script.specs.Endpoint.{begun, empty_request, polled, enabled_else, ends_request, too_long, begin_read, poll_read}
use Rattle.script.specs.Endpoint.{take_iso}
use Rattle.script.specs.Endpoint.{take_ready, begin_write, put_iso, sent_ready}
use Rattle.script_ops.specs.Records.{plain_of}
use Rattle.script_ops.specs.Rings.{St, waiting_on, room_on, oldest_at, next_len, oldest_on, take_on, enqueue_on, filled_on}
use Rattle.script_ops.specs.Concrete.{go}
use Rattle.endpoint.specs.Records.{modified_on}
use Rattle.script_ops.specs.Answers.{lent_after}
use Rattle.endpoint.specs.Brought.{Brought, lends, untouched, neither, brings}
use Rattle.script_ops.specs.Rows.{refusal_of}
use Rattle.script_ops.specs.RowsLaws.{started, allocated, by_row}
use Rattle.endpoint.specs.declared.Point.TheVariants as point
use Rattle.endpoint.specs.declared.Begun.TheVariants as begun-as
use Rattle.endpoint.specs.declared.Polled.{Polled}
use Rattle.endpoint.specs.declared.Polled.TheVariants as polled-as
use Rattle.endpoint.specs.Points.{asked, begun_as, polled_as}

-- where row 4 or 5 refuses, so do a call's first two rows, whatever else it does
pub refused : (d : Driver) (dir : Dir) (e n : ℕ) (b : List ℕ) (z : tree.Out St Answer) → n ≡ refusal_of d dir e → eqb n 0
    ≡ false
    → ends (Refused n) (d, b) ≡ cond (eqb d.globals.stage 2)
    (cond (is_allocated d.allocator dir e) z (ends (Refused 5) (d, b)))
    (ends (Refused 4) (d, b))
refused d dir e n b z r h = ap f r ∙ sym (by_row f z d dir e ∙ ap (λ (x : Bool). cond x z (f (refusal_of d dir e)))
    (ap (λ (k : ℕ). eqb k 0) (sym r) ∙ h)) where
      f : ℕ → tree.Out St Answer
      f k = ends (Refused k) (d, b)

-- past them the number is a byte's
pub lowered : (p : ℕ → Script false Answer) (d : Driver) (b : List ℕ) {x y : ℕ} → x ≡ y → go (p x) d b ≡ go (p y) d b
lowered p d b e = ap (λ (x : ℕ). go (p x) d b) e

-- ---- `read`: its begin

module _ (d : Driver) (b : List ℕ) (e n : ℕ) (h : eqb (refusal_of d Out e) 0 ≡ true) where
  pub read-disabled : enables.is_on d.globals.ep_config Out e ≡ false → begun_as (begun-as.Refused 9) d b
      ≡ go {i = false} (begin_read e n) d b
  read-disabled o = rw (started d Out e h, allocated d Out e h, o)

  module _ (o : enables.is_on d.globals.ep_config Out e ≡ true) where
    pub read_short : ltb n (ep_on d Out e).max_len ≡ true → begun_as (begun-as.Refused 10) d b
        ≡ go {i = false} (begin_read e n) d b
    read_short l = rw (started d Out e h, allocated d Out e h, o, l)

    module _ (l : ltb n (ep_on d Out e).max_len ≡ false)
        (d1 d2 : Driver) (h1 : d1 ≡ with_request_on d Out e (begun n)) (h2 : d2 ≡ none_gathered d1) where
      pub read-iso : is_on (ep_on d Out e).iso ≡ true → begun_as (begun-as.Ends 0) d2 b
          ≡ go {i = false} (begin_read e n) d b
      read-iso i = rw (h2, h1, started d Out e h, allocated d Out e h, o, l, i)

      module _ (i : is_on (ep_on d Out e).iso ≡ false) where
        pub read_has : is_on (ep_on d Out e).ready ≡ true → begun_as (begun-as.Ends 0) d2 b
            ≡ go {i = false} (begin_read e n) d b
        read_has r = rw (h2, h1, started d Out e h, allocated d Out e h, o, l, i, r)

        pub read-asks : is_on (ep_on d Out e).ready ≡ false → (d3 : Driver) → d3 ≡ modified_on Out e (with_armed 1) d2
            → asked (Read EpRxCtrl e) (point.Ack Out e) d3 b ≡ go {i = false} (begin_read e n) d b
        read-asks r d3 h3 = rw (h3, h2, h1, started d Out e h, allocated d Out e h, o, l, i, r)

-- ---- `write`: its begin

module _ (d : Driver) (b bytes : List ℕ) (e : ℕ) (h : eqb (refusal_of d In e) 0 ≡ true) where
  pub write-disabled : enables.is_on d.globals.ep_config In e ≡ false → begun_as (begun-as.Refused 9) d b
      ≡ go {i = false} (begin_write e bytes) d b
  write-disabled o = rw (started d In e h, allocated d In e h, o)

  module _ (o : enables.is_on d.globals.ep_config In e ≡ true) where
    pub write-long : ltb (ep_on d In e).max_len (length bytes) ≡ true → begun_as (begun-as.Refused 10) d b
        ≡ go {i = false} (begin_write e bytes) d b
    write-long l = rw (started d In e h, allocated d In e h, o, l)

    module _ (l : ltb (ep_on d In e).max_len (length bytes) ≡ false)
        (n : ℕ) (k : n ≡ length bytes) (d1 d2 : Driver) (h1 : d1 ≡ with_request_on d In e (begun n))
        (h2 : d2 ≡ none_gathered d1) where
      pub write-iso : is_on (ep_on d In e).iso ≡ true → begun_as (begun-as.Ends 0) d2 b
          ≡ go {i = false} (begin_write e bytes) d b
      write-iso i = rw (h2, h1, k, started d In e h, allocated d In e h, o, l, i)

      pub write-asks : is_on (ep_on d In e).iso ≡ false → (b1 : List ℕ) → b1 ≡ filled_on d2 e bytes b
          → (d3 : Driver) → d3 ≡ modified_on In e (λ p. with_armed 1 (with_ready 0 p)) d2
          → asked (Write EpTLen e n) (point.Loaded e) d3 b1 ≡ go {i = false} (begin_write e bytes) d b
      write-asks i b1 f d3 h3 = rw (h3, f, h2, h1, k, started d In e h, allocated d In e h, o, l, i)

-- ---- the polls of a read

abbrev pub Told : Polled → List ℕ → Driver → List ℕ → List ℕ → tree.Out St Answer → Type 0
Told r after d b out y = Brought (polled_as r after d b) after out y

pub read-refused : (d : Driver) (b : List ℕ) (e n : ℕ) {k : ℕ} → k ≡ refusal_of d Out e → (k ≡ 0 → ⊥)
    → ends (Refused k) (d, b) ≡ go {i = false}
    (poll_read e n) d b
read-refused d b e n {k} r h = refused d Out e k b _ r (ne_eqb k 0 h)

-- what a run brought is what one brings that comes to the same
pub onward : {x y z : tree.Out St Answer} {after : List ℕ} {S : Type 0} (out : List ℕ)
    → y ≡ z → (x ≡ y) × ((after ≡ lent_after y out) × S) → (x ≡ z) × ((after ≡ lent_after z out) × S)
onward out e h = (h.0 ∙ e, (h.1.0 ∙ lends out e, h.1.1))

-- ---- the poll of an isochronous OUT

-- the shorter of a packet and a slice
take-shorter : (m n k : ℕ) (xs : List ℕ) → k ≡ min m n → take k xs ≡ take n (take m xs)
take-shorter m n k xs h = elim (dec_lt n m) [
  | yes g ↦ is n (omega arith) ∙ sym (take-take n m xs (omega arith))
  | no g ↦ is m (omega arith) ∙ sym (take_all n (take m xs) (short g))
] where
  is : (i : ℕ) → k ≡ i → take k xs ≡ take i xs
  is i e = ap (λ (j : ℕ). take j xs) e

  short : (n < m → ⊥) → length (take m xs) ≤ n
  short g = rw (length-take m xs) (omega arith)

module _ (d : Driver) (b out : List ℕ) (e n : ℕ) where
  pub iso-disabled : enables.is_on d.globals.ep_config Out e ≡ false → (d1 : Driver) → d1
      ≡ with_request_on d Out e empty_request
      → Told (polled-as.Refused 9) out d1 b out (go {i = false} (take_iso e n) d b)
  iso-disabled o d1 h1 = untouched out refl (rw (h1, o))

  module _ (o : enables.is_on d.globals.ep_config Out e ≡ true) where
    pub iso-none : waiting_on d Out e ≡ false → Told polled-as.NotYet out d b out (go {i = false} (take_iso e n) d b)
    iso-none w = untouched out refl (rw (o, w))

    pub iso-taken : waiting_on d Out e ≡ true → (at len k r : ℕ) (out1 : List ℕ) (d1 d2 : Driver) → at ≡ oldest_at d e
        → len ≡ next_len d Out e → k ≡ min len n
        → r ≡ length (bytes_at b at k) → out1 ≡ over (bytes_at b at k) out → d1 ≡ take_on d e → d2
        ≡ with_request_on d1 Out e empty_request
        → Told (polled-as.Done r) out1 d2 b out (go {i = false} (take_iso e n) d b)
    unfolding oldest_on
    iso-taken w at len k r out1 d1 d2 a m p q x h1 h2 =
        brings (bytes_at b at k) out out1 r d2 b (go {i = false} (take_iso e n) d b) q x
        (rw (h2, h1, take-shorter len n k (drop at b) p, a, m, o, w))

-- ---- the poll of any other OUT

pub not-long : (n : ℕ) (p : EpCore) → too_long n p ≡ false → p.len ≤ n
unfolding too_long
not-long n p h = ltb-false n p.len (first (ltb n p.len) (ltb p.max_len p.len) h) where
  first : (x y : Bool) → (x || y) ≡ false → x ≡ false
  first false y k = refl
  first true y k = k

module _ (d : Driver) (b out : List ℕ) (e n : ℕ) (r : EpState) where
  module _ (u : is_on r.ready ≡ true) (d1 d2 : Driver) (h1 : d1 ≡ modified_on Out e (with_ready 0) d)
      (h2 : d2 ≡ with_request_on d1 Out e empty_request) where
    pub ready-long : too_long n (plain_of r) ≡ true → Told (polled-as.Refused 10) out d2 b out
        (go {i = false} (take_ready e n (plain_of r)) d b)
    ready-long l = untouched out refl (rw (h2, h1, u, l))

    pub ready-taken : too_long n (plain_of r) ≡ false → (x : EpState) (k : ℕ) (out1 : List ℕ) → x ≡ ep_on d1 Out e → k
        ≡ length (bytes_at b x.base r.len)
        → out1 ≡ over (bytes_at b x.base r.len) out
        → Told (polled-as.Done k) out1 d2 b out (go {i = false} (take_ready e n (plain_of r)) d b)
    ready-taken l x k out1 f a o =
        brings (bytes_at b x.base r.len) out out1 k d2 b (go {i = false} (take_ready e n (plain_of r)) d b) a o
        (rw (h2, f, h1, u, l))

  module _ (u : is_on r.ready ≡ false) where
    pub ready-waits : (x : Polled) (d1 : Driver) → polled_as x out d1 b
        ≡ go {i = false} (enabled_else Out e (ends_request Out e (Refused 9)) (ret NotYet)) d b
        → Told x out d1 b out (go {i = false} (take_ready e n (plain_of r)) d b)
    ready-waits x d1 t = (t ∙ rw u, rw u (neither (enables.is_on d.globals.ep_config Out e) _ _ out refl refl))

-- ---- a poll past rows 4 and 5: rows 15 and 10, then what it takes, by the endpoint's record

abbrev pub reads : ℕ → ℕ → EpCore → Script false Answer
reads e n s = test (is_on s.iso) (take_iso e n) (take_ready e n s)

abbrev pub writes : ℕ → List ℕ → EpCore → Script false Answer
writes e bytes s = test (is_on s.iso) (put_iso e bytes) (sent_ready e s)

module _ (dir : Dir) (e n : ℕ) (p : EpCore → Script false Answer) (d : Driver) (b : List ℕ)
    (h : eqb (refusal_of d dir e) 0 ≡ true)
    {q : Request} (k : q ≡ request_on d dir e) {t : Bool} (o : t ≡ is_on q.begun) where
  abbrev poll : tree.Out St Answer
  poll = go (staged 2 (named dir e (polled dir e n p))) d b

  pub poll-none : not t ≡ true → ends (Refused 15) (d, b) ≡ poll
  poll-none f = rw (started d dir e h, allocated d dir e h, ← k, ← o, f)

  module _ (f : not t ≡ false) where
    pub poll-other : (q.length ≡ n → ⊥) → (d1 d2 : Driver) → d1 ≡ modified_on dir e (with_ready 0) d → d2
        ≡ with_request_on d1 dir e empty_request
        → ends (Refused 10) (d2, b) ≡ poll
    poll-other l d1 d2 h1 h2 = rw (h2, h1, started d dir e h, allocated d dir e h, ← k, ← o, f, ne_eqb q.length n l)

    pub poll-takes : q.length ≡ n → (r : EpState) → r ≡ ep_on d dir e → go (p (plain_of r)) d b ≡ poll
    poll-takes l r g = rw (g, started d dir e h, allocated d dir e h, ← k, ← o, f, eq-eqb q.length n l)

module _ {A : Type 0} {t u : Bool} (x y : A) (e : t ≡ u) where
  pub picks : t ≡ true → x ≡ cond u x y
  picks h = rw (← e, h)

  pub leaves : t ≡ false → y ≡ cond u x y
  leaves h = rw (← e, h)

-- ---- the polls of a write

module _ (d : Driver) (b bytes : List ℕ) (e : ℕ) where
  pub put-disabled : enables.is_on d.globals.ep_config In e ≡ false → (d1 : Driver) → d1
      ≡ with_request_on d In e empty_request
      → polled_as (polled-as.Refused 9) [] d1 b ≡ go {i = false} (put_iso e bytes) d b
  put-disabled o d1 h1 = rw (h1, o)

  module _ (o : enables.is_on d.globals.ep_config In e ≡ true) where
    pub put_full : room_on d e (length bytes) ≡ false → polled_as polled-as.NotYet [] d b
        ≡ go {i = false} (put_iso e bytes) d b
    put_full w = rw (o, w)

    pub put-done : room_on d e (length bytes) ≡ true → (d1 d2 : Driver) (b1 : List ℕ) → d1 ≡ (enqueue_on e bytes (d, b)).0
        → b1 ≡ (enqueue_on e bytes (d, b)).1
        → d2 ≡ with_request_on d1 In e empty_request → polled_as (polled-as.Done 0) [] d2 b1
        ≡ go {i = false} (put_iso e bytes) d b
    put-done w d1 d2 b1 h1 k h2 = rw (h2, h1, k, o, w)

  module _ (r : EpState) where
    pub sent-done : is_on r.ready ≡ true → (d1 d2 : Driver) → d1 ≡ modified_on In e (with_ready 0) d → d2
        ≡ with_request_on d1 In e empty_request
        → polled_as (polled-as.Done 0) [] d2 b ≡ go {i = false} (sent_ready e (plain_of r)) d b
    sent-done u d1 d2 h1 h2 = rw (h2, h1, u)

    pub sent-waits : is_on r.ready ≡ false
        → go {i = false} (enabled_else In e (ends_request In e (Refused 9)) (ret NotYet)) d b
        ≡ go {i = false} (sent_ready e (plain_of r)) d b
    sent-waits u = rw u
