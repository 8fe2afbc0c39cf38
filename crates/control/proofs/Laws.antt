-- What a call answers, over the drivers that its stores come to
use mathlib.Core.Path.{◌≡◌, refl, sym, ◌∙◌}
use mathlib.Core.Bool.{Bool, true, false, cond}
use mathlib.Core.List.{List, []}
use Prim.Native.Nat.{ℕ, ◌%◌, ◌≤◌}
use native.Mathlib.Omega.{arith}
use borrow.Author.Tests.{ltb-false, le-ltb, eq-eqb, ne_eqb}
use lib.Dec.{eqb, ltb}
use lib.ListN.{length}
use Rattle.ring.specs.Copies.{over, bytes_at}
use Rattle.regs.specs.declared.Reg.TheVariants.{DevAd, EpTxCtrl}
use Rattle.regs.specs.declared.Access.TheVariants.{Read, Write}
use Rattle.regs.specs.declared.Dir.TheVariants.{Out, In}
use Rattle.state.specs.declared.Globals.{Globals}
use Rattle.state.specs.declared.Control.{Control}
use Rattle.state.specs.declared.EpState.{EpState}
use Rattle.state.specs.Driver.{Driver, ep_on, with_globals, with_control, none_gathered}
use Rattle.script.specs.Statics.{is_on, flag, with_ready, with_armed, with_setup}
use Rattle.script.specs.Tree as tree
use Rattle.script.specs.Tree.{ends}
use Rattle.script.specs.Cells.{control-cell}
use Rattle.script.specs.Script.{ret, put, ◌>>◌}
use Rattle.script.specs.Answers.{Answer, Refused, NotYet, Done, resultless, staged}
use Rattle.script.specs.Control.{SETUP, ACCEPT, DATA-OUT, DATA-IN, setup_bytes, poll_setup, poll_accept, poll_data_in}
use Rattle.script.specs.Control.{poll_data_out, aborted_else, take_out, take_closing, take_in, data_in_of}
use Rattle.script.specs.Control.{empty_control, unless_setup, status_in, begin_reject, begin_data_in}
use Rattle.script_ops.specs.Rings.{St, filled_ep0}
use Rattle.script_ops.specs.Concrete.{go}
use Rattle.endpoint.specs.Records.{modified_on}
use Rattle.script_ops.specs.Answers.{finished}
use Rattle.endpoint.specs.Brought.{Brought, untouched, neither, brings}
use Rattle.control.specs.declared.Point.TheVariants as point
use Rattle.control.specs.declared.Begun.TheVariants as begun
use Rattle.control.specs.declared.Polled.{Polled}
use Rattle.control.specs.declared.Polled.TheVariants as polled
use Rattle.control.specs.Points.{loading, asked, begun_as, polled_as}
use Rattle.control.specs.Rows.{begin_row, poll_row, Polls}

-- ---- rows

-- of a stage past rows 4 and 10
pub row_within : (g : Globals) (n : ℕ) {started waits x : Bool} → started ≡ eqb g.stage 2 → started ≡ true → n
    ≤ g.ep0_max
    → waits ≡ is_on g.setup_ready → waits ≡ x → cond x 9 0 ≡ begin_row g n
unfolding begin_row
row_within g n e h l k w = simp (← e, h, le-ltb _ _ l, ← k, w)

-- f at the row that stops a call, else z

module _ {A : Type 0} (f : ℕ → A) (z : A) where
  tests : (s m u : Bool)
      → cond s (cond m (f 10) (cond u (f 9) z)) (f 4) ≡ cond (eqb (cond s (cond m 10 (cond u 9 0)) 4) 0) z
      (f (cond s (cond m 10 (cond u 9 0)) 4))
  tests true true u = refl
  tests true false true = refl
  tests true false false = refl
  tests false m u = refl

  sorts : (s o : Bool) → cond s (cond o z (f 15)) (f 4)
      ≡ cond (eqb (cond s (cond o 0 15) 4) 0) z (f (cond s (cond o 0 15) 4))
  sorts true true = refl
  sorts true false = refl
  sorts false o = refl

  stops : {row r : ℕ} {y : A} → y ≡ cond (eqb r 0) z (f r) → row ≡ r → (row ≡ 0 → ⊥) → f row ≡ y
  stops {row} {r} {y} e k h = sym (e ∙ rw (← k, ne_eqb row 0 h))

  passes : {row r : ℕ} {x y : A} → y ≡ cond (eqb r 0) z (f r) → row ≡ r → row ≡ 0 → x ≡ z → x ≡ y
  passes {row} {r} {x} {y} e k h g = g ∙ sym (e ∙ rw (← k, h))

module _ (d : Driver) {g : Globals} (n : ℕ) (b : List ℕ) (z : tree.Out St Answer) (e : g ≡ d.globals) where
  abbrev refuses : ℕ → tree.Out St Answer
  refuses k = ends (Refused k) (d, b)

  abbrev begins : tree.Out St Answer
  begins = cond (eqb d.globals.stage 2) (cond (ltb d.globals.ep0_max n) (refuses 10)
      (cond (is_on d.globals.setup_ready) (refuses 9) z))
      (refuses 4)

  at-begin : begins ≡ cond (eqb (begin_row g n) 0) z (refuses (begin_row g n))
  unfolding begin_row
  at-begin = rw e (tests refuses z (eqb d.globals.stage 2) (ltb d.globals.ep0_max n)
      (is_on d.globals.setup_ready))

  pub begin-refused : {row : ℕ} → row ≡ begin_row g n → (row ≡ 0 → ⊥) → refuses row ≡ begins
  begin-refused k h = stops refuses z at-begin k h

  pub begin-passed : {row : ℕ} {x : tree.Out St Answer} → row ≡ begin_row g n → row ≡ 0 → x ≡ z → x ≡ begins
  begin-passed k h m = passes refuses z at-begin k h m

  abbrev polls : Control → tree.Out St Answer
  polls c = cond (eqb d.globals.stage 2) (cond (eqb c.sort n) z (refuses 15)) (refuses 4)

  at-poll : (c : Control) → polls c ≡ cond (eqb (poll_row g c n) 0) z (refuses (poll_row g c n))
  unfolding poll_row
  at-poll c = rw e (sorts refuses z (eqb d.globals.stage 2) (eqb c.sort n))

  pub poll-refused : {row : ℕ} {c : Control} → c ≡ d.control → row ≡ poll_row g c n → (row ≡ 0 → ⊥) → refuses row
      ≡ polls d.control
  poll-refused {row} {c} q k h = stops refuses z (at-poll c) k h ∙ rw q

-- a stage of no bytes is below any maximum
module _ (d : Driver) {g : Globals} (b : List ℕ) (z : tree.Out St Answer) (e : g ≡ d.globals) where
  abbrev accepts : tree.Out St Answer
  accepts = cond (eqb d.globals.stage 2) (cond (is_on d.globals.setup_ready) (ends (Refused 9) (d, b)) z)
      (ends (Refused 4) (d, b))

  empty : begins d 0 b z e ≡ accepts
  empty = rw (le-ltb d.globals.ep0_max 0 (omega arith))

  pub accept-refused : {row : ℕ} → row ≡ begin_row g 0 → (row ≡ 0 → ⊥) → ends (Refused row) (d, b) ≡ accepts
  accept-refused k h = begin-refused d 0 b z e k h ∙ empty

  pub accept-passed : {row : ℕ} {x : tree.Out St Answer} → row ≡ begin_row g 0 → row ≡ 0 → x ≡ z → x ≡ accepts
  accept-passed k h m = begin-passed d 0 b z e k h m ∙ empty

-- past its rows a status stage begins with the request that it leaves
pub accepted : {A L : Type 0} {x y z : A} {f : List ℕ → tree.Out St Answer} (d d1 : Driver) {g : Globals} {c : Control}
    {row : ℕ}
    → (d1 ≡ with_control d c) × (y ≡ x) → g ≡ d.globals → row ≡ begin_row g 0 → row ≡ 0
    → ((b : List ℕ) → f b ≡ go {i = false} (resultless status_in) d1 b) × ((z ≡ y) × L)
    → ((b : List ℕ) → f b ≡ go {i = false} (staged 2 (unless_setup (put control-cell c >> resultless status_in))) d b)
    × ((z ≡ x) × L)
accepted d d1 p e k h s = (λ b. accept-passed d b _ e k h (s.0 b ∙ rw p.0), (s.1.0 ∙ p.1, s.1.1))

-- a begin of n bytes passes: they are no more than EP0's maximum
pub within : (g : Globals) (n : ℕ) {row : ℕ} → row ≡ begin_row g n → row ≡ 0 → n ≤ g.ep0_max
unfolding begin_row
within g n k h = ltb-false g.ep0_max n (by (eqb g.stage 2) (ltb g.ep0_max n) (is_on g.setup_ready)
    (sym k ∙ h)) where
      by : (s m u : Bool) → ◌≡◌ {A = ℕ} (cond s (cond m 10 (cond u 9 0)) 4) 0 → m ≡ false
      by true true u q = absurd (omega (arith, q))
      by true false u q = refl
      by false m u q = absurd (omega (arith, q))

pub polling : (d : Driver) {g : Globals} {c : Control}
    (sort : ℕ) {row : ℕ} → g ≡ d.globals → c ≡ d.control → row ≡ poll_row g c sort → row ≡ 0 → Polls d c sort
polling d sort e q k h = (q, rw (← e, ← q) (sym k ∙ h))

-- a poll passes: its two tests
module _ (d : Driver) (c : Control) (sort : ℕ) (q : Polls d c sort) where
  both : (s o : Bool) → ◌≡◌ {A = ℕ} (cond s (cond o 0 15) 4) 0 → (s ≡ true) × (o ≡ true)
  both true true q = (refl, refl)
  both true false q = absurd (omega (arith, q))
  both false o q = absurd (omega (arith, q))

  tested : (eqb d.globals.stage 2 ≡ true) × (eqb d.control.sort sort ≡ true)
  unfolding poll_row
  tested = both (eqb d.globals.stage 2) (eqb d.control.sort sort) q.1

  staged-2 : eqb d.globals.stage 2 ≡ true
  staged-2 = tested.0

  sorted : eqb d.control.sort sort ≡ true
  sorted = tested.1

-- ---- begins

pub reject-asks : (d d1 d2 d3 d4 : Driver) → d1 ≡ with_control d empty_control → d2 ≡ none_gathered d1 → d3
    ≡ modified_on Out 0 (with_armed 0) d2
    → d4 ≡ modified_on In 0 (with_armed 0) d3 → eqb d.globals.stage 2 ≡ true
    → (b : List ℕ) → asked (Read EpTxCtrl 0) point.StallIn d4 b ≡ go {i = false} begin_reject d b
reject-asks d d1 d2 d3 d4 h1 h2 h3 h4 s b = rw (h4, h3, h2, h1, s)

pub reject-refused : (d : Driver) → eqb d.globals.stage 2 ≡ false → (b : List ℕ) → begun_as (begun.Refused 4) d b
    ≡ go {i = false} begin_reject d b
reject-refused d s b = rw s

-- ---- data_in

pub in-loads : (d d1 d2 d3 : Driver) {g : Globals} (b b1 bytes : List ℕ) {n x row : ℕ} (first last : Bool)
    → g ≡ d.globals → row ≡ begin_row g (length bytes) → row ≡ 0 → n ≡ length bytes → x ≡ flag last
    → d1 ≡ with_control d (data_in_of n x 1) → d2 ≡ none_gathered d1 → b1 ≡ filled_ep0 d2 bytes b → d3
    ≡ modified_on In 0 (with_ready 0) d2
    → go (finished (loading n first last)) d3 b1 ≡ go {i = false} (begin_data_in bytes first last) d b
in-loads d d1 d2 d3 b b1 bytes first last e k h l y h1 h2 f h3
    = begin-passed d (length bytes) b _ e k h (rw (h3, f, h2, h1, y, l))

-- ---- polls

module _ (d : Driver) (c : Control) (g : Globals) (b : List ℕ) (q : Polls d c SETUP) (e : g ≡ d.globals) where
  pub setup-done : (d1 d2 : Driver) → d1 ≡ with_globals d (with_setup 0 g.setup_low g.setup_high g)
      → d2 ≡ with_control d1 empty_control → is_on d.globals.setup_ready ≡ true
      → polled_as (polled.Setup g.setup_low g.setup_high) [] d2 b ≡ go {i = false} poll_setup d b
  unfolding setup_bytes
  setup-done d1 d2 h1 h2 u = rw (h2, h1, e, staged-2 d c SETUP q, sorted d c SETUP q, u)

  pub setup-waits : is_on d.globals.setup_ready ≡ false → polled_as polled.NotYet [] d b
      ≡ go {i = false} poll_setup d b
  unfolding setup_bytes
  setup-waits u = rw (staged-2 d c SETUP q, sorted d c SETUP q, u)

module _ (d : Driver) (c : Control) (b : List ℕ) (q : Polls d c ACCEPT) where
  module _ (d1 d2 : Driver) (h1 : d1 ≡ modified_on In 0 (with_ready 0) d) (h2 : d2 ≡ with_control d1 empty_control)
      (r : is_on (ep_on d In 0).ready ≡ true) where
    pub accept-address : (d3 : Driver) → d3 ≡ none_gathered d2 → is_on c.sets_address ≡ true
        → asked (Write DevAd 0 (c.address % 128)) point.Wrote d3 b ≡ go {i = false} poll_accept d b
    accept-address d3 h3 a = rw (h3, h2, h1, staged-2 d c ACCEPT q, sorted d c ACCEPT q, r, ← q.0, a)

    pub accept-done : is_on c.sets_address ≡ false → polled_as (polled.Done 0) [] d2 b
        ≡ go {i = false} poll_accept d b
    accept-done a = rw (h2, h1, staged-2 d c ACCEPT q, sorted d c ACCEPT q, r, ← q.0, a)

  pub accept-waits : is_on (ep_on d In 0).ready ≡ false → go {i = false} (aborted_else (ret NotYet)) d b
      ≡ go {i = false} poll_accept d b
  accept-waits r = rw (staged-2 d c ACCEPT q, sorted d c ACCEPT q, r)

pub closing-now : (d d1 d2 d3 : Driver) (c : Control) (x : EpState) (r : Polled) (b : List ℕ) → x ≡ ep_on d Out 0 → d1
    ≡ modified_on Out 0 (with_ready 0) d
    → d2 ≡ modified_on In 0 (with_ready 0) d1 → d3 ≡ with_control d2 empty_control → is_on (ep_on d Out 0).ready ≡ true
    → ((y : Driver) (z : List ℕ) → polled_as r [] y z ≡ ends (cond (eqb x.len 0) (Done []) (Refused 10)) (y, z))
    → polled_as r [] d3 b ≡ go {i = false} (take_closing true c) d b
closing-now d d1 d2 d3 c x r b e h1 h2 h3 u k = k d3 b ∙ rw (h3, h2, h1, e, u)

pub closing-waits : (d d1 d2 : Driver) (c : Control) (b : List ℕ)
    → d1 ≡ modified_on In 0 (with_ready 0) d → d2 ≡ with_control d1 (data_in_of c.length c.last 2)
    → is_on (ep_on d Out 0).ready ≡ false → is_on d.globals.setup_ready ≡ false → polled_as polled.NotYet [] d2 b
    ≡ go {i = false}
    (take_closing true c) d b
closing-waits d d1 d2 c b h1 h2 u g = rw (h2, h1, u, g)

-- ---- the poll of data_in

module _ (d : Driver) (c : Control) where
  pub in-waits : is_on (ep_on d In 0).ready ≡ false → (b : List ℕ) → go {i = false} (aborted_else (ret NotYet)) d b
      ≡ go {i = false} (take_in c) d b
  in-waits u b = rw u

  module _ (u : is_on (ep_on d In 0).ready ≡ true) where
    pub in-closes : is_on c.last ≡ true → (b : List ℕ) → go {i = false} (take_closing true c) d b
        ≡ go {i = false} (take_in c) d b
    in-closes l b = rw (u, l)

    pub in-done : (d1 d2 : Driver) → d1 ≡ modified_on In 0 (with_ready 0) d → d2 ≡ with_control d1 empty_control
        → is_on c.last ≡ false
        → (b : List ℕ) → polled_as (polled.Done 0) [] d2 b ≡ go {i = false} (take_in c) d b
    in-done d1 d2 h1 h2 l b = rw (h2, h1, u, l)

module _ (d : Driver) (c : Control) (b : List ℕ) (q : Polls d c DATA-IN) where
  pub in-second : c.wait ≡ 2 → go {i = false} (take_closing false c) d b ≡ go {i = false} poll_data_in d b
  in-second w = rw (staged-2 d c DATA-IN q, sorted d c DATA-IN q, ← q.0, w)

  pub in-first : (c.wait ≡ 2 → ⊥) → go {i = false} (take_in c) d b ≡ go {i = false} poll_data_in d b
  in-first w = rw (staged-2 d c DATA-IN q, sorted d c DATA-IN q, ← q.0, ne_eqb c.wait 2 w)

-- ---- the poll of data_out, with the slice it was lent

module _ (d d1 d2 : Driver) (b out : List ℕ) (n : ℕ) (h1 : d1 ≡ modified_on Out 0 (with_ready 0) d)
    (h2 : d2 ≡ with_control d1 empty_control)
    (u : is_on (ep_on d Out 0).ready ≡ true) where
  pub out-long : ltb n (ep_on d Out 0).len ≡ true → Brought (polled_as (polled.Refused 10) out d2 b) out out
      (go {i = false} (take_out n) d b)
  out-long l = untouched out refl (rw (h2, h1, u, l))

  pub out-done : ltb n (ep_on d Out 0).len ≡ false → (g : Globals) (x : EpState) (k : ℕ) (after : List ℕ) → x
      ≡ ep_on d Out 0 → g ≡ d1.globals
      → k ≡ length (bytes_at b g.ep0_buf x.len) → after ≡ over (bytes_at b g.ep0_buf x.len) out
      → Brought (polled_as (polled.Done k) after d2 b) after out (go {i = false} (take_out n) d b)
  out-done l g x k after e f a o = brings (bytes_at b g.ep0_buf x.len) out after k d2 b
      (go {i = false} (take_out n) d b) a o (rw (h2, f, h1, e, u, l))

pub out-waits : (d : Driver) (b out : List ℕ) (n : ℕ) {x : tree.Out St Answer} → is_on (ep_on d Out 0).ready ≡ false
    → x ≡ go {i = false} (aborted_else (ret NotYet)) d b → Brought x out out (go {i = false} (take_out n) d b)
out-waits d b out n u t = (t ∙ rw u, rw u (neither (is_on d.globals.setup_ready) _ _ out refl refl))

pub out-refused : (d : Driver) (b : List ℕ) (n : ℕ) {g : Globals} {c : Control} {row : ℕ} → g ≡ d.globals → c
    ≡ d.control → row ≡ poll_row g c DATA-OUT
    → (row ≡ 0 → ⊥) → ends (Refused row) (d, b) ≡ go {i = false} (poll_data_out n) d b
out-refused d b n e q k h = poll-refused d DATA-OUT b _ e q k h

module _ (d : Driver) (c : Control) (b : List ℕ) (n : ℕ) (q : Polls d c DATA-OUT) where
  pub out-takes : c.length ≡ n → go {i = false} (take_out n) d b ≡ go {i = false} (poll_data_out n) d b
  out-takes m = rw (staged-2 d c DATA-OUT q, sorted d c DATA-OUT q, ← q.0, eq-eqb c.length n m)

  pub out-other : (c.length ≡ n → ⊥) → (d1 d2 : Driver) → d1 ≡ modified_on Out 0 (with_ready 0) d → d2
      ≡ with_control d1 empty_control
      → ends (Refused 10) (d2, b) ≡ go {i = false} (poll_data_out n) d b
  out-other m d1 d2 h1 h2 = rw (h2, h1, staged-2 d c DATA-OUT q, sorted d c DATA-OUT q, ← q.0, ne_eqb c.length n m)
