-- Laws on the definitions of Twins.antt: what a script spends (Spends) is a bound on its wake-ups
use Rattle.std.specs.Prelude.{Bool, true, false, List, [], ◌∷◌, ◌++◌, ◌≡◌, refl, ℕ, zero, suc, ◌+◌, ◌≤◌, ◌<◌, length}
use Rattle.std.proofs.Common.{append-nil, append_assoc, sym, ap, subst, ◌∙◌, arith, length-append}
use Rattle.regs.specs.declared.Access.{Access}
use Rattle.state.specs.Driver.{Driver, with_wakes, none_gathered}
use Rattle.state.specs.Wakes.{listed, all_woken}
use Rattle.state.specs.WakesLaws.{unwoken-room, unwoken-listed, all_room, all_listed, listed-count}
use Rattle.script.specs.Tree as tree
use Rattle.script.specs.Tree.{asks, Prog, bind_out}
use Rattle.script.specs.Script.{Script, run, rows, Fetch, oldest, received, received0, gathered, Act, complete}
use Rattle.script.specs.Script.{reset_ring}
use Rattle.script.specs.Script.{set_enabled_lem, fill, fill0, open_oldest, close_oldest, take_oldest, enqueue, allocate}
use Rattle.script.specs.Script.{allocate0, no_wakes, waken, Burst, last_of, fetch_then, act_then}
use Rattle.script.specs.Script as script
use Rattle.script.specs.Spends.{Other, Spends, raised, ret, bind, either, yes, no, read, write, wait, callback, get}
use Rattle.script.specs.Spends.{put, is}
use Rattle.script.specs.Spends.{look, fetch, act, wake, begin, hand, row}
use Rattle.script_ops.specs.Rings.{St}
use Rattle.script_ops.specs.Concrete.{concrete}
use Rattle.proof_wake_ups.specs.Heard.{Heard, Hst, bare, onto, recorded, heard_ops}
use Rattle.proof_wake_ups.specs.Still.{SameWakes, put-still, act-still, hand-still, row-still}
use Rattle.proof_wake_ups.specs.Twins.{Fits, Twin, end, ask, Short}

pub twin-more : {A : Type 0} {P Q : List ℕ → Type 0} {o : tree.Out St A} {u : tree.Out Hst A} → Twin P o u
    → ((l : List ℕ) → P l → Q l) → Twin Q o u
twin-more (end t f p) g = end t f (g _ p)
twin-more (ask t f p k) g = ask t f (g _ p) (λ v u h e. twin-more (k v u h e) g)

pub twin-bind : {A B : Type 0} {P Q : List ℕ → Type 0} {o : tree.Out St A} {u : tree.Out Hst A}
    (f : A → Prog St B) (g : A → Prog Hst B) → Twin P o u → ((l : List ℕ) → P l → Q l)
    → ((a : A) (t : Hst) → Fits t.0 → P t.0.1 → Twin Q (f a (bare t)) (g a t))
    → Twin Q (bind_out o f) (bind_out u g)
twin-bind f g (end t x p) w h = h _ t x p
twin-bind f g (ask t x p k) w h = ask t x (w _ p) (λ v u y e. twin-bind f g (k v u y e) w h)

-- ---- records that grew

-- at most n more, last
pub record Grown (l : List ℕ) (n : ℕ) (x : List ℕ) : Type 0 where
  pub more : List ℕ
  pub by : x ≡ l ++ more
  pub few : length more ≤ n

grown-none : (l : List ℕ) (n : ℕ) → Grown l n l
grown-none l n = record { more = []; by = sym (append-nil l); few = omega arith }

grown-le : {l x : List ℕ} {m n : ℕ} → m ≤ n → Grown l m x → Grown l n x
grown-le h g = record { more = g.more; by = g.by; few = omega (arith, h, g.few) }

grown-then : {l x y : List ℕ} {m n : ℕ} → Grown l m x → Grown x n y → Grown l (m + n) y
grown-then {l} {x} {y} {m} {n} g h = record {
  more = g.more ++ h.more;
  by = h.by ∙ ap (λ (z : List ℕ). z ++ h.more) g.by ∙ append_assoc l g.more h.more;
  few = omega (arith, length-append g.more h.more, g.few, h.few);
}

pub grown-length : {l x : List ℕ} {n : ℕ} → Grown l n x → length x ≤ length l + n
grown-length {l} g = omega (arith, ap length g.by, length-append l g.more, g.few)

-- of none nothing
pub grown-same : {l x : List ℕ} → Grown l 0 x → x ≡ l
grown-same {l} g = by-more g.more g.by g.few
  where
    by-more : {x : List ℕ} (m : List ℕ) → x ≡ l ++ m → length m ≤ 0 → x ≡ l
    by-more [] e h = e ∙ append-nil l
    by-more (c ∷ m) e h = absurd (omega (arith, h))

-- ---- scripts

-- from any state with room for them: at most n more; of a call, which may begin anew, always room for one more
abbrev Grows : Bool → List ℕ → ℕ → List ℕ → Type 0
Grows false l n x = Grown l n x
Grows true l n x = Short x

pub record Wakes≤ {i : Bool} {A : Type 0} (c : Bool) (n : ℕ) (p : Script i A) : Type 0 where
  pub on : (t : Hst) → Fits t.0 → length t.0.1 + n < 64
      → Twin (Grows c t.0.1 n) (run concrete p (bare t)) (run heard_ops p t)

grows-of : (c : Bool) {l x : List ℕ} {n : ℕ} → length l + n < 64 → Grown l n x → Grows c l n x
grows-of false h g = g
grows-of true h g = omega (arith, h, grown-length g)

grows-le : (c : Bool) (l x : List ℕ) {m n : ℕ} → m ≤ n → Grows c l m x → Grows c l n x
grows-le false l x h g = grown-le h g
grows-le true l x h g = g

grows_then : (c : Bool) (n : ℕ) (y : List ℕ) {l x : List ℕ} {m : ℕ} → Grown l m x → Grows c x n y → Grows c l (m + n) y
grows_then false n y g h = grown-then g h
grows_then true n y g h = h

fits_by : (h : Heard) (d : Driver) → SameWakes h.0 d → Fits h → Fits (d, h.1)
fits_by h d q f = record { room = rw q f.room; list = ap listed q ∙ f.list }

recorded-other : (q : Act) → Other q → (l : List ℕ) → recorded q l ≡ l
recorded-other no_wakes h l = absurd h
recorded-other (waken codes) h l = absurd h
recorded-other (complete e) h l = refl
recorded-other (reset_ring d e) h l = refl
recorded-other (set_enabled_lem d e on) h l = refl
recorded-other (fill e bytes) h l = refl
recorded-other (fill0 bytes) h l = refl
recorded-other (open_oldest e) h l = refl
recorded-other (close_oldest e) h l = refl
recorded-other (take_oldest e) h l = refl
recorded-other (enqueue e bytes) h l = refl
recorded-other (allocate d kind address maximum interval) h l = refl
recorded-other (allocate0 maximum) h l = refl

-- a record of the same length
grows_from : (c : Bool) (n : ℕ) {l x : List ℕ} → x ≡ l → (y : List ℕ) → Grows c x n y → Grows c l n y
grows_from c n e y g = subst (λ (z : List ℕ). Grows c z n y) e g

-- an access, after which the rest goes on
asked : {A : Type 0} (c : Bool) (n : ℕ) {q : Access} {k : ℕ → St → tree.Out St A} {k' : ℕ → Hst → tree.Out Hst A}
    (t : Hst) → Fits t.0
    → length t.0.1 + n < 64
    → ((v : ℕ) (u : Hst) → Fits u.0 → length u.0.1 + n < 64 → Twin (Grows c u.0.1 n) (k v (bare u)) (k' v u))
    → Twin (Grows c t.0.1 n) (asks q (bare t) k) (asks q t k')
asked c n t f r x = ask t f (grows-of c r (grown-none _ n))
    (λ v u g e. twin-more (x v u g (omega (arith, r, ap length e))) (grows_from c n e))

rows-twin : {A : Type 0} (c : Bool) (g : Burst) (n m : ℕ) {p : Script false A} → Wakes≤ c m p → (t : Hst) → Fits t.0
    → length t.0.1 + m < 64
    → Twin (Grows c t.0.1 m) (rows concrete g n (λ s. run concrete p s) (bare t))
    (rows heard_ops g n (λ u. run heard_ops p u) t)
rows-twin c g zero m x t f r =
    asked c m (onto t (concrete.row g zero (bare t)).1) (fits_by t.0 _ (row-still g zero (bare t)) f) r
    (λ v u h e. x.on u h e)
rows-twin c g (suc n) m x t f r =
    asked c m (onto t (concrete.row g (suc n) (bare t)).1) (fits_by t.0 _ (row-still g (suc n) (bare t)) f) r
    (λ v u h e. rows-twin c g n m x u h e)

-- what is fetched: the record, where it is what the driver lists
fetched : {i : Bool} {A : Type 0} (P : List ℕ → Type 0) (q : Fetch) (k : List ℕ → Script i A) (t : Hst) → Fits t.0
    → ((l : List ℕ) → Twin P (run concrete (k l) (bare t)) (run heard_ops (k l) t))
    → Twin P (run concrete (fetch_then q k) (bare t)) (run heard_ops (fetch_then q k) t)
fetched P gathered k t f x =
    subst (λ (l : List ℕ). Twin P (run concrete (k l) (bare t)) (run heard_ops (k t.0.1) t)) (sym f.list)
    (x t.0.1)
fetched P (oldest e) k t f x = x _
fetched P (received e m) k t f x = x _
fetched P (received0 m) k t f x = x _

-- a change that is no begin and no wake-up
changed : {i : Bool} {A : Type 0} (c : Bool) (n : ℕ) (q : Act) → Other q → {p : Script i A} → Wakes≤ c n p
    → Wakes≤ c n (act_then q p)
changed c n q h x = record {
  on = λ t f r.
      let e = recorded-other q h t.0.1 in
      twin-more
      (x.on (((concrete.act q (bare t)).0, recorded q t.0.1), (concrete.act q (bare t)).1)
      (subst (λ (l : List ℕ). Fits ((concrete.act q (bare t)).0, l)) (sym e)
      (fits_by t.0 _ (act-still q h (bare t)) f)) (omega (arith, r, ap length e)))
      (grows_from c n e);
}

-- wake-ups, which count
waking : {i : Bool} {A : Type 0} (c : Bool) (n : ℕ) (cs : List ℕ) {p : Script i A} → Wakes≤ c n p
    → Wakes≤ c (length cs + n) (act_then (waken cs) p)
waking c n cs x = record {
  on = λ t f r.
      let w = t.0.0.wakes in
      let h : w.count + length cs ≤ 64 = omega (arith, r, listed-count w f.room, ap length f.list) in
      twin-more
      (x.on ((with_wakes t.0.0 (all_woken cs w), t.0.1 ++ cs), t.1)
      (record {
        room = all_room cs w f.room h;
        list = all_listed cs w f.room h
            ∙ ap (λ (l : List ℕ). l ++ cs) f.list;
      })
      (omega (arith, r, length-append t.0.1 cs)))
      (λ y g. grows_then c n y (record { more = cs; by = refl; few = omega arith }) g);
}

-- an operation begins without wake-ups
beginning : {i : Bool} {A : Type 0} (m n : ℕ) → n < 64 → {p : Script i A} → Wakes≤ false n p
    → Wakes≤ true m (script.bind (script.act no_wakes) (λ _. p))
beginning m n h x = record {
  on = λ t f r. twin-more
      (x.on ((none_gathered t.0.0, []), t.1)
      (record { room = unwoken-room t.0.0.wakes f.room.long; list = unwoken-listed t.0.0.wakes })
      (omega (arith, h)))
      (λ l g. omega (arith, grown-length g, h));
}

pub wakes-of : {i c : Bool} {A : Type 0} {r w : ℕ} {p : Script i A} → Spends c r w p → Wakes≤ c w p
wakes-of {c = c} (raised x h k) = record {
  on = λ t f r. twin-more ((wakes-of x).on t f (omega (arith, k, r)))
      (λ y g. grows-le c t.0.1 y k g);
}
wakes-of {c = c} {w = w} ret = record { on = λ t f r. end t f (grows-of c r (grown-none t.0.1 w)) }
wakes-of {c = c} (bind m n k l x y) = record {
  on = λ t f r. twin-bind _ _ ((wakes-of x).on t f (omega (arith, r))) (λ _ g. grows-of c r (grown-le (omega arith) g))
      (λ a u h g. twin-more ((wakes-of (y a)).on u h (omega (arith, r, grown-length g))) (λ x z. grows_then c l x g z));
}
wakes-of (either {b = true} x y) = record { on = λ t f r. (wakes-of x).on t f r }
wakes-of (either {b = false} x y) = record { on = λ t f r. (wakes-of y).on t f r }
wakes-of (yes x) = record { on = λ t f r. (wakes-of x).on t f r }
wakes-of (no x) = record { on = λ t f r. (wakes-of x).on t f r }
wakes-of {c = c} {w = w} (read x) = record { on = λ t f r. asked c w t f r (λ v u g e. (wakes-of (x v)).on u g e) }
wakes-of {c = c} {w = w} (write x) = record { on = λ t f r. asked c w t f r (λ v u g e. (wakes-of x).on u g e) }
wakes-of {c = c} {w = w} (wait x) = record { on = λ t f r. asked c w t f r (λ v u g e. (wakes-of x).on u g e) }
wakes-of {c = c} {w = w} (callback x) = record { on = λ t f r. asked c w t f r (λ v u g e. (wakes-of x).on u g e) }
wakes-of (get x) = record { on = λ t f r. (wakes-of (x _)).on t f r }
wakes-of (put {x = y} {v = v} x) =
    record {
      on = λ t f r. (wakes-of x).on (onto t (concrete.put y v (bare t)))
          (fits_by t.0 _ (put-still y v (bare t)) f) r;
    }
wakes-of (is x) = record { on = λ t f r. (wakes-of (x _)).on t f r }
wakes-of (look x) = record { on = λ t f r. (wakes-of (x _)).on t f r }
wakes-of (fetch {q = q} {k = k} x) = record { on = λ t f r. fetched _ q k t f (λ l. (wakes-of (x l)).on t f r) }
wakes-of {c = c} {w = w} (act q h x) = changed c w q h (wakes-of x)
wakes-of {c = c} (wake {w = w} codes x) = waking c w codes (wakes-of x)
wakes-of {w = w} (begin {n = n} h x) = beginning w n h (wakes-of x)
wakes-of {c = c} {w = w} (hand {q = q} x) = record {
  on = λ t f r. asked c w (onto t (concrete.hand q (bare t)).1) (fits_by t.0 _ (hand-still q (bare t)) f) r
      (λ v u g e. (wakes-of x).on u g e);
}
wakes-of {c = c} {w = w} (row {g = g} x) = record { on = λ t f r. rows-twin c g (last_of g) w (wakes-of x) t f r }
