-- What composed scripts spend: bind adds, a test takes the greater, a walk takes one endpoint's for each
use Rattle.std.specs.Prelude.{Bool, true, false, cond, List, [], ◌∷◌, ◌≡◌, ℕ, zero, suc, ◌+◌, ◌*◌, ◌≤◌, length}
use Rattle.std.proofs.Common.{suc-mul, arith}
use Rattle.bits.specs.Walk.{set_bits}
use Rattle.bits.specs.WalkLaws.{walk-length}
use Rattle.regs.specs.declared.Reg.{Reg}
use Rattle.script.specs.Cells.{Cell, Val}
use Rattle.script.specs.Script.{Script, Test, Look, Fetch, Act, waken, DmaStep, bind, test, ◌>>◌, done, when}
use Rattle.script.specs.Script.{read, write, callback, get, put, is, look, fetch, act, hand}
use Rattle.script.specs.Statics.{modify_reg}
use Rattle.script.specs.Spends as spends
use Rattle.script.specs.Spends.{Other, Spends, raised, ret, either, yes, no}

module _ {i c : Bool} {A : Type 0} where
  pub more : {m n r w : ℕ} {p : Script i A} → Spends c m n p → m ≤ r → n ≤ w → Spends c r w p
  more x h k = raised x h k

  -- where the test is known, its way's readings, or its way's wake-ups
  pub reads-by : (m n : ℕ) {w : ℕ} (b : Bool) {p q : Script i A} → Spends c m w p → Spends c n w q
      → Spends c (cond b m n) w (test b p q)
  reads-by m n true x y = yes x
  reads-by m n false x y = no y

  -- bind with the numbers that are most frequent: a first part that spends nothing, one reading, one wake-up, readings
  -- alone; a rest that spends nothing
  pub free : {B : Type 0} {r w : ℕ} {p : Script i B} {f : B → Script i A}
      → Spends false 0 0 p → ((b : B) → Spends c r w (f b)) → Spends c r w (bind p f)
  free {r = r} {w = w} x y = more (spends.bind 0 r 0 w x y) (omega arith) (omega arith)

  pub once : {B : Type 0} {r w : ℕ} {p : Script i B} {f : B → Script i A}
      → Spends false 1 0 p → ((b : B) → Spends c r w (f b)) → Spends c (suc r) w (bind p f)
  once {r = r} {w = w} x y = more (spends.bind 1 r 0 w x y) (omega arith) (omega arith)

  pub woken : {B : Type 0} {r w : ℕ} {p : Script i B} {f : B → Script i A}
      → Spends false 0 1 p → ((b : B) → Spends c r w (f b)) → Spends c r (suc w) (bind p f)
  woken {r = r} {w = w} x y = more (spends.bind 0 r 1 w x y) (omega arith) (omega arith)

  pub reading : {B : Type 0} (m n : ℕ) {w : ℕ} {p : Script i B} {f : B → Script i A}
      → Spends false m 0 p → ((b : B) → Spends c n w (f b)) → Spends c (m + n) w (bind p f)
  reading m n {w = w} x y = more (spends.bind m n 0 w x y) (omega arith) (omega arith)

  pub then-free : {B : Type 0} {r w : ℕ} {p : Script i B} {f : B → Script i A}
      → Spends false r w p → ((b : B) → Spends c 0 0 (f b)) → Spends c r w (bind p f)
  then-free {r = r} {w = w} x y = more (spends.bind r 0 w 0 x y) (omega arith) (omega arith)

module _ {i c : Bool} {r w : ℕ} where
  -- single steps
  pub one-read : {reg : Reg} {e : ℕ} → Spends {i = i} c (suc r) w (read reg e)
  one-read = spends.read (λ _. ret)

  pub one-wake : {code : ℕ} → Spends {i = i} c r (suc w) (act (waken (code ∷ [])))
  one-wake {code = code} = more (spends.wake {r = r} {w = w} (code ∷ []) ret) (omega arith) (omega arith)

  pub no_write : {reg : Reg} {e v : ℕ} → Spends {i = i} c r w (write reg e v)
  no_write = spends.write ret

  pub no-get : (x : Cell) → Spends {i = i} c r w (get x)
  no-get x = spends.get (λ _. ret)

  pub no-put : (x : Cell) {v : Val x} → Spends {i = i} c r w (put x v)
  no-put x = spends.put ret

  pub no-is : {q : Test} → Spends {i = i} c r w (is q)
  no-is = spends.is (λ _. ret)

  pub no-look : {q : Look} → Spends {i = i} c r w (look q)
  no-look = spends.look (λ _. ret)

  pub no-fetch : {q : Fetch} → Spends {i = i} c r w (fetch q)
  no-fetch = spends.fetch (λ _. ret)

  pub no-act : (q : Act) → Other q → Spends {i = i} c r w (act q)
  no-act q h = spends.act q h ret

  pub no-hand : {q : DmaStep} → Spends {i = i} c r w (hand q)
  no-hand = spends.hand ret

  pub no-callback : Spends {i = i} c r w callback
  no-callback = spends.callback ret

  pub when-spends : {b : Bool} {p : Script i Unit} → Spends c r w p → Spends c r w (when b p)
  when-spends x = either x ret

  -- an assignment (`modify`, `modify_ep`, `wake`), and one that is written out (`modify_int_en`)
  pub assign : (x : Cell) {f : Val x → Val x} → Spends {i = i} c r w (bind (get x) (λ v. put x (f v)))
  assign x = free (spends.get (λ _. ret)) (λ _. spends.put ret)

  pub assign-write : (x : Cell) {f : Val x → Val x} {reg : Reg} {e : ℕ} {h : Val x → ℕ}
      → Spends {i = i} c r w (bind (get x) (λ v. bind (put x (f v)) (λ _. write reg e (h v))))
  assign-write x = free (spends.get (λ _. ret)) (λ _. free (spends.put ret) (λ _. spends.write ret))

  pub modify_reg-spends : {reg : Reg} {e : ℕ} {f : ℕ → ℕ} → Spends {i = i} c (suc r) w (modify_reg reg e f)
  modify_reg-spends = once (spends.read (λ _. ret)) (λ _. spends.write ret)

-- a walk over a list: one endpoint's for each
module _ {i : Bool} (W : List ℕ → Script i Unit)
    (one : ℕ → Script i Unit) (none : W [] ≡ done) (step : (e : ℕ) (es : List ℕ) → W (e ∷ es) ≡ (one e >> W es)) where
  spends-walk : {r w : ℕ} → ((e : ℕ) → Spends false r w (one e)) → (k : ℕ) (es : List ℕ) → length es ≤ k
      → Spends false (k * r) (k * w) (W es)
  spends-walk x k [] h = rw none ret
  spends-walk x zero (e ∷ es) h = absurd (omega (arith, h))
  spends-walk {r = r} {w = w} x (suc k) (e ∷ es) h = rw (step e es)
      (more (spends.bind r (k * r) w (k * w) (x e) (λ _. spends-walk x k es (omega (arith, h))))
      (omega (arith, suc-mul k r)) (omega (arith, suc-mul k w)))

  -- the walk over a mask
  pub spends-mask : {r w : ℕ} → ((e : ℕ) → Spends false r w (one e)) → (m : ℕ)
      → Spends false (16 * r) (16 * w) (W (set_bits m))
  spends-mask x m = spends-walk x 16 (set_bits m) (walk-length m)
