-- What a script spends on every path, in readings and in wake-ups: one walk over the scripts gives both bounds, that of
-- the readings
-- (ReadingsLaws) and that of the wake-ups (`proof_wake_ups`)
use Rattle.std.specs.Prelude.{Bool, true, false, not, ◌||◌, List, [], ℕ, suc, ◌+◌, ◌≤◌, ◌<◌, length}
use Rattle.regs.specs.declared.Reg.{Reg}
use Rattle.script.specs.Cells.{Cell, Val}
use Rattle.script.specs.Script.{Script, Test, Look, Fetch, Act, no_wakes, waken, DmaStep, Burst}
use Rattle.script.specs.Script as script
use Rattle.script.specs.Script.{read_then, write_then, wait_then, callback_then, get_then, put_then, is_then}
use Rattle.script.specs.Script.{look_then, fetch_then, act_then, hand_then, row_then}
use Rattle.script.specs.Acts.{same_act}
use Rattle.script.specs.Every.{When}

-- a change that is no begin and no wake-up
abbrev pub Other : Act → Type 0
Other q = When (not (same_act q no_wakes || same_act q (waken []))) (Unit {0})

-- at most r readings and w wake-ups. `true`: a call, which may begin an operation; it gathers its wake-ups from none,
-- and has room for 64
pub data Spent : (i : Bool) (A : Type 0) → Bool → ℕ → ℕ → Script i A → Type 1 where
  raised : {i c : Bool} {A : Type 0} {m n r w : ℕ} {p : Script i A} → Spent i A c m n p → m ≤ r → n ≤ w
      → Spent i A c r w p
  ret : {i c : Bool} {A : Type 0} {r w : ℕ} {a : A} → Spent i A c r w (script.ret a)
  bind : {i c : Bool} {A B : Type 0} (m n k l : ℕ) {p : Script i B} {f : B → Script i A}
      → Spent i B false m k p → ((b : B) → Spent i A c n l (f b)) → Spent i A c (m + n) (k + l) (script.bind p f)
  either : {i c : Bool} {A : Type 0} {r w : ℕ} {b : Bool} {p q : Script i A} → Spent i A c r w p → Spent i A c r w q
      → Spent i A c r w (script.test b p q)
  yes : {i c : Bool} {A : Type 0} {r w : ℕ} {p q : Script i A} → Spent i A c r w p
      → Spent i A c r w (script.test true p q)
  no : {i c : Bool} {A : Type 0} {r w : ℕ} {p q : Script i A} → Spent i A c r w q
      → Spent i A c r w (script.test false p q)
  read : {i c : Bool} {A : Type 0} {r w : ℕ} {reg : Reg} {e : ℕ} {k : ℕ → Script i A}
      → ((v : ℕ) → Spent i A c r w (k v)) → Spent i A c (suc r) w (read_then reg e k)
  write : {i c : Bool} {A : Type 0} {r w : ℕ} {reg : Reg} {e v : ℕ} {p : Script i A} → Spent i A c r w p
      → Spent i A c r w (write_then reg e v p)
  wait : {i c : Bool} {A : Type 0} {r w n : ℕ} {p : Script i A} → Spent i A c r w p → Spent i A c r w (wait_then n p)
  callback : {i c : Bool} {A : Type 0} {r w : ℕ} {p : Script i A} → Spent i A c r w p
      → Spent i A c r w (callback_then p)
  get : {i c : Bool} {A : Type 0} {r w : ℕ} {x : Cell} {k : Val x → Script i A} → ((v : Val x) → Spent i A c r w (k v))
      → Spent i A c r w (get_then x k)
  put : {i c : Bool} {A : Type 0} {r w : ℕ} {x : Cell} {v : Val x} {p : Script i A} → Spent i A c r w p
      → Spent i A c r w (put_then x v p)
  is : {i c : Bool} {A : Type 0} {r w : ℕ} {q : Test} {k : Bool → Script i A} → ((b : Bool) → Spent i A c r w (k b))
      → Spent i A c r w (is_then q k)
  look : {i c : Bool} {A : Type 0} {r w : ℕ} {q : Look} {k : ℕ → Script i A} → ((n : ℕ) → Spent i A c r w (k n))
      → Spent i A c r w (look_then q k)
  fetch : {i c : Bool} {A : Type 0} {r w : ℕ} {q : Fetch} {k : List ℕ → Script i A}
      → ((l : List ℕ) → Spent i A c r w (k l)) → Spent i A c r w (fetch_then q k)
  act : {i c : Bool} {A : Type 0} {r w : ℕ} (q : Act) {p : Script i A} → Other q → Spent i A c r w p
      → Spent i A c r w (act_then q p)
  wake : {i c : Bool} {A : Type 0} {r w : ℕ} (codes : List ℕ) {p : Script i A} → Spent i A c r w p
      → Spent i A c r (length codes + w) (act_then (waken codes) p)
  begin : {i : Bool} {A : Type 0} {r w n : ℕ} {p : Script i A}
      → n < 64 → Spent i A false r n p → Spent i A true r w (script.bind (script.act no_wakes) (λ _. p))
  hand : {i c : Bool} {A : Type 0} {r w : ℕ} {q : DmaStep} {p : Script i A} → Spent i A c r w p
      → Spent i A c r w (hand_then q p)
  row : {c : Bool} {A : Type 0} {r w : ℕ} {g : Burst} {p : Script false A} → Spent false A c r w p
      → Spent false A c r w (row_then g p)

abbrev pub Spends : {i : Bool} {A : Type 0} → Bool → ℕ → ℕ → Script i A → Type 1
Spends {i} {A} c r w p = Spent i A c r w p
