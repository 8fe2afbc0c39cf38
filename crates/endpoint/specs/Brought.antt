-- A poll's answer and the slice that it was lent, together: what was answered is what the script comes to, and the
-- slice what it brings
use Rattle.std.specs.Prelude.{◌≡◌, Bool, true, false, cond, List, ℕ, length}
use Rattle.std.proofs.Common.{ap, ◌∙◌}
use Rattle.ring.specs.Copies.{over}
use Rattle.state.specs.Driver.{Driver}
use Rattle.script.specs.Tree as tree
use Rattle.script.specs.Tree.{ends}
use Rattle.script.specs.Answers.{Answer, Done}
use Rattle.script_ops.specs.Rings.{St}
use Rattle.script_ops.specs.Answers.{front, lent_after}
use Rattle.endpoint.specs.Front.{front-over}

abbrev pub Brought : tree.Out St Answer → List ℕ → List ℕ → tree.Out St Answer → Type 0
Brought x after out y = (x ≡ y) × (after ≡ lent_after y out)

pub lends : {x y : tree.Out St Answer} (out : List ℕ) → x ≡ y → lent_after x out ≡ lent_after y out
lends out e = ap (λ (z : tree.Out St Answer). lent_after z out) e

-- an answer that brings nothing
pub untouched : {x y : tree.Out St Answer} (out : List ℕ) → out ≡ lent_after x out → x ≡ y → Brought x out out y
untouched out h t = (t, h ∙ lends out t)

pub neither : (t : Bool) (x y : tree.Out St Answer) (out : List ℕ) → out ≡ lent_after x out → out ≡ lent_after y out → out
    ≡ lent_after (cond t x y) out
neither true x y out h k = h
neither false x y out h k = k

pub brings : (xs out after : List ℕ) (n : ℕ) (d : Driver) (b : List ℕ) (y : tree.Out St Answer) → n ≡ length xs → after
    ≡ over xs out → ends (Done xs)
    (d, b) ≡ y
    → Brought (ends (Done (front n after)) (d, b)) after out y
brings xs out after n d b y k o t = (ap (λ (ys : List ℕ). ends (Done ys) (d, b)) first ∙ t, o ∙ lends out t) where
  first : front n after ≡ xs
  first = rw (k, o) (front-over xs out)
