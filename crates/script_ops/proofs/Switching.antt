-- A kept word with the bit of an isochronous OUT is stored: a step of the row that enables or disables it. Assumes
-- nothing.
use mathlib.Core.Bool.{Bool}
use mathlib.Core.List.{List}
use mathlib.Core.Path.{◌≡◌, ap, ◌∙◌}
use Prim.Native.Nat.{ℕ}
use Rattle.state.specs.declared.Globals.{Globals}
use Rattle.state.specs.Driver.{with_globals}
use Rattle.state.specs.State.{view, saved}
use Rattle.script_ops.specs.Rings.{switched_on}

pub stepped : (xs ys : List ℕ) (e : ℕ) (on : Bool) (word : Globals → ℕ) (anew : ℕ → Globals → Globals) (g : Globals)
    (v : ℕ)
    → g ≡ (view xs).globals → v ≡ switched_on (view xs) e on (word g)
    → (view ys ≡ with_globals (view xs) (anew v (view xs).globals)) × (saved ys ≡ saved xs)
    → let w = switched_on (view xs) e on (word (view xs).globals) in
    (v ≡ w) × ((view ys ≡ with_globals (view xs) (anew w (view xs).globals)) × (saved ys ≡ saved xs))
stepped xs ys e on word anew g v loaded switched stored =
    let h = switched ∙ ap (λ (k : Globals). switched_on (view xs) e on (word k)) loaded in
    (h, (stored.0 ∙ ap (λ (u : ℕ). with_globals (view xs) (anew u (view xs).globals)) h, stored.1))
