-- What each function of the interrupt ensures of its answer: where the rest stops, and that all 22 bytes are pinned.
-- Assumes nothing.
use Rattle.std.specs.Prelude.{List, ◌≡◌, ℕ}
use Rattle.regs.specs.declared.Access.{Access}
use Rattle.state.specs.State.{view}
use Rattle.script.specs.Tree.{Out}
use Rattle.script.specs.Machine.{Buf, awaited}
use Rattle.script_ops.specs.Rings.{St}
use Rattle.interrupt.specs.declared.Point.{Point}
use Rattle.interrupt.specs.declared.Next.TheVariants as next
use Rattle.interrupt.specs.Points.{meaning, awaits_at}
use Rattle.interrupt.specs.Stands.{Stands, Stops, Pins}
use Rattle.interrupt.specs.StandsLaws.{stops_at, stored_at, then-on}

-- at a point: its access is the first of the rest
module _ {r : ℕ} {q : Access} {p : Point} {xs ys : List ℕ} (h : Stands r q p xs ys) (l : awaited q ≡ awaits_at p) where
  pub pauses-at : {b : Buf} {o : Out St ℕ} → meaning (next.Asks q p) (view xs) b ≡ o → Stops r ys b o × Pins r ys
  pauses-at {b} m = (stops_at h l b m, stored_at h)

  -- in any buffer
  pub pauses-in : {o : Buf → Out St ℕ} → ((b : Buf) → meaning (next.Asks q p) (view xs) b ≡ o b)
      → ((b : Buf) → Stops r ys b (o b)) × Pins r ys
  pauses-in m = (λ b. stops_at h l b (m b), stored_at h)

-- by another function, whose rest is the same said another way
module _ {r : ℕ} {ys : List ℕ} where
  pub goes_on_lem : {b : Buf} {o o' : Out St ℕ} → Stops r ys b o × Pins r ys → o ≡ o' → Stops r ys b o' × Pins r ys
  goes_on_lem h e = (then-on h.0 e, h.1)

  -- in any buffer
  pub goes_in : {o o' : Buf → Out St ℕ} → ((b : Buf) → Stops r ys b (o b)) × Pins r ys → ((b : Buf) → o b ≡ o' b)
      → ((b : Buf) → Stops r ys b (o' b)) × Pins r ys
  goes_in h e = (λ b. then-on (h.0 b) (e b), h.1)
