-- Laws: the endpoints of a descriptor are announced in the order of their buffers. What holds of the announcement of
-- one, and is kept by the steps between, holds of the announcement of all
use Rattle.std.specs.Prelude.{Bool, false, List, [], ◌∷◌}
use Prim.Native.Nat.{ℕ, zero, suc}
use Rattle.regs.specs.declared.Dir.{Dir}
use Rattle.regs.specs.declared.Dir.TheVariants.{Out, In}
use Rattle.descriptor.specs.declared.Endpoint.{Endpoint}
use Rattle.script.specs.Cells.{Cell, Val, allocator-cell, ep-cell}
use Rattle.script.specs.Script.{Script, ret, bind, test, get}
use Rattle.script.specs.AllocateAll.{announce, begins_at, announce_after, announce_all}

-- kept by the steps between
pub record Closed (P : (A : Type 0) → Script false A → Type 1) : Type 1 where
  pub end : {A : Type 0} {a : A} → P A (ret a)
  pub then : {A B : Type 0} {p : Script false B} {f : B → Script false A} → P B p → ((b : B) → P A (f b))
      → P A (bind p f)
  pub either : {A : Type 0} {b : Bool} {p q : Script false A} → P A p → P A q → P A (test b p q)
  pub got : (c : Cell) → P (Val c) (get c)

module _ (P : (A : Type 0) → Script false A → Type 1) (c : Closed P) (one : (dir : Dir) (e : ℕ)
    → P ℕ (announce dir e)) where
  begins_at_lem : (dir : Dir) (x left e : ℕ) → P ℕ (begins_at dir x left e)
  unfolding begins_at
  begins_at_lem dir x zero e = c.end
  begins_at_lem dir x (suc left) e =
      c.then (c.got allocator-cell) (λ _. c.then (c.got (ep-cell dir e))
      (λ _. c.either c.end (begins_at_lem dir x left (suc e))))

  after : (left total : ℕ) (dir : Dir) (e : ℕ) → P ℕ (announce_after left total dir e)
  unfolding announce_after
  after zero total dir e = c.end
  after (suc left) total dir e = c.then (c.then (c.got allocator-cell)
      (λ _. c.then (c.got (ep-cell dir e)) (λ _. c.end)))
      (λ x. c.then (begins_at_lem Out x 15 1) (λ o. c.either
      (c.then (begins_at_lem In x 15 1) (λ n. c.then (one In n) (λ _. after left total In n)))
      (c.then (one Out o) (λ _. after left total Out o))))

  pub announced : (es : List Endpoint) → P ℕ (announce_all es)
  announced [] = c.end
  announced (e ∷ es) = c.then (one _ _) (λ _. after _ _ _ _)
