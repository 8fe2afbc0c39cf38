-- A point as numbers, and back
use Rattle.std.specs.Prelude.{cond, ℕ, eqb}
use Rattle.state.specs.declared.Saved.{Saved}
use Rattle.script_ops.specs.Numbers.{numbers}
pub use Rattle.script_ops.specs.Numbers.{dir_as, dir_of, with_tag}
use Rattle.endpoint.specs.declared.Point.{Point}
use Rattle.endpoint.specs.declared.Point.TheVariants as point

-- ---- the numbers of the points

abbrev pub WROTE : ℕ
WROTE = 0

abbrev pub ACK : ℕ
ACK = 1

abbrev pub LOADED : ℕ
LOADED = 2

-- ---- the table

-- the point's number, its direction and its endpoint
abbrev pub code : ℕ → ℕ → ℕ → Saved
code sub site e = numbers sub site 0 0 0 0 e 0 0

abbrev pub as_numbers : Point → Saved
as_numbers point.Wrote = code WROTE 0 0
as_numbers (point.Ack d e) = code ACK (dir_as d) e
as_numbers (point.Loaded e) = code LOADED 0 e

unfoldable pub encode : Point → Saved
encode p = as_numbers p

-- by the number
abbrev pub by_number : ℕ → Saved → Point
by_number k c =
    cond (eqb k ACK) (point.Ack (dir_of c.site) c.ep)
    (cond (eqb k LOADED) (point.Loaded c.ep)
    point.Wrote)

unfoldable pub decode : Saved → Point
decode c = by_number c.sub c
