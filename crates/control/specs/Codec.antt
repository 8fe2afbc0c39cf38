-- A point as numbers, and back
use Rattle.std.specs.Prelude.{cond, ℕ, eqb}
use Rattle.state.specs.declared.Saved.{Saved}
use Rattle.script_ops.specs.Numbers.{numbers}
pub use Rattle.script_ops.specs.Numbers.{dir_as, dir_of, with_tag}
use Rattle.script.specs.Statics.{is_on, flag}
use Rattle.control.specs.declared.Point.{Point}
use Rattle.control.specs.declared.Point.TheVariants as point

-- ---- the numbers of the points

abbrev pub WROTE : ℕ
WROTE = 0

abbrev pub ACK : ℕ
ACK = 1

abbrev pub STATUS-LEN : ℕ
STATUS-LEN = 2

abbrev pub STATUS : ℕ
STATUS = 3

abbrev pub STALL-IN : ℕ
STALL-IN = 4

abbrev pub STALLED-IN : ℕ
STALLED-IN = 5

abbrev pub STALL-OUT : ℕ
STALL-OUT = 6

abbrev pub CLOSING : ℕ
CLOSING = 7

abbrev pub LOADED : ℕ
LOADED = 8

-- ---- the table

-- the point's number, its direction, its flag and its length
abbrev pub code : ℕ → ℕ → ℕ → ℕ → Saved
code sub site f n = numbers sub site f 0 0 0 0 n 0

abbrev pub as_numbers : Point → Saved
as_numbers point.Wrote = code WROTE 0 0 0
as_numbers (point.Ack d) = code ACK (dir_as d) 0 0
as_numbers point.StatusLen = code STATUS-LEN 0 0 0
as_numbers point.Status = code STATUS 0 0 0
as_numbers point.StallIn = code STALL-IN 0 0 0
as_numbers point.StalledIn = code STALLED-IN 0 0 0
as_numbers point.StallOut = code STALL-OUT 0 0 0
as_numbers (point.Closing n first) = code CLOSING 0 (flag first) n
as_numbers (point.Loaded first) = code LOADED 0 (flag first) 0

unfoldable pub encode : Point → Saved
encode p = as_numbers p

-- by the number
abbrev pub by_number : ℕ → Saved → Point
by_number k c =
    cond (eqb k ACK) (point.Ack (dir_of c.site))
    (cond (eqb k STATUS-LEN) point.StatusLen
    (cond (eqb k STATUS) point.Status
    (cond (eqb k STALL-IN) point.StallIn
    (cond (eqb k STALLED-IN) point.StalledIn
    (cond (eqb k STALL-OUT) point.StallOut
    (cond (eqb k CLOSING) (point.Closing c.len (is_on c.flag))
    (cond (eqb k LOADED) (point.Loaded (is_on c.flag))
    point.Wrote)))))))

unfoldable pub decode : Saved → Point
decode c = by_number c.sub c
