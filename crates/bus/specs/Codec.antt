-- A point as numbers, and back: which point, its direction, enabled, isochronous or suspended, a count or a result, its
-- endpoint
use Rattle.std.specs.Prelude.{cond, ℕ, eqb}
use Rattle.state.specs.declared.Saved.{Saved}
use Rattle.script_ops.specs.Numbers.{numbers}
pub use Rattle.script_ops.specs.Numbers.{dir_as, dir_of, with_tag}
use Rattle.script.specs.Statics.{is_on, flag}
use Rattle.bus.specs.declared.Point.{Point}
use Rattle.bus.specs.declared.Point.TheVariants as point

-- ---- the numbers of the points

abbrev pub ENABLE : ℕ
ENABLE = 0

abbrev pub EVENT : ℕ
EVENT = 1

abbrev pub STALLED : ℕ
STALLED = 2

abbrev pub STALL-LEN : ℕ
STALL-LEN = 3

abbrev pub STALL-WORD : ℕ
STALL-WORD = 4

abbrev pub RESTARTED : ℕ
RESTARTED = 5

abbrev pub WOKEN : ℕ
WOKEN = 6

abbrev pub FLAGS : ℕ
FLAGS = 7

abbrev pub STATUS : ℕ
STATUS = 8

abbrev pub RELEASED : ℕ
RELEASED = 9

abbrev pub ADDRESS : ℕ
ADDRESS = 10

abbrev pub EP0-OUT : ℕ
EP0-OUT = 11

abbrev pub NAK-IN : ℕ
NAK-IN = 12

abbrev pub NAKED : ℕ
NAKED = 13

abbrev pub DISABLED : ℕ
DISABLED = 14

abbrev pub UNTYPED : ℕ
UNTYPED = 15

abbrev pub SINGLE : ℕ
SINGLE = 16

abbrev pub RESET : ℕ
RESET = 17

abbrev pub PLACED-OUT : ℕ
PLACED-OUT = 18

abbrev pub PLACED-IN : ℕ
PLACED-IN = 19

abbrev pub NO-LENGTH : ℕ
NO-LENGTH = 20

abbrev pub WORDS : ℕ
WORDS = 21

abbrev pub TYPE : ℕ
TYPE = 22

abbrev pub SWITCH : ℕ
SWITCH = 23

-- ---- the table

abbrev pub code : ℕ → ℕ → ℕ → ℕ → ℕ → ℕ → Saved
code sub site on iso n e = numbers sub site on iso 0 n e 0 0

abbrev pub as_numbers : Point → Saved
as_numbers point.Enable = code ENABLE 0 0 0 0 0
as_numbers (point.Event n) = code EVENT 0 0 0 n 0
as_numbers point.Stalled = code STALLED 0 0 0 0 0
as_numbers (point.StallLen e) = code STALL-LEN 0 0 0 0 e
as_numbers (point.StallWord d e) = code STALL-WORD (dir_as d) 0 0 0 e
as_numbers (point.Restarted e iso) = code RESTARTED 0 0 (flag iso) 0 e
as_numbers (point.Woken d e) = code WOKEN (dir_as d) 0 0 0 e
as_numbers point.Flags = code FLAGS 0 0 0 0 0
as_numbers point.Status = code STATUS 0 0 0 0 0
as_numbers (point.Released iso) = code RELEASED 0 0 (flag iso) 0 0
as_numbers point.Address = code ADDRESS 0 0 0 0 0
as_numbers point.Ep0Out = code EP0-OUT 0 0 0 0 0
as_numbers (point.NakIn e) = code NAK-IN 0 0 0 0 e
as_numbers (point.Naked e) = code NAKED 0 0 0 0 e
as_numbers point.Disabled = code DISABLED 0 0 0 0 0
as_numbers point.Untyped = code UNTYPED 0 0 0 0 0
as_numbers point.Single = code SINGLE 0 0 0 0 0
as_numbers point.Reset = code RESET 0 0 0 0 0
as_numbers (point.PlacedOut e on) = code PLACED-OUT 0 (flag on) 0 0 e
as_numbers (point.PlacedIn e iso on) = code PLACED-IN 0 (flag on) (flag iso) 0 e
as_numbers (point.NoLength e iso on) = code NO-LENGTH 0 (flag on) (flag iso) 0 e
as_numbers (point.Words d e iso on) = code WORDS (dir_as d) (flag on) (flag iso) 0 e
as_numbers (point.Type d e on) = code TYPE (dir_as d) (flag on) 0 0 e
as_numbers (point.Switch e on n) = code SWITCH 0 (flag on) 0 n e

unfoldable pub encode : Point → Saved
encode p = as_numbers p

-- an unknown number is the first point
abbrev pub by_number : ℕ → Saved → Point
by_number k c =
    cond (eqb k EVENT) (point.Event c.st) (
    cond (eqb k STALLED) point.Stalled (
    cond (eqb k STALL-LEN) (point.StallLen c.ep) (
    cond (eqb k STALL-WORD) (point.StallWord (dir_of c.site) c.ep) (
    cond (eqb k RESTARTED) (point.Restarted c.ep (is_on c.busy)) (
    cond (eqb k WOKEN) (point.Woken (dir_of c.site) c.ep) (
    cond (eqb k FLAGS) point.Flags (
    cond (eqb k STATUS) point.Status (
    cond (eqb k RELEASED) (point.Released (is_on c.busy)) (
    cond (eqb k ADDRESS) point.Address (
    cond (eqb k EP0-OUT) point.Ep0Out (
    cond (eqb k NAK-IN) (point.NakIn c.ep) (
    cond (eqb k NAKED) (point.Naked c.ep) (
    cond (eqb k DISABLED) point.Disabled (
    cond (eqb k UNTYPED) point.Untyped (
    cond (eqb k SINGLE) point.Single (
    cond (eqb k RESET) point.Reset (
    cond (eqb k PLACED-OUT) (point.PlacedOut c.ep (is_on c.flag)) (
    cond (eqb k PLACED-IN) (point.PlacedIn c.ep (is_on c.busy) (is_on c.flag)) (
    cond (eqb k NO-LENGTH) (point.NoLength c.ep (is_on c.busy) (is_on c.flag)) (
    cond (eqb k WORDS) (point.Words (dir_of c.site) c.ep (is_on c.busy) (is_on c.flag)) (
    cond (eqb k TYPE) (point.Type (dir_of c.site) c.ep (is_on c.flag)) (
    cond (eqb k SWITCH) (point.Switch c.ep (is_on c.flag) c.st) (
    point.Enable)))))))))))))))))))))))

unfoldable pub decode : Saved → Point
decode c = by_number c.sub c
