-- A point as the saved record, and back. `tag`, which says whose point it is, is the caller's.
use Rattle.std.specs.Prelude.{cond, ℕ, eqb}
use Rattle.state.specs.declared.Saved.{Saved}
use Rattle.script_ops.specs.Numbers.{numbers}
pub use Rattle.script_ops.specs.Numbers.{dir_as, dir_of, with_tag}
use Rattle.script.specs.Statics.{is_on, flag}
use Rattle.driver.specs.declared.Point.{Point}
use Rattle.driver.specs.declared.Point.TheVariants as point

-- ---- the numbers of the points

abbrev pub CLEAR : ℕ
CLEAR = 0

abbrev pub WAIT : ℕ
WAIT = 1

abbrev pub RESET : ℕ
RESET = 2

abbrev pub RESET-END : ℕ
RESET-END = 3

abbrev pub HOST : ℕ
HOST = 4

abbrev pub RUN : ℕ
RUN = 5

abbrev pub INT-EN : ℕ
INT-EN = 6

abbrev pub MAX-LEN : ℕ
MAX-LEN = 7

abbrev pub PLACE : ℕ
PLACE = 8

abbrev pub EP0-PLACE : ℕ
EP0-PLACE = 9

abbrev pub EP0-MAX-LEN : ℕ
EP0-MAX-LEN = 10

abbrev pub EP0-RX : ℕ
EP0-RX = 11

abbrev pub EP0-TX : ℕ
EP0-TX = 12

abbrev pub EP0-PACKET : ℕ
EP0-PACKET = 13

abbrev pub FRAME-NO : ℕ
FRAME-NO = 14

abbrev pub LIST-MAX-LEN : ℕ
LIST-MAX-LEN = 15

abbrev pub LIST-PLACE : ℕ
LIST-PLACE = 16

-- ---- the table

-- the point's number; callback or direction, kind, endpoint, maximum
abbrev pub code : ℕ → ℕ → ℕ → ℕ → ℕ → Saved
code n f kind ep value = numbers n 0 f 0 0 kind ep 0 value

-- of a list's endpoints also how many are left and how many there are
abbrev pub list_code : ℕ → ℕ → ℕ → ℕ → ℕ → ℕ → Saved
list_code n f kind ep left total = numbers n 0 f left total kind ep 0 0

abbrev pub as_numbers : Point → Saved
as_numbers (point.Clear callback) = code CLEAR (flag callback) 0 0 0
as_numbers (point.Wait callback) = code WAIT (flag callback) 0 0 0
as_numbers (point.Reset callback) = code RESET (flag callback) 0 0 0
as_numbers (point.ResetEnd callback) = code RESET-END (flag callback) 0 0 0
as_numbers (point.Host callback) = code HOST (flag callback) 0 0 0
as_numbers (point.Run callback) = code RUN (flag callback) 0 0 0
as_numbers point.IntEn = code INT-EN 0 0 0 0
as_numbers (point.MaxLen d kind ep) = code MAX-LEN (dir_as d) kind ep 0
as_numbers (point.Place ep) = code PLACE 0 0 ep 0
as_numbers (point.Ep0Place maximum) = code EP0-PLACE 0 0 0 maximum
as_numbers point.Ep0MaxLen = code EP0-MAX-LEN 0 0 0 0
as_numbers point.Ep0Rx = code EP0-RX 0 0 0 0
as_numbers point.Ep0Tx = code EP0-TX 0 0 0 0
as_numbers point.Ep0Packet = code EP0-PACKET 0 0 0 0
as_numbers point.FrameNo = code FRAME-NO 0 0 0 0
as_numbers (point.ListMaxLen d kind ep left total) = list_code LIST-MAX-LEN (dir_as d) kind ep left total
as_numbers (point.ListPlace d ep left total) = list_code LIST-PLACE (dir_as d) 0 ep left total

unfoldable pub encode : Point → Saved
encode p = as_numbers p

-- by the point's number; an unknown one is the first
abbrev pub by_number : ℕ → Saved → Point
by_number n c =
    cond (eqb n WAIT) (point.Wait (is_on c.flag))
    (cond (eqb n RESET) (point.Reset (is_on c.flag))
    (cond (eqb n RESET-END) (point.ResetEnd (is_on c.flag))
    (cond (eqb n HOST) (point.Host (is_on c.flag))
    (cond (eqb n RUN) (point.Run (is_on c.flag))
    (cond (eqb n INT-EN) point.IntEn
    (cond (eqb n MAX-LEN) (point.MaxLen (dir_of c.flag) c.st c.ep)
    (cond (eqb n PLACE) (point.Place c.ep)
    (cond (eqb n EP0-PLACE) (point.Ep0Place c.value)
    (cond (eqb n EP0-MAX-LEN) point.Ep0MaxLen
    (cond (eqb n EP0-RX) point.Ep0Rx
    (cond (eqb n EP0-TX) point.Ep0Tx
    (cond (eqb n EP0-PACKET) point.Ep0Packet
    (cond (eqb n FRAME-NO) point.FrameNo
    (cond (eqb n LIST-MAX-LEN) (point.ListMaxLen (dir_of c.flag) c.st c.ep c.busy c.late)
    (cond (eqb n LIST-PLACE) (point.ListPlace (dir_of c.flag) c.ep c.busy c.late)
    (point.Clear (is_on c.flag)))))))))))))))))

unfoldable pub decode : Saved → Point
decode c = by_number c.sub c
