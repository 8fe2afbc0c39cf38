-- A paced advance's point as numbers, and back: which point, its endpoint, the completions left, their microframe, and
-- the completion's endpoint
use Rattle.std.specs.Prelude.{cond, ℕ, eqb}
use Rattle.state.specs.declared.Saved.{Saved}
pub use Rattle.script_ops.specs.Numbers.{with_tag}
use Rattle.isochronous.specs.declared.complete.Complete.{Complete}
use Rattle.isochronous.specs.declared.complete.Complete.TheVariants as complete
use Rattle.isochronous.specs.declared.advance.Advance.{Advance}
use Rattle.isochronous.specs.declared.advance.Advance.TheVariants as point

-- ---- the numbers of the points

abbrev pub FRAME-NO : ℕ
FRAME-NO = 0

abbrev pub SENT : ℕ
SENT = 1

abbrev pub LOADED : ℕ
LOADED = 2

-- ---- the table

abbrev pub code : ℕ → ℕ → ℕ → ℕ → ℕ → Saved
code sub e left frame of = record {
  tag = 0;
  sub = sub;
  site = 0;
  flag = 0;
  busy = 0;
  late = 0;
  len_ok = 0;
  st = left;
  now = of;
  ep = e;
  len = 0;
  frame = frame;
  eps = 0;
  n = 0;
  value = 0;
}

abbrev pub completing_as : ℕ → ℕ → ℕ → Complete → Saved
completing_as e left frame (complete.Sent of) = code SENT e left frame of
completing_as e left frame (complete.Loaded of) = code LOADED e left frame of

abbrev pub as_numbers : Advance → Saved
as_numbers (point.FrameNo e) = code FRAME-NO e 0 0 0
as_numbers (point.Completing e left frame p) = completing_as e left frame p

unfoldable pub encode : Advance → Saved
encode p = as_numbers p

-- by the number; an unknown one is the first point
abbrev pub by_number : ℕ → Saved → Advance
by_number k c =
    cond (eqb k SENT) (point.Completing c.ep c.st c.frame (complete.Sent c.now))
    (cond (eqb k LOADED) (point.Completing c.ep c.st c.frame (complete.Loaded c.now))
    (point.FrameNo c.ep))

unfoldable pub decode : Saved → Advance
decode c = by_number c.sub c
