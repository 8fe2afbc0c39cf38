-- What the points of every operation have in common: a direction as a number, the record that a point is saved in, what
-- fits a reading
use Rattle.std.specs.Prelude.{Bool, true, cond, ℕ, eqb}
use Rattle.regs.specs.declared.Dir.{Dir}
use Rattle.regs.specs.declared.Dir.TheVariants.{Out, In}
use Rattle.regs.specs.Registers.{fits_in}
use Rattle.state.specs.declared.Saved.{Saved}
use Rattle.script.specs.Machine.{Awaits, nothing, reading}

abbrev pub dir_as : Dir → ℕ
dir_as Out = 0
dir_as In = 1

abbrev pub dir_of : ℕ → Dir
dir_of n = cond (eqb n 0) Out In

-- whose point is saved: the record's tag
abbrev pub DRIVER : ℕ
DRIVER = 1

abbrev pub BUS : ℕ
BUS = 2

abbrev pub CONTROL : ℕ
CONTROL = 3

abbrev pub ENDPOINT : ℕ
ENDPOINT = 4

abbrev pub ADVANCE : ℕ
ADVANCE = 5

abbrev pub INTERRUPT : ℕ
INTERRUPT = 6

-- the fields that some operation's point has, without its tag; the rest are the interrupt's
abbrev pub numbers : ℕ → ℕ → ℕ → ℕ → ℕ → ℕ → ℕ → ℕ → ℕ → Saved
numbers sub site flag busy late st ep len value = record {
  tag = 0;
  sub = sub;
  site = site;
  flag = flag;
  busy = busy;
  late = late;
  len_ok = 0;
  st = st;
  now = 0;
  ep = ep;
  len = len;
  frame = 0;
  eps = 0;
  n = 0;
  value = value;
}

-- a record under another tag
abbrev pub with_tag : ℕ → Saved → Saved
with_tag t c = record {
  tag = t;
  sub = c.sub;
  site = c.site;
  flag = c.flag;
  busy = c.busy;
  late = c.late;
  len_ok = c.len_ok;
  st = c.st;
  now = c.now;
  ep = c.ep;
  len = c.len;
  frame = c.frame;
  eps = c.eps;
  n = c.n;
  value = c.value;
}

-- row 16 turned round: a reading has no bit above its register's width; where none is awaited any number is ignored
abbrev pub fits : Awaits → ℕ → Bool
fits (reading w) v = fits_in v w
fits nothing v = true
