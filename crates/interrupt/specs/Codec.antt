-- A point of the interrupt as numbers, and back: `site` says which, `flag` the setup flag; the transfer's fields have
-- their names; `now` is its isochronous flag, or a status; `sub`, `ep`, `eps`, `n` are the inner point's, `ep` a
-- direction where there is none
use Rattle.std.specs.Prelude.{◌≡◌, Bool, false, cond, ℕ, eqb}
use Rattle.regs.specs.declared.Dir.{Dir}
use Rattle.regs.specs.declared.Dir.TheVariants.{Out, In}
use Rattle.state.specs.declared.Saved.{Saved}
pub use Rattle.script_ops.specs.Numbers.{dir_as, dir_of}
use Rattle.script.specs.declared.Transfer.{Transfer}
use Rattle.script.specs.Statics.{is_on, flag}
use Rattle.interrupt.specs.declared.nak.Nak.{Nak}
use Rattle.interrupt.specs.declared.nak.Nak.TheVariants as nak
use Rattle.interrupt.specs.declared.settle.Settle.{Settle}
use Rattle.interrupt.specs.declared.settle.Settle.TheVariants as settle
use Rattle.interrupt.specs.declared.toggled.Toggled.{Toggled}
use Rattle.interrupt.specs.declared.toggled.Toggled.TheVariants as toggled
use Rattle.isochronous.specs.declared.complete.Complete.{Complete}
use Rattle.isochronous.specs.declared.complete.Complete.TheVariants as complete
use Rattle.isochronous.specs.declared.sof.Sof.{Sof}
use Rattle.isochronous.specs.declared.sof.Sof.TheVariants as sof
use Rattle.isochronous.specs.declared.late.Late.{Late}
use Rattle.isochronous.specs.declared.out.Check.{Check}
use Rattle.isochronous.specs.declared.out.Check.TheVariants as check
use Rattle.interrupt.specs.declared.Entry.{Entry}
use Rattle.interrupt.specs.declared.Point.{Point}
use Rattle.interrupt.specs.declared.Point.TheVariants as point
use Rattle.interrupt.specs.declared.codec.Numbers.{Numbers}

-- ---- the numbers of the points, `site`

abbrev pub FRAME : ℕ
FRAME = 0

abbrev pub FLAGS : ℕ
FLAGS = 1

abbrev pub BUS-RST : ℕ
BUS-RST = 2

abbrev pub SUSPEND : ℕ
SUSPEND = 3

abbrev pub FIFO : ℕ
FIFO = 4

abbrev pub HOST : ℕ
HOST = 5

abbrev pub MIS : ℕ
MIS = 6

abbrev pub ST : ℕ
ST = 7

abbrev pub LEN : ℕ
LEN = 8

abbrev pub NAK : ℕ
NAK = 9

abbrev pub RELEASED : ℕ
RELEASED = 10

abbrev pub SETTLE : ℕ
SETTLE = 11

abbrev pub FRAME-NO : ℕ
FRAME-NO = 12

abbrev pub SOF : ℕ
SOF = 13

abbrev pub LATE : ℕ
LATE = 14

abbrev pub SOF-ARM : ℕ
SOF-ARM = 15

abbrev pub FLIP : ℕ
FLIP = 16

abbrev pub FLIPPED : ℕ
FLIPPED = 17

abbrev pub TOGGLED : ℕ
TOGGLED = 18

abbrev pub COMPLETING : ℕ
COMPLETING = 19

abbrev pub CHECK : ℕ
CHECK = 20

abbrev pub MOVED-READ : ℕ
MOVED-READ = 21

abbrev pub MOVED-WROTE : ℕ
MOVED-WROTE = 22

abbrev pub SETUP-RX : ℕ
SETUP-RX = 23

abbrev pub SETUP-TX : ℕ
SETUP-TX = 24

abbrev pub SETUP-RELEASED : ℕ
SETUP-RELEASED = 25

-- ---- the numbers of the points inside of one, `sub`

abbrev pub NAK-OUT : ℕ
NAK-OUT = 0

abbrev pub NAK-IN : ℕ
NAK-IN = 1

abbrev pub NAK-WROTE : ℕ
NAK-WROTE = 2

abbrev pub SETTLE-ISO-LOOK : ℕ
SETTLE-ISO-LOOK = 3

abbrev pub SETTLE-ISO-ST : ℕ
SETTLE-ISO-ST = 4

abbrev pub SETTLE-ISO-LEN : ℕ
SETTLE-ISO-LEN = 5

abbrev pub SETTLE-BULK-LOOK : ℕ
SETTLE-BULK-LOOK = 6

abbrev pub SETTLE-BULK-LEN : ℕ
SETTLE-BULK-LEN = 7

abbrev pub SETTLE-MIS : ℕ
SETTLE-MIS = 8

abbrev pub SETTLE-FLAGS : ℕ
SETTLE-FLAGS = 9

abbrev pub SETTLE-ST : ℕ
SETTLE-ST = 10

abbrev pub TOGGLED-LOOK : ℕ
TOGGLED-LOOK = 0

abbrev pub TOGGLED-WORD : ℕ
TOGGLED-WORD = 1

abbrev pub TOGGLED-ACK-READ : ℕ
TOGGLED-ACK-READ = 2

abbrev pub TOGGLED-ACKED : ℕ
TOGGLED-ACKED = 3

abbrev pub SENT : ℕ
SENT = 0

abbrev pub LOADED : ℕ
LOADED = 1

abbrev pub SOF-MIS : ℕ
SOF-MIS = 2

abbrev pub SOF-ST : ℕ
SOF-ST = 3

abbrev pub SOF-CALLBACK : ℕ
SOF-CALLBACK = 4

abbrev pub CHECK-ST : ℕ
CHECK-ST = 0

abbrev pub CHECK-ARMED : ℕ
CHECK-ARMED = 1

-- ---- the inner points

abbrev pub inner : ℕ → ℕ → ℕ → ℕ → ℕ → Numbers
inner sub now ep eps n = record { sub = sub; now = now; ep = ep; eps = eps; n = n }

-- of a walk: its endpoint, and the mask of those left
abbrev pub walked : ℕ → Bool → ℕ → ℕ → Numbers
walked sub iso e m = inner sub (flag iso) e m 0

-- of a transfer's direction: how many looks may follow
abbrev pub looking : ℕ → Dir → Bool → ℕ → Numbers
looking sub d iso n = inner sub (flag iso) (dir_as d) 0 n

abbrev pub none : Bool → Numbers
none iso = walked 0 iso 0 0

abbrev pub on_dir : Dir → Bool → Numbers
on_dir d iso = looking 0 d iso 0

abbrev pub nak_as : ℕ → Nak → Numbers
nak_as st (nak.Word Out) = inner NAK-OUT st 0 0 0
nak_as st (nak.Word In) = inner NAK-IN st 0 0 0
nak_as st nak.Wrote = inner NAK-WROTE st 0 0 0

abbrev pub nak_of : ℕ → Nak
nak_of sub = cond (eqb sub NAK-OUT) (nak.Word Out) (cond (eqb sub NAK-IN) (nak.Word In) nak.Wrote)

abbrev pub settle_as : Settle → Numbers
settle_as (settle.IsoLook n) = inner SETTLE-ISO-LOOK 0 0 0 n
settle_as settle.IsoSt = inner SETTLE-ISO-ST 0 0 0 0
settle_as (settle.IsoLen now) = inner SETTLE-ISO-LEN now 0 0 0
settle_as (settle.BulkLook n) = inner SETTLE-BULK-LOOK 0 0 0 n
settle_as settle.BulkLen = inner SETTLE-BULK-LEN 0 0 0 0
settle_as settle.Mis = inner SETTLE-MIS 0 0 0 0
settle_as settle.Flags = inner SETTLE-FLAGS 0 0 0 0
settle_as settle.St = inner SETTLE-ST 0 0 0 0
settle_as (settle.Nak st p) = nak_as st p

abbrev pub settle_of : ℕ → ℕ → ℕ → Settle
settle_of sub now n =
    cond (eqb sub SETTLE-ISO-LOOK) (settle.IsoLook n) (
    cond (eqb sub SETTLE-ISO-ST) settle.IsoSt (
    cond (eqb sub SETTLE-ISO-LEN) (settle.IsoLen now) (
    cond (eqb sub SETTLE-BULK-LOOK) (settle.BulkLook n) (
    cond (eqb sub SETTLE-BULK-LEN) settle.BulkLen (
    cond (eqb sub SETTLE-MIS) settle.Mis (
    cond (eqb sub SETTLE-FLAGS) settle.Flags (
    cond (eqb sub SETTLE-ST) settle.St (
    settle.Nak now (nak_of sub)))))))))

abbrev pub toggled_as : Dir → Bool → Toggled → Numbers
toggled_as d iso (toggled.Look n) = looking TOGGLED-LOOK d iso n
toggled_as d iso toggled.Word = looking TOGGLED-WORD d iso 0
toggled_as d iso toggled.AckRead = looking TOGGLED-ACK-READ d iso 0
toggled_as d iso toggled.Acked = looking TOGGLED-ACKED d iso 0

abbrev pub toggled_of : ℕ → ℕ → Toggled
toggled_of sub n =
    cond (eqb sub TOGGLED-LOOK) (toggled.Look n) (cond (eqb sub TOGGLED-WORD) toggled.Word
    (cond (eqb sub TOGGLED-ACK-READ) toggled.AckRead toggled.Acked))

abbrev pub complete_as : Bool → ℕ → Complete → Numbers
complete_as iso m (complete.Sent e) = walked SENT iso e m
complete_as iso m (complete.Loaded e) = walked LOADED iso e m

abbrev pub complete_of : ℕ → ℕ → Complete
complete_of sub e = cond (eqb sub SENT) (complete.Sent e) (complete.Loaded e)

abbrev pub sof_as : Bool → Sof → Numbers
sof_as iso (sof.Mis e m) = walked SOF-MIS iso e m
sof_as iso (sof.St e m) = walked SOF-ST iso e m
sof_as iso (sof.Completing m p) = complete_as iso m p
sof_as iso sof.Callback = walked SOF-CALLBACK iso 0 0

abbrev pub sof_of : ℕ → ℕ → ℕ → Sof
sof_of sub e m =
    cond (eqb sub SOF-MIS) (sof.Mis e m) (
    cond (eqb sub SOF-ST) (sof.St e m) (
    cond (eqb sub SOF-CALLBACK) sof.Callback (
    sof.Completing m (complete_of sub e))))

abbrev pub late_as : Bool → Late → Numbers
late_as iso p = complete_as iso p.rest p.completing

abbrev pub late_of : ℕ → ℕ → ℕ → Late
late_of sub e m = record { rest = m; completing = complete_of sub e }

abbrev pub check_as : Bool → Check → Numbers
check_as iso (check.St e m) = walked CHECK-ST iso e m
check_as iso (check.Armed e m) = walked CHECK-ARMED iso e m

abbrev pub check_of : ℕ → ℕ → ℕ → Check
check_of sub e m = cond (eqb sub CHECK-ST) (check.St e m) (check.Armed e m)

-- ---- the point

abbrev pub code : ℕ → Bool → Transfer → ℕ → Numbers → Saved
code site setup x frame i = record {
  tag = 0;
  sub = i.sub;
  site = site;
  flag = flag setup;
  busy = flag x.busy;
  late = flag x.late;
  len_ok = flag x.len_ok;
  st = x.st;
  now = i.now;
  ep = i.ep;
  len = x.len;
  frame = frame;
  eps = i.eps;
  n = i.n;
  value = 0;
}

-- before there is a transfer: the flags or the status, and busy
abbrev pub early : Bool → ℕ → Transfer
early busy st = record { busy = busy; st = st; len = 0; late = false; len_ok = false }

abbrev pub entered : ℕ → Bool → Bool → ℕ → Saved
entered site setup busy st = code site setup (early busy st) 0 (none false)

abbrev pub bare : ℕ → Saved
bare site = entered site false false 0

abbrev pub as_numbers : Point → Saved
as_numbers point.Frame = bare FRAME
as_numbers point.Flags = bare FLAGS
as_numbers (point.BusRst f) = entered BUS-RST false false f
as_numbers (point.Suspend f) = entered SUSPEND false false f
as_numbers (point.Fifo f) = entered FIFO false false f
as_numbers (point.Host f) = entered HOST false false f
as_numbers (point.Mis setup) = entered MIS setup false 0
as_numbers (point.St setup busy) = entered ST setup busy 0
as_numbers (point.Len setup busy st) = entered LEN setup busy st
as_numbers (point.Nak setup x p) = code NAK setup x 0 (nak_as 0 p)
as_numbers (point.Released setup x) = code RELEASED setup x 0 (none false)
as_numbers (point.Settle setup x p) = code SETTLE setup x 0 (settle_as p)
as_numbers (point.FrameNo setup x iso) = code FRAME-NO setup x 0 (none iso)
as_numbers (point.Sof setup x iso frame p) = code SOF setup x frame (sof_as iso p)
as_numbers (point.Late setup x iso frame p) = code LATE setup x frame (late_as iso p)
as_numbers (point.SofArm setup x iso frame p) = code SOF-ARM setup x frame (sof_as iso p)
as_numbers (point.Flip d setup x iso) = code FLIP setup x 0 (on_dir d iso)
as_numbers (point.Flipped d setup x iso) = code FLIPPED setup x 0 (on_dir d iso)
as_numbers (point.Toggled d setup x iso p) = code TOGGLED setup x 0 (toggled_as d iso p)
as_numbers (point.Completing setup x iso p) = code COMPLETING setup x 0 (complete_as iso 0 p)
as_numbers (point.Check setup x iso p) = code CHECK setup x 0 (check_as iso p)
as_numbers (point.MovedRead d setup) = code MOVED-READ setup (early false 0) 0 (on_dir d false)
as_numbers (point.MovedWrote d setup) = code MOVED-WROTE setup (early false 0) 0 (on_dir d false)
as_numbers point.SetupRx = bare SETUP-RX
as_numbers point.SetupTx = bare SETUP-TX
as_numbers point.SetupReleased = bare SETUP-RELEASED

unfoldable pub encode : Point → Saved
encode p = as_numbers p

abbrev pub transfer_of : Saved → Transfer
transfer_of c = record {
  busy = is_on c.busy;
  st = c.st;
  len = c.len;
  late = is_on c.late;
  len_ok
      = is_on c.len_ok;
}

-- what an entry of the interrupt has found out
abbrev pub entry_of : Saved → Entry
entry_of c = record { setup = is_on c.flag; x = transfer_of c; iso = is_on c.now; frame = c.frame }

-- an unknown number is the first point
abbrev pub by_number : ℕ → Saved → Point
by_number k c =
    cond (eqb k FLAGS) point.Flags (
    cond (eqb k BUS-RST) (point.BusRst c.st) (
    cond (eqb k SUSPEND) (point.Suspend c.st) (
    cond (eqb k FIFO) (point.Fifo c.st) (
    cond (eqb k HOST) (point.Host c.st) (
    cond (eqb k MIS) (point.Mis (is_on c.flag)) (
    cond (eqb k ST) (point.St (is_on c.flag) (is_on c.busy)) (
    cond (eqb k LEN) (point.Len (is_on c.flag) (is_on c.busy) c.st) (
    cond (eqb k NAK) (point.Nak (is_on c.flag) (transfer_of c) (nak_of c.sub)) (
    cond (eqb k RELEASED) (point.Released (is_on c.flag) (transfer_of c)) (
    cond (eqb k SETTLE) (point.Settle (is_on c.flag) (transfer_of c) (settle_of c.sub c.now c.n)) (
    cond (eqb k FRAME-NO) (point.FrameNo (is_on c.flag) (transfer_of c) (is_on c.now)) (
    cond (eqb k SOF) (point.Sof (is_on c.flag) (transfer_of c) (is_on c.now) c.frame
    (sof_of c.sub c.ep c.eps)) (
    cond (eqb k LATE) (point.Late (is_on c.flag) (transfer_of c) (is_on c.now) c.frame
    (late_of c.sub c.ep c.eps)) (
    cond (eqb k SOF-ARM) (point.SofArm (is_on c.flag) (transfer_of c) (is_on c.now) c.frame
    (sof_of c.sub c.ep c.eps)) (
    cond (eqb k FLIP) (point.Flip (dir_of c.ep) (is_on c.flag) (transfer_of c) (is_on c.now)) (
    cond (eqb k FLIPPED) (point.Flipped (dir_of c.ep) (is_on c.flag) (transfer_of c) (is_on c.now)) (
    cond (eqb k TOGGLED) (point.Toggled (dir_of c.ep) (is_on c.flag) (transfer_of c) (is_on c.now)
    (toggled_of c.sub c.n)) (
    cond (eqb k COMPLETING) (point.Completing (is_on c.flag) (transfer_of c) (is_on c.now)
    (complete_of c.sub c.ep)) (
    cond (eqb k CHECK) (point.Check (is_on c.flag) (transfer_of c) (is_on c.now) (check_of c.sub c.ep c.eps))
    (
    cond (eqb k MOVED-READ) (point.MovedRead (dir_of c.ep) (is_on c.flag)) (
    cond (eqb k MOVED-WROTE) (point.MovedWrote (dir_of c.ep) (is_on c.flag)) (
    cond (eqb k SETUP-RX) point.SetupRx (
    cond (eqb k SETUP-TX) point.SetupTx (
    cond (eqb k SETUP-RELEASED) point.SetupReleased (
    point.Frame)))))))))))))))))))))))))

unfoldable pub decode : Saved → Point
decode c = by_number c.site c
