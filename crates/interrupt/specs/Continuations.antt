-- The rest of the interrupt (model's Handler.antt) from each of its accesses on
use Rattle.std.specs.Prelude.{Bool, true, false, not, ◌&&◌, ◌||◌, ℕ, eqb}
use Rattle.frame.specs.Usb20.{index_of}
use Rattle.regs.specs.declared.Reg.TheVariants.{IntFg, IntSt, RxLen, FrameNo, EpTxCtrl}
use Rattle.regs.specs.declared.Dir.{Dir}
use Rattle.regs.specs.declared.Dir.TheVariants.{Out, In}
use Rattle.regs.specs.Registers.{ctrl_of}
use Rattle.regs.specs.ControlWord.{NAK, DATA0, word_of, flip, nakflip}
use Rattle.regs.specs.Flags.{bus_rst, transfer, suspend, hst_sof, fifo_ov, setup_act, TRANSFER, HST_SOF, FIFO_OV}
use Rattle.regs.specs.Status.{endpoint, token, is_sof}
use Rattle.regs.specs.MisStatus.{sie_free}
use Rattle.regs.specs.IntEn.{with_bus_rst, with_suspend}
use Rattle.script.specs.declared.Transfer.{Transfer}
use Rattle.script.specs.Tree as tree
use Rattle.script.specs.Tree.{ends, bind_out}
use Rattle.script.specs.Cells.{globals-cell, ep-cell}
use Rattle.script.specs.Script.{Script, run, ret, ◌>>=◌, ◌>>◌, read, write, get, when}
use Rattle.script.specs.Statics.{with_armed, completed, with_entered, modify, modify_ep, modify_int_en, wake, wake_bus}
use Rattle.script.specs.IsoIn.{on_sof}
use Rattle.script.specs.IsoOut.{iso_out_check}
use Rattle.script.specs.Handler.{nak_non_iso, settle, iso_for, received, sent, dispatch, ep0_moved_on, framed, on_transfer}
use Rattle.script.specs.Handler.{take_setup, on_setup}
use Rattle.script.specs.Handler.{on_interrupt}
use Rattle.isochronous.specs.Late.{late_all}
use Rattle.interrupt.specs.declared.Entry.{Entry}
use Rattle.script_ops.specs.Rings.{St}
use Rattle.script_ops.specs.Concrete.{concrete}

-- an operation without a result answers 0
abbrev pub resultless : Script true Unit → Script true ℕ
resultless p = do
  p
  ret 0

-- ---- 803-818: the setup

abbrev pub nak_word : ℕ
nak_word = word_of NAK DATA0 false

abbrev pub after_setup_released : Script true Unit
after_setup_released = do
  wake Out 0
  wake In 0

unfoldable pub after_setup_tx : Script true Unit
after_setup_tx = take_setup

abbrev pub after_setup_rx : Script true Unit
after_setup_rx = do
  write EpTxCtrl 0 nak_word
  after_setup_tx

unfoldable pub after_transfer : Bool → Script true Unit
after_transfer setup = when setup on_setup

-- the rest after the transfer's outcome
abbrev pub finish : Bool → tree.Out St Unit → tree.Out St ℕ
finish setup o = bind_out (bind_out o (λ _ u. run concrete (after_transfer setup) u)) (λ _ u. ends 0 u)

-- ---- 792-800: the check of isochronous OUTs, EP0's hidden stage

abbrev pub after_moved_wrote : Dir → Script true Unit
after_moved_wrote d = do
  modify_ep d 0 completed
  wake d 0

abbrev pub after_moved_read : Dir → ℕ → Script true Unit
after_moved_read d word = do
  write (ctrl_of d) 0 (nakflip word)
  after_moved_wrote d

unfoldable pub after_check : Transfer → Script true Unit
after_check x = when (eqb (endpoint x.st) 0) (ep0_moved_on (token x.st))

unfoldable pub after_dispatch : Transfer → Bool → Script true Unit
after_dispatch x iso = do
  when (not (is_sof x.st)) (iso_out_check x iso)
  after_check x

-- an arm's outcome, and the rest
abbrev pub then_check : Bool → Transfer → Bool → tree.Out St Unit → tree.Out St ℕ
then_check setup x iso o = finish setup (bind_out o (λ _ u. run concrete (after_dispatch x iso) u))

-- of an entry
abbrev pub after_arm : Entry → tree.Out St Unit → tree.Out St ℕ
after_arm e o = then_check e.setup e.x e.iso o

-- ---- 748-790: the arms

-- EP0's toggle is flipped
abbrev pub flip_done : Dir → ℕ → Script true Unit
flip_done Out len = received 0 len
flip_done In len = do
  modify_ep In 0 (with_armed 0)
  sent 0

abbrev pub after_flip : Dir → ℕ → ℕ → Script true Unit
after_flip d len word = do
  write (ctrl_of d) 0 (flip word)
  flip_done d len

-- a packet went through another endpoint
abbrev pub passed : Dir → ℕ → ℕ → Script true Unit
passed Out ep len = received ep len
passed In ep len = sent ep

abbrev pub after_toggled : Dir → Transfer → Bool → Script true Unit
after_toggled d x b = when b (passed d (endpoint x.st) x.len)

-- ---- 724-747

unfoldable pub after_late : Transfer → Bool → ℕ → Script true Unit
after_late x iso frame = do
  when (not x.busy) (dispatch (token x.st) x iso frame)
  after_dispatch x iso

unfoldable pub after_sof : Transfer → Bool → ℕ → Script true Unit
after_sof x iso frame = do
  when x.late (late_all frame)
  after_late x iso frame

-- this microframe's SOF was not handled
unfoldable pub sof_due : Transfer → ℕ → ℕ → Bool
sof_due x sof frame = not (is_sof x.st) && not (eqb sof frame)

unfoldable pub serving : Transfer → Bool → ℕ → Script true Unit
serving x iso frame = do
  g ← get globals-cell
  when (sof_due x g.sof_frame frame) (on_sof frame)
  after_sof x iso frame

-- ---- 656-722: the transfer is entered, released, settled

unfoldable pub after_frame_no : Transfer → Bool → ℕ → Script true Unit
after_frame_no x iso frame = do
  g ← get globals-cell
  serving (framed x iso g.sof_frame frame) iso frame

unfoldable pub after_settle : Transfer → Script true Unit
after_settle x = do
  o ← get (ep-cell Out (endpoint x.st))
  n ← get (ep-cell In (endpoint x.st))
  frame ← read FrameNo 0
  after_frame_no x (iso_for (token x.st) o n) frame

unfoldable pub after_release : Transfer → Script true Unit
after_release x = do
  y ← settle x
  after_settle y

unfoldable pub after_nak : Transfer → Script true Unit
after_nak x = do
  write IntFg 0 TRANSFER
  after_release x

abbrev pub entered_as : Bool → ℕ → ℕ → Transfer
entered_as busy st n = record { busy = busy; st = st; len = n; late = false; len_ok = true }

-- it is NAKed before the release
unfoldable pub naks_first : Bool → ℕ → Bool
naks_first busy st = not busy || (not (is_sof st) && not (eqb (endpoint st) 0))

unfoldable pub after_len : Bool → ℕ → ℕ → Script true Unit
after_len busy st n = do
  when (naks_first busy st) (nak_non_iso st)
  after_nak (entered_as busy st n)

unfoldable pub after_st : Bool → ℕ → Script true Unit
after_st busy st = do
  n ← read RxLen 0
  after_len busy st n

unfoldable pub after_mis : ℕ → Script true Unit
after_mis m = do
  st ← read IntSt 0
  after_st (not (sie_free m)) st

-- ---- 634-655, 803: the flags

unfoldable pub after_host : ℕ → Script true Unit
after_host f = do
  when (transfer f) on_transfer
  after_transfer (setup_act f)

unfoldable pub after_fifo : ℕ → Script true Unit
after_fifo f = do
  when (hst_sof f) (write IntFg 0 HST_SOF)
  after_host f

unfoldable pub after_suspend : ℕ → Script true Unit
after_suspend f = do
  when (fifo_ov f) (write IntFg 0 FIFO_OV)
  after_fifo f

-- an event of the bus: its interrupt is masked, and the bus's task woken
abbrev bus_event : Bool → (ℕ → Bool → ℕ) → Script true Unit
bus_event seen withEvent = when seen (do
  modify_int_en (λ w. withEvent w false)
  wake_bus)

unfoldable pub after_bus_rst : ℕ → Script true Unit
after_bus_rst f = do
  bus_event (suspend f) with_suspend
  after_suspend f

unfoldable pub after_flags : ℕ → Script true Unit
after_flags f = do
  bus_event (bus_rst f) with_bus_rst
  after_bus_rst f

-- ---- request One: the microframe is kept

unfoldable pub after_frame : ℕ → Script true Unit
after_frame frame = do
  modify (with_entered (index_of frame))
  on_interrupt
