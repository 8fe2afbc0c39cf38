-- The interrupt (mod.rs 416-459, 634-852)
use Rattle.std.specs.Prelude.{Bool, true, false, not, cond, ◌&&◌, ◌||◌, ℕ, zero, suc, eqb}
use Rattle.bits.specs.Bit.{bit_is_set}
use Rattle.bits.specs.Walk.{set_bits}
use Rattle.regs.specs.declared.Reg.TheVariants.{IntFg, IntSt, MisSt, RxLen, FrameNo, EpRxCtrl, EpTxCtrl}
use Rattle.regs.specs.declared.Dir.{Dir}
use Rattle.regs.specs.declared.Dir.TheVariants.{Out, In}
use Rattle.regs.specs.declared.Token.{Token}
use Rattle.regs.specs.declared.Token.TheVariants as tok
use Rattle.regs.specs.Registers.{ctrl_of}
use Rattle.regs.specs.ControlWord.{NAK, DATA0, word_of, ack, nak, flip, nakflip, is_data1}
use Rattle.regs.specs.Flags.{bus_rst, transfer, suspend, hst_sof, fifo_ov, setup_act, TRANSFER, HST_SOF, FIFO_OV, SETUP_ACT}
use Rattle.regs.specs.Status.{endpoint, token, is_out, is_in, is_sof, tog_ok}
use Rattle.regs.specs.MisStatus.{sie_free}
use Rattle.frame.specs.Usb20.{index_of}
use Rattle.regs.specs.IntEn.{with_bus_rst, with_suspend}
use Rattle.script.specs.declared.Transfer.{Transfer}
use Rattle.script.specs.Cells.{EpCore, globals-cell, ep-cell}
use Rattle.script.specs.Script.{Script, ret, done, test, ◌>>=◌, ◌>>◌, read, write, get, look, when, setup_word}
use Rattle.script.specs.Statics.{is_on, flag, with_ready, with_armed, with_len, with_tog, completed, with_setup}
use Rattle.script.specs.Statics.{with_entered, modify, modify_ep, modify_reg, modify_int_en, wake, wake_bus, every_iso_in}
use Rattle.script.specs.IsoIn.{first_in_frame, iso_in_complete, on_sof, late_walk}
use Rattle.script.specs.IsoOut.{iso_out_check}

-- `while !r.mis_st().read().sie_free() && n < SIE_WAIT { n += 1 }`: at most 2,001 looks, after which it goes on as if
-- free
unfoldable pub looks : {i : Bool} → ℕ → Script i Unit
looks zero = done
looks (suc n) = do
  m ← read MisSt 0
  test (sie_free m) done (looks n)

abbrev pub sie_wait : {i : Bool} → Script i Unit
sie_wait = looks 2001

-- ---- `nak_non_iso`, 416-431

-- the guards of its two arms
unfoldable pub out_naks : ℕ → EpCore → Bool
out_naks st s = is_out st && cond (eqb (endpoint st) 0) (tog_ok st) (not (is_on s.iso))

unfoldable pub in_naks : ℕ → EpCore → Bool
in_naks st s = is_in st && not (is_on s.iso)

abbrev pub nak_non_iso : {i : Bool} → ℕ → Script i Unit
nak_non_iso st = do
  o ← get (ep-cell Out (endpoint st))
  n ← get (ep-cell In (endpoint st))
  test (out_naks st o)
      (modify_reg EpRxCtrl (endpoint st) nak)
      (when (in_naks st n) (modify_reg EpTxCtrl (endpoint st) nak))

-- ---- `toggled`, 433-459

-- the chip's toggle is still the one recorded: no new packet
unfoldable pub repeated : EpCore → ℕ → Bool
repeated s word = eqb s.tog (flag (is_data1 word))

-- once the word is read
abbrev pub verdict : {i : Bool} → Dir → ℕ → ℕ → Script i Bool
verdict dir ep word = do
  s ← get (ep-cell dir ep)
  test (repeated s word)
      (do
        when (is_on s.armed) (modify_reg (ctrl_of dir) ep ack)
        ret false)
      (do
        modify_ep dir ep (λ s. with_armed 0 (with_tog (flag (is_data1 word)) s))
        ret true)

abbrev pub toggled : {i : Bool} → Dir → ℕ → Script i Bool
toggled dir ep = do
  sie_wait
  word ← read (ctrl_of dir) ep
  verdict dir ep word

-- ---- the transfer, 656-801

abbrev pub entered : ℕ → ℕ → ℕ → Transfer
entered m st n = record { busy = not (sie_free m); st = st; len = n; late = false; len_ok = true }

-- 679-687: an isochronous OUT was on the bus. A length of 0: it completed before the release; another token: the next
-- transaction
unfoldable pub same_out : Transfer → ℕ → ℕ → Bool
same_out x now n = not (eqb n 0) && (is_out now && eqb (endpoint now) (endpoint x.st))

abbrev pub late_taken : Transfer → ℕ → ℕ → Transfer
late_taken x now n = record { busy = false; st = x.st; len = n; late = true; len_ok = same_out x now n }

-- 703-707: a bulk or interrupt transaction was on the bus
abbrev pub waited : Transfer → ℕ → Transfer
waited x n = record {
  busy = false;
  st = x.st;
  len = cond (eqb n 0) x.len n;
  late = x.late;
  len_ok
      = x.len_ok;
}

-- 708-714: it completed before the release, which took its flag
abbrev pub retaken : Transfer → ℕ → Transfer
retaken x st = record { busy = false; st = st; len = x.len; late = x.late; len_ok = false }

abbrev pub released : Transfer → Transfer
released x = record { busy = false; st = x.st; len = x.len; late = x.late; len_ok = x.len_ok }

unfoldable pub waits_for_iso : Transfer → EpCore → Bool
waits_for_iso x o = x.busy && (is_out x.st && is_on o.iso)

unfoldable pub waits_for_bulk : Transfer → EpCore → Bool
waits_for_bulk x n = x.busy && (not (eqb (endpoint x.st) 0)
    && (is_out x.st || (is_in x.st && not (is_on n.iso))))

abbrev pub retake : {i : Bool} → Transfer → Script i Transfer
retake x = do
  m ← read MisSt 0
  test (sie_free m)
      (do
        f ← read IntFg 0
        test (transfer f) (ret x) (do
          st ← read IntSt 0
          nak_non_iso st
          ret (retaken x st)))
      (ret x)

-- 668-715
abbrev pub settle : {i : Bool} → Transfer → Script i Transfer
settle x = do
  o ← get (ep-cell Out (endpoint x.st))
  n ← get (ep-cell In (endpoint x.st))
  test (waits_for_iso x o)
      (do
        sie_wait
        now ← read IntSt 0
        len ← read RxLen 0
        ret (late_taken x now len))
      (test (waits_for_bulk x n)
      (do
        sie_wait
        len ← read RxLen 0
        ret (waited x len))
      (test x.busy (retake x) (ret x)))

-- `iso`, 718-722
unfoldable pub iso_for : Token → EpCore → EpCore → Bool
iso_for tok.Out o n = is_on o.iso
iso_for tok.Sof o n = true
iso_for tok.In o n = is_on n.iso
iso_for tok.Setup o n = true

-- 724-728: with this microframe's SOF handled, an isochronous IN's entry is its own
unfoldable pub own_in : Transfer → Bool → ℕ → ℕ → Bool
own_in x iso sof frame = x.busy && (iso && (is_in x.st && eqb sof frame))

abbrev pub received : {i : Bool} → ℕ → ℕ → Script i Unit
received ep len = do
  modify_ep Out ep (λ s. completed (with_len len s))
  wake Out ep

abbrev pub sent : {i : Bool} → ℕ → Script i Unit
sent ep = do
  modify_ep In ep (with_ready 1)
  wake In ep

-- the arms of 749-790
abbrev pub sof_arm : {i : Bool} → ℕ → Script i Unit
sof_arm frame = do
  g ← get globals-cell
  when (not (eqb g.sof_frame frame)) (on_sof frame)

abbrev pub out_arm : {i : Bool} → Transfer → Bool → Script i Unit
out_arm x iso = test iso done (test (eqb (endpoint x.st) 0)
    (when (tog_ok x.st) (do
      modify_reg EpRxCtrl 0 flip
      received 0 x.len))
    (do
      b ← toggled Out (endpoint x.st)
      when b (received (endpoint x.st) x.len)))

abbrev pub iso_in_arm : {i : Bool} → ℕ → ℕ → Script i Unit
iso_in_arm ep frame = do
  g ← get globals-cell
  test (bit_is_set g.iso_in_paced ep) done (do
    b ← first_in_frame ep frame
    when b (iso_in_complete ep))

abbrev pub in_arm : {i : Bool} → Transfer → Bool → ℕ → Script i Unit
in_arm x iso frame = test iso (iso_in_arm (endpoint x.st) frame) (test (eqb (endpoint x.st) 0)
    (do
      modify_reg EpTxCtrl 0 flip
      modify_ep In 0 (with_armed 0)
      sent 0)
    (do
      b ← toggled In (endpoint x.st)
      when b (sent (endpoint x.st))))

abbrev pub dispatch : {i : Bool} → Token → Transfer → Bool → ℕ → Script i Unit
dispatch tok.Sof x iso frame = sof_arm frame
dispatch tok.Out x iso frame = out_arm x iso
dispatch tok.In x iso frame = in_arm x iso frame
dispatch tok.Setup x iso frame = done

-- `ep0_moved_on`, 822-852: the host's token for the other direction says that a hidden stage went through
abbrev pub moved_on : {i : Bool} → Dir → Script i Unit
moved_on d = do
  s ← get (ep-cell d 0)
  when (is_on s.armed) do
    modify_reg (ctrl_of d) 0 nakflip
    modify_ep d 0 completed
    wake d 0

abbrev pub ep0_moved_on : {i : Bool} → Token → Script i Unit
ep0_moved_on tok.Out = moved_on In
ep0_moved_on tok.In = moved_on Out
ep0_moved_on tok.Sof = done
ep0_moved_on tok.Setup = done

-- 729-800, the frame read
abbrev pub served : {i : Bool} → Transfer → Bool → ℕ → Script i Unit
served x iso frame = do
  g ← get globals-cell
  when (not (is_sof x.st) && not (eqb g.sof_frame frame)) (on_sof frame)
  when x.late do
    g ← get globals-cell
    late_walk frame (set_bits (every_iso_in g))
  when (not x.busy) (dispatch (token x.st) x iso frame)
  when (not (is_sof x.st)) (iso_out_check x iso)
  when (eqb (endpoint x.st) 0) (ep0_moved_on (token x.st))

abbrev pub framed : Transfer → Bool → ℕ → ℕ → Transfer
framed x iso sof frame = cond (own_in x iso sof frame) (released x) x

-- once the wait is over
abbrev pub frames : {i : Bool} → Transfer → Script i Unit
frames x = do
  o ← get (ep-cell Out (endpoint x.st))
  n ← get (ep-cell In (endpoint x.st))
  let iso = iso_for (token x.st) o n
  frame ← read FrameNo 0
  g ← get globals-cell
  served (framed x iso g.sof_frame frame) iso frame

abbrev pub on_transfer : {i : Bool} → Script i Unit
on_transfer = do
  m ← read MisSt 0
  st ← read IntSt 0
  n ← read RxLen 0
  let x = entered m st n
  when (not x.busy || (not (is_sof st) && not (eqb (endpoint st) 0))) (nak_non_iso st)
  write IntFg 0 TRANSFER
  x ← settle x
  frames x

-- 803-818: a new control transfer; the setup packet is taken in the call that releases its flag
abbrev pub take_setup : {i : Bool} → Script i Unit
take_setup = do
  low ← look (setup_word 0)
  high ← look (setup_word 1)
  modify_ep Out 0 (λ s. with_armed 0 (with_ready 0 s))
  modify_ep In 0 (λ s. with_armed 0 (with_ready 0 s))
  modify (with_setup 1 low high)
  write IntFg 0 SETUP_ACT
  wake Out 0
  wake In 0

abbrev pub on_setup : {i : Bool} → Script i Unit
on_setup = do
  write EpRxCtrl 0 (word_of NAK DATA0 false)
  write EpTxCtrl 0 (word_of NAK DATA0 false)
  take_setup

-- `on_interrupt`, 634-819
abbrev pub on_interrupt : {i : Bool} → Script i Unit
on_interrupt = do
  flag ← read IntFg 0
  when (bus_rst flag) do
    modify_int_en (λ w. with_bus_rst w false)
    wake_bus
  when (suspend flag) do
    modify_int_en (λ w. with_suspend w false)
    wake_bus
  when (fifo_ov flag) (write IntFg 0 FIFO_OV)
  when (hst_sof flag) (write IntFg 0 HST_SOF)
  when (transfer flag) on_transfer
  when (setup_act flag) on_setup

-- request One, which the Rust has not: an interrupt begins with a frame reading, and what it admits carries that
-- reading's microframe index
abbrev pub keep_microframe : {i : Bool} → Script i Unit
keep_microframe = do
  frame ← read FrameNo 0
  modify (with_entered (index_of frame))

abbrev pub stamped_interrupt : {i : Bool} → Script i Unit
stamped_interrupt = do
  keep_microframe
  on_interrupt
