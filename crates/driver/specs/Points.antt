-- What is left to run at each suspension point, and what a call's answer comes to
use Rattle.std.specs.Prelude.{◌≡◌, Bool, false, not, List, ℕ, ◌%◌, eqb}
use Rattle.regs.specs.declared.Reg.TheVariants.{Ctrl, HostCtrl, FrameNo, EpMaxLen, EpRxCtrl, EpTxCtrl}
use Rattle.regs.specs.declared.Access.{Access}
use Rattle.regs.specs.declared.Dir.{Dir}
use Rattle.regs.specs.ControlWord.{NAK, DATA0, word_of}
use Rattle.regs.specs.Ctrl.{RUN, reset_ended, PHY_SUSPENDM}
use Rattle.regs.specs.IntEn.{at_start}
use Rattle.regs.specs.Registers.{width_of}
use Rattle.frame.specs.Usb20.{index_of}
use Rattle.state.specs.Driver.{Driver}
use Rattle.script.specs.Tree as tree
use Rattle.script.specs.Tree.{ends, asks}
use Rattle.script.specs.Script.{Script, ret, ◌>>=◌, ◌>>◌, write, wait, when, hand, place, run}
use Rattle.script.specs.Statics.{modify_reg, modify_int_en}
use Rattle.script.specs.Driver as driver
use Rattle.script.specs.AllocateAll.{announce_after}
use Rattle.script.specs.IsoIn as isoIn
use Rattle.script.specs.Machine.{Awaits, nothing, reading, awaited}
use Rattle.script_ops.specs.Rings.{St}
use Rattle.script_ops.specs.Concrete.{concrete}
use Rattle.driver.specs.declared.Point.{Point}
use Rattle.driver.specs.declared.Point.TheVariants as point
use Rattle.script_ops.specs.Numbers.{DRIVER, with_tag}
use Rattle.driver.specs.Codec.{as_numbers, decode}
use Rattle.driver.specs.declared.Next.{Next}
use Rattle.driver.specs.declared.Next.TheVariants as next

-- ---- the operations, each with a number: 0 where the Rust's has no result

abbrev pub numbered : Script false Unit → Script false ℕ
numbered p = do
  p
  ret 0

abbrev pub start_up : Bool → Script false ℕ
start_up callback = numbered (driver.new callback)

abbrev pub new_endpoint : Dir → ℕ → ℕ → ℕ → Script false ℕ
new_endpoint d kind maximum ep = driver.new_endpoint d kind maximum ep

abbrev pub start_ep0 : ℕ → Script false ℕ
start_ep0 maximum = numbered (driver.start_ep0 maximum)

abbrev pub microframe : Script false ℕ
microframe = isoIn.microframe

abbrev pub set_paced : ℕ → Bool → Script false Unit
set_paced ep paced = isoIn.iso_in_set_paced ep paced

-- ---- the rest of each, from after an access on

abbrev pub after_run : Bool → Script false Unit
after_run callback = modify_int_en (λ _. at_start callback)

abbrev pub after_host : Bool → Script false Unit
after_host callback = do
  write Ctrl 0 RUN
  after_run callback

abbrev pub after_reset_end : Bool → Script false Unit
after_reset_end callback = do
  write HostCtrl 0 PHY_SUSPENDM
  after_host callback

abbrev pub after_wait : Bool → Script false Unit
after_wait callback = do
  modify_reg Ctrl 0 reset_ended
  after_reset_end callback

abbrev pub after_max_len : Dir → ℕ → ℕ → Script false ℕ
after_max_len d kind ep = do
  when (not (eqb (kind % 4) 0)) (hand (place d ep))
  ret ep

abbrev pub after_ep0_rx : Script false Unit
after_ep0_rx = do
  write EpTxCtrl 0 (word_of NAK DATA0 false)
  write EpMaxLen 0 64

abbrev pub after_ep0_max_len : Script false Unit
after_ep0_max_len = do
  write EpRxCtrl 0 (word_of NAK DATA0 false)
  after_ep0_rx

-- what is left to run at a point, with the number brought
abbrev pub denote : Point → ℕ → Script false ℕ
denote (point.Clear callback) v = numbered (do
  wait 10
  after_wait callback)
denote (point.Wait callback) v = numbered (after_wait callback)
denote (point.Reset callback) v = numbered (do
  write Ctrl 0 (reset_ended v)
  after_reset_end callback)
denote (point.ResetEnd callback) v = numbered (after_reset_end callback)
denote (point.Host callback) v = numbered (after_host callback)
denote (point.Run callback) v = numbered (after_run callback)
denote point.IntEn v = ret {A = ℕ} 0
denote (point.MaxLen d kind ep) v = after_max_len d kind ep
denote (point.Place ep) v = ret ep
denote (point.Ep0Place maximum) v = numbered (do
  write EpMaxLen 0 maximum
  after_ep0_max_len)
denote point.Ep0MaxLen v = numbered after_ep0_max_len
denote point.Ep0Rx v = numbered after_ep0_rx
denote point.Ep0Tx v = numbered (write EpMaxLen 0 64)
denote point.Ep0Packet v = ret {A = ℕ} 0
denote point.FrameNo v = ret (index_of v)
denote (point.ListMaxLen d kind ep left total) v = do
  after_max_len d kind ep
  announce_after left total d ep
denote (point.ListPlace d ep left total) v = announce_after left total d ep

-- the access is handed out, and the operation is under way at a point
abbrev pub asked : Access → Point → Driver → List ℕ → tree.Out St ℕ
asked q p d b = asks q (d, b) (λ v t. run concrete (denote p v) t)

-- a begin's answer, with what is to be saved
abbrev pub meaning : Next → Driver → List ℕ → tree.Out St ℕ
meaning (next.Asks q c) d b = asked q (decode c) d b
meaning (next.Ends n) d b = ends n (d, b)

-- what a point awaits
abbrev pub awaits_at : Point → Awaits
awaits_at (point.Clear callback) = nothing
awaits_at (point.Wait callback) = nothing
awaits_at (point.Reset callback) = reading (width_of Ctrl)
awaits_at (point.ResetEnd callback) = nothing
awaits_at (point.Host callback) = nothing
awaits_at (point.Run callback) = nothing
awaits_at point.IntEn = nothing
awaits_at (point.MaxLen d kind ep) = nothing
awaits_at (point.Place ep) = nothing
awaits_at (point.Ep0Place maximum) = nothing
awaits_at point.Ep0MaxLen = nothing
awaits_at point.Ep0Rx = nothing
awaits_at point.Ep0Tx = nothing
awaits_at point.Ep0Packet = nothing
awaits_at point.FrameNo = reading (width_of FrameNo)
awaits_at (point.ListMaxLen d kind ep left total) = nothing
awaits_at (point.ListPlace d ep left total) = nothing

-- what it awaits is the access handed out with it
abbrev pub Awaited : Access → Point → Type 0
Awaited q p = awaited q ≡ awaits_at p

-- so of a begin, and what is to be saved is the point's record
abbrev pub Linked : Next → Type 0
Linked (next.Asks q c) = Awaited q (decode c) × (c ≡ with_tag DRIVER (as_numbers (decode c)))
Linked (next.Ends n) = Unit {0}
