-- What is left to run at each point, and what the answers of the control pipe's calls mean
use Rattle.std.specs.Prelude.{◌≡◌, Bool, false, List, ◌++◌, ℕ}
use Rattle.regs.specs.declared.Reg.TheVariants.{EpTLen, EpRxCtrl, EpTxCtrl}
use Rattle.regs.specs.declared.Dir.{Dir}
use Rattle.regs.specs.declared.Dir.TheVariants.{Out, In}
use Rattle.regs.specs.Registers.{ctrl_of, width_of}
use Rattle.regs.specs.ControlWord.{ack, stall, status}
use Rattle.regs.specs.declared.Access.{Access}
use Rattle.state.specs.declared.Saved.{Saved}
use Rattle.state.specs.Wakes.{listed}
use Rattle.state.specs.Driver.{Driver}
use Rattle.script.specs.Tree as tree
use Rattle.script.specs.Tree.{ends, asks}
use Rattle.script.specs.Script.{Script, run, ret, ◌>>=◌, ◌>>◌, write, when}
use Rattle.script.specs.Statics.{with_armed, modify_ep, modify_reg}
use Rattle.script.specs.Machine.{Awaits, nothing, reading, awaited}
use Rattle.script.specs.Answers.{Answer, Refused, End, NotYet, Done}
use Rattle.script.specs.Control.{acks, word_bytes, closing_out}
use Rattle.script_ops.specs.Rings.{St}
use Rattle.script_ops.specs.Concrete.{concrete}
use Rattle.script_ops.specs.Answers.{finished, front}
use Rattle.script_ops.specs.Results.{resultless}
use Rattle.control.specs.declared.Point.{Point}
use Rattle.control.specs.declared.Point.TheVariants as point
use Rattle.script_ops.specs.Numbers.{CONTROL, with_tag}
use Rattle.control.specs.Codec.{as_numbers, decode}
use Rattle.control.specs.declared.Begun.{Begun}
use Rattle.control.specs.declared.Begun.TheVariants as begun
use Rattle.control.specs.declared.Polled.{Polled}
use Rattle.control.specs.declared.Polled.TheVariants as polled

-- ---- a begin past its rows

-- a stage's packet is answered with ACK
abbrev pub acked : Dir → Bool → Script false ℕ
acked d first = resultless (acks d first)

-- data_in after its closing OUT
abbrev pub loaded : ℕ → Bool → Script false Unit
loaded n first = do
  modify_ep In 0 (with_armed 1)
  write EpTLen 0 n
  acks In first

-- and from it on
abbrev pub loading : ℕ → Bool → Bool → Script false ℕ
loading n first last = resultless (do
  when last closing_out
  loaded n first)

-- ---- points

abbrev pub denote : Point → ℕ → Script false ℕ
denote point.Wrote v = ret {A = ℕ} 0
denote (point.Ack d) v = resultless (write (ctrl_of d) 0 (ack v))
denote point.StatusLen v = resultless (modify_reg EpTxCtrl 0 status)
denote point.Status v = resultless (write EpTxCtrl 0 (status v))
denote point.StallIn v = do
  write EpTxCtrl 0 (stall v)
  resultless (modify_reg EpRxCtrl 0 stall)
denote point.StalledIn v = resultless (modify_reg EpRxCtrl 0 stall)
denote point.StallOut v = resultless (write EpRxCtrl 0 (stall v))
denote (point.Closing n first) v = resultless (loaded n first)
denote (point.Loaded first) v = resultless (acks In first)

-- the access is handed out, and the operation is under way at a point
abbrev pub asked : Access → Point → Driver → List ℕ → tree.Out St Answer
asked q p d b = asks q (d, b) (λ v t. run concrete (finished (denote p v)) t)

-- a begin's answer, where it hands out an access with what is to be saved
abbrev pub begun_as : Begun → Driver → List ℕ → tree.Out St Answer
begun_as (begun.Refused n) d b = ends (Refused n) (d, b)
begun_as (begun.Asks q c) d b = asked q (decode c) d b
begun_as (begun.Ends n) d b = ends (End n (listed d.wakes)) (d, b)

-- a poll's, with the slice it was lent: Done n brings the slice's first n bytes, Setup the packet as two words
abbrev pub polled_as : Polled → List ℕ → Driver → List ℕ → tree.Out St Answer
polled_as (polled.Refused n) out d b = ends (Refused n) (d, b)
polled_as polled.NotYet out d b = ends NotYet (d, b)
polled_as (polled.Done n) out d b = ends (Done (front n out)) (d, b)
polled_as (polled.Setup low high) out d b = ends (Done (word_bytes low ++ word_bytes high)) (d, b)
polled_as (polled.Asks q c) out d b = asked q (decode c) d b

-- what a point awaits
abbrev pub awaits_at : Point → Awaits
awaits_at point.Wrote = nothing
awaits_at (point.Ack d) = reading (width_of EpTxCtrl)
awaits_at point.StatusLen = nothing
awaits_at point.Status = reading (width_of EpTxCtrl)
awaits_at point.StallIn = reading (width_of EpTxCtrl)
awaits_at point.StalledIn = nothing
awaits_at point.StallOut = reading (width_of EpRxCtrl)
awaits_at (point.Closing n first) = nothing
awaits_at (point.Loaded first) = nothing

-- what it awaits is the access handed out with it
abbrev pub Awaited : Access → Point → Type 0
Awaited q p = awaited q ≡ awaits_at p

-- so of what is to be saved, which is the point's record
abbrev pub LinkedAs : Access → Saved → Type 0
LinkedAs q c = Awaited q (decode c) × (c ≡ with_tag CONTROL (as_numbers (decode c)))

abbrev pub LinkedBegun : Begun → Type 0
LinkedBegun (begun.Refused n) = Unit {0}
LinkedBegun (begun.Asks q c) = LinkedAs q c
LinkedBegun (begun.Ends n) = Unit {0}

abbrev pub LinkedPolled : Polled → Type 0
LinkedPolled (polled.Refused n) = Unit {0}
LinkedPolled polled.NotYet = Unit {0}
LinkedPolled (polled.Done n) = Unit {0}
LinkedPolled (polled.Setup low high) = Unit {0}
LinkedPolled (polled.Asks q c) = LinkedAs q c
