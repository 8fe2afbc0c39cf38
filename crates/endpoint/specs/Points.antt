-- What is left to run at each point, and what the answers of reads and writes mean
use Rattle.std.specs.Prelude.{◌≡◌, false, List, ℕ, length}
use Rattle.regs.specs.declared.Reg.TheVariants.{EpTxCtrl}
use Rattle.regs.specs.Registers.{ctrl_of, width_of}
use Rattle.regs.specs.ControlWord.{ack}
use Rattle.regs.specs.declared.Access.{Access}
use Rattle.state.specs.declared.Saved.{Saved}
use Rattle.state.specs.Wakes.{listed}
use Rattle.state.specs.Driver.{Driver}
use Rattle.state.specs.State.{view}
use Rattle.script.specs.Tree as tree
use Rattle.script.specs.Tree.{ends, asks}
use Rattle.script.specs.Script.{Script, run, ret, write}
use Rattle.script.specs.Statics.{modify_reg}
use Rattle.script.specs.Machine.{Awaits, nothing, reading, awaited}
use Rattle.script.specs.Answers.{Answer, Refused, End, NotYet, Done}
use Rattle.script.specs.Endpoint.{poll_read}
use Rattle.script_ops.specs.Rings.{St}
use Rattle.script_ops.specs.Concrete.{concrete, go}
use Rattle.script_ops.specs.Answers.{finished, front}
use Rattle.script_ops.specs.Results.{resultless}
use Rattle.endpoint.specs.declared.Point.{Point}
use Rattle.endpoint.specs.declared.Point.TheVariants as point
use Rattle.script_ops.specs.Numbers.{ENDPOINT, with_tag}
use Rattle.endpoint.specs.Codec.{as_numbers, decode}
use Rattle.endpoint.specs.declared.Begun.{Begun}
use Rattle.endpoint.specs.declared.Begun.TheVariants as begun
use Rattle.endpoint.specs.declared.Polled.{Polled}
use Rattle.endpoint.specs.declared.Polled.TheVariants as polled

abbrev pub denote : Point → ℕ → Script false ℕ
denote (point.Ack d e) v = resultless (write (ctrl_of d) e (ack v))
denote point.Wrote v = ret {A = ℕ} 0
denote (point.Loaded e) v = resultless (modify_reg EpTxCtrl e ack)

-- the access is handed out, and the operation is under way at a point
abbrev pub asked : Access → Point → Driver → List ℕ → tree.Out St Answer
asked q p d b = asks q (d, b) (λ v t. run concrete (finished (denote p v)) t)

-- a begin's answer, where it hands out an access with what is to be saved
abbrev pub begun_as : Begun → Driver → List ℕ → tree.Out St Answer
begun_as (begun.Refused n) d b = ends (Refused n) (d, b)
begun_as (begun.Asks q c) d b = asked q (decode c) d b
begun_as (begun.Ends n) d b = ends (End n (listed d.wakes)) (d, b)

-- a poll's, with the slice it was lent: Done n brings the slice's first n bytes
abbrev pub polled_as : Polled → List ℕ → Driver → List ℕ → tree.Out St Answer
polled_as (polled.Refused n) out d b = ends (Refused n) (d, b)
polled_as polled.NotYet out d b = ends NotYet (d, b)
polled_as (polled.Done n) out d b = ends (Done (front n out)) (d, b)

-- what the poll of a read into a slice comes to, on the lent bytes
abbrev pub read_on : ℕ → List ℕ → List ℕ → List ℕ → tree.Out St Answer
read_on e out xs b = go {i = false} (poll_read e (length out)) (view xs) b

-- what a point awaits
abbrev pub awaits_at : Point → Awaits
awaits_at (point.Ack d e) = reading (width_of EpTxCtrl)
awaits_at point.Wrote = nothing
awaits_at (point.Loaded e) = nothing

-- what it awaits is the access handed out with it
abbrev pub Awaited : Access → Point → Type 0
Awaited q p = awaited q ≡ awaits_at p

-- so of what is to be saved, which is the point's record
abbrev pub LinkedAs : Access → Saved → Type 0
LinkedAs q c = Awaited q (decode c) × (c ≡ with_tag ENDPOINT (as_numbers (decode c)))

abbrev pub LinkedBegun : Begun → Type 0
LinkedBegun (begun.Refused n) = Unit {0}
LinkedBegun (begun.Asks q c) = LinkedAs q c
LinkedBegun (begun.Ends n) = Unit {0}
