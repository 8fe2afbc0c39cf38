-- What open, close and queue answer, and the scripts of open and close behind rows 4 and 5
use Rattle.std.specs.Prelude.{◌≡◌, false, List, ℕ}
use Rattle.regs.specs.declared.Dir.TheVariants.{Out}
use Rattle.state.specs.Driver.{Driver}
use Rattle.ring.specs.Copies.{bytes_at}
use Rattle.script.specs.Tree as tree
use Rattle.script.specs.Tree.{ends}
use Rattle.script.specs.Script.{Script}
use Rattle.script.specs.Answers.{Answer, Refused, Shown, ok}
use Rattle.script.specs.Driver as scripts
use Rattle.script_ops.specs.Rings.{St, oldest_at, next_len, next_stamp}
use Rattle.isochronous.specs.declared.open_close.Packet.{Packet}
use Rattle.isochronous.specs.declared.open_close.Packet.TheVariants as packet

-- the bytes of a packet that is shown are the slots' at the offset
abbrev pub answer_of : Packet → List ℕ → Answer
answer_of (packet.Refused n) b = Refused n
answer_of (packet.Shown at n stamp) b = Shown (bytes_at b at n) stamp
answer_of packet.Ok b = ok

abbrev pub answered : Packet → Driver → List ℕ → tree.Out St Answer
answered r d b = ends (answer_of r b) (d, b)

-- and they are the oldest packet's, as its stamp is
abbrev pub ShownAt : Packet → Driver → ℕ → Type 0
ShownAt (packet.Refused n) d e = Unit {0}
ShownAt (packet.Shown at n stamp) d e = (at ≡ oldest_at d e) × (n ≡ next_len d Out e) × (stamp ≡ next_stamp d e)
ShownAt packet.Ok d e = Unit {0}

abbrev pub opening : ℕ → Script false Answer
opening ep = scripts.opening ep

abbrev pub closing : ℕ → Script false Answer
closing ep = scripts.closing ep
