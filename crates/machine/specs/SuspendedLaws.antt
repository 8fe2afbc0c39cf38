-- Laws on the definitions of Suspended.antt
use Rattle.std.specs.Prelude.{List, ◌++◌, ◌≡◌, refl, ℕ, ◌*◌}
use Rattle.std.proofs.Common.{ap}
use Rattle.state.specs.Driver.{Driver}
use Rattle.state.specs.Fresh as fresh
use Rattle.script.specs.Tree.{Out, ends, asks}
use Rattle.script.specs.Script.{◌>>=◌}
use Rattle.script.specs.Answers.{Answer}
use Rattle.script.specs.Machine as machine
use Rattle.script_ops.specs.Rings.{St}
use Rattle.driver.specs.Points as driver
use Rattle.driver.specs.Codec as codec
use Rattle.driver.specs.CodecLaws as codec-laws
use Rattle.bus.specs.Points as bus
use Rattle.bus.specs.Codec as busCodec
use Rattle.bus.specs.CodecLaws as busCodec-laws
use Rattle.script_ops.specs.Answers.{lent_after}
use Rattle.control.specs.Points as control
use Rattle.control.specs.Codec as controlCodec
use Rattle.control.specs.CodecLaws as controlCodec-laws
use Rattle.endpoint.specs.Points as endpoint
use Rattle.endpoint.specs.Codec as endpointCodec
use Rattle.endpoint.specs.CodecLaws as endpointCodec-laws
use Rattle.isochronous.specs.Advance as advance
use Rattle.isochronous.specs.Codec as advanceCodec
use Rattle.isochronous.specs.CodecLaws as advanceCodec-laws
use Rattle.interrupt.specs.Points as handler
use Rattle.interrupt.specs.Codec as handlerCodec
use Rattle.interrupt.specs.CodecLaws as handlerCodec-laws
use Rattle.machine.specs.declared.Suspended.{Suspended}
use Rattle.machine.specs.declared.Suspended.TheVariants as under
use Rattle.answer.specs.declared.Step.TheVariants as step
use Rattle.machine.specs.Suspended.{as_saved, encode, decode, halts, lent_by}

-- `encode` is shut elsewhere
pub by-table : (u : Suspended) → as_saved u ≡ encode u
unfolding encode
by-table u = refl

pub decode-encode : (u : Suspended) → decode (encode u) ≡ u
unfolding encode decode codec.decode busCodec.decode controlCodec.decode endpointCodec.decode advanceCodec.decode
    handlerCodec.decode
    codec.encode busCodec.encode controlCodec.encode endpointCodec.encode advanceCodec.encode handlerCodec.encode
decode-encode under.Idle = refl
decode-encode (under.Driver p) = ap under.Driver (codec-laws.decode-encode p)
decode-encode (under.Bus p) = ap under.Bus (busCodec-laws.decode-encode p)
decode-encode (under.Control p) = ap under.Control (controlCodec-laws.decode-encode p)
decode-encode (under.Endpoint p) = ap under.Endpoint (endpointCodec-laws.decode-encode p)
decode-encode (under.Advance p) = ap under.Advance (advanceCodec-laws.decode-encode p)
decode-encode (under.Interrupt p) = ap under.Interrupt (handlerCodec-laws.decode-encode p)

pub lent-halts : (o : Out St Answer) (out : List ℕ) → lent_by (halts o).0 out ≡ lent_after o out
lent-halts (ends a s) out = refl
lent-halts (asks q s k) out = refl
