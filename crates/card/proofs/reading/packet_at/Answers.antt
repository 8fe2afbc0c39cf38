use Rattle.std.proofs.Common.{ℕ, ◌+◌, sym, ap, ◌∙◌, arith}
use Rattle.card.specs.declared.stream.Step.TheVariants.{Gives}
use Rattle.card.specs.Reading.{intact}
use Rattle.card.specs.Steps.{packet-in, packet-past}
use Rattle.card.specs.Streams.{view}
use Rattle.card.proofs.reading.packet_at.Goals as goal

pub returns-then-all-d : goal.returns-then-all-d
returns-then-all-d c =
    c.if_intact.ensures ∙ sym (packet-past (view c.args.stream.now) c.args.d c.args.len (omega arith))

pub returns : goal.returns
returns c =
    c.if_intact-2.ensures
    ∙ ap (λ (a : ℕ). intact (view c.args.stream.now) c.args.d (c.args.d + 3 + c.args.len) (Gives a c.args.len)) c.data_byte-endpoint.ensures
    ∙ sym (packet-in (view c.args.stream.now) c.args.d c.args.len (omega arith))
