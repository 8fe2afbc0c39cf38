use Rattle.std.proofs.Common.{ℕ, ◌+◌, ◌*◌, sym, ap, ◌∙◌, ap₂}
use Rattle.card.specs.Reading.{packet_at}
use Rattle.card.specs.Steps.{begin-filler, begin-packet}
use Rattle.card.specs.Streams.{view}
use Rattle.card.proofs.reading.begin_at.Goals as goal

pub returns-then-data_byte-eq0 : goal.returns-then-data_byte-eq0
returns-then-data_byte-eq0 c =
    sym (begin-filler (view c.args.stream.now) c.args.d (sym c.data_byte.ensures ∙ c.if-data_byte-eq0.true))

pub returns : goal.returns
returns c =
    c.packet_at.ensures ∙ ap (packet_at (view c.args.stream.now) c.args.d)
    (ap₂ (λ (a b : ℕ). a + b * 256) c.data_byte-low.ensures c.data_byte-high.ensures)
    ∙ sym (begin-packet (view c.args.stream.now) c.args.d (λ z. c.if-data_byte-eq0.false (c.data_byte.ensures ∙ z)))
