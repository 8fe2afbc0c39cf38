use mathlib.Core.Path.{sym, ◌∙◌}
use Rattle.descriptor.specs.WalkLaws.{meant-endpoint}
use Rattle.descriptor.proofs.gather.agrees.Goals as goal

pub endpoint-requires : goal.endpoint-requires
endpoint-requires c =
    c.requires.sound.here.endpoint (meant-endpoint c.args.bytes.now c.args.at c.args.zeroth c.args.setting (sym c.is_meant.ensures ∙ c.if-is_meant.true))

pub returns-then-is_meant : goal.returns-then-is_meant
returns-then-is_meant c =
    rw (← c.is_meant.ensures, c.if-is_meant.true, c.agrees.ensures, c.endpoint.ensures)

pub returns : goal.returns
returns c = rw (← c.is_meant.ensures, c.if-is_meant.false)
