use mathlib.Core.Path.{◌∙◌}
use Rattle.machine.proofs.driver_stands.at_endpoint.Goals as goal

pub returns : goal.returns
returns c =
    (c.stand.ensures.0, (c.stand.ensures.1.0, c.stand.ensures.1.1 ∙ c.endpoint.ensures))
