use mathlib.Core.Path.{◌∙◌}
use Rattle.calls.specs.Sharing.{charge_on}
use Rattle.calls.specs.AcceptsLaws.{ep_on-low}
use Rattle.calls.proofs.charges.charge_on.Goals as goal

pub returns : goal.returns
unfolding charge_on
returns c =
    record {
      value = c.charge_of.ensures.value ∙ simp (c.load_ep-r.ensures, ep_on-low);
      upper_bound = c.charge_of.ensures.upper_bound;
    }
