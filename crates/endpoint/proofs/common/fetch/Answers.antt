use mathlib.Core.Path.{◌∙◌}
use Rattle.endpoint.specs.Fetch.{fetched-length, fetched}
use Rattle.endpoint.proofs.common.fetch.Goals as goal

pub returns : goal.returns
returns c =
    record {
      value = c.available-k.ensures ∙ fetched-length c.args.buf.now c.args.at c.args.n;
      out_after = c.copy_out.ensures ∙ fetched c.args.buf.now c.args.out.now
          c.args.at c.args.n c.available-k.result c.available-k.ensures c.requires;
    }
