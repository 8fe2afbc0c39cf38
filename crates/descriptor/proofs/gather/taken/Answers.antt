use mathlib.Core.Path.{sym, ◌∙◌}
use Rattle.descriptor.specs.ListsLaws.{place-few}
use Rattle.descriptor.specs.WalkLaws.{meant-endpoint, fine-at}
use Rattle.descriptor.proofs.gather.taken.Goals as goal

pub endpoint-requires : goal.endpoint-requires
endpoint-requires c =
    c.requires.sound.here.endpoint (meant-endpoint c.args.bytes.now c.args.at c.args.zeroth c.args.setting (sym c.is_meant.ensures ∙ c.if-is_meant.true))

pub noted-requires : goal.noted-requires
noted-requires c =
    let e = meant-endpoint c.args.bytes.now c.args.at c.args.zeroth c.args.setting (sym c.is_meant.ensures ∙ c.if-is_meant.true) in
    record {
      tidy = c.requires.tidy;
      list_bound = rw c.endpoint.ensures (place-few _ _ (fine-at _ _ c.requires.sound e) c.requires.tidy.good);
    }

pub returns-then-is_meant : goal.returns-then-is_meant
returns-then-is_meant c =
    rw (← c.is_meant.ensures, c.if-is_meant.true, c.noted.ensures, c.endpoint.ensures)

pub returns : goal.returns
returns c = rw (← c.is_meant.ensures, c.if-is_meant.false)
