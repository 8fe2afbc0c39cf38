use mathlib.Core.Path.{◌≡◌, sym, ap, ◌∙◌}
use mathlib.Core.Bool.{true, false}
use mathlib.Core.List.{List, []}
use Rattle.descriptor.specs.declared.Endpoint.{Endpoint}
use Rattle.descriptor.specs.Endpoints.{of_list, listed, gathered}
use Rattle.descriptor.specs.Reading.{endpoints}
use Rattle.descriptor.specs.ListsLaws.{listed_of, tidy_of, good_none}
use Rattle.descriptor.specs.Types.{gathered-append}
use Rattle.descriptor.proofs.gathered.Goals as goal

pub gather-requires : goal.gather-requires
gather-requires c =
    record {
      bytes_value = c.requires;
      tidy = rw c.empty.ensures (tidy_of [] good_none);
    }

pub returns : goal.returns
returns c =
    let e : c.gather.result ≡ of_list (gathered [] (endpoints true c.args.bytes.now)) = c.gather.ensures.value ∙ rw c.empty.ensures in
    let l : listed c.gather.result ≡ gathered [] (endpoints true c.args.bytes.now)
    = rw e (listed_of (gathered [] (endpoints true c.args.bytes.now))) in
    record {
      value = c.gather-2.ensures.value ∙ ap (λ (x : List Endpoint). of_list (gathered x (endpoints false c.args.bytes.now))) l
          ∙ ap (λ (x : List Endpoint). of_list x) (sym (gathered-append [] (endpoints true c.args.bytes.now) (endpoints false c.args.bytes.now)));
      tidy = c.gather-2.ensures.tidy_2;
    }
