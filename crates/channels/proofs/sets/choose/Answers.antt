use Rattle.channels.specs.Sets.{choice_of}
use Rattle.channels.specs.ArraysLaws.{maxima-read, charges-read}
use Rattle.channels.proofs.sets.choose.Goals as goal

pub returns : goal.returns
unfolding choice_of
returns c =
    let list = c.args.list.now in
    record {
      choice =
          simp (
            c.figure.ensures,
            c.best-found.ensures,
            c.saturating_sub.ensures,
            c.min-looked.ensures,
            c.all_sets.ensures,
          );
      arrays =
          rw (maxima-read list c.requires, charges-read list c.requires)
          (simp (
            c.figure.ensures,
            c.best-found.ensures,
            c.saturating_sub.ensures,
            c.min-looked.ensures,
            c.all_sets.ensures,
          ));
    }
