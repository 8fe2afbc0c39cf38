use Rattle.std.proofs.Common.{sym, arith}
use Rattle.channels.specs.SetsLaws.{empty}
use Rattle.channels.specs.BestLaws.{best_none, best-more}
use Rattle.channels.proofs.sets.Search.best.Goals as goal

pub loop-set-init : goal.loop-set-init
loop-set-init c =
    record {
      found = sym (best_none _ _ _ _);
      maximum_most = omega arith;
      charge_most = omega arith;
      maximum = sym (empty _ _);
      charge = sym (empty _ _);
    }

pub loop-set-preserved : goal.loop-set-preserved
loop-set-preserved c =
    record {
      found = rw (c.look-found.ensures, c.loop-set.invariant.found, best-more);
      maximum_most = c.next-t.ensures.most_maximum;
      charge_most = c.next-t.ensures.most_charge;
      maximum = c.next-t.ensures.maximum;
      charge = c.next-t.ensures.charge;
    }
