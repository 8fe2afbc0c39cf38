use Rattle.std.proofs.Common.{◌≡◌, ◌*◌, ◌≤◌, length}
use Rattle.channels.specs.Channels.{maximum, charge}
use Rattle.channels.specs.Sets.{total, best_of}
use Rattle.channels.proofs.sets.Search.best.Given as goal

abbrev pub invariant-loop-set : goal.invariant-loop-set
invariant-loop-set l =
    record {
      found : l.found ≡ best_of (maximum l.self.list.now) (charge l.self.list.now) (length l.self.list.now)
          l.self.room l.set;
      maximum_most : l.t.maximum ≤ l.set * 65535;
      charge_most : l.t.charge ≤ l.set * 65535;
      maximum : l.t.maximum ≡ total (maximum l.self.list.now) l.set (length l.self.list.now);
      charge : l.t.charge ≡ total (charge l.self.list.now) l.set (length l.self.list.now);
    }
