use Rattle.std.proofs.Common.{◌≡◌, ◌*◌, ◌/◌, ◌^◌, ◌≤◌}
use Rattle.channels.specs.Channels.{maximum, charge}
use Rattle.channels.specs.Sets.{total}
use Rattle.channels.proofs.sets.Search.totals.Given as goal

abbrev pub invariant-loop-c : goal.invariant-loop-c
invariant-loop-c l =
    record {
      maximum_bound : l.t.maximum ≤ l.c-index * 65535;
      charge_bound : l.t.charge ≤ l.c-index * 65535;
      maximum : l.t.maximum ≡ total (maximum l.self.list.now) l.set l.c-index;
      charge : l.t.charge ≡ total (charge l.self.list.now) l.set l.c-index;
      rest : l.rest ≡ l.set / 2 ^ l.c-index;
    }
