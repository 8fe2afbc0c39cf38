use Rattle.std.proofs.Common.{◌≡◌, ◌+◌, ◌*◌, ◌^◌, ◌≤◌, length}
use Rattle.channels.specs.Channels.{maximum, charge}
use Rattle.channels.specs.Sets.{total}
use Rattle.channels.proofs.sets.Search.next.Given as goal

-- the first channels have left: what is left of the set is a multiple of 2 ^ c-index
abbrev pub invariant-loop-c : goal.invariant-loop-c
invariant-loop-c l =
    record {
      maximum_most : l.left.maximum ≤ l.set * 65535;
      charge_most : l.left.charge ≤ l.set * 65535;
      maximum : l.left.maximum ≡ total (maximum l.self.list.now) (l.rest * 2 ^ l.c-index) (length l.self.list.now);
      charge : l.left.charge ≡ total (charge l.self.list.now) (l.rest * 2 ^ l.c-index) (length l.self.list.now);
      gap : l.set + 1 ≡ (l.rest + 1) * 2 ^ l.c-index;
    }
