-- Allocating a list of endpoints one by one, up to the first refusal.
use Rattle.std.specs.Prelude.{cond, List, [], ◌∷◌, ℕ, ◌+◌, eqb, ltb, replicate, set}
use Rattle.regs.specs.declared.Dir.{Dir}
use Rattle.regs.specs.declared.Dir.TheVariants.{Out, In}
use Rattle.state.specs.declared.Allocator.{Allocator}
use Rattle.alloc.specs.declared.Answer.{Answer}
use Rattle.alloc.specs.declared.Answer.TheVariants.{Refused, Given}
use Rattle.alloc.specs.declared.Allocation.{Allocation}
use Rattle.alloc.specs.Alloc.{allocate_of}
use Rattle.descriptor.specs.declared.Endpoint.{Endpoint}
use Rattle.descriptor.specs.declared.preview.Trial.{Trial}

-- bit 7 of an address (USB 2.0, 9.6.6)
abbrev pub direction_of : ℕ → Dir
direction_of address = cond (ltb address 128) Out In

-- an endpoint's allocation: its own address is asked for
unfoldable pub asked : Allocator → Endpoint → Allocation
asked a e = allocate_of a e.kind e.address e.maximum (direction_of e.address)

-- nothing tried yet
abbrev pub start : Allocator → Trial
start a = record { after = a; numbers = replicate 32 0; count = 0; buffers = 0; refusal = 0 }

-- one number more, and its buffers
unfoldable pub given : Trial → Allocator → ℕ → ℕ → Trial
given t after e slots = record {
  after = after;
  numbers = set t.numbers t.count e;
  count = t.count + 1;
  buffers = t.buffers + slots;
  refusal = t.refusal;
}

-- by the allocator's answer: a refusal is kept, and nothing else
unfoldable pub answered : Trial → Allocator → Answer → Trial
answered t after (Refused n) = record {
  after = t.after;
  numbers = t.numbers;
  count = t.count;
  buffers = t.buffers;
  refusal = n;
}
answered t after (Given e base slots) = given t after e slots

unfoldable pub step : Trial → Endpoint → Trial
step t e = answered t (asked t.after e).after (asked t.after e).answer

-- one after the other; a refusal ends it
unfoldable pub tried : Trial → List Endpoint → Trial
tried t [] = t
tried t (e ∷ es) = cond (eqb t.refusal 0) (tried (step t e) es) t

abbrev pub trial_of : Allocator → List Endpoint → Trial
trial_of a es = tried (start a) es
