use Rattle.alloc.specs.Alloc.{add_to, taken}
use mathlib.Core.Bool.{Bool, not}
use mathlib.Core.Path.{ap, ◌∙◌}
use Rattle.alloc.proofs.masks.taken.Goals as goal

pub returns : goal.returns
unfolding taken
returns c =
    λ i. record {
      size = c.args.a.size;
      count = c.args.a.count;
      next = c.args.a.next;
      taken_out = (c.add_to.ensures ∙ ap (λ (t : Bool). add_to t c.args.a.taken_out c.args.e) c.is_out-out.ensures) i;
      taken_in = (c.add_to-2.ensures ∙ ap (λ (t : Bool). add_to (not t) c.args.a.taken_in c.args.e) c.is_out-out.ensures) i;
      iso_nums = c.add_to-3.ensures i;
      other_nums = c.add_to-4.ensures i;
      allocated_out = c.args.a.allocated_out;
      allocated_in = c.args.a.allocated_in;
    }
