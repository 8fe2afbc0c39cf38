-- Request Three in a run: where driver and book agree at rest, as after every call of every list from an accepted
-- start-up, a descriptor's endpoints allocated as one operation are allocated one by one
use Rattle.std.specs.Prelude.{Bool, true, List, ◌≡◌, ℕ, ◌*◌, ◌%◌, ◌≤◌, ◌<◌, get_or}
use Rattle.std.proofs.Common.{ap, subst, ◌∙◌, arith, mul-le-mul_right}
use Rattle.bits.specs.Bit.{bit_is_set}
use Rattle.regs.specs.declared.Dir.{Dir}
use Rattle.state.specs.declared.EpState.{EpState}
use Rattle.state.specs.declared.Allocator.{Allocator}
use Rattle.state.specs.Driver.{Driver, ep_on}
use Rattle.alloc.specs.Alloc.{allocated_ins}
use Rattle.alloc.specs.Buffer.{good_size}
use Rattle.alloc.specs.BufferLaws.{each-size}
use Rattle.descriptor.specs.declared.Answer.TheVariants as reading
use Rattle.descriptor.specs.Reading.{reading_of, list_of}
use Rattle.descriptor.specs.Trial.{trial_of}
use Rattle.script.specs.Simulates.{quiet}
use Rattle.script.specs.Statics.{is_on}
use Rattle.script.specs.Machine.{Buf}
use Rattle.proof_alloc_all.specs.Settled.{Settled}
use Rattle.proof_alloc_all.specs.SettledLaws.{slots-some}
use Rattle.proof_alloc_all.specs.Order.{InOrder}
use Rattle.proof_alloc_all.proofs.OrderLaws.{in_order_lem}
use Rattle.proof_book.specs.Pages.{Pages}
use Rattle.proof_book.specs.Coupling.{Used, Shape, Coupling}

size-some : (size : ℕ) → good_size size ≡ true → 1 ≤ size
size-some size h = each-size (λ (z : ℕ). 1 ≤ z) (omega arith) (omega arith) (omega arith) (omega arith) (omega arith)
    (omega arith) size h

used-below : (a : Allocator) (dir : Dir) (r : EpState) → 1 ≤ a.size → Used a dir r → r.base < a.next * a.size
used-below a dir r l u =
    let s : 1 ≤ r.slots = omega (arith, u.slots, slots-some (is_on r.iso) dir) in
    let m = mul-le-mul_right r.stride s in
    omega (arith, m, u.below, u.stride, l)

pub rest-settled : {b : Buf} {d : Driver} {t : Pages} → Coupling quiet b d t → Settled d
rest-settled {d = d} r = record {
  sized = r.sized;
  sound = r.sound;
  some = size-some d.allocator.size r.good;
  below = λ dir m h t.
      let e : m % 16 ≡ m = omega arith in
      used-below d.allocator dir (ep_on d dir m) (size-some d.allocator.size r.good)
      (subst (λ (x : Bool). Shape x d.allocator dir (ep_on d dir m))
      (ap (λ (z : ℕ). bit_is_set (allocated_ins d.allocator dir) z) e ∙ t) (r.shape dir m));
}

pub listed-in-order : {b : Buf} {d : Driver} {t : Pages} → Coupling quiet b d t → (bytes : List ℕ) → d.globals.stage
    ≡ 1 → ((j : ℕ) → get_or bytes j 0 < 256)
    → (reading_of bytes).answer ≡ reading.Listed → (trial_of d.allocator (list_of bytes)).refusal ≡ 0 → InOrder d b bytes
listed-in-order {b = b} {d = d} r bytes stage small listed given
    = in_order_lem d b bytes (rest-settled r) stage small listed given
