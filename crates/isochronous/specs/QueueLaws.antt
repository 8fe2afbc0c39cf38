-- What queue's script comes to, by what is found. Assumes nothing.
use Rattle.std.specs.Prelude.{◌≡◌, refl, Bool, true, false, not, cond, List, ℕ, ltb, length}
use Rattle.std.proofs.Common.{ap, ◌∙◌}
use Rattle.regs.specs.declared.Dir.TheVariants.{In}
use Rattle.regs.specs.Enables as enables
use Rattle.state.specs.Driver.{Driver, ep_on}
use Rattle.script.specs.Tree as tree
use Rattle.script.specs.Tree.{ends}
use Rattle.script.specs.Statics.{is_on}
use Rattle.script.specs.Answers.{Answer, Refused, ok}
use Rattle.script_ops.specs.Rings.{St, room_on, enqueue_on}
use Rattle.script_ops.specs.Concrete.{go}
use Rattle.isochronous.specs.declared.open_close.Packet.TheVariants as packet
use Rattle.isochronous.specs.Packets.{answered}
use Rattle.isochronous.specs.Queue.{queueing}

-- by the enable bit, the size, the kind and the room
abbrev queued_as : ℕ → List ℕ → Driver → List ℕ → Bool → Bool → Bool → Bool → tree.Out St Answer
queued_as e bytes d b on long iso free =
    cond on
    (cond long (ends (Refused 10) (d, b))
    (cond (not iso) (ends (Refused 11) (d, b)) (cond free (ends ok (enqueue_on e bytes (d, b)))
    (ends (Refused 13) (d, b)))))
    (ends (Refused 9) (d, b))

pub queue-by : (e : ℕ) (bytes : List ℕ) (d : Driver) (b : List ℕ) (on long iso free : Bool)
    → enables.is_on d.globals.ep_config In e ≡ on
    → ltb d.allocator.size (length bytes) ≡ long → is_on (ep_on d In e).iso ≡ iso → room_on d e (length bytes) ≡ free
    → queued_as e bytes d b on long iso free ≡ go (queueing e bytes) d b
queue-by e bytes d b on long iso free h k m n = rw (← h, ← k, ← m, ← n) refl

pub queue-ok : (e : ℕ) (bytes : List ℕ) (d x : Driver) (b y : List ℕ) → enables.is_on d.globals.ep_config In e
    ≡ true
    → ltb d.allocator.size (length bytes) ≡ false → is_on (ep_on d In e).iso ≡ true
    → room_on d e (length bytes) ≡ true → x ≡ (enqueue_on e bytes (d, b)).0 → y ≡ (enqueue_on e bytes (d, b)).1
    → answered packet.Ok x y ≡ go (queueing e bytes) d b
queue-ok e bytes d x b y h k m n p q =
    ap (λ (z : Driver). answered packet.Ok z y) p
    ∙ (ap (λ (z : List ℕ). answered packet.Ok (enqueue_on e bytes (d, b)).0 z) q
    ∙ queue-by e bytes d b true false true true h k m n)
