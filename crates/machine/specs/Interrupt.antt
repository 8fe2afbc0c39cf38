-- The interrupt's points: as in Fits.antt, with the points of its parts
use Rattle.std.specs.Prelude.{true, false, not, ◌≡◌, ℕ}
use Rattle.std.proofs.Common.{ap, ◌∙◌}
use Rattle.regs.specs.declared.Access.{Access}
use Rattle.script.specs.Machine.{Buf}
use Rattle.script.specs.Script.{run}
use Rattle.script.specs.Tree.{bind_out}
use Rattle.script_ops.specs.Concrete.{concrete}
use Rattle.state.specs.Driver.{Driver}
use Rattle.interrupt.specs.declared.Point.{Point}
use Rattle.interrupt.specs.declared.Point.TheVariants as point
use Rattle.interrupt.specs.declared.Next.TheVariants as next
use Rattle.interrupt.specs.Points as handler
pub use Rattle.interrupt.specs.SuspendedLaws.{over-fits-interrupt}
use Rattle.machine.specs.declared.Suspended.TheVariants as under
use Rattle.machine.specs.Suspended.{finish, handed_out, resumed, halts_as}
use Rattle.machine.specs.GoesLaws.{stayed, gone, stays}

-- it begins with a reading of frame_no, and is under way there
pub begun-interrupt : (q : Access) (d : Driver) (b : Buf) → handler.Linked (next.Asks q point.Frame)
    → handed_out q (under.Interrupt point.Frame) d b
    ≡ halts_as true (bind_out (handler.meaning (next.Asks q point.Frame) d b) (λ k t. run concrete (finish k) t))
begun-interrupt q d b h = simp h

-- ---- a continue at them

pub gone-interrupt : (p : Point) (v : ℕ) (d : Driver) (b : Buf) → handler.fits_at p v ≡ true
    → resumed v (under.Interrupt p) d b ≡ halts_as true
    (bind_out (handler.denote p v (d, b)) (λ n u. run concrete (finish n) u))
gone-interrupt p v d b h = gone true (handler.awaits_at p)
    (λ x t. bind_out (handler.denote p x t) (λ n u. run concrete (finish n) u)) v d b (over-fits-interrupt p v
    ∙ ap not h)

pub stay-interrupt : (p : Point) (v : ℕ) (d : Driver) (b : Buf)
    → handler.fits_at p v ≡ false → resumed v (under.Interrupt p) d b ≡ stayed (under.Interrupt p) d b
stay-interrupt p v d b h = stays true (handler.awaits_at p)
    (λ x t. bind_out (handler.denote p x t) (λ n u. run concrete (finish n) u)) v d b (over-fits-interrupt p v
    ∙ ap not h)
