-- Standing at a point: the next access of what is left to run is handed out there. Assumes nothing.
use Rattle.std.specs.Prelude.{List, [], ◌≡◌, refl, ℕ}
use Rattle.std.proofs.Common.{◌∙◌, ap, sym, subst}
use Rattle.regs.specs.declared.Access.{Access}
use Rattle.state.specs.declared.Saved.{Saved}
use Rattle.state.specs.Driver.{Driver}
use Rattle.state.specs.State.{view, saved}
use Rattle.state.specs.Fresh.{nothing}
use Rattle.script.specs.Tree.{Out}
use Rattle.script.specs.Machine.{Buf, awaited}
use Rattle.script_ops.specs.Rings.{St}
use Rattle.interrupt.specs.declared.Point.{Point}
use Rattle.interrupt.specs.declared.Next.TheVariants as next
use Rattle.interrupt.specs.Points.{meaning, awaits_at}
use Rattle.interrupt.specs.Suspended as under
use Rattle.answer.specs.declared.Step.{Step}
use Rattle.answer.specs.declared.Step.TheVariants as step
use Rattle.interrupt.specs.Suspended.{as_saved, handed_out, SavedByAnswer}
use Rattle.interrupt.specs.SuspendedLaws.{stored-by, handed_out_lem}
use Rattle.answer.specs.Parts.{step_of}
use Rattle.answer.specs.Word.{Encodes}
use Rattle.answer.specs.WordLaws.{said, sound}
use Rattle.interrupt.specs.Stands.{Stands, halted, Stops, Pins}

-- the bytes of the point are stored
pub stands_at : {r : ℕ} {q : Access} {p : Point} {c : Saved} {xs ys : List ℕ}
    → Encodes r (step.Asks q) × ((view ys ≡ view xs) × (saved ys ≡ c)) → c ≡ as_saved (under.Interrupt p)
    → Stands r q p xs ys
stands_at h e = record { answered = h.0; viewed = h.1.0; stored = h.1.1 ∙ e }

-- the step that the word says
says : {r : ℕ} {q : Access} {p : Point} {xs ys : List ℕ} → Stands r q p xs ys → step_of r ≡ step.Asks q
says {r} {q} h = said r (step.Asks q) h.answered refl

-- all 22 bytes are pinned
pub stored_at : {r : ℕ} {q : Access} {p : Point} {xs ys : List ℕ} → Stands r q p xs ys → Pins r ys
stored_at {r} {q} h = (sound r (step.Asks q) h.answered refl, stored-by h (step_of r) (says h))

-- and all are zero at an end
pub pinned-end : (r n k : ℕ) (ys : List ℕ) → Encodes r (step.Ends n k) → saved ys ≡ nothing → Pins r ys
pinned-end r n k ys h e = (
  sound r (step.Ends n k) h refl,
  λ zs. subst (λ (z : Step). SavedByAnswer z zs ys) (sym (said r (step.Ends n k) h refl)) e,
)

stood : (q : Access) (p : Point) (d : Driver) (b : Buf) → awaited q ≡ awaits_at p
    → handed_out q (under.Interrupt p) d b ≡ halted (meaning (next.Asks q p) d b)
unfolding halted
stood q p d b h = simp h

-- at a point: its access is the first of what is left
pub stops_at : {r : ℕ} {q : Access} {p : Point} {xs ys : List ℕ} → Stands r q p xs ys → awaited q ≡ awaits_at p
    → (b : Buf) {o : Out St ℕ} → meaning (next.Asks q p) (view xs) b ≡ o → Stops r ys b o
stops_at {r} {q} {p} {xs} h l b m = record {
  there = handed_out_lem h (step_of r) (says h) [] b
      ∙ (stood q p (view xs) b l ∙ ap halted m);
}

-- the same rest, said another way
pub then-on : {r : ℕ} {ys : List ℕ} {b : Buf} {o o' : Out St ℕ} → Stops r ys b o → o ≡ o' → Stops r ys b o'
then-on h e = record { there = h.there ∙ ap halted e }
