use Rattle.machine.proofs.PointsStandsLaws.{follows, stays_at}
use Rattle.machine.specs.AdvanceLaws.{advance}
use Rattle.machine.specs.declared.Suspended.TheVariants as under
use Rattle.isochronous.specs.declared.advance.Advance.TheVariants as point
use Rattle.isochronous.specs.Laws.{few}
use Prim.Native.Nat.{ℕ}
use native.Mathlib.Omega.{arith}
use mathlib.Core.Path.{refl, ap, sym, ◌∙◌}
use Rattle.machine.proofs.advance_resumes.resume_frame_no.Goals as goal

pub half-requires : goal.half-requires
half-requires c = sym c.fits.ensures ∙ c.if-fits.true

pub overflow_cast-n : goal.overflow_cast-n
overflow_cast-n c = let h = few _ _ _ c.completions-n.ensures in omega (arith, h)

pub returns-then-fits : goal.returns-then-fits
returns-then-fits c =
    let here = c.requires
    ∙ ap (λ (e : ℕ). under.Advance (point.FrameNo e)) (sym c.ep_byte-e.ensures) in
    let fitted = sym c.fits.ensures ∙ c.if-fits.true in
    λ b. follows advance here fitted (simp (
      c.frame_of_index-kept.ensures,
      c.completions-n.ensures,
      c.load_paced-last.ensures,
      c.microframe_index-now.ensures,
      c.half.ensures,
    ) at (c.iso_in_advance_resume.ensures.steps_to b)) c.iso_in_advance_resume.ensures.stored refl

pub returns : goal.returns
returns c = λ b. stays_at advance c.requires (sym c.fits.ensures ∙ c.if-fits.false)
