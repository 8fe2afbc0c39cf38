use mathlib.Core.Path.{refl}
use Rattle.isochronous.proofs.complete.iso_in_complete_resume.Goals as goal

pub returns-in-Sent : goal.returns-in-Sent
returns-in-Sent c =
    (λ b. simp (c.after_sent.ensures.0, c.in-Sent.is), (refl, c.after_sent.ensures.1))

pub returns-in-Loaded : goal.returns-in-Loaded
returns-in-Loaded c = (
  λ b. simp (c.after_loaded.ensures.0, c.in-Loaded.is),
  (c.after_loaded.ensures.1.0, c.after_loaded.ensures.1.1),
)
