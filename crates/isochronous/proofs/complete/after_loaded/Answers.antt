use Rattle.isochronous.proofs.complete.after_loaded.Goals as goal

pub returns : goal.returns
returns c = (λ b. simp c.wake.ensures.s_after, (c.wake.ensures.s_unchanged, tt))
