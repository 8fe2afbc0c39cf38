use Rattle.machine.proofs.PointsStandsLaws.{at-point, goes_to}
use Rattle.machine.specs.Loads.{sent_at}
use Rattle.machine.specs.AdvanceLaws.{advance}
use mathlib.Core.Path.{refl, ap}
use Rattle.machine.proofs.advance_resumes.resume_sent.Goals as goal

pub returns : goal.returns
returns c =
    let here = at-point advance 1 c.requires
    (ap sent_at c.completion_at-x.ensures) in
    λ v b. goes_to advance here refl c.stand_loaded.ensures refl (simp c.next_len-n.ensures)
