-- A continue at the point that the saved record is
use Rattle.std.specs.Prelude.{◌≡◌, ℕ}
use Rattle.std.proofs.Common.{ap, sym, ◌∙◌}
use Rattle.state.specs.declared.Saved.{Saved}
use Rattle.state.specs.Driver.{Driver}
use Rattle.script.specs.Machine.{Buf}
use Rattle.machine.specs.declared.Suspended.{Suspended}
use Rattle.machine.specs.Suspended.{decode, resumed}
use Rattle.answer.specs.Goes.{StepResult}
use Rattle.machine.specs.GoesLaws.{stayed}

module _ (c : Saved) (u : Suspended) (v : ℕ) (d : Driver) (b : Buf) (e : decode c ≡ u) where
  -- what the operation comes to
  pub going : {x y : StepResult} → resumed v u d b ≡ x → y ≡ x → y ≡ resumed v (decode c) d b
  going h k = k ∙ (sym h ∙ ap (λ (w : Suspended). resumed v w d b) (sym e))

  -- it stays where it is
  pub staying : resumed v u d b ≡ stayed u d b → stayed (decode c) d b ≡ resumed v (decode c) d b
  staying h = ap (λ (w : Suspended). stayed w d b) e ∙ (sym h ∙ ap (λ (w : Suspended). resumed v w d b) (sym e))
