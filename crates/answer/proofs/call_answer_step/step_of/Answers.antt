use borrow.Author.Tests.{ne_eqb}
use native.Mathlib.Omega.{arith}
use mathlib.Core.Path.{◌≡◌, refl, sym, ap, ◌∙◌}
use Prim.Native.Nat.{ℕ, zero, suc, ◌%◌, ◌^◌, ◌<◌}
use Rattle.answer.specs.declared.Step.TheVariants.{Asks}
use Rattle.answer.specs.Parts.{of_kind, step_of}
use Rattle.answer.specs.Asked.{access_of}
use Rattle.answer.proofs.call_answer_step.step_of.Goals as goal

asked : (k w : ℕ) → k < 5 → (k ≡ 0 → ⊥) → Asks (access_of k w) ≡ of_kind k w
asked zero w l n = absurd (n refl)
asked (suc zero) w l n = refl
asked (suc (suc zero)) w l n = refl
asked (suc (suc (suc zero))) w l n = refl
asked (suc (suc (suc (suc zero)))) w l n = refl
asked (suc (suc (suc (suc (suc k))))) w l n = absurd (omega arith)

pub returns-in-0 : goal.returns-in-0
unfolding step_of
returns-in-0 c = simp (sym c.kind_of-kind.ensures ∙ c.in-0.is, c.low_byte.ensures)

pub returns-in-5 : goal.returns-in-5
unfolding step_of
returns-in-5 c =
    simp (sym c.kind_of-kind.ensures ∙ c.in-5.is, c.low_byte-in-5.ensures, c.low_half.ensures)

pub returns-in-6 : goal.returns-in-6
unfolding step_of
returns-in-6 c = simp (sym c.kind_of-kind.ensures ∙ c.in-6.is)

pub returns-in-7 : goal.returns-in-7
unfolding step_of
returns-in-7 c = simp (sym c.kind_of-kind.ensures ∙ c.in-7.is, c.low_half-in-7.ensures)

pub returns-in-1 : goal.returns-in-1
unfolding step_of
returns-in-1 c =
    ap Asks c.access_of.ensures
    ∙ (asked c.kind_of-kind.result c.args.w c.in-1.if-kind-lt5-own.true c.in-1.in_default-own.rest.0.0.0.1
    ∙ ap (λ (k : ℕ). of_kind k c.args.w) c.kind_of-kind.ensures)

pub returns-in_default : goal.returns-in_default
unfolding step_of
returns-in_default c =
    let k = c.args.w % 2 ^ 4 in
    simp (
      c.low_half-in_default.ensures,
      c.high_word.ensures,
      ne_eqb _ _ (λ h. c.in_default.in_default-own.rest.1 (c.kind_of-kind.ensures ∙ h)),
      ne_eqb _ _ (λ h. c.in_default.in_default-own.rest.0.1 (c.kind_of-kind.ensures ∙ h)),
      ne_eqb _ _ (λ h. c.in_default.in_default-own.rest.0.0.1 (c.kind_of-kind.ensures ∙ h)),
      ne_eqb k 4 (λ h. omega (arith, c.in_default.if-kind-lt5-own.false, c.kind_of-kind.ensures ∙ h)),
      ne_eqb k 3 (λ h. omega (arith, c.in_default.if-kind-lt5-own.false, c.kind_of-kind.ensures ∙ h)),
      ne_eqb k 2 (λ h. omega (arith, c.in_default.if-kind-lt5-own.false, c.kind_of-kind.ensures ∙ h)),
      ne_eqb k 1 (λ h. omega (arith, c.in_default.if-kind-lt5-own.false, c.kind_of-kind.ensures ∙ h)),
      ne_eqb _ _ (λ h. c.in_default.in_default-own.rest.0.0.0.1 (c.kind_of-kind.ensures ∙ h)),
    )
