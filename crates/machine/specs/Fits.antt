-- The points of the families: a begin hands out the access that its point awaits, with the point's record; row 16 by
-- what is awaited, and a continue by it
use Rattle.std.specs.Prelude.{Bool, true, false, not, ◌≡◌, refl, ℕ}
use Rattle.std.proofs.Common.{ap, sym, subst, ◌∙◌}
use Rattle.regs.specs.declared.Access.{Access}
use Rattle.script.specs.Calls.{calls}
use Rattle.script.specs.Machine.{Buf, Awaits, nothing, reading, over, Pending, busy, ended, continued}
use Rattle.script.specs.Tree.{Out}
use Rattle.script.specs.Answers.{Answer, Refused}
use Rattle.script_ops.specs.Numbers.{fits}
use Rattle.script_ops.specs.Rings.{St}
use Rattle.state.specs.declared.Saved.{Saved}
use Rattle.state.specs.Driver.{Driver}
use Rattle.driver.specs.declared.Next.{Next}
use Rattle.driver.specs.declared.Next.TheVariants as next
use Rattle.driver.specs.Points as driver
use Rattle.bus.specs.declared.Next as busNext
use Rattle.bus.specs.declared.Next.TheVariants as next-of-bus
use Rattle.bus.specs.Points as bus
use Rattle.control.specs.declared.Begun as controlBegun
use Rattle.control.specs.declared.Begun.TheVariants as begun-of-control
use Rattle.control.specs.declared.Polled as controlPolled
use Rattle.control.specs.declared.Polled.TheVariants as polled-of-control
use Rattle.control.specs.Points as control
use Rattle.endpoint.specs.declared.Begun as endpointBegun
use Rattle.endpoint.specs.declared.Begun.TheVariants as begun-of-endpoint
use Rattle.endpoint.specs.Points as endpoint
use Rattle.isochronous.specs.declared.advance.AdvanceNext.{AdvanceNext}
use Rattle.isochronous.specs.declared.advance.AdvanceNext.TheVariants as next-of-advance
use Rattle.isochronous.specs.Advance as advance
use Rattle.machine.specs.declared.Suspended.{Suspended}
use Rattle.machine.specs.Suspended.{way_of, driver_of, halts_as, resumed}
use Rattle.answer.specs.Goes.{StepResult}
use Rattle.machine.specs.GoesLaws.{stayed, gone, stays}

pub linked : (n : Next) (q : Access) (c : Saved) → n ≡ next.Asks q c → driver.Linked n → driver.Linked (next.Asks q c)
linked n q c e l = subst driver.Linked e l

pub linked-bus : (n : busNext.Next) (q : Access) (c : Saved) → n ≡ next-of-bus.Asks q c → bus.Linked n
    → bus.Linked (next-of-bus.Asks q c)
linked-bus n q c e l = subst bus.Linked e l

pub linked-begun : (n : controlBegun.Begun) (q : Access) (c : Saved)
    → n ≡ begun-of-control.Asks q c → control.LinkedBegun n → control.LinkedAs q c
linked-begun n q c e l = subst control.LinkedBegun e l

pub linked-polled : (n : controlPolled.Polled) (q : Access) (c : Saved)
    → n ≡ polled-of-control.Asks q c → control.LinkedPolled n → control.LinkedAs q c
linked-polled n q c e l = subst control.LinkedPolled e l

pub linked-begun-endpoint : (n : endpointBegun.Begun) (q : Access) (c : Saved)
    → n ≡ begun-of-endpoint.Asks q c → endpoint.LinkedBegun n → endpoint.LinkedAs q c
linked-begun-endpoint n q c e l = subst endpoint.LinkedBegun e l

pub linked-advance : (n : AdvanceNext) (q : Access) (c : Saved)
    → n ≡ next-of-advance.Asks q c → advance.Linked n → advance.Linked (next-of-advance.Asks q c)
linked-advance n q c e l = subst advance.Linked e l

-- ---- row 16: a continue by what is awaited

pub over-fits : (q : Awaits) (v : ℕ) → over calls q v ≡ not (fits q v)
over-fits (reading w) v = refl
over-fits nothing v = refl

abbrev resumed_on : ℕ → Driver → Buf → Pending Answer Driver → StepResult
resumed_on v d b w = continued calls driver_of (λ s. s) v (record { under_way_lem = w; st = d; buf = b }) w b

abbrev stayed_on : Driver → Buf → Pending Answer Driver → StepResult
stayed_on d b w = (ended (Refused 16), record { under_way_lem = w; st = d; buf = b })

module _ (u : Suspended) {i : Bool} {q : Awaits} {k : ℕ → St → Out St Answer} (e : way_of u ≡ busy i q k) (v : ℕ)
    (d : Driver) (b : Buf) where
  -- what was read fits: the operation goes on with it
  pub gone-by : fits q v ≡ true → resumed v u d b ≡ halts_as i (k v (d, b))
  gone-by h = ap (resumed_on v d b) e ∙ gone i q k v d b (over-fits q v ∙ ap not h)

  -- it does not: the operation stays where it is
  pub stay-by : fits q v ≡ false → resumed v u d b ≡ stayed u d b
  stay-by h = ap (resumed_on v d b) e ∙ (stays i q k v d b (over-fits q v ∙ ap not h) ∙ ap (stayed_on d b) (sym e))
