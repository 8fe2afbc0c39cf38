-- Answers of calls that end at once: a poll where nothing is under way, nor is after it, a packet in place also between
-- two accesses of an interrupt
use Rattle.std.specs.Prelude.{Bool, true, cond, List, ◌≡◌, ℕ}
use Rattle.std.proofs.Common.{ap, sym, ◌∙◌}
use Rattle.state.specs.Driver.{Driver}
use Rattle.state.specs.declared.Saved.{Saved}
use Rattle.state.specs.State.{view, saved}
use Rattle.script.specs.Tree.{Out}
use Rattle.script.specs.Answers.{Answer}
use Rattle.script.specs.Machine.{Buf, Ans, ended}
use Rattle.script_ops.specs.Rings.{St}
use Rattle.endpoint.specs.declared.Polled.{Polled}
use Rattle.endpoint.specs.Points as endpoint
use Rattle.isochronous.specs.declared.open_close.Packet.{Packet}
use Rattle.isochronous.specs.Packets as packets
use Rattle.machine.specs.declared.Suspended.{Suspended}
use Rattle.answer.specs.declared.Step.{Step}
use Rattle.machine.specs.Suspended.{decode, machine_at, machine_of, halts, answer_of}
use Rattle.answer.specs.Goes.{StepResult}
use Rattle.machine.specs.Rows.{is_idle, may_pass}
use Rattle.machine.proofs.RowsLaws.{besides, besides-ends}

-- the state's bytes before and after the call, the slots after it, what the script comes to, and what a call that is
-- stopped comes to
module _ (before after : List ℕ) (b : Buf) (o : Out St Answer) (r : StepResult) where
  abbrev unless_busy : Bool → StepResult
  unless_busy x = cond x (halts o) r

  still-idle : saved after ≡ saved before → is_idle (decode (saved before)) ≡ true → is_idle (decode (saved after)) ≡ true
  still-idle e i = ap (λ (x : Saved). is_idle (decode x)) e ∙ i

  -- a poll of a read or write
  pub polled-idle : (step : Step) (n : Polled) (out : List ℕ) → ((u : Suspended) (d : Driver) (x s : List ℕ)
      → is_idle u ≡ true → (answer_of step x d, machine_at u d s) ≡ halts (endpoint.polled_as n x d s))
      → saved after ≡ saved before → is_idle (decode (saved before)) ≡ true → endpoint.polled_as n out (view after) b ≡ o
      → (answer_of step out (view after), machine_of after b) ≡ unless_busy (is_idle (decode (saved before)))
  polled-idle step n out h e i q =
      h (decode (saved after)) (view after) out b (still-idle e i)
      ∙ (ap halts q ∙ ap unless_busy (sym i))

-- a packet in place: d and c are the driver and the slots before it; what is under way stays so
module _ (before after : List ℕ) (d : Driver) (c b : Buf) (o : Out St Answer) (r : StepResult) where
  abbrev unless_stopped : Bool → StepResult
  unless_stopped x = cond x (besides (decode (saved before)) d c o) r

  pub told-beside : (step : Step) (p : Packet) → ((s : List ℕ) (x : Driver) → answer_of step s x
      ≡ ended (packets.answer_of p s))
      → saved after ≡ saved before → may_pass (decode (saved before)) ≡ true → packets.answered p (view after) b ≡ o
      → (answer_of step b (view after), machine_of after b) ≡ unless_stopped (may_pass (decode (saved before)))
  told-beside step p h e i q =
      ap (λ (x : Ans Answer). (x, machine_of after b)) (h b (view after))
      ∙ (ap (λ (x : Saved). (ended (packets.answer_of p b), machine_at (decode x) (view after) b)) e
      ∙ (sym (besides-ends (decode (saved before)) d (view after) c b (packets.answer_of p b))
      ∙ (ap (besides (decode (saved before)) d c) q ∙ ap unless_stopped (sym i))))
