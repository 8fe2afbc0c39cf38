-- The record of bus time stays where an interrupt goes on: it hands out no write of ep_config
use Rattle.std.specs.Prelude.{Bool, true, false, cond, List, ◌≡◌, refl, ℕ}
use Rattle.std.proofs.Common.{sym, ap, ◌∙◌}
use Rattle.regs.specs.declared.Access.{Access}
use Rattle.regs.specs.declared.Access.TheVariants.{Read, Write, Receive, Transmit, Ep0Dma, Wait, Callback}
use Rattle.regs.specs.declared.Reg.TheVariants.{EpConfig}
use Rattle.state.specs.declared.Saved.{Saved}
use Rattle.state.specs.Driver.{Driver}
use Rattle.script.specs.Tree as tree
use Rattle.script.specs.Tree.{ends, asks}
use Rattle.script.specs.Answers.{Answer, Refused}
use Rattle.script.specs.Every.{Throughout, same_reg, at_ask}
use Rattle.script.specs.EveryLaws.{every_bind, only-run}
use Rattle.script.specs.Calls.{calls}
use Rattle.script.specs.Machine.{Buf, ended, over, continue}
use Rattle.script.specs.Script.{run}
use Rattle.script_ops.specs.Numbers.{INTERRUPT}
use Rattle.script_ops.specs.Rings.{St}
use Rattle.script_ops.specs.Concrete.{concrete}
use Rattle.interrupt.specs.declared.Point.{Point}
use Rattle.interrupt.specs.Points as handler
use Rattle.interrupt.specs.Codec as handlerCodec
use Rattle.machine.specs.declared.Suspended.{Suspended}
use Rattle.machine.specs.declared.Suspended.TheVariants as under
use Rattle.machine.specs.Suspended.{decode, finish, machine_at, drive, resumed, halts_as, slots_fit}
use Rattle.machine.specs.Tags.{at-interrupt}
use Rattle.machine.specs.GoesLaws.{proceeds}
use Rattle.answer.specs.Goes.{StepResult}
use Rattle.bus_time.specs.Time.{keep_of}
use Rattle.calls.specs.Sharing.{going, written, time_after}
use Rattle.calls.specs.Spares.{Spares, Sparing}
use Rattle.calls.specs.SparesPoints.{point-spares}

module _ (i : ℕ) (t : List ℕ) where
  unwritten : (q : Access) → Spares q → t ≡ written i q t
  unwritten (Write r e w) x = by (same_reg r EpConfig) x
    where
      by : (b : Bool) → Throughout b ⊥ → t ≡ cond b (keep_of i w t) t
      by true x = absurd x
      by false x = refl
  unwritten (Read r e) x = refl
  unwritten (Receive e y) x = refl
  unwritten (Transmit e y) x = refl
  unwritten (Ep0Dma y) x = refl
  unwritten (Wait n) x = refl
  unwritten Callback x = refl

  at-halt : (d : Driver) (o : tree.Out St Answer) → Sparing o → t ≡ time_after i going (halts_as true o).0 d t
  at-halt d (ends a s) x = refl
  at-halt d (asks q s k) (at_ask ok x) = unwritten q ok

  by_row : (d : Driver) (b : Bool) (x y : StepResult) → t ≡ time_after i going x.0 d t → t
      ≡ time_after i going y.0 d t
      → t ≡ time_after i going (cond b x y).0 d t
  by_row d true x y h k = h
  by_row d false x y h k = k

  at-point : (v : ℕ) (p : Point) (d : Driver) (b : Buf) → t ≡ time_after i going (resumed v (under.Interrupt p) d b).0 d
      t
  at-point v p d b =
      let o = tree.bind_out (handler.denote p v (d, b)) (λ n u. run concrete (finish n) u) in
      by_row d (over calls (handler.awaits_at p) v) _ (halts_as true o) refl (at-halt d o
      (every_bind (point-spares p v (d, b)) (λ _ n u _. only-run concrete (finish n) (λ _. tt, λ _. tt) tt u)))

  -- "time comes back with the write of a disabling or bus reset", so an interrupt's continue leaves the record
  pub interrupt-stays : (v : ℕ) (c : Saved) (d : Driver) (a b : Buf) → c.tag ≡ INTERRUPT
      → t ≡ time_after i going (drive (continue v) (machine_at (decode c) d a) b).0 d t
  interrupt-stays v c d a b h =
      let p = handlerCodec.decode c in
      let refused : StepResult = (ended (Refused 1), machine_at (under.Interrupt p) d a) in
      by_row d (slots_fit d b) (resumed v (under.Interrupt p) d b) refused (at-point v p d b) refl
      ∙ (ap (λ (z : StepResult). time_after i going z.0 d t) (sym (proceeds v (under.Interrupt p) d a b))
      ∙ ap (λ (u : Suspended). time_after i going (drive (continue v) (machine_at u d a) b).0 d t)
      (sym (at-interrupt c p h refl)))
