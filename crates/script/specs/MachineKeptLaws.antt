-- Laws on the definitions of MachineKept.antt: each call keeps what each script keeps
use Rattle.std.specs.Prelude.{Bool, true, false, cond, ◌≡◌, refl, ℕ, zero, suc}
use Rattle.script.specs.Tree as tree
use Rattle.script.specs.Machine.{Buf, Call, start, begin, continue, question, Ans, Pending, idle, busy, Machine}
use Rattle.script.specs.Machine.{Calls}
use Rattle.script.specs.Machine.{Instance, over, misfit, lent_to, during_interrupt, halt, begun, continued, started}
use Rattle.script.specs.Machine.{call}
use Rattle.script.specs.StepsRuns.{Holds, end, ask}
use Rattle.script.specs.MachineKept.{LentKeeps, WayKeeps, MachineKeeps, Preserves}

module _ {C Op A S : Type 0} {L : Calls C Op A} {D : Instance C S} {K : S → Type 0} (p : Preserves K L D) where
  halted : (i : Bool) {o : tree.Out (S × Buf) A} → Holds (LentKeeps K) o → MachineKeeps K (halt L D (λ s. s) i o).1
  halted i (end h) = record { state = h; under_way_lem = tt }
  halted i (ask h k) = record { state = h; under_way_lem = k }

  lent-kept : {m : Machine A S} (b : Buf) → MachineKeeps K m → MachineKeeps K (lent_to L D m b)
  lent-kept b k = record { state = k.state; under_way_lem = k.under_way_lem }

  besided : {m : Machine A S} → MachineKeeps K m → {o : tree.Out (S × Buf) A} → Holds (LentKeeps K) o
      → MachineKeeps K (during_interrupt L D m o).1
  besided k (end h) = record { state = h; under_way_lem = k.under_way_lem }
  besided k (ask h x) = k

  either : (u : Bool) (x y : Ans A × Machine A S) → MachineKeeps K x.1 → MachineKeeps K y.1
      → MachineKeeps K (cond u x y).1
  either true x y g h = g
  either false x y g h = h

  begun_kept : (o : Op) (m : Machine A S) → MachineKeeps K m → (w : Pending A S) (b : Buf)
      → MachineKeeps K (begun L D (λ s. s) o m w b).1
  begun_kept o m k idle b = halted (L.irq o) (p.calls o (m.st, b) k.state)
  begun_kept o m k (busy i q f) b =
      either (cond i (L.aside o) false) _ _ (besided (lent-kept b k) (p.calls o (m.st, b) k.state))
      (lent-kept b k)

  continued-kept : (v : ℕ) (m : Machine A S) → MachineKeeps K m → (w : Pending A S) → WayKeeps K w → (b : Buf)
      → MachineKeeps K (continued L D (λ s. s) v m w b).1
  continued-kept v m k idle h b = lent-kept b k
  continued-kept v m k (busy i q f) h b = either (over L q v) _ _ (lent-kept b k) (halted i (h v (m.st, b) k.state))

  -- an accepted start-up, on whatever was before
  pub start-kept : (c : C) (m : Machine A S) (b : Buf) → L.refuses c b ≡ zero
      → MachineKeeps K (started L D (λ s. s) c zero m b).1
  start-kept c m b row = halted false (p.starts c (D.fresh c, b) (p.fresh c b row))

  started-kept : (c : C) (n : ℕ) (m : Machine A S) → MachineKeeps K m → (b : Buf) → L.refuses c b ≡ n
      → MachineKeeps K (started L D (λ s. s) c n m b).1
  started-kept c zero m k b row = start-kept c m b row
  started-kept c (suc n) m k b row = k

  pub call_kept : (c : Call C Op) (m : Machine A S) → MachineKeeps K m → (b : Buf)
      → MachineKeeps K (call L D (λ s. s) c m b).1
  call_kept (start c) m k b = started-kept c (L.refuses c b) m k b refl
  call_kept (begin o) m k b = either (cond (L.slots o) (misfit L D m.st b) false) _ _ k
      (begun_kept o m k m.under_way_lem b)
  call_kept (continue v) m k b = either (misfit L D m.st b) _ _ k
      (continued-kept v m k m.under_way_lem k.under_way_lem b)
  call_kept (question q) m k b = lent-kept b k
