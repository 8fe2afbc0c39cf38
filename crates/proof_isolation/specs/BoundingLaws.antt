-- Each step of a call but a data_out's begin and EP0's start keeps a data_out's length within EP0's maximum
use Rattle.std.specs.Prelude.{Bool, true, false, not, ◌≡◌, refl, eqb}
use Rattle.std.proofs.Common.{true≢false, sym, ◌∙◌}
use Rattle.std.proofs.lemmas.Bool.{eqb-false}
use Rattle.script.specs.Cells.{Cell, Val, globals-cell, control-cell, allocator-cell, ep-cell, request-cell, paced_cell}
use Rattle.script.specs.Script.{Act, complete, reset_ring, set_enabled_lem, fill, fill0, open_oldest, close_oldest}
use Rattle.script.specs.Script.{take_oldest, enqueue, allocate, allocate0, no_wakes, waken}
use Rattle.script.specs.Control.{DATA-OUT}
use Rattle.script.specs.Steps.{Kind, receiving, starting, is, may_put, may_act}
use Rattle.script.specs.StepsRuns.{Keeps}
use Rattle.script.specs.StepsRunsLaws.{or_else}
use Rattle.script.specs.MachineKept.{LentKeeps}
use Rattle.script_ops.specs.Rings.{St}
use Rattle.script_ops.specs.Concrete.{concrete}
use Rattle.proof_isolation.specs.EqualExcept.{Bounded}
use Rattle.proof_isolation.specs.SettledLaws.{settled-bounded, put-settled, starts, act-settled, hand-settled}
use Rattle.proof_isolation.specs.SettledLaws.{row_settled}

not-true : (b : Bool) → not b ≡ true → b ≡ false
not-true true h = absurd (true≢false (sym h))
not-true false h = refl

module _ (k : Kind) (no-out : is k receiving ≡ false) (no_start : is k starting ≡ false) where
  puts : (c : Cell) (v : Val c) → may_put k c v ≡ true → (s : St) → Bounded s.0 → Bounded (concrete.put c v s).0
  puts globals-cell v h s b = settled-bounded (put-settled globals-cell refl v s) b
  puts allocator-cell v h s b = settled-bounded (put-settled allocator-cell refl v s) b
  puts (ep-cell d e) v h s b = settled-bounded (put-settled (ep-cell d e) refl v s) b
  puts (request-cell d e) v h s b = settled-bounded (put-settled (request-cell d e) refl v s) b
  puts (paced_cell e) v h s b = settled-bounded (put-settled (paced_cell e) refl v s) b
  -- a request that is no data_out's
  puts control-cell v h s b = λ z. absurd (eqb-false v.sort DATA-OUT
      (not-true (eqb v.sort DATA-OUT) (or_else (is k receiving) (not (eqb v.sort DATA-OUT)) no-out h)) z)

  none-starts : (q : Act) → may_act k q ≡ true → starts q ≡ false
  none-starts (complete e) h = refl
  none-starts (reset_ring d e) h = refl
  none-starts (set_enabled_lem d e on) h = refl
  none-starts (fill e bytes) h = refl
  none-starts (fill0 bytes) h = refl
  none-starts (open_oldest e) h = refl
  none-starts (close_oldest e) h = refl
  none-starts (take_oldest e) h = refl
  none-starts (enqueue e bytes) h = refl
  none-starts (allocate d kind address maximum interval) h = refl
  none-starts (allocate0 maximum) h = absurd (true≢false (sym h ∙ no_start))
  none-starts no_wakes h = refl
  none-starts (waken codes) h = refl

  pub bounds-keep : Keeps concrete (LentKeeps Bounded) k
  bounds-keep = record {
    put = puts;
    act = λ q h s b. settled-bounded (act-settled q (none-starts q h) s) b;
    hand = λ q _ s b. settled-bounded (hand-settled q s) b;
    row = λ g _ n s b. settled-bounded (row_settled g n s) b;
  }
