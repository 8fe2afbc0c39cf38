-- Each step of a call but a read's begin keeps a begun read's room for a packet of its endpoint's maximum
use Rattle.std.specs.Prelude.{true, false, ◌≡◌, refl, eqb}
use Rattle.std.proofs.Common.{true≢false, ap, sym, ◌∙◌, eqb-true}
use Rattle.regs.specs.declared.Dir.TheVariants.{Out, In}
use Rattle.script.specs.Cells.{Cell, Val, globals-cell, control-cell, allocator-cell, ep-cell, request-cell, paced_cell}
use Rattle.script.specs.Statics.{is_on}
use Rattle.script.specs.Steps.{Kind, reading, is, may_put}
use Rattle.script.specs.StepsRuns.{Keeps}
use Rattle.script.specs.StepsRunsLaws.{or_else}
use Rattle.script.specs.MachineKept.{LentKeeps}
use Rattle.script_ops.specs.Rings.{St}
use Rattle.script_ops.specs.Concrete.{concrete}
use Rattle.proof_book.specs.LeavesLaws.{hand-leaves, rings-stay, put_stays, turns_row, row_stays}
use Rattle.proof_book.specs.ReadRoomLaws.{ReadRoom, room-stays, put-out, put_in, act-room, off}

module _ (k : Kind) (other : is k reading ≡ false) where
  puts : (c : Cell) (v : Val c) → may_put k c v ≡ true → (s : St) → ReadRoom s.0 → ReadRoom (concrete.put c v s).0
  puts globals-cell v h s b = room-stays false (put_stays globals-cell refl v s) b
  puts control-cell v h s b = room-stays false (put_stays control-cell refl v s) b
  puts allocator-cell v h s b = room-stays false (put_stays allocator-cell refl v s) b
  puts (ep-cell d e) v h s b = room-stays false (put_stays (ep-cell d e) refl v s) b
  -- a write's request, and a read's that ends
  puts (request-cell In e) v h s b = put_in e v b
  puts (request-cell Out e) v h s b =
      let ended = eqb-true v.begun 0 (or_else (is k reading) (eqb v.begun 0) other h) in
      put-out e v (λ z. absurd (true≢false (sym z ∙ ap is_on ended ∙ off))) b
  puts (paced_cell e) v h s b = room-stays false (put_stays (paced_cell e) refl v s) b

  pub room-keeps : Keeps concrete (LentKeeps ReadRoom) k
  room-keeps = record {
    put = puts;
    act = λ q _ s b. act-room q s b;
    hand = λ q _ s b. room-stays false (rings-stay false (hand-leaves q s)) b;
    row = λ g _ n s b. room-stays (turns_row g n) (row_stays g n s) b;
  }
