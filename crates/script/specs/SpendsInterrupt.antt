-- The interrupt spends at most 4,060 readings after its first, whatever is read and whatever becomes of the state
-- between two accesses: on no path are there more than two of its waits for sie_free, one in `settle` and one in
-- `toggled`. And at most 54 wake-ups: the bus twice, an isochronous IN for each start of frame and late entry, an OUT
-- for each arrival, what the token completes, EP0's hidden stage, and EP0's two directions at a setup
use Rattle.std.proofs.Math.Bool.{Bool, cond}
use Rattle.std.specs.Prelude.{true, false, not, ◌&&◌}
use Rattle.std.proofs.Math.Path.{refl}
use Prim.Native.Nat.{ℕ, zero, suc, ◌+◌, ◌≤◌}
use Rattle.std.proofs.Common.{arith}
use Rattle.std.proofs.Math.Dec.{eqb}
use Rattle.bits.specs.Walk.{set_bits}
use Rattle.regs.specs.declared.Dir.{Dir}
use Rattle.regs.specs.declared.Dir.TheVariants.{Out, In}
use Rattle.regs.specs.declared.Token.{Token}
use Rattle.regs.specs.declared.Token.TheVariants as tok
use Rattle.regs.specs.Status.{endpoint, token, is_sof, sof_token}
use Rattle.script.specs.declared.Transfer.{Transfer}
use Rattle.script.specs.Cells.{globals-cell, ep-cell}
use Rattle.script.specs.Script.{Script, complete, when}
use Rattle.script.specs.IsoIn.{first_in_frame, iso_in_load, iso_in_complete, unseen, sof_one, sof_walk, on_sof, late_one}
use Rattle.script.specs.IsoIn.{late_walk}
use Rattle.script.specs.IsoOut.{arrives, check_one, check_walk, iso_out_check}
use Rattle.script.specs.Handler.{looks, sie_wait, nak_non_iso, toggled, retake, settle, received, sent, sof_arm}
use Rattle.script.specs.Handler.{out_arm, iso_in_arm, in_arm, dispatch, moved_on, ep0_moved_on, iso_for, framed, served}
use Rattle.script.specs.Handler.{on_transfer, on_setup, on_interrupt, stamped_interrupt}
use Rattle.script.specs.Spends.{Spends, ret, bind, either, no}
use Rattle.script.specs.SpendsLaws.{more, reads-by, free, once, woken, reading, then-free, one-read, one-wake}
use Rattle.script.specs.SpendsLaws.{no_write}
use Rattle.script.specs.SpendsLaws.{no-get, no-put, no-is, no-look, no-act, no-hand, no-callback, when-spends}
use Rattle.script.specs.SpendsLaws.{assign, assign-write, modify_reg-spends, spends-mask}

-- the readings of an arm, EP0's and another's, and of any token's
abbrev arm_reads : Bool → ℕ
arm_reads ep0 = cond ep0 1 2003

abbrev token_reads : Bool → ℕ
token_reads ep0 = cond ep0 32 2003

-- the wake-ups of a token, by whether it is a start of frame; of a walk that another token has
abbrev token_wakes : Bool → ℕ
token_wakes sof = cond sof 16 1

abbrev walk_wakes : Bool → ℕ
walk_wakes sof = cond sof 0 16

arm-le : (ep0 : Bool) → (arm_reads ep0 ≤ token_reads ep0)
arm-le true = omega arith
arm-le false = omega arith

sof-le : (ep0 : Bool) → (32 ≤ token_reads ep0)
sof-le true = omega arith
sof-le false = omega arith

-- EP0's readings and a wait for the toggle exclude each other
served-reads-le : (ep0 : Bool) → (32 + (0 + (token_reads ep0 + (16 + cond ep0 1 0))) ≤ 2051)
served-reads-le true = omega arith
served-reads-le false = omega arith

served-wakes-le : (sof : Bool) → (walk_wakes sof + (16 + (token_wakes sof + (walk_wakes sof + 1))) ≤ 50)
served-wakes-le true = omega arith
served-wakes-le false = omega arith

module _ {i : Bool} where
  abbrev S : {A : Type 0} → ℕ → ℕ → Script i A → Type 1
  S r w p = Spends false r w p

  -- ---- isochronous walks

  iso_in_load-spends : {r w : ℕ} (e : ℕ) → S r w (iso_in_load e)
  iso_in_load-spends e = free no-is (λ _. either (free no-hand (λ _. free no-look (λ _. no_write))) no_write)

  pub iso_in_complete-spends : {r w : ℕ} (e : ℕ) → S r (suc w) (iso_in_complete e)
  iso_in_complete-spends e = free (no-act (complete e) tt) (λ _. free (iso_in_load-spends e) (λ _. one-wake))

  unseen-spends : {r w : ℕ} (frame e : ℕ) → S r (suc w) (unseen frame e)
  unseen-spends frame e = free (assign (ep-cell _ _)) (λ _. iso_in_complete-spends e)

  -- mis_st, int_st
  sof_one-spends : (frame e : ℕ) → S 2 1 (sof_one frame e)
  sof_one-spends frame e = free (no-get (ep-cell _ _)) (λ _. either ret
      (once one-read (λ _. either (unseen-spends frame e) (once one-read (λ _. either ret (unseen-spends frame e))))))

  sof_walk-spends : (frame m : ℕ) → S 32 16 (sof_walk frame (set_bits m))
  unfolding sof_walk
  sof_walk-spends frame = spends-mask (sof_walk frame) (sof_one frame) refl (λ e es. refl) (sof_one-spends frame)

  on_sof-spends : (frame : ℕ) → S 32 16 (on_sof frame)
  on_sof-spends frame = free (assign globals-cell)
      (λ _. free (no-get globals-cell) (λ _. then-free (sof_walk-spends frame _)
      (λ _. free (no-get globals-cell) (λ _. when-spends no-callback))))

  first_in_frame-spends : {r w : ℕ} (e frame : ℕ) → S r w (first_in_frame e frame)
  first_in_frame-spends e frame = free (no-get (ep-cell _ _)) (λ _. free (no-put (ep-cell _ _)) (λ _. ret))

  late_one-spends : (frame e : ℕ) → S 0 1 (late_one frame e)
  late_one-spends frame e = free (first_in_frame-spends e frame) (λ _. when-spends (iso_in_complete-spends e))

  late_walk-spends : (frame m : ℕ) → S 0 16 (late_walk frame (set_bits m))
  unfolding late_walk
  late_walk-spends frame = spends-mask (late_walk frame) (late_one frame) refl (λ e es. refl) (late_one-spends frame)

  arrives-spends : {r : ℕ} (e n : ℕ) → S r 1 (arrives e n)
  arrives-spends e n = free no-hand (λ _. one-wake)

  -- int_st
  check_one-spends : (x : Transfer) (iso : Bool) (e : ℕ) → S 1 1 (check_one x iso e)
  check_one-spends x iso e = free no-is (λ _. when-spends (either
      (arrives-spends e _)
      (once one-read (λ _. either ret (free no-look (λ _. arrives-spends e _))))))

  check_walk-spends : (x : Transfer) (iso : Bool) (m : ℕ) → S 16 16 (check_walk x iso (set_bits m))
  unfolding check_walk
  check_walk-spends x iso = spends-mask (check_walk x iso) (check_one x iso) refl (λ e es. refl) (check_one-spends x iso)

  iso_out_check-spends : (x : Transfer) (iso : Bool) → S 16 16 (iso_out_check x iso)
  iso_out_check-spends x iso = free (no-get globals-cell) (λ _. check_walk-spends x iso _)

  -- ---- waits for sie_free wake none

  looks-spends : {w : ℕ} (n : ℕ) → S n w (looks n)
  unfolding looks
  looks-spends zero = ret
  looks-spends (suc n) = once one-read (λ _. either ret (looks-spends n))

  sie_wait-spends : S 2001 0 sie_wait
  sie_wait-spends = looks-spends 2001

  nak_non_iso-spends : {r w : ℕ} (st : ℕ) → S (suc r) w (nak_non_iso st)
  nak_non_iso-spends st = free (no-get (ep-cell _ _)) (λ _. free (no-get (ep-cell _ _))
      (λ _. either modify_reg-spends (when-spends modify_reg-spends)))

  -- the wait, the control word, and once more where a repeat is acknowledged
  toggled-spends : {w : ℕ} (d : Dir) (e : ℕ) → S 2003 w (toggled d e)
  toggled-spends d e = reading 2001 2 sie_wait-spends (λ _. once one-read (λ _. free (no-get (ep-cell _ _)) (λ _. either
      (then-free (when-spends modify_reg-spends) (λ _. ret))
      (free (assign (ep-cell _ _)) (λ _. ret)))))

  -- mis_st, int_fg, int_st, a control word
  retake-spends : {r w : ℕ} (x : Transfer) → S (suc (suc (suc (suc r)))) w (retake x)
  retake-spends x = once one-read (λ _. either
      (once one-read (λ _. either ret (once one-read (λ st. then-free (nak_non_iso-spends st) (λ _. ret)))))
      ret)

  -- an isochronous OUT: the wait, int_st, rx_len; else the wait and rx_len; else no wait
  settle-spends : {w : ℕ} (x : Transfer) → S 2003 w (settle x)
  settle-spends x = free (no-get (ep-cell _ _)) (λ _. free (no-get (ep-cell _ _)) (λ _. either
      (reading 2001 2 sie_wait-spends (λ _. once one-read (λ _. once one-read (λ _. ret))))
      (either (reading 2001 2 sie_wait-spends (λ _. once one-read (λ _. ret)))
      (either (retake-spends x) ret))))

  -- ---- the arms: EP0's have no wait

  received-spends : {r : ℕ} (e n : ℕ) → S r 1 (received e n)
  received-spends e n = free (assign (ep-cell _ _)) (λ _. one-wake)

  sent-spends : {r : ℕ} (e : ℕ) → S r 1 (sent e)
  sent-spends e = free (assign (ep-cell _ _)) (λ _. one-wake)

  sof_arm-spends : (frame : ℕ) → S 32 16 (sof_arm frame)
  sof_arm-spends frame = free (no-get globals-cell) (λ _. when-spends (on_sof-spends frame))

  iso_in_arm-spends : {r : ℕ} (e frame : ℕ) → S r 1 (iso_in_arm e frame)
  iso_in_arm-spends e frame = free (no-get globals-cell)
      (λ _. either ret (free (first_in_frame-spends e frame) (λ _. when-spends (iso_in_complete-spends e))))

  out_arm-spends : (x : Transfer) (iso : Bool) → S (arm_reads (eqb (endpoint x.st) 0)) 1 (out_arm x iso)
  out_arm-spends x iso = either ret (reads-by 1 2003 _
      (when-spends (once modify_reg-spends (λ _. received-spends 0 _)))
      (reading 2003 0 (toggled-spends Out _) (λ _. when-spends (received-spends _ _))))

  in_arm-spends : (x : Transfer) (iso : Bool) (frame : ℕ) → S (arm_reads (eqb (endpoint x.st) 0)) 1 (in_arm x iso frame)
  in_arm-spends x iso frame = either (iso_in_arm-spends _ frame) (reads-by 1 2003 _
      (once modify_reg-spends (λ _. free (assign (ep-cell _ _)) (λ _. sent-spends 0)))
      (reading 2003 0 (toggled-spends In _) (λ _. when-spends (sent-spends _))))

  dispatch-spends : (t : Token) (x : Transfer) (iso : Bool) (frame : ℕ)
      → S (token_reads (eqb (endpoint x.st) 0)) (token_wakes (sof_token t)) (dispatch t x iso frame)
  dispatch-spends tok.Sof x iso frame = more (sof_arm-spends frame) (sof-le (eqb (endpoint x.st) 0)) (omega arith)
  dispatch-spends tok.Out x iso frame = more (out_arm-spends x iso) (arm-le (eqb (endpoint x.st) 0)) (omega arith)
  dispatch-spends tok.In x iso frame = more (in_arm-spends x iso frame) (arm-le (eqb (endpoint x.st) 0)) (omega arith)
  dispatch-spends tok.Setup x iso frame = ret

  moved_on-spends : (d : Dir) → S 1 1 (moved_on d)
  moved_on-spends d = free (no-get (ep-cell _ _)) (λ _. when-spends
      (once modify_reg-spends (λ _. free (assign (ep-cell _ _)) (λ _. one-wake))))

  ep0_moved_on-spends : (t : Token) → S 1 1 (ep0_moved_on t)
  ep0_moved_on-spends tok.Out = moved_on-spends In
  ep0_moved_on-spends tok.In = moved_on-spends Out
  ep0_moved_on-spends tok.Sof = ret
  ep0_moved_on-spends tok.Setup = ret

  -- ---- the whole

  -- the walk for a start of frame that was missed, and the walk over OUT, where the token is none
  missed-spends : (sof missed : Bool) (frame : ℕ) → S 32 (walk_wakes sof) (when (not sof && missed) (on_sof frame))
  missed-spends true missed frame = no ret
  missed-spends false missed frame = when-spends (on_sof-spends frame)

  check-spends : (sof : Bool) (x : Transfer) (iso : Bool) → S 16 (walk_wakes sof) (when (not sof) (iso_out_check x iso))
  check-spends true x iso = no ret
  check-spends false x iso = when-spends (iso_out_check-spends x iso)

  served-spends : (x : Transfer) (iso : Bool) (frame : ℕ) → S 2051 50 (served x iso frame)
  unfolding is_sof
  served-spends x iso frame =
      let ep0 : Bool = eqb (endpoint x.st) 0 in
      let sof : Bool = sof_token (token x.st) in
      let r : ℕ = 16 + cond ep0 1 0 in
      let w : ℕ = walk_wakes sof + 1 in
      more (free (no-get globals-cell) (λ _.
      bind 32 (0 + (token_reads ep0 + r)) (walk_wakes sof) (16 + (token_wakes sof + w)) (missed-spends sof _ frame) (λ _.
      bind 0 (token_reads ep0 + r) 16 (token_wakes sof + w)
      (when-spends (free (no-get globals-cell) (λ _. late_walk-spends frame _))) (λ _.
      bind (token_reads ep0) r (token_wakes sof) w (when-spends (dispatch-spends (token x.st) x iso frame)) (λ _.
      bind 16 (cond ep0 1 0) (walk_wakes sof) 1 (check-spends sof x iso)
      (λ _. reads-by 1 0 ep0 (ep0_moved_on-spends (token x.st)) ret))))))
      (served-reads-le ep0) (served-wakes-le sof)

  on_transfer-spends : S 4059 50 on_transfer
  on_transfer-spends = once one-read (λ _. once one-read (λ st. once one-read (λ _.
      reading 1 4055 (when-spends (nak_non_iso-spends st))
      (λ _. free no_write (λ _. reading 2003 2052 (settle-spends _) (λ x.
      free (no-get (ep-cell _ _)) (λ o. free (no-get (ep-cell _ _))
      (λ n. once one-read (λ frame. free (no-get globals-cell) (λ g.
      let iso = iso_for (token x.st) o n in
      served-spends (framed x iso g.sof_frame frame) iso frame))))))))))

  on_setup-spends : {r : ℕ} → S r 2 on_setup
  on_setup-spends = free no_write (λ _. free no_write (λ _. free no-look
      (λ _. free no-look (λ _. free (assign (ep-cell _ _)) (λ _.
      free (assign (ep-cell _ _)) (λ _. free (assign globals-cell)
      (λ _. free no_write (λ _. woken one-wake (λ _. one-wake)))))))))

  -- `on_interrupt`
  on_interrupt-spends : S 4060 54 on_interrupt
  on_interrupt-spends = once one-read (λ _. woken (when-spends (free (assign-write globals-cell) (λ _. one-wake))) (λ _.
      woken (when-spends (free (assign-write globals-cell) (λ _. one-wake))) (λ _. free (when-spends no_write) (λ _.
      free (when-spends no_write) (λ _. bind 4059 0 50 2 (when-spends on_transfer-spends)
      (λ _. when-spends on_setup-spends))))))

  -- and the reading before it
  pub stamped-spends : S 4061 54 stamped_interrupt
  stamped-spends = once (once one-read (λ _. assign globals-cell)) (λ _. on_interrupt-spends)
