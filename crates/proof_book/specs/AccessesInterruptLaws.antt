-- The interrupt hands out at most 4,154 accesses, whatever is read and whatever becomes of the state between two of
-- them
use Rattle.std.specs.Prelude.{Bool, true, false, List, [], ◌∷◌, ◌≡◌, length}
use Rattle.std.proofs.Math.Path.{refl}
use Prim.Native.Nat.{ℕ, zero, suc, ◌+◌, ◌-◌, ◌*◌, ◌≤◌}
use Rattle.std.proofs.Common.{suc-mul}
use native.Mathlib.Omega.{arith}
use Rattle.bits.specs.Walk.{set_bits}
use Rattle.bits.specs.WalkLaws.{walk-length}
use Rattle.regs.specs.declared.Access.{Access}
use Rattle.regs.specs.declared.Access.TheVariants.{Read, Write, Callback}
use Rattle.regs.specs.declared.Reg.{Reg}
use Rattle.regs.specs.declared.Dir.{Dir}
use Rattle.regs.specs.declared.Dir.TheVariants.{Out, In}
use Rattle.regs.specs.declared.Token.{Token}
use Rattle.regs.specs.declared.Token.TheVariants as tok
use Rattle.regs.specs.Status.{token}
use Rattle.script.specs.declared.Transfer.{Transfer}
use Rattle.script.specs.Tree as tree
use Rattle.script.specs.Tree.{ends, asks, Prog, bind_out}
use Rattle.script.specs.Cells.{Cell, Val, globals-cell, ep-cell}
use Rattle.script.specs.Script.{dma_step_ask, Script, Ops, run, Test, Look, Fetch, Act, DmaStep, ret, bind, test}
use Rattle.script.specs.Script.{◌>>◌, done, when, read, write, callback, get, put, is, look, fetch, act, hand}
use Rattle.script.specs.Statics.{modify_reg}
use Rattle.script.specs.IsoIn.{first_in_frame, iso_in_load, iso_in_complete, unseen, sof_one, sof_walk, on_sof, late_one}
use Rattle.script.specs.IsoIn.{late_walk}
use Rattle.script.specs.IsoOut.{arrives, check_one, check_walk, iso_out_check}
use Rattle.script.specs.Handler.{looks, sie_wait, nak_non_iso, toggled, retake, settle, received, sent, sof_arm, out_arm}
use Rattle.script.specs.Handler.{iso_in_arm, in_arm, dispatch, moved_on, ep0_moved_on, iso_for, framed, served, on_transfer}
use Rattle.script.specs.Handler.{on_setup, on_interrupt, keep_microframe}
use Rattle.script.specs.Answers.{Answer, staged, resultless, operation}
use Rattle.script.specs.Calls.{interrupt_code}
use Rattle.proof_book.specs.AccessesLaws.{accesses, Within, Asks≤}

-- ---- composed scripts

bind-path : {S A B : Type 0} (m n : ℕ) (o : tree.Out S A) (f : A → Prog S B) → Within m o
    → ((a : A) (s : S) → Within n (f a s)) → Within (m + n) (bind_out o f)
unfolding accesses
bind-path m n (ends a s) f x y w = omega (arith, y a s w)
bind-path m n (asks q s k) f x y [] = omega (arith, x [])
bind-path m n (asks q s k) f x y (c ∷ w) =
    omega (arith, x [], bind-path (m - 1) n (k c.0 c.1) f (λ w. omega (arith, x (c ∷ w))) y w)

ask-path : {S A : Type 0} (n : ℕ) (q : Access) (s : S) (k : ℕ → S → tree.Out S A) → ((v : ℕ) (t : S) → Within n (k v t))
    → Within (suc n) (asks q s k)
unfolding accesses
ask-path n q s k x [] = omega arith
ask-path n q s k x (c ∷ w) = omega (arith, x c.0 c.1 w)

abbrev Ends : {S A : Type 0} → tree.Out S A → Type 0
Ends (ends a s) = Unit {0}
Ends (asks q s k) = ⊥

ends-path : {S A : Type 0} {n : ℕ} (o : tree.Out S A) → Ends o → Within n o
unfolding accesses
ends-path (ends a s) h w = omega arith
ends-path (asks q s k) h w = absurd h

module _ {i : Bool} {A : Type 0} where
  more : {m n : ℕ} {p : Script i A} → Asks≤ m p → m ≤ n → Asks≤ n p
  more x h = record { on = λ S O s w. omega (arith, h, x.on S O s w) }

  end : {n : ℕ} {a : A} → Asks≤ {i = i} n (ret a)
  unfolding accesses
  end = record { on = λ S O s w. omega arith }

  seq : {B : Type 0} (m n : ℕ) {p : Script i B} {f : B → Script i A} → Asks≤ m p → ((b : B) → Asks≤ n (f b))
      → Asks≤ (m + n) (bind p f)
  seq m n x y = record { on = λ S O s. bind-path m n _ _ (x.on S O s) (λ a t. (y a).on S O t) }

  -- a first part that hands out none, or one
  free : {B : Type 0} {n : ℕ} {p : Script i B} {f : B → Script i A} → Asks≤ 0 p → ((b : B) → Asks≤ n (f b))
      → Asks≤ n (bind p f)
  free {n = n} x y = more (seq 0 n x y) (omega arith)

  once : {B : Type 0} {n : ℕ} {p : Script i B} {f : B → Script i A} → Asks≤ 1 p → ((b : B) → Asks≤ n (f b))
      → Asks≤ (suc n) (bind p f)
  once {n = n} x y = more (seq 1 n x y) (omega arith)

  either : {n : ℕ} {b : Bool} {p q : Script i A} → Asks≤ n p → Asks≤ n q → Asks≤ n (test b p q)
  either {b = true} x y = record { on = λ S O s. x.on S O s }
  either {b = false} x y = record { on = λ S O s. y.on S O s }

module _ {i : Bool} where
  a_read : {r : Reg} {e : ℕ} → Asks≤ {i = i} 1 (read r e)
  unfolding accesses
  a_read {r = r} {e = e} = record { on = λ S O s. ask-path 0 (Read r e) s (λ u t. ends u t) (λ u t w. omega arith) }

  a_write : {r : Reg} {e v : ℕ} → Asks≤ {i = i} 1 (write r e v)
  unfolding accesses
  a_write {r = r} {e = e} {v = v} = record { on = λ S O s. ask-path 0 (Write r e v) s (λ u t. ends (tt {0}) t) (λ u t w. omega arith) }

  a-hand : {q : DmaStep} → Asks≤ {i = i} 1 (hand q)
  unfolding accesses
  a-hand {q = q} = record { on = λ S O s. ask-path 0 (dma_step_ask q (O.hand q s).0) (O.hand q s).1 (λ u t. ends (tt {0}) t) (λ u t w. omega arith) }

  a-callback : Asks≤ {i = i} 1 callback
  unfolding accesses
  a-callback = record { on = λ S O s. ask-path 0 Callback s (λ u t. ends (tt {0}) t) (λ u t w. omega arith) }

  -- it ends at once, whatever the state
  at_once : {A : Type 0} {n : ℕ} {p : Script i A} → ((S : Type 0) (O : Ops S) (s : S) → Ends (run O p s))
      → Asks≤ {i = i} n p
  at_once {p = p} h = record { on = λ S O s. ends-path (run O p s) (h S O s) }

  no-get : {n : ℕ} (c : Cell) → Asks≤ {i = i} n (get c)
  no-get c = at_once (λ S O s. tt)

  no-put : {n : ℕ} (c : Cell) {v : Val c} → Asks≤ {i = i} n (put c v)
  no-put c = at_once (λ S O s. tt)

  no-is : {n : ℕ} {q : Test} → Asks≤ {i = i} n (is q)
  no-is = at_once (λ S O s. tt)

  no-look : {n : ℕ} {q : Look} → Asks≤ {i = i} n (look q)
  no-look = at_once (λ S O s. tt)

  no-fetch : {n : ℕ} {q : Fetch} → Asks≤ {i = i} n (fetch q)
  no-fetch = at_once (λ S O s. tt)

  no-act : {n : ℕ} {q : Act} → Asks≤ {i = i} n (act q)
  no-act = at_once (λ S O s. tt)

  if : {n : ℕ} {b : Bool} {p : Script i Unit} → Asks≤ n p → Asks≤ n (when b p)
  if x = either x end

  assign : {n : ℕ} (c : Cell) {f : Val c → Val c} → Asks≤ {i = i} n (bind (get c) (λ v. put c (f v)))
  assign c = free (no-get c) (λ _. no-put c)

  assign-write : (c : Cell) {f : Val c → Val c} {r : Reg} {e : ℕ} {h : Val c → ℕ}
      → Asks≤ {i = i} 1 (bind (get c) (λ v. bind (put c (f v)) (λ _. write r e (h v))))
  assign-write c = free (no-get c) (λ _. free (no-put c) (λ _. a_write))

  of-modify_reg : {r : Reg} {e : ℕ} {f : ℕ → ℕ} → Asks≤ {i = i} 2 (modify_reg r e f)
  of-modify_reg = once a_read (λ _. a_write)

-- a walk over a mask: one endpoint's for each
module _ {i : Bool} (W : List ℕ → Script i Unit)
    (one : ℕ → Script i Unit) (none : W [] ≡ done) (step : (e : ℕ) (es : List ℕ) → W (e ∷ es) ≡ (one e >> W es)) where
  walk : {n : ℕ} → ((e : ℕ) → Asks≤ n (one e)) → (k : ℕ) (es : List ℕ) → length es ≤ k → Asks≤ (k * n) (W es)
  walk x k [] h = rw none end
  walk x zero (e ∷ es) h = absurd (omega (arith, h))
  walk {n = n} x (suc k) (e ∷ es) h =
      rw (step e es) (more (seq n (k * n) (x e) (λ _. walk x k es (omega (arith, h)))) (omega (arith, suc-mul k n)))

  mask : {n : ℕ} → ((e : ℕ) → Asks≤ n (one e)) → (m : ℕ) → Asks≤ (16 * n) (W (set_bits m))
  mask x m = walk x 16 (set_bits m) (walk-length m)

-- ---- the interrupt's

module _ {i : Bool} where
  of-load : (e : ℕ) → Asks≤ {i = i} 2 (iso_in_load e)
  of-load e = free no-is (λ _. either (once a-hand (λ _. free no-look (λ _. a_write))) (more a_write (omega arith)))

  of-complete : (e : ℕ) → Asks≤ {i = i} 2 (iso_in_complete e)
  of-complete e = free no-act (λ _. more (seq 2 0 (of-load e) (λ _. no-act)) (omega arith))

  of-unseen : (frame e : ℕ) → Asks≤ {i = i} 2 (unseen frame e)
  of-unseen frame e = free (assign (ep-cell _ _)) (λ _. of-complete e)

  of-sof_one : (frame e : ℕ) → Asks≤ {i = i} 4 (sof_one frame e)
  of-sof_one frame e = free (no-get (ep-cell _ _))
      (λ _. either end (once a_read (λ _. either (more (of-unseen frame e) (omega arith))
      (once a_read (λ _. either end (of-unseen frame e))))))

  of-sof_walk : (frame m : ℕ) → Asks≤ {i = i} 64 (sof_walk frame (set_bits m))
  unfolding sof_walk
  of-sof_walk frame = mask (sof_walk frame) (sof_one frame) refl (λ e es. refl) (of-sof_one frame)

  of-on_sof : (frame : ℕ) → Asks≤ {i = i} 65 (on_sof frame)
  of-on_sof frame = free (assign globals-cell)
      (λ _. free (no-get globals-cell)
      (λ _. more (seq 64 1 (of-sof_walk frame _) (λ _. free (no-get globals-cell) (λ _. if a-callback))) (omega arith)))

  of-first : {n : ℕ} (e frame : ℕ) → Asks≤ {i = i} n (first_in_frame e frame)
  of-first e frame = free (no-get (ep-cell _ _)) (λ _. free (no-put (ep-cell _ _)) (λ _. end))

  of-late_one : (frame e : ℕ) → Asks≤ {i = i} 2 (late_one frame e)
  of-late_one frame e = free (of-first e frame) (λ _. if (of-complete e))

  of-late_walk : (frame m : ℕ) → Asks≤ {i = i} 32 (late_walk frame (set_bits m))
  unfolding late_walk
  of-late_walk frame = mask (late_walk frame) (late_one frame) refl (λ e es. refl) (of-late_one frame)

  of-arrives : (e n : ℕ) → Asks≤ {i = i} 1 (arrives e n)
  of-arrives e n = once a-hand (λ _. no-act)

  of-check_one : (x : Transfer) (iso : Bool) (e : ℕ) → Asks≤ {i = i} 2 (check_one x iso e)
  of-check_one x iso e = free no-is (λ _. if (either (more (of-arrives e _) (omega arith))
      (once a_read (λ _. either end (free no-look (λ _. of-arrives e _))))))

  of-check_walk : (x : Transfer) (iso : Bool) (m : ℕ) → Asks≤ {i = i} 32 (check_walk x iso (set_bits m))
  unfolding check_walk
  of-check_walk x iso = mask (check_walk x iso) (check_one x iso) refl (λ e es. refl) (of-check_one x iso)

  of-check : (x : Transfer) (iso : Bool) → Asks≤ {i = i} 32 (iso_out_check x iso)
  of-check x iso = free (no-get globals-cell) (λ _. of-check_walk x iso _)

  of-looks : (n : ℕ) → Asks≤ {i = i} n (looks n)
  unfolding looks
  of-looks zero = end
  of-looks (suc n) = once a_read (λ _. either end (of-looks n))

  of-sie_wait : Asks≤ {i = i} 2001 sie_wait
  of-sie_wait = of-looks 2001

  of-nak : (st : ℕ) → Asks≤ {i = i} 2 (nak_non_iso st)
  of-nak st = free (no-get (ep-cell _ _)) (λ _. free (no-get (ep-cell _ _))
      (λ _. either of-modify_reg (if of-modify_reg)))

  of-toggled : (d : Dir) (e : ℕ) → Asks≤ {i = i} 2004 (toggled d e)
  of-toggled d e = more (seq 2001 3 of-sie_wait (λ _. once a_read (λ _. free (no-get (ep-cell _ _)) (λ _. either
      (more (seq 2 0 (if of-modify_reg) (λ _. end)) (omega arith))
      (free (assign (ep-cell _ _)) (λ _. end)))))) (omega arith)

  of-retake : (x : Transfer) → Asks≤ {i = i} 5 (retake x)
  of-retake x = once a_read (λ _. either
      (once a_read (λ _. either end (once a_read (λ st. more (seq 2 0 (of-nak st) (λ _. end)) (omega arith)))))
      end)

  of-settle : (x : Transfer) → Asks≤ {i = i} 2003 (settle x)
  of-settle x = free (no-get (ep-cell _ _)) (λ _. free (no-get (ep-cell _ _)) (λ _. either
      (more (seq 2001 2 of-sie_wait (λ _. once a_read (λ _. once a_read (λ _. end)))) (omega arith))
      (either (more (seq 2001 1 of-sie_wait (λ _. once a_read (λ _. end))) (omega arith))
      (either (more (of-retake x) (omega arith)) end))))

  of-received : {k : ℕ} (e n : ℕ) → Asks≤ {i = i} k (received e n)
  of-received e n = free (assign (ep-cell _ _)) (λ _. no-act)

  of-sent : {k : ℕ} (e : ℕ) → Asks≤ {i = i} k (sent e)
  of-sent e = free (assign (ep-cell _ _)) (λ _. no-act)

  of-sof_arm : (frame : ℕ) → Asks≤ {i = i} 65 (sof_arm frame)
  of-sof_arm frame = free (no-get globals-cell) (λ _. if (of-on_sof frame))

  of-iso_in_arm : (e frame : ℕ) → Asks≤ {i = i} 2 (iso_in_arm e frame)
  of-iso_in_arm e frame = free (no-get globals-cell) (λ _. either end (free (of-first e frame) (λ _. if (of-complete e))))

  of-out_arm : (x : Transfer) (iso : Bool) → Asks≤ {i = i} 2004 (out_arm x iso)
  of-out_arm x iso = either end (either
      (if (more (seq 2 0 of-modify_reg (λ _. of-received 0 _)) (omega arith)))
      (more (seq 2004 0 (of-toggled Out _) (λ _. if (of-received _ _))) (omega arith)))

  of-in_arm : (x : Transfer) (iso : Bool) (frame : ℕ) → Asks≤ {i = i} 2004 (in_arm x iso frame)
  of-in_arm x iso frame = either (more (of-iso_in_arm _ frame) (omega arith)) (either
      (more (seq 2 0 of-modify_reg (λ _. free (assign (ep-cell _ _)) (λ _. of-sent 0))) (omega arith))
      (more (seq 2004 0 (of-toggled In _) (λ _. if (of-sent _))) (omega arith)))

  of-dispatch : (t : Token) (x : Transfer) (iso : Bool) (frame : ℕ) → Asks≤ {i = i} 2004 (dispatch t x iso frame)
  of-dispatch tok.Sof x iso frame = more (of-sof_arm frame) (omega arith)
  of-dispatch tok.Out x iso frame = of-out_arm x iso
  of-dispatch tok.In x iso frame = of-in_arm x iso frame
  of-dispatch tok.Setup x iso frame = end

  of-moved_on : (d : Dir) → Asks≤ {i = i} 2 (moved_on d)
  of-moved_on d = free (no-get (ep-cell _ _)) (λ _. if (more
      (seq 2 0 of-modify_reg (λ _. free (assign (ep-cell _ _)) (λ _. no-act))) (omega arith)))

  of-ep0_moved_on : (t : Token) → Asks≤ {i = i} 2 (ep0_moved_on t)
  of-ep0_moved_on tok.Out = of-moved_on In
  of-ep0_moved_on tok.In = of-moved_on Out
  of-ep0_moved_on tok.Sof = end
  of-ep0_moved_on tok.Setup = end

  of-served : (x : Transfer) (iso : Bool) (frame : ℕ) → Asks≤ {i = i} 2135 (served x iso frame)
  of-served x iso frame = free (no-get globals-cell) (λ _. more (seq 65 2070 (if (of-on_sof frame)) (λ _.
      more (seq 32 2038 (if (free (no-get globals-cell) (λ _. of-late_walk frame _))) (λ _.
      more (seq 2004 34 (if (of-dispatch (token x.st) x iso frame)) (λ _.
      more (seq 32 2 (if (of-check x iso)) (λ _. if (of-ep0_moved_on (token x.st)))) (omega arith))) (omega arith)))
      (omega arith))) (omega arith))

  of-on_transfer : Asks≤ {i = i} 4145 on_transfer
  of-on_transfer = once a_read (λ _. once a_read (λ st. once a_read (λ _.
      more (seq 2 4140 (if (of-nak st)) (λ _. once a_write (λ _. more (seq 2003 2136 (of-settle _) (λ x.
      free (no-get (ep-cell _ _)) (λ o. free (no-get (ep-cell _ _))
      (λ n. once a_read (λ frame. free (no-get globals-cell) (λ g.
      let iso = iso_for (token x.st) o n in
      of-served (framed x iso g.sof_frame frame) iso frame)))))) (omega arith)))) (omega arith))))

  of-on_setup : Asks≤ {i = i} 3 on_setup
  of-on_setup = once a_write (λ _. once a_write (λ _. free no-look
      (λ _. free no-look (λ _. free (assign (ep-cell _ _)) (λ _.
      free (assign (ep-cell _ _)) (λ _. free (assign globals-cell)
      (λ _. once a_write (λ _. free no-act (λ _. no-act)))))))))

  of-on_interrupt : Asks≤ {i = i} 4153 on_interrupt
  of-on_interrupt = once a_read (λ _. once (if (more (seq 1 0 (assign-write globals-cell) (λ _. no-act)) (omega arith)))
      (λ _.
      once (if (more (seq 1 0 (assign-write globals-cell) (λ _. no-act)) (omega arith))) (λ _. once (if a_write) (λ _.
      once (if a_write) (λ _. more (seq 4145 3 (if of-on_transfer) (λ _. if of-on_setup)) (omega arith))))))

  of-keep_microframe : Asks≤ {i = i} 1 keep_microframe
  of-keep_microframe = once a_read (λ _. assign globals-cell)

  of-operation : {n : ℕ} {p : Script i ℕ} → Asks≤ n p → Asks≤ n (operation p)
  of-operation {n = n} x = free no-act (λ _. more (seq n 0 x (λ _. free no-fetch (λ _. end))) (omega arith))

  of-resultless : {n : ℕ} {p : Script i Unit} → Asks≤ n p → Asks≤ n (resultless p)
  of-resultless {n = n} x = of-operation (more (seq n 0 x (λ _. end)) (omega arith))

  of-staged : {n : ℕ} (m : ℕ) {p : Script i Answer} → Asks≤ n p → Asks≤ n (staged m p)
  of-staged m x = free (no-get globals-cell) (λ _. either x end)

pub interrupt-4154 : Asks≤ 4154 interrupt_code
interrupt-4154 = of-staged 2 (of-resultless (once of-keep_microframe (λ _. of-on_interrupt)))
