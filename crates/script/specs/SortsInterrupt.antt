-- While the endpoints' sorts stay, the interrupt has at most 4,056 readings: 1 + 1 + 3 + 1 + 2,002 + 1 + 30 + 2,003 +
-- 14. No walk has EP0; of the two waits for sie_free the isochronous one excludes `toggled`, and an endpoint that waits
-- for both is not isochronous, so it is missing from its walk
use Rattle.std.specs.Prelude.{Bool, true, false, not, cond, ◌&&◌, ◌||◌, ◌⊎◌, ◌≡◌, eqb}
use Rattle.std.proofs.Common.{inl, inr, ⊎_elim, ap, sym, ◌∙◌, eq-zero-or-pos, arith}
use Rattle.std.proofs.Math.Path.{refl}
use Prim.Native.Nat.{ℕ, zero, suc, ◌+◌, ◌*◌, ◌≤◌, ◌<◌}
use Rattle.std.proofs.lemmas.Bool.{eqb-false}
use Rattle.bits.specs.Walk.{set_bits}
use Rattle.bits.specs.WalkLaws.{walk-length}
use Rattle.regs.specs.declared.Dir.{Dir}
use Rattle.regs.specs.declared.Dir.TheVariants.{Out, In}
use Rattle.regs.specs.declared.Token.{Token}
use Rattle.regs.specs.declared.Token.TheVariants as tok
use Rattle.regs.specs.Status.{endpoint, token, out_token, is_out, is_in}
use Rattle.state.specs.declared.Globals.{Globals}
use Rattle.script.specs.declared.Transfer.{Transfer}
use Rattle.script.specs.Cells.{EpCore, globals-cell, ep-cell}
use Rattle.script.specs.Script.{Ops, run, bind, complete, no_wakes, waken, send}
use Rattle.script.specs.Script.{arrive}
use Rattle.script.specs.Statics.{is_on, every_iso_in, iso_outs}
use Rattle.script.specs.IsoIn.{first_in_frame, iso_in_load, iso_in_complete, unseen, sof_one, sof_walk, on_sof, late_one}
use Rattle.script.specs.IsoIn.{late_walk}
use Rattle.script.specs.IsoOut.{arrives, check_one, check_walk, iso_out_check}
use Rattle.script.specs.Handler.{looks, sie_wait, nak_non_iso, toggled, retake, settle, entered, waits_for_iso}
use Rattle.script.specs.Handler.{waits_for_bulk, received, sent, sof_arm, out_arm, iso_in_arm, in_arm, dispatch, moved_on}
use Rattle.script.specs.Handler.{ep0_moved_on, iso_for, own_in, released, framed, served, on_transfer, on_setup}
use Rattle.script.specs.Handler.{frames, on_interrupt, keep_microframe}
use Rattle.script.specs.Calls.{interrupt_code}
use Rattle.script.specs.Readings.{Continues, readings}
use Rattle.script.specs.TogglesLaws.{apart}
use Rattle.script.specs.TransferKinds.{TransferKinds, Shows, Sorted, Along}
use Rattle.script.specs.SortsWalks.{Most, most-15, most-14, among-outs, among-ins}
use Rattle.script.specs.SortsLaws.{Any, Staying, Reads, reads-along, reads_more, reads-ret, reads-bind}
use Rattle.script.specs.SortsLaws.{reads-walk}
use Rattle.script.specs.SortsLaws.{free, once, then-free, either, one-read, no_write, no-get, no-put, no-is}
use Rattle.script.specs.SortsLaws.{no-look, no-fetch, no-act, no-hand, no-callback, when-reads, assign}
use Rattle.script.specs.SortsLaws.{assign-write, modify_reg-reads}

-- ---- what the tests of `settle` say

-- which wait a transfer has, by the sorts
abbrev late_by : TransferKinds → Transfer → Bool
late_by iso x = x.busy && (is_out x.st && iso Out (endpoint x.st))

abbrev bulk_by : TransferKinds → Transfer → Bool
bulk_by iso x = x.busy && (not (eqb (endpoint x.st) 0)
    && (is_out x.st || (is_in x.st && not (iso In (endpoint x.st)))))

late-shown : (iso : TransferKinds) (x : Transfer) (o : EpCore) → is_on o.iso ≡ iso Out (endpoint x.st)
    → waits_for_iso x o ≡ late_by iso x
unfolding waits_for_iso
late-shown iso x o h = ap (λ (b : Bool). x.busy && (is_out x.st && b)) h

bulk-shown : (iso : TransferKinds) (x : Transfer) (n : EpCore) → is_on n.iso ≡ iso In (endpoint x.st)
    → waits_for_bulk x n ≡ bulk_by iso x
unfolding waits_for_bulk
bulk-shown iso x n h = ap (λ (b : Bool). x.busy && (not (eqb (endpoint x.st) 0)
    && (is_out x.st || (is_in x.st && not b)))) h

late_is : (busy out io : Bool) → (busy && (out && io)) ≡ true → (out ≡ true) × (io ≡ true)
late_is true true true h = (refl, refl)
late_is true true false h = apart (sym h)
late_is true false io h = apart (sym h)
late_is false out io h = apart (sym h)

-- the bulk wait is not on EP0, and an endpoint that is not isochronous
bulk-is : (busy ep0 out isin io ii : Bool) → (busy && (out && io)) ≡ false
    → (busy && (not ep0 && (out || (isin && not ii)))) ≡ true → (ep0 ≡ false) × ((io ≡ false) ⊎ (ii ≡ false))
bulk-is false ep0 out isin io ii a b = apart (sym b)
bulk-is true true out isin io ii a b = apart (sym b)
bulk-is true false true isin io ii a b = (refl, inl a)
bulk-is true false false true io true a b = apart (sym b)
bulk-is true false false true io false a b = (refl, inr refl)
bulk-is true false false false io ii a b = apart (sym b)

out-token : (t : Token) → out_token t ≡ true → t ≡ tok.Out
out-token tok.Out h = refl
out-token tok.Sof h = apart (sym h)
out-token tok.In h = apart (sym h)
out-token tok.Setup h = apart (sym h)

is-out : (st : ℕ) → is_out st ≡ true → token st ≡ tok.Out
unfolding is_out
is-out st h = out-token (token st) h

endpoint-lt : (st : ℕ) → endpoint st < 16
unfolding endpoint
endpoint-lt st = omega arith

not-ep0 : (e : ℕ) → eqb e 0 ≡ false → 0 < e
not-ep0 e h = ⊎_elim (λ (z : e ≡ 0). absurd (eqb-false e 0 h z)) (λ (p : 0 < e). p) (eq-zero-or-pos e)

framed_st : (x : Transfer) (iso : Bool) (sof frame : ℕ) → (framed x iso sof frame).st ≡ x.st
framed_st x iso sof frame = go (own_in x iso sof frame)
  where
    go : (b : Bool) → (cond b (released x) x).st ≡ x.st
    go true = refl
    go false = refl

iso-out : (t : Token) (o n : EpCore) → t ≡ tok.Out → iso_for t o n ≡ is_on o.iso
unfolding iso_for
iso-out t o n h = rw h refl

module _ {S : Type 0} {O : Ops S} {K : S → Type 0} {iso : TransferKinds} (M : Sorted O iso K) where
  every_in : Most 15 (iso In)
  every_in = most-15 (iso In) (M.ep0 In)

  every-out : Most 15 (iso Out)
  every-out = most-15 (iso Out) (M.ep0 Out)

module _ {S : Type 0} {O : Ops S} {K : S → Type 0} {iso : TransferKinds} (M : Sorted O iso K) {i : Bool} where
  -- ---- isochronous walks

  iso_in_load-reads : {n : ℕ} (e : ℕ) → Reads O K {i = i} n Any (iso_in_load e)
  iso_in_load-reads e = free no-is (λ _ _. either (λ _. free (no-hand M (send e)) (λ _ _. free no-look (λ _ _. no_write)))
      (λ _. no_write))

  iso_in_complete-reads : {n : ℕ} (e : ℕ) → Reads O K {i = i} n Any (iso_in_complete e)
  iso_in_complete-reads e = free (no-act M (complete e) refl)
      (λ _ _. free (iso_in_load-reads e) (λ _ _. no-act M (waken _) refl))

  unseen-reads : {n : ℕ} (frame e : ℕ) → Reads O K {i = i} n Any (unseen frame e)
  unseen-reads frame e = free (assign M (ep-cell _ _)) (λ _ _. iso_in_complete-reads e)

  -- mis_st, int_st
  sof_one-reads : (frame e : ℕ) → Reads O K {i = i} 2 Any (sof_one frame e)
  sof_one-reads frame e = free (no-get M (ep-cell _ _)) (λ _ _. either (λ _. reads-ret tt)
      (λ _. once one-read (λ _ _. either (λ _. unseen-reads frame e)
      (λ _. once one-read (λ _ _. either (λ _. reads-ret tt) (λ _. unseen-reads frame e))))))

  sof_walk-reads : (k : ℕ) → Most k (iso In) → (frame : ℕ) (g : Globals)
      → Shows iso globals-cell g → Reads O K {i = i} (k * 2) Any (sof_walk frame (set_bits (every_iso_in g)))
  unfolding sof_walk
  sof_walk-reads k x frame g s = reads-walk (sof_walk frame) (sof_one frame) refl
      (λ e es. refl) (sof_one-reads frame) k (set_bits (every_iso_in g)) (x (every_iso_in g) (among-ins (iso In) g s.1))

  on_sof-reads : (k : ℕ) → Most k (iso In) → (frame : ℕ) → Reads O K {i = i} (k * 2) Any (on_sof frame)
  on_sof-reads k x frame = free (assign M globals-cell) (λ _ _. free (no-get M globals-cell) (λ g s.
      then-free (sof_walk-reads k x frame g s) (λ _ _. free (no-get M globals-cell)
      (λ _ _. when-reads (λ _. no-callback)))))

  first_in_frame-reads : {n : ℕ} (e frame : ℕ) → Reads O K {i = i} n Any (first_in_frame e frame)
  first_in_frame-reads e frame = free (no-get M (ep-cell _ _))
      (λ _ _. free (no-put M (ep-cell _ _)) (λ _ _. reads-ret tt))

  late_one-reads : (frame e : ℕ) → Reads O K {i = i} 0 Any (late_one frame e)
  late_one-reads frame e = free (first_in_frame-reads e frame) (λ _ _. when-reads (λ _. iso_in_complete-reads e))

  late_walk-reads : (frame m : ℕ) → Reads O K {i = i} 0 Any (late_walk frame (set_bits m))
  unfolding late_walk
  late_walk-reads frame m = reads-walk (late_walk frame) (late_one frame) refl (λ e es. refl) (late_one-reads frame) 16
      (set_bits m) (walk-length m)

  arrives-reads : {k : ℕ} (e n : ℕ) → Reads O K {i = i} k Any (arrives e n)
  arrives-reads e n = free (no-hand M (arrive e n)) (λ _ _. no-act M (waken _) refl)

  -- int_st
  check_one-reads : (x : Transfer) (f : Bool) (e : ℕ) → Reads O K {i = i} 1 Any (check_one x f e)
  check_one-reads x f e = free no-is (λ _ _. when-reads (λ _. either
      (λ _. arrives-reads e _)
      (λ _. once one-read (λ _ _. either (λ _. reads-ret tt) (λ _. free no-look (λ _ _. arrives-reads e _))))))

  check_walk-reads : (k : ℕ) → Most k (iso Out) → (x : Transfer) (f : Bool) (g : Globals)
      → Shows iso globals-cell g → Reads O K {i = i} (k * 1) Any (check_walk x f (set_bits (iso_outs g)))
  unfolding check_walk
  check_walk-reads k y x f g s = reads-walk (check_walk x f) (check_one x f) refl
      (λ e es. refl) (check_one-reads x f) k (set_bits (iso_outs g)) (y (iso_outs g) (among-outs (iso Out) g s.0))

  iso_out_check-reads : (k : ℕ) → Most k (iso Out) → (x : Transfer) (f : Bool)
      → Reads O K {i = i} (k * 1) Any (iso_out_check x f)
  iso_out_check-reads k y x f = free (no-get M globals-cell) (λ g s. check_walk-reads k y x f g s)

  -- ---- waits for sie_free

  looks-reads : (n : ℕ) → Reads O K {i = i} n Any (looks n)
  unfolding looks
  looks-reads zero = reads-ret tt
  looks-reads (suc n) = once one-read (λ _ _. either (λ _. reads-ret tt) (λ _. looks-reads n))

  sie_wait-reads : Reads O K {i = i} 2001 Any sie_wait
  sie_wait-reads = looks-reads 2001

  nak_non_iso-reads : {n : ℕ} (st : ℕ) → Reads O K {i = i} (suc n) Any (nak_non_iso st)
  nak_non_iso-reads st = free (no-get M (ep-cell _ _))
      (λ _ _. free (no-get M (ep-cell _ _)) (λ _ _. either (λ _. modify_reg-reads)
      (λ _. when-reads (λ _. modify_reg-reads))))

  toggled-reads : (d : Dir) (e : ℕ) → Reads O K {i = i} 2003 Any (toggled d e)
  toggled-reads d e = reads-bind 2001 2 sie_wait-reads (λ _ _. once one-read
      (λ _ _. free (no-get M (ep-cell _ _)) (λ _ _. either
      (λ _. then-free (when-reads (λ _. modify_reg-reads)) (λ _ _. reads-ret tt))
      (λ _. free (assign M (ep-cell _ _)) (λ _ _. reads-ret tt)))))

  retake-reads : (x : Transfer) → Reads O K {i = i} 4 Any (retake x)
  retake-reads x = once one-read (λ _ _. either
      (λ _. once one-read (λ _ _. either (λ _. reads-ret tt)
      (λ _. once one-read (λ st _. then-free (nak_non_iso-reads st) (λ _ _. reads-ret tt)))))
      (λ _. reads-ret tt))

  -- an isochronous OUT: the wait, int_st, rx_len; else the wait and rx_len, both of the same transaction; else no wait
  settle-late : (x : Transfer) → late_by iso x ≡ true → Reads O K {i = i} 2003 (λ y. y.st ≡ x.st) (settle x)
  settle-late x h = free (no-get M (ep-cell _ _)) (λ o so. free (no-get M (ep-cell _ _)) (λ _ _. either
      (λ _. reads-bind 2001 2 sie_wait-reads (λ _ _. once one-read (λ _ _. once one-read (λ _ _. reads-ret refl))))
      (λ z. apart (sym h ∙ (sym (late-shown iso x o so) ∙ z)))))

  settle-bulk : (x : Transfer) → late_by iso x ≡ false → bulk_by iso x ≡ true
      → Reads O K {i = i} 2002 (λ y. y.st ≡ x.st) (settle x)
  settle-bulk x l h = free (no-get M (ep-cell _ _)) (λ o so. free (no-get M (ep-cell _ _)) (λ n sn. either
      (λ z. apart (sym z ∙ (late-shown iso x o so ∙ l)))
      (λ _. either (λ _. reads-bind 2001 1 sie_wait-reads (λ _ _. once one-read (λ _ _. reads-ret refl)))
      (λ z. apart (sym h ∙ (sym (bulk-shown iso x n sn) ∙ z))))))

  settle-else : (x : Transfer) → late_by iso x ≡ false → bulk_by iso x ≡ false → Reads O K {i = i} 4 Any (settle x)
  settle-else x l h = free (no-get M (ep-cell _ _)) (λ o so. free (no-get M (ep-cell _ _)) (λ n sn. either
      (λ z. apart (sym z ∙ (late-shown iso x o so ∙ l)))
      (λ _. either (λ z. apart (sym z ∙ (bulk-shown iso x n sn ∙ h)))
      (λ _. either (λ _. retake-reads x) (λ _. reads-ret tt)))))

  -- ---- the arms

  received-reads : {k : ℕ} (e n : ℕ) → Reads O K {i = i} k Any (received e n)
  received-reads e n = free (assign M (ep-cell _ _)) (λ _ _. no-act M (waken _) refl)

  sent-reads : {k : ℕ} (e : ℕ) → Reads O K {i = i} k Any (sent e)
  sent-reads e = free (assign M (ep-cell _ _)) (λ _ _. no-act M (waken _) refl)

  sof_arm-reads : (frame : ℕ) → Reads O K {i = i} 2003 Any (sof_arm frame)
  sof_arm-reads frame = free (no-get M globals-cell) (λ _ _. when-reads
      (λ _. reads_more (on_sof-reads 15 (every_in M) frame) (omega arith)))

  iso_in_arm-reads : {n : ℕ} (e frame : ℕ) → Reads O K {i = i} n Any (iso_in_arm e frame)
  iso_in_arm-reads e frame = free (no-get M globals-cell)
      (λ _ _. either (λ _. reads-ret tt) (λ _. free (first_in_frame-reads e frame)
      (λ _ _. when-reads (λ _. iso_in_complete-reads e))))

  out_arm-reads : (x : Transfer) (f : Bool) → Reads O K {i = i} 2003 Any (out_arm x f)
  out_arm-reads x f = either (λ _. reads-ret tt) (λ _. either
      (λ _. when-reads (λ _. once modify_reg-reads (λ _ _. received-reads 0 _)))
      (λ _. then-free (toggled-reads Out _) (λ _ _. when-reads (λ _. received-reads _ _))))

  in_arm-reads : (x : Transfer) (f : Bool) (frame : ℕ) → Reads O K {i = i} 2003 Any (in_arm x f frame)
  in_arm-reads x f frame = either (λ _. iso_in_arm-reads _ frame) (λ _. either
      (λ _. once modify_reg-reads (λ _ _. free (assign M (ep-cell _ _)) (λ _ _. sent-reads 0)))
      (λ _. then-free (toggled-reads In _) (λ _ _. when-reads (λ _. sent-reads _))))

  dispatch-reads : (t : Token) (x : Transfer) (f : Bool) (frame : ℕ) → Reads O K {i = i} 2003 Any (dispatch t x f frame)
  dispatch-reads tok.Sof x f frame = sof_arm-reads frame
  dispatch-reads tok.Out x f frame = out_arm-reads x f
  dispatch-reads tok.In x f frame = in_arm-reads x f frame
  dispatch-reads tok.Setup x f frame = reads-ret tt

  -- an isochronous OUT's has none
  dispatch-none : (t : Token) (x : Transfer) (f : Bool) (frame : ℕ) → t ≡ tok.Out → f ≡ true
      → Reads O K {i = i} 0 Any (dispatch t x f frame)
  dispatch-none t x f frame a b = rw (a, b) (either (λ _. reads-ret tt) (λ z. apart z))

  moved_on-reads : (d : Dir) → Reads O K {i = i} 1 Any (moved_on d)
  moved_on-reads d = free (no-get M (ep-cell _ _))
      (λ _ _. when-reads (λ _. once modify_reg-reads (λ _ _. free (assign M (ep-cell _ _))
      (λ _ _. no-act M (waken _) refl))))

  ep0_moved_on-reads : (t : Token) → Reads O K {i = i} 1 Any (ep0_moved_on t)
  ep0_moved_on-reads tok.Out = moved_on-reads In
  ep0_moved_on-reads tok.In = moved_on-reads Out
  ep0_moved_on-reads tok.Sof = reads-ret tt
  ep0_moved_on-reads tok.Setup = reads-ret tt

  -- ---- the whole

  -- walks over at most j and k endpoints, an arm with at most d readings, and one more for EP0
  served-reads : (j d k l : ℕ) → Most j (iso In) → Most k (iso Out)
      → (x : Transfer) (f : Bool) (frame : ℕ) → Reads O K {i = i} d Any (dispatch (token x.st) x f frame)
      → (eqb (endpoint x.st) 0 ≡ true → 1 ≤ l) → Reads O K {i = i} (j * 2 + (d + (k * 1 + l))) Any (served x f frame)
  served-reads j d k l a b x f frame y z =
      free (no-get M globals-cell) (λ _ _. reads-bind (j * 2) (d + (k * 1 + l))
      (when-reads (λ _. on_sof-reads j a frame)) (λ _ _.
      free (when-reads (λ _. free (no-get M globals-cell) (λ _ _. late_walk-reads frame _))) (λ _ _.
      reads-bind d (k * 1 + l) (when-reads (λ _. y)) (λ _ _.
      reads-bind (k * 1) l (when-reads (λ _. iso_out_check-reads k b x f)) (λ _ _.
      when-reads (λ e. reads_more (ep0_moved_on-reads (token x.st)) (z e)))))))

  -- `on_transfer` once the wait is over
  rest-late : (x : Transfer) → token x.st ≡ tok.Out → iso Out (endpoint x.st) ≡ true
      → Reads O K 47 Any (frames {i = i} x)
  rest-late x t y = free (no-get M (ep-cell _ _)) (λ o so. free (no-get M (ep-cell _ _))
      (λ n _. once one-read (λ frame _. free (no-get M globals-cell) (λ g _.
      let f = iso_for (token x.st) o n in
      let z = framed x f g.sof_frame frame in
      served-reads 15 0 15 1 (every_in M) (every-out M) z f frame
      (dispatch-none _ z f frame (ap token (framed_st x f g.sof_frame frame) ∙ t) (iso-out (token x.st) o n t
      ∙ (so ∙ y)))
      (λ _. omega arith)))))

  rest-bulk : (j k : ℕ) → Most j (iso In) → Most k (iso Out) → j * 2 + k ≤ 44 → (x : Transfer)
      → eqb (endpoint x.st) 0 ≡ false
      → Reads O K 2048 Any (frames {i = i} x)
  rest-bulk j k a b h x e = free (no-get M (ep-cell _ _))
      (λ o _. free (no-get M (ep-cell _ _)) (λ n _. once one-read (λ frame _. free (no-get M globals-cell) (λ g _.
      let f = iso_for (token x.st) o n in
      let z = framed x f g.sof_frame frame in
      reads_more (served-reads j 2003 k 0 a b z f frame (dispatch-reads (token z.st) z f frame)
      (λ (q : eqb (endpoint z.st) 0 ≡ true). apart (sym q
      ∙ (ap (λ (st : ℕ). eqb (endpoint st) 0) (framed_st x f g.sof_frame frame) ∙ e)))) (omega (arith, h))))))

  rest-else : (x : Transfer) → Reads O K 2050 Any (frames {i = i} x)
  rest-else x = free (no-get M (ep-cell _ _)) (λ o _. free (no-get M (ep-cell _ _))
      (λ n _. once one-read (λ frame _. free (no-get M globals-cell) (λ g _.
      let f = iso_for (token x.st) o n in
      let z = framed x f g.sof_frame frame in
      served-reads 15 2003 15 1 (every_in M) (every-out M) z f frame (dispatch-reads (token z.st) z f frame)
      (λ _. omega arith)))))

  -- the endpoint that waited is missing from its direction's walk
  rest-missing : (x : Transfer) → eqb (endpoint x.st) 0 ≡ false
      → (iso Out (endpoint x.st) ≡ false) ⊎ (iso In (endpoint x.st) ≡ false)
      → Reads O K 2048 Any (frames {i = i} x)
  rest-missing x e (inl q) = rest-bulk 15 14 (every_in M)
      (most-14 (iso Out) (M.ep0 Out) (endpoint x.st) (not-ep0 (endpoint x.st) e) (endpoint-lt x.st) q)
      (omega arith) x e
  rest-missing x e (inr q) =
      rest-bulk 14 15 (most-14 (iso In) (M.ep0 In) (endpoint x.st) (not-ep0 (endpoint x.st) e)
      (endpoint-lt x.st) q)
      (every-out M) (omega arith) x e

  settled : (x : Transfer) (a b : Bool) → late_by iso x ≡ a → bulk_by iso x ≡ b
      → Reads O K 4050 Any (bind (settle x) (frames {i = i}))
  settled x true b l h =
      let z = late_is x.busy (is_out x.st) (iso Out (endpoint x.st)) l in
      reads_more
      (reads-bind 2003 47 (settle-late x l)
      (λ y q. rest-late y (ap token q ∙ is-out x.st z.0) (ap (λ (st : ℕ). iso Out (endpoint st)) q ∙ z.1)))
      (omega arith)
  settled x false true l h =
      let z = bulk-is x.busy (eqb (endpoint x.st) 0) (is_out x.st) (is_in x.st) (iso Out (endpoint x.st))
      (iso In (endpoint x.st)) l h in
      reads-bind 2002 2048 (settle-bulk x l h) (λ y q. rest-missing y (ap (λ (st : ℕ). eqb (endpoint st) 0) q ∙ z.0)
      (rw q z.1))
  settled x false false l h = reads_more (reads-bind 4 2050 (settle-else x l h) (λ y _. rest-else y)) (omega arith)

  on_transfer-reads : Reads O K {i = i} 4054 Any on_transfer
  on_transfer-reads = once one-read (λ m _. once one-read (λ st _. once one-read (λ n _.
      reads-bind 1 4050 (when-reads (λ _. nak_non_iso-reads st))
      (λ _ _. free no_write (λ _ _. settled (entered m st n) _ _ refl refl)))))

  on_setup-reads : {n : ℕ} → Reads O K {i = i} n Any on_setup
  on_setup-reads = free no_write (λ _ _. free no_write (λ _ _. free no-look
      (λ _ _. free no-look (λ _ _. free (assign M (ep-cell _ _)) (λ _ _.
      free (assign M (ep-cell _ _)) (λ _ _. free (assign M globals-cell)
      (λ _ _. free no_write (λ _ _. free (no-act M (waken _) refl) (λ _ _. no-act M (waken _) refl)))))))))

  -- `on_interrupt`
  on_interrupt-reads : Reads O K {i = i} 4055 Any on_interrupt
  on_interrupt-reads = once one-read (λ _ _. free (when-reads
      (λ _. free (assign-write M globals-cell) (λ _ _. no-act M (waken _) refl))) (λ _ _.
      free (when-reads (λ _. free (assign-write M globals-cell) (λ _ _. no-act M (waken _) refl)))
      (λ _ _. free (when-reads (λ _. no_write)) (λ _ _.
      free (when-reads (λ _. no_write)) (λ _ _. then-free (when-reads (λ _. on_transfer-reads))
      (λ _ _. when-reads (λ _. on_setup-reads)))))))

module _ {S : Type 0} {O : Ops S} {K : S → Type 0} {iso : TransferKinds} (M : Sorted O iso K) where
  keep_microframe-reads : {i : Bool} → Reads O K {i = i} 1 Any keep_microframe
  keep_microframe-reads = once one-read (λ _ _. assign M globals-cell)

  interrupt-reads : Reads O K 4056 Any interrupt_code
  interrupt-reads = free (no-get M globals-cell) (λ _ _. either
      (λ _. free (no-act M no_wakes refl)
      (λ _ _. then-free {P = Any} (then-free (once keep_microframe-reads (λ _ _. on_interrupt-reads M))
      (λ _ _. reads-ret tt))
      (λ _ _. free no-fetch (λ _ _. reads-ret tt))))
      (λ _. reads-ret tt))

  -- from a state of these sorts, on every path on which they stay between two accesses
  pub interrupt-4056 : (s : S) → K s → (w : Continues S) → Along (Staying K) (run O interrupt_code s) w
      → readings (run O interrupt_code s) w ≤ 4056
  interrupt-4056 s k w l = reads-along interrupt-reads s k w l
