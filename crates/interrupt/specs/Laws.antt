-- An operation inside the interrupt, tests, and the script's own nesting. Assumes nothing.
use Rattle.std.specs.Prelude.{◌≡◌, refl, Bool, true, false, not, cond, List, ℕ, ◌+◌, ◌*◌, ◌%◌, eqb}
use Rattle.std.proofs.Math.Path.{ap}
use Rattle.std.proofs.Common.{sym, subst, ◌∙◌, arith}
use Rattle.bits.specs.Bit.{bit_is_set}
use Rattle.frame.specs.Usb20.{index_of}
use Rattle.regs.specs.declared.Access.{Access}
use Rattle.regs.specs.declared.Access.TheVariants.{Read, Write}
use Rattle.regs.specs.declared.Reg.TheVariants.{IntFg, MisSt, FrameNo}
use Rattle.regs.specs.declared.Dir.{Dir}
use Rattle.regs.specs.declared.Dir.TheVariants.{Out, In}
use Rattle.regs.specs.Flags.{transfer, setup_act, SETUP_ACT}
use Rattle.regs.specs.Status.{endpoint}
use Rattle.state.specs.declared.EpState.{EpState}
use Rattle.state.specs.declared.Globals.{Globals}
use Rattle.state.specs.Driver.{Driver, ep_on, with_on, with_globals}
use Rattle.script.specs.declared.Transfer.{Transfer}
use Rattle.script.specs.Tree as tree
use Rattle.script.specs.Tree.{asks, ends, bind_out}
use Rattle.script.specs.Script.{Script, run, read, when, ◌>>=◌}
use Rattle.script.specs.Statics.{with_ready, with_armed, with_setup, with_entered}
use Rattle.script.specs.IsoIn.{first_in_frame, iso_in_complete}
use Rattle.script.specs.Handler as script
use Rattle.script.specs.Handler.{nak_non_iso, framed, iso_in_arm, on_transfer, on_interrupt, stamped_interrupt}
use Rattle.isochronous.specs.Frames.{framed_on, is_first}
use Rattle.interrupt.specs.declared.nak.Nak as nak-point
use Rattle.interrupt.specs.declared.nak.NakNext as nak-next
use Rattle.interrupt.specs.declared.nak.NakNext.TheVariants as nak-to
use Rattle.interrupt.specs.declared.settle.Settle as settle-point
use Rattle.interrupt.specs.declared.settle.SettleNext as settle-next
use Rattle.interrupt.specs.declared.settle.SettleNext.TheVariants as settle-to
use Rattle.interrupt.specs.declared.toggled.Toggled as toggled-point
use Rattle.interrupt.specs.declared.toggled.ToggledNext as toggled-next
use Rattle.interrupt.specs.declared.toggled.ToggledNext.TheVariants as toggled-to
use Rattle.isochronous.specs.declared.sof.Sof as sof-point
use Rattle.isochronous.specs.declared.sof.SofNext as sof-next
use Rattle.isochronous.specs.declared.sof.SofNext.TheVariants as sof-to
use Rattle.isochronous.specs.declared.complete.Complete as complete-point
use Rattle.isochronous.specs.declared.complete.CompleteNext as complete-next
use Rattle.isochronous.specs.declared.complete.CompleteNext.TheVariants as complete-to
use Rattle.isochronous.specs.declared.out.Check as check-point
use Rattle.isochronous.specs.declared.out.CheckNext as check-next
use Rattle.isochronous.specs.declared.out.CheckNext.TheVariants as check-to
use Rattle.interrupt.specs.Nak as nak
use Rattle.interrupt.specs.Settle as settle
use Rattle.interrupt.specs.Toggled as toggled
use Rattle.isochronous.specs.Sof as sof
use Rattle.isochronous.specs.Complete as complete
use Rattle.isochronous.specs.Points as check
use Rattle.script_ops.specs.Records.{plain_of, merged, merged_globals}
use Rattle.script_ops.specs.Rings.{St, word_at}
use Rattle.script_ops.specs.Concrete.{concrete}
use Rattle.interrupt.specs.declared.Point.{Point}
use Rattle.interrupt.specs.Continuations.{resultless, after_setup_released, after_setup_tx, finish, after_transfer}
use Rattle.interrupt.specs.Continuations.{after_check, after_dispatch, flip_done, passed, after_late, after_sof}
use Rattle.interrupt.specs.Continuations.{sof_due}
use Rattle.interrupt.specs.Continuations.{serving, after_frame_no, after_settle, after_release, after_nak, naks_first}
use Rattle.interrupt.specs.Continuations.{entered_as, after_len, after_st, after_mis, after_host, after_fifo}
use Rattle.interrupt.specs.Continuations.{after_suspend}
use Rattle.interrupt.specs.Continuations.{after_bus_rst, after_flags, after_frame}
use Rattle.interrupt.specs.Points.{denote, fits_at}

-- ---- tests

-- what a test told of what it computes
pub tells : (r x a : Bool) → r ≡ x → r ≡ a → x ≡ a
tells r x a h k = sym h ∙ k

pub tells-not : (r x a : Bool) → r ≡ x → r ≡ a → not x ≡ not a
tells-not r x a h k = ap not (sym h ∙ k)

-- of a record that was loaded
pub tells-of : {A : Type 0} (F : A → Bool) (g g' : A) (r a : Bool) → r ≡ F g → g ≡ g' → r ≡ a → F g' ≡ a
tells-of F g g' r a h k l = ap F (sym k) ∙ (sym h ∙ l)

module _ (setup : Bool) (p : Script true Unit) (f : Unit {0} → tree.Prog St Unit) (t : St) where
  pub when-yes : (c : Bool) → c ≡ true → finish setup (bind_out (run concrete p t) f)
      ≡ finish setup (bind_out (run concrete (when c p) t) f)
  when-yes c h = ap (λ (x : Bool). finish setup (bind_out (run concrete (when x p) t) f)) (sym h)

  pub when-no : (c : Bool) → c ≡ false → finish setup (f tt t) ≡ finish setup (bind_out (run concrete (when c p) t) f)
  when-no c h = ap (λ (x : Bool). finish setup (bind_out (run concrete (when x p) t) f)) (sym h)

-- the same of an arm's tests
module _ (F : tree.Out St Unit → tree.Out St ℕ) (c : Bool) (y z : tree.Out St Unit) where
  pub test-yes : c ≡ true → F y ≡ F (cond c y z)
  test-yes h = ap (λ (x : Bool). F (cond x y z)) (sym h)

  pub test-no : c ≡ false → F z ≡ F (cond c y z)
  test-no h = ap (λ (x : Bool). F (cond x y z)) (sym h)

-- an arm's tests: of an endpoint that is not isochronous whether it is EP0
at_zero : (e x : ℕ) (a : Bool) → e ≡ x → eqb e 0 ≡ a → eqb x 0 ≡ a
at_zero e x a h k = ap (λ (z : ℕ). eqb z 0) (sym h) ∙ k

module _ (F : tree.Out St Unit → tree.Out St ℕ) (iso : Bool) {e x : ℕ} (w y z : tree.Out St Unit) (h : e ≡ x)
    (l : iso ≡ false) where
  pub of-ep0 : eqb e 0 ≡ true → F y ≡ F (cond iso w (cond (eqb x 0) y z))
  of-ep0 k = test-yes F (eqb x 0) y z (at_zero e x true h k) ∙ test-no F iso w (cond (eqb x 0) y z) l

  pub of_other : eqb e 0 ≡ false → F z ≡ F (cond iso w (cond (eqb x 0) y z))
  of_other k = test-no F (eqb x 0) y z (at_zero e x false h k) ∙ test-no F iso w (cond (eqb x 0) y z) l

-- the microframe's SOF was handled
pub sof-handled : (g g' : Globals) (frame : ℕ) (a : Bool) → g ≡ g' → eqb g.sof_frame frame ≡ a
    → not (eqb g'.sof_frame frame) ≡ not a
sof-handled g g' frame a h k = ap (λ (z : Globals). not (eqb z.sof_frame frame)) (sym h) ∙ ap not k

-- ---- the rest f after an operation's outcome o

abbrev pub onward : {A : Type 0} → Bool → (A → tree.Prog St Unit) → tree.Out St A → tree.Out St ℕ
onward setup f o = finish setup (bind_out o f)

pub after : {A : Type 0} (setup : Bool) (f : A → tree.Prog St Unit) (o o' : tree.Out St A) → o ≡ o'
    → finish setup (bind_out o f) ≡ finish setup (bind_out o' f)
after setup f o o' h = ap (onward setup f) h

module _ (setup : Bool) (f : Unit {0} → tree.Prog St Unit) (q : Access) (d : Driver) (b : List ℕ) where
  pub nak-asks : (st : ℕ) (n : nak-next.NakNext) (p : nak-point.Nak) → n ≡ nak-to.Asks q p
      → asks q (d, b) (λ v t. onward setup f (nak.denote st p v t)) ≡ onward setup f (nak.meaning st n d b)
  nak-asks st n p h = ap (λ (m : nak-next.NakNext). onward setup f (nak.meaning st m d b)) (sym h)

  pub sof-asks : (frame : ℕ) (n : sof-next.SofNext) (p : sof-point.Sof) → n ≡ sof-to.Asks q p
      → asks q (d, b) (λ v t. onward setup f (sof.denote frame p v t)) ≡ onward setup f (sof.meaning frame n d b)
  sof-asks frame n p h = ap (λ (m : sof-next.SofNext). onward setup f (sof.meaning frame m d b)) (sym h)

  pub complete-asks : (n : complete-next.CompleteNext) (p : complete-point.Complete) → n ≡ complete-to.Asks q p
      → asks q (d, b) (λ _ t. onward setup f (complete.denote p t)) ≡ onward setup f (complete.meaning n d b)
  complete-asks n p h = ap (λ (m : complete-next.CompleteNext). onward setup f (complete.meaning m d b)) (sym h)

  pub check-asks : (x : Transfer) (iso : Bool) (n : check-next.CheckNext) (p : check-point.Check) → n
      ≡ check-to.Asks q p
      → asks q (d, b) (λ v t. onward setup f (check.denote x iso p v t)) ≡ onward setup f (check.meaning x iso n d b)
  check-asks x iso n p h = ap (λ (m : check-next.CheckNext). onward setup f (check.meaning x iso m d b)) (sym h)

module _ (setup : Bool) (f : Unit {0} → tree.Prog St Unit) (d : Driver) (b : List ℕ) where
  pub nak-ends : (st : ℕ) (n : nak-next.NakNext) → n ≡ nak-to.Ends → finish setup (f tt (d, b))
      ≡ onward setup f (nak.meaning st n d b)
  nak-ends st n h = ap (λ (m : nak-next.NakNext). onward setup f (nak.meaning st m d b)) (sym h)

  pub sof-ends : (frame : ℕ) (n : sof-next.SofNext) → n ≡ sof-to.Ends → finish setup (f tt (d, b))
      ≡ onward setup f (sof.meaning frame n d b)
  sof-ends frame n h = ap (λ (m : sof-next.SofNext). onward setup f (sof.meaning frame m d b)) (sym h)

  pub complete-ends : (n : complete-next.CompleteNext) → n ≡ complete-to.Ends → finish setup (f tt (d, b))
      ≡ onward setup f (complete.meaning n d b)
  complete-ends n h = ap (λ (m : complete-next.CompleteNext). onward setup f (complete.meaning m d b)) (sym h)

  pub check-ends : (x : Transfer) (iso : Bool) (n : check-next.CheckNext)
      → n ≡ check-to.Ends → finish setup (f tt (d, b)) ≡ onward setup f (check.meaning x iso n d b)
  check-ends x iso n h = ap (λ (m : check-next.CheckNext). onward setup f (check.meaning x iso m d b)) (sym h)

module _ (setup : Bool) (f : Transfer → tree.Prog St Unit) (d : Driver) (b : List ℕ) (x : Transfer)
    (n : settle-next.SettleNext) where
  pub settle-asks : (q : Access) (p : settle-point.Settle) → n ≡ settle-to.Asks q p
      → asks q (d, b) (λ v t. onward setup f (settle.denote x p v t)) ≡ onward setup f (settle.meaning x n d b)
  settle-asks q p h = ap (λ (m : settle-next.SettleNext). onward setup f (settle.meaning x m d b)) (sym h)

  pub settle-ends : (y : Transfer) → n ≡ settle-to.Ends y → finish setup (f y (d, b))
      ≡ onward setup f (settle.meaning x n d b)
  settle-ends y h = ap (λ (m : settle-next.SettleNext). onward setup f (settle.meaning x m d b)) (sym h)

-- `toggled` in an arm: its own rest g, then f
module _ (setup : Bool) (f : Unit {0} → tree.Prog St Unit)
    (g : Bool → tree.Prog St Unit) (d : Driver) (b : List ℕ) (dir : Dir) (ep : ℕ) (n : toggled-next.ToggledNext) where
  pub toggled-asks : (q : Access) (p : toggled-point.Toggled)
      → n ≡ toggled-to.Asks q p → asks q (d, b) (λ v t. onward setup f (bind_out (toggled.denote dir ep p v t) g))
      ≡ onward setup f (bind_out (toggled.meaning dir ep n d b) g)
  toggled-asks q p h = ap (λ (m : toggled-next.ToggledNext). onward setup f (bind_out (toggled.meaning dir ep m d b) g))
      (sym h)

  pub toggled-ends : (y : Bool) → n ≡ toggled-to.Ends y → onward setup f (g y (d, b))
      ≡ onward setup f (bind_out (toggled.meaning dir ep n d b) g)
  toggled-ends y h = ap (λ (m : toggled-next.ToggledNext). onward setup f (bind_out (toggled.meaning dir ep m d b) g))
      (sym h)

-- of the endpoint x that the status shows
module _ (setup : Bool) (f : Unit {0} → tree.Prog St Unit) (g : Bool → tree.Prog St Unit)
    (dir : Dir) (e x : ℕ) (n : toggled-next.ToggledNext) (d : Driver) (b : List ℕ) (h : e ≡ x) where
  pub toggled-as : (o : ℕ → tree.Out St Bool) → toggled.meaning dir e n d b ≡ o e
      → onward setup f (bind_out (toggled.meaning dir x n d b) g) ≡ onward setup f (bind_out (o x) g)
  toggled-as o k = subst (λ (z : ℕ). onward setup f (bind_out (toggled.meaning dir z n d b) g)
      ≡ onward setup f (bind_out (o z) g)) h
      (ap (λ (o : tree.Out St Bool). onward setup f (bind_out o g)) k)

pub passed-at : (F : tree.Out St Unit → tree.Out St ℕ) (dir : Dir) (e x len : ℕ) (t : St)
    → e ≡ x → F (run concrete (passed dir e len) t) ≡ F (run concrete (passed dir x len) t)
passed-at F dir e x len t h = ap (λ (z : ℕ). F (run concrete (passed dir z len) t)) h

-- ---- what a match told

pub passed-known : (o : tree.Out St Unit) (dir known : Dir) (ep len : ℕ) (t : St)
    → dir ≡ known → o ≡ run concrete (passed known ep len) t → o ≡ run concrete (passed dir ep len) t
passed-known o dir known ep len t h k = k ∙ ap (λ (z : Dir). run concrete (passed z ep len) t) (sym h)

pub flipped-known : (o : tree.Out St Unit) (dir known : Dir) (len : ℕ) (t : St)
    → dir ≡ known → o ≡ run concrete (flip_done known len) t → o ≡ run concrete (flip_done dir len) t
flipped-known o dir known len t h k = k ∙ ap (λ (z : Dir). run concrete (flip_done z len) t) (sym h)

pub stands : (o : tree.Out St ℕ) (p known : Point) (v : ℕ) (t : St) → p ≡ known → o ≡ denote known v t → o
    ≡ denote p v t
stands o p known v t h k = k ∙ ap (λ (z : Point). denote z v t) (sym h)

-- ---- the script, in the tails' nesting

transfer-is : on_transfer {i = true} ≡ (read MisSt 0 >>= (λ m. after_mis m))
unfolding after_mis after_st after_len naks_first after_nak after_release after_settle after_frame_no serving sof_due after_sof
    after_late after_dispatch after_check
transfer-is = refl

transfer-begun : (t : St) → run concrete (on_transfer {i = true}) t
    ≡ asks (Read MisSt 0) t (λ v u. run concrete (after_mis v) u)
transfer-begun t = ap (λ (p : Script true Unit). run concrete p t) transfer-is

flags-is : on_interrupt {i = true} ≡ (read IntFg 0 >>= (λ f. after_flags f))
unfolding after_flags after_bus_rst after_suspend after_fifo after_host after_transfer
flags-is = refl

flags-begun : (t : St) → asks (Read IntFg 0) t (λ v u. run concrete (resultless (after_flags v)) u)
    ≡ run concrete (resultless on_interrupt) t
flags-begun t = ap (λ (p : Script true Unit). run concrete (resultless p) t) (sym flags-is)

-- the microframe is kept
abbrev entering : ℕ → Globals → Driver → Driver
entering i g d = with_globals d (with_entered i g)

pub microframe-kept : (v n i : ℕ) (g : Globals) (d x : Driver) (b : List ℕ)
    → n ≡ v
    → i ≡ index_of n
    → g ≡ d.globals
    → x ≡ entering i g d
    → asks (Read IntFg 0) (x, b) (λ f u. run concrete (resultless (after_flags f)) u)
    ≡ run concrete (resultless (after_frame v)) (d, b)
unfolding after_frame
microframe-kept v n i g d x b hn hi hg hx =
    flags-begun (x, b)
    ∙ (ap from hx
    ∙ (ap (λ (z : Globals). from (entering i z d)) hg
    ∙ (ap (λ (z : ℕ). from (entering z d.globals d)) hi
    ∙ ap (λ (z : ℕ). from (entering (index_of z) d.globals d)) hn)))
  where
    from : Driver → tree.Out St ℕ
    from z = run concrete (resultless on_interrupt) (z, b)

pub interrupt-begun : (t : St) → asks (Read FrameNo 0) t (λ v u. run concrete (resultless (after_frame v)) u)
    ≡ run concrete (resultless stamped_interrupt) t
unfolding after_frame
interrupt-begun t = refl

-- the transfer flag; whether the setup's is set is known from here on
module _ (f : ℕ) (setup : Bool) (d : Driver) (b : List ℕ) (h : setup ≡ setup_act f) where
  pub host-transfer : transfer f ≡ true → asks (Read MisSt 0) (d, b) (λ v t. finish setup (run concrete (after_mis v) t))
      ≡ run concrete (resultless (after_host f)) (d, b)
  unfolding after_host
  host-transfer k =
      ap (λ (z : Bool). asks (Read MisSt 0) (d, b) (λ v t. finish z (run concrete (after_mis v) t))) h
      ∙ (ap (finish (setup_act f)) (sym (transfer-begun (d, b)))
      ∙ ap (λ (z : Bool). finish (setup_act f) (run concrete (when {i = true} z on_transfer) (d, b))) (sym k))

  pub host-other : transfer f ≡ false → run concrete (resultless (after_transfer setup)) (d, b)
      ≡ run concrete (resultless (after_host f)) (d, b)
  unfolding after_host
  host-other k =
      ap (λ (z : Bool). run concrete (resultless (after_transfer z)) (d, b)) h
      ∙ ap (λ (z : Bool). finish (setup_act f) (run concrete (when {i = true} z on_transfer) (d, b))) (sym k)

-- the transfer is entered
module _ (setup busy : Bool) (st v : ℕ) (y : Transfer) (d : Driver) (b : List ℕ) (h : y ≡ entered_as busy st v) where
  pub entered-nak : (n : nak-next.NakNext) → nak.meaning st n d b ≡ run concrete (nak_non_iso {i = true} st) (d, b)
      → naks_first busy st ≡ true → onward setup (λ _ u. run concrete (after_nak y) u) (nak.meaning y.st n d b)
      ≡ finish setup (run concrete (after_len busy st v) (d, b))
  unfolding after_len
  entered-nak n k l =
      ap (λ (z : Transfer). onward setup (λ _ u. run concrete (after_nak z) u) (nak.meaning z.st n d b)) h
      ∙ (ap (onward setup (λ _ u. run concrete (after_nak (entered_as busy st v)) u)) k
      ∙ when-yes setup (nak_non_iso st) (λ _ u. run concrete (after_nak (entered_as busy st v)) u) (d, b)
      (naks_first busy st) l)

  pub entered-free : naks_first busy st ≡ false → finish setup (run concrete (after_nak y) (d, b))
      ≡ finish setup (run concrete (after_len busy st v) (d, b))
  unfolding after_len
  entered-free l =
      ap (λ (z : Transfer). finish setup (run concrete (after_nak z) (d, b))) h
      ∙ when-no setup (nak_non_iso st) (λ _ u. run concrete (after_nak (entered_as busy st v)) u) (d, b) (naks_first busy st)
      l

-- the arm of an isochronous IN
endpoint-small : (st : ℕ) → endpoint st % 16 ≡ endpoint st
unfolding endpoint
endpoint-small st = omega arith

pub paced-told : (g g' : Globals) (e st : ℕ) (r a : Bool) → r ≡ bit_is_set g.iso_in_paced (e % 16)
    → g ≡ g' → e ≡ endpoint st → r ≡ a → bit_is_set g'.iso_in_paced (endpoint st) ≡ a
paced-told g g' e st r a h k l m =
    ap (bit_is_set g'.iso_in_paced) (sym (endpoint-small st))
    ∙ (ap (λ (z : ℕ). bit_is_set g'.iso_in_paced (z % 16)) (sym l)
    ∙ (ap (λ (z : Globals). bit_is_set z.iso_in_paced (e % 16)) (sym k)
    ∙ (sym h ∙ m)))

module _ (F : tree.Out St Unit → tree.Out St ℕ) (d y : Driver) (b : List ℕ) (frame : ℕ) where
  abbrev counted : ℕ → Bool → Driver → tree.Out St ℕ
  counted e first z = F (cond first (run concrete (iso_in_complete {i = true} e) (z, b)) (ends tt (z, b)))

  reached : (e : ℕ) (first : Bool) → y ≡ framed_on d e frame → is_first d e frame ≡ first
      → bit_is_set d.globals.iso_in_paced e ≡ false → counted e first y
      ≡ F (run concrete (iso_in_arm {i = true} e frame) (d, b))
  unfolding framed_on is_first
  reached e first h k l =
      ap (counted e first) h
      ∙ (ap (λ (z : Bool). counted e z (framed_on d e frame)) (sym k)
      ∙ ap (λ (z : Bool). F (cond z (ends tt (d, b)) (run concrete
      (first_in_frame {i = true} e frame >>= (λ x. when x (iso_in_complete e))) (d, b)))) (sym l))

  pub in_frame : (e st : ℕ) (first : Bool) → e ≡ endpoint st
      → y ≡ framed_on d e frame → is_first d e frame ≡ first → bit_is_set d.globals.iso_in_paced (endpoint st) ≡ false
      → counted e first y ≡ F (run concrete (iso_in_arm {i = true} (endpoint st) frame) (d, b))
  in_frame e st first h k l m =
      reached e first k l (ap (bit_is_set d.globals.iso_in_paced) h ∙ m)
      ∙ ap (λ (z : ℕ). F (run concrete (iso_in_arm {i = true} z frame) (d, b))) h

-- EP0's IN, its toggle flipped
pub flip-in : (d y : Driver) (b : List ℕ) (r : EpState) (len : ℕ) (dir : Dir)
    → r ≡ ep_on d In 0 → y ≡ with_on d In 0 (merged r (with_armed 0 (plain_of r)))
    → dir ≡ In → run concrete (script.sent {i = true} 0) (y, b) ≡ run concrete (flip_done dir len) (d, b)
flip-in d y b r len dir h k l =
    ap (λ (z : Driver). run concrete (script.sent {i = true} 0) (z, b)) k
    ∙ (ap (λ (z : EpState). run concrete (script.sent {i = true} 0)
    (with_on d In 0 (merged z (with_armed 0 (plain_of z))), b)) h
    ∙ ap (λ (z : Dir). run concrete (flip_done z len) (d, b)) (sym l))

-- the setup packet is taken
abbrev cleared : Dir → Driver → Driver
cleared dir d = with_on d dir 0 (merged (ep_on d dir 0) (with_armed 0 (with_ready 0 (plain_of (ep_on d dir 0)))))

abbrev kept : ℕ → ℕ → Driver → Driver
kept low high d = with_globals d (merged_globals d.globals (with_setup 1 low high d.globals))

pub setup_taken : (d x y z : Driver) (b : List ℕ) (low high : ℕ)
    → low ≡ word_at b (d.globals.ep0_buf + 0 * 4)
    → high ≡ word_at b (d.globals.ep0_buf + 1 * 4)
    → x ≡ cleared Out d
    → y ≡ cleared In x
    → z ≡ kept low high y
    → asks (Write IntFg 0 SETUP_ACT) (z, b) (λ _ t. run concrete (resultless after_setup_released) t)
    ≡ run concrete (resultless after_setup_tx) (d, b)
unfolding after_setup_tx
setup_taken d x y z b low high h k l m n =
    ap at n
    ∙ (ap (λ (q : Driver). at (kept low high q)) m
    ∙ (ap (λ (q : Driver). at (kept low high (cleared In q))) l
    ∙ (ap (λ (q : ℕ). at (kept q high (cleared In (cleared Out d)))) h
    ∙ ap (λ (q : ℕ). at (kept (word_at b (d.globals.ep0_buf + 0 * 4)) q (cleared In (cleared Out d)))) k)))
  where
    at : Driver → tree.Out St ℕ
    at q = asks (Write IntFg 0 SETUP_ACT) (q, b) (λ _ t. run concrete (resultless after_setup_released) t)

-- the frame that was read
pub frame-read : (setup : Bool) (x y : Transfer) (iso : Bool) (g : Globals) (d : Driver) (b : List ℕ) (frame v : ℕ)
    → y ≡ framed x iso g.sof_frame frame
    → g ≡ d.globals
    → frame ≡ v
    → finish setup (run concrete (serving y iso frame) (d, b))
    ≡ finish setup (run concrete (after_frame_no x iso v) (d, b))
unfolding after_frame_no
frame-read setup x y iso g d b frame v h k l =
    ap (λ (z : Transfer). finish setup (run concrete (serving z iso frame) (d, b))) h
    ∙ (ap (λ (z : Globals). finish setup (run concrete (serving (framed x iso z.sof_frame frame) iso frame)
    (d, b))) k
    ∙ ap (λ (z : ℕ). finish setup (run concrete (serving (framed x iso d.globals.sof_frame z) iso z) (d, b))) l)

-- what a match told of the point
pub told : (p q : Point) (v : ℕ) → p ≡ q → fits_at p v ≡ true → fits_at q v ≡ true
told p q v h k = ap (λ (x : Point). fits_at x v) (sym h) ∙ k
