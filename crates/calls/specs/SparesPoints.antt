-- An interrupt spares ep_config from each of its points on, whatever bytes the point was read from. A proof has the
-- shape of what is left to run: a pair for each bind and test, a function for each number brought, `tt` at each access
use Rattle.std.specs.Prelude.{Bool, true, ℕ}
use Rattle.bits.specs.Walk.{set_bits}
use Rattle.regs.specs.declared.Dir.{Dir}
use Rattle.regs.specs.declared.Dir.TheVariants.{Out, In}
use Rattle.regs.specs.declared.Reg.TheVariants.{EpConfig}
use Rattle.regs.specs.Registers.{ctrl_of}
use Rattle.regs.specs.ControlWord.{ack, flip, nakflip}
use Rattle.regs.specs.Status.{endpoint, token}
use Rattle.script.specs.declared.Transfer.{Transfer}
use Rattle.script.specs.Tree as tree
use Rattle.regs.specs.MisStatus.{sie_free}
use Rattle.script.specs.Cells.{globals-cell}
use Rattle.script.specs.Script.{Script, test, done, when, get, callback, ◌>>=◌, ◌>>◌}
use Rattle.script.specs.Statics.{is_on, every_iso_in, iso_outs, wake, wake_bus}
use Rattle.script.specs.IsoIn.{sof_walk, late_walk}
use Rattle.script.specs.Handler.{looks}
use Rattle.script.specs.Every.{at_end, at_ask, Throughout, same_reg}
use Rattle.script.specs.EveryLaws.{every_bind}
use Rattle.script.specs.Steps.{moving, Steps}
use Rattle.script.specs.StepsInterrupt.{control, of-looks, of-nak, of-settle, of-complete, of-sof-walk, of-sof}
use Rattle.script.specs.StepsInterrupt.{of-late-walk}
use Rattle.script.specs.StepsInterrupt.{of-check-walk, of-dispatch, of-moved-on, of-transfer, of-setup, of_interrupt}
use Rattle.script_ops.specs.Rings.{St}
use Rattle.interrupt.specs.declared.nak.Nak.{Nak}
use Rattle.interrupt.specs.declared.nak.Nak.TheVariants as nak-point
use Rattle.interrupt.specs.declared.settle.Settle.{Settle}
use Rattle.interrupt.specs.declared.settle.Settle.TheVariants as settle-point
use Rattle.interrupt.specs.declared.toggled.Toggled.{Toggled}
use Rattle.interrupt.specs.declared.toggled.Toggled.TheVariants as toggled-point
use Rattle.interrupt.specs.Wait.{looked}
use Rattle.interrupt.specs.Nak as nak
use Rattle.interrupt.specs.Settle as settle
use Rattle.interrupt.specs.Toggled as toggled
use Rattle.isochronous.specs.declared.complete.Complete.{Complete}
use Rattle.isochronous.specs.declared.complete.Complete.TheVariants as complete-point
use Rattle.isochronous.specs.declared.sof.Sof.{Sof}
use Rattle.isochronous.specs.declared.sof.Sof.TheVariants as sof-point
use Rattle.isochronous.specs.declared.late.Late.{Late}
use Rattle.isochronous.specs.Complete as complete
use Rattle.isochronous.specs.Sof as sof
use Rattle.isochronous.specs.Late as late
use Rattle.isochronous.specs.declared.out.Check.{Check}
use Rattle.isochronous.specs.declared.out.Check.TheVariants as check-point
use Rattle.isochronous.specs.Points as check
use Rattle.interrupt.specs.declared.Point.{Point}
use Rattle.interrupt.specs.declared.Point.TheVariants as point
use Rattle.interrupt.specs.Continuations.{resultless, after_setup_released, after_setup_tx, after_setup_rx, after_transfer}
use Rattle.interrupt.specs.Continuations.{finish, then_check}
use Rattle.interrupt.specs.Continuations.{after_moved_wrote, after_moved_read, after_check, after_dispatch, flip_done, passed}
use Rattle.interrupt.specs.Continuations.{after_flip, after_toggled, after_late, after_sof, serving, after_frame_no}
use Rattle.interrupt.specs.Continuations.{after_settle}
use Rattle.interrupt.specs.Continuations.{after_release, after_nak, after_len, after_st, after_mis, after_host, after_fifo}
use Rattle.interrupt.specs.Continuations.{after_suspend, after_bus_rst, after_flags, after_frame}
use Rattle.interrupt.specs.Points.{denote}
use Rattle.calls.specs.Spares.{Sparing}
use Rattle.calls.specs.SparesLaws.{runs}

abbrev N : {A : Type 0} → Script true A → Type 0
N p = Steps moving p

no-config : (d : Dir) → Throughout (same_reg (ctrl_of d) EpConfig) ⊥
no-config Out = tt
no-config In = tt

then : {A B : Type 0} {o : tree.Out St A} {f : A → St → tree.Out St B}
    → Sparing o → ((a : A) (u : St) → Sparing (f a u)) → Sparing (tree.bind_out o f)
then x k = every_bind x (λ _ a u _. k a u)

-- ---- what is left of the interrupt

of-after-transfer : (setup : Bool) → N (after_transfer setup)
unfolding after_transfer
of-after-transfer setup = (of-setup true, tt)

of-moved-wrote : (d : Dir) → N (after_moved_wrote d)
of-moved-wrote d = ((λ _. tt, λ _. tt), λ _. tt)

of-after-check : (x : Transfer) → N (after_check x)
unfolding after_check
of-after-check x = (of-moved-on true (token x.st), tt)

of-after-dispatch : (x : Transfer) (iso : Bool) → N (after_dispatch x iso)
unfolding after_dispatch
of-after-dispatch x iso = (((λ _. tt, λ g. of-check-walk true x iso (set_bits (iso_outs g))), tt), λ _. of-after-check x)

of-passed : (d : Dir) (ep len : ℕ) → N (passed d ep len)
of-passed Out ep len = ((λ _. tt, λ _. tt), λ _. tt)
of-passed In ep len = ((λ _. tt, λ _. tt), λ _. tt)

of-flip-done : (d : Dir) (len : ℕ) → N (flip_done d len)
of-flip-done Out len = of-passed Out 0 len
of-flip-done In len = ((λ _. tt, λ _. tt), λ _. of-passed In 0 len)

of-after-late : (x : Transfer) (iso : Bool) (frame : ℕ) → N (after_late x iso frame)
unfolding after_late
of-after-late x iso frame = ((of-dispatch true (token x.st) x iso frame, tt), λ _. of-after-dispatch x iso)

of-after-sof : (x : Transfer) (iso : Bool) (frame : ℕ) → N (after_sof x iso frame)
unfolding after_sof
of-after-sof x iso frame = (
  ((λ _. tt, λ g. of-late-walk true frame (set_bits (every_iso_in g))), tt),
  λ _. of-after-late x iso frame,
)

of-serving : (x : Transfer) (iso : Bool) (frame : ℕ) → N (serving x iso frame)
unfolding serving
of-serving x iso frame = (λ _. tt, λ _. ((of-sof true frame, tt), λ _. of-after-sof x iso frame))

of-after-frame-no : (x : Transfer) (iso : Bool) (frame : ℕ) → N (after_frame_no x iso frame)
unfolding after_frame_no
of-after-frame-no x iso frame = (λ _. tt, λ _. of-serving _ iso frame)

of-after-settle : (x : Transfer) → N (after_settle x)
unfolding after_settle
of-after-settle x = (λ _. tt, λ _. (λ _. tt, λ _. ((tt, λ _. tt), λ frame. of-after-frame-no x _ frame)))

of-after-release : (x : Transfer) → N (after_release x)
unfolding after_release
of-after-release x = (of-settle true x, λ y. of-after-settle y)

of-after-nak : (x : Transfer) → N (after_nak x)
unfolding after_nak
of-after-nak x = ((tt, tt), λ _. of-after-release x)

of-after-len : (busy : Bool) (st n : ℕ) → N (after_len busy st n)
unfolding after_len
of-after-len busy st n = ((of-nak true st, tt), λ _. of-after-nak _)

of-after-st : (busy : Bool) (st : ℕ) → N (after_st busy st)
unfolding after_st
of-after-st busy st = ((tt, λ _. tt), λ n. of-after-len busy st n)

of-after-mis : (m : ℕ) → N (after_mis m)
unfolding after_mis
of-after-mis m = ((tt, λ _. tt), λ st. of-after-st _ st)

of-after-host : (f : ℕ) → N (after_host f)
unfolding after_host
of-after-host f = ((of-transfer true, tt), λ _. of-after-transfer _)

of-after-fifo : (f : ℕ) → N (after_fifo f)
unfolding after_fifo
of-after-fifo f = (((tt, tt), tt), λ _. of-after-host f)

of-after-suspend : (f : ℕ) → N (after_suspend f)
unfolding after_suspend
of-after-suspend f = (((tt, tt), tt), λ _. of-after-fifo f)

of-after-bus-rst : (f : ℕ) → N (after_bus_rst f)
unfolding after_bus_rst
of-after-bus-rst f = ((((λ _. tt, λ _. (tt, λ _. (tt, tt))), λ _. tt), tt), λ _. of-after-suspend f)

of-after-flags : (f : ℕ) → N (after_flags f)
unfolding after_flags
of-after-flags f = ((((λ _. tt, λ _. (tt, λ _. (tt, tt))), λ _. tt), tt), λ _. of-after-bus-rst f)

of-after-frame : (frame : ℕ) → N (after_frame frame)
unfolding after_frame
of-after-frame frame = ((λ _. tt, λ _. tt), λ _. of_interrupt true)

of-setup-tx : N after_setup_tx
unfolding after_setup_tx
of-setup-tx = (
  λ _. tt,
  λ _. (
    λ _. tt,
    λ _. (
      (λ _. tt, λ _. tt),
      λ _. (
        (λ _. tt, λ _. tt),
        λ _.
            ((λ _. tt, λ _. tt), λ _. ((tt, tt), λ _. (tt, λ _. tt))),
      ),
    ),
  ),
)

finishing : (setup : Bool) {o : tree.Out St Unit} → Sparing o → Sparing (finish setup o)
finishing setup x = then (then x (λ _ u. runs (after_transfer setup) (of-after-transfer setup) u)) (λ _ _. at_end tt)

checking : (setup : Bool) (x : Transfer) (iso : Bool) {o : tree.Out St Unit} → Sparing o
    → Sparing (then_check setup x iso o)
checking setup x iso y = finishing setup (then y (λ _ u. runs (after_dispatch x iso) (of-after-dispatch x iso) u))

-- ---- at the points of its parts

at-look : (v n : ℕ) (t : St) → Sparing (looked v n t)
unfolding looked
at-look v n t = runs (test (sie_free v) done (looks n)) (tt, of-looks true n) t

at-nak : (st : ℕ) (p : Nak) (v : ℕ) (t : St) → Sparing (nak.denote st p v t)
at-nak st (nak-point.Word d) v t = at_ask (no-config d) (λ _ _ _ _. at_end tt)
at-nak st nak-point.Wrote v t = at_end tt

of-settle-st : (x : Transfer) (st : ℕ) → N (settle.after_st x st)
unfolding settle.after_st
of-settle-st x st = (of-nak true st, λ _. tt)

of-settle-flags : (x : Transfer) (f : ℕ) → N (settle.after_flags x f)
unfolding settle.after_flags
of-settle-flags x f = (tt, ((tt, λ _. tt), λ st. of-settle-st x st))

of-settle-mis : (x : Transfer) (m : ℕ) → N (settle.after_mis x m)
unfolding settle.after_mis
of-settle-mis x m = (((tt, λ _. tt), λ f. of-settle-flags x f), tt)

at-settle : (x : Transfer) (p : Settle) (v : ℕ) (t : St) → Sparing (settle.denote x p v t)
at-settle x (settle-point.IsoLook n) v t =
    then (at-look v n t) (λ _ u. runs (settle.after_iso_wait x) ((tt, λ _. tt), λ _. ((tt, λ _. tt), λ _. tt)) u)
at-settle x settle-point.IsoSt v t = at_ask tt (λ _ _ _ _. at_end tt)
at-settle x (settle-point.IsoLen now) v t = at_end tt
at-settle x (settle-point.BulkLook n) v t =
    then (at-look v n t) (λ _ u. runs (settle.after_bulk_wait x) ((tt, λ _. tt), λ _. tt) u)
at-settle x settle-point.BulkLen v t = at_end tt
at-settle x settle-point.Mis v t = runs (settle.after_mis x v) (of-settle-mis x v) t
at-settle x settle-point.Flags v t = runs (settle.after_flags x v) (of-settle-flags x v) t
at-settle x settle-point.St v t = runs (settle.after_st x v) (of-settle-st x v) t
at-settle x (settle-point.Nak st p) v t = then (at-nak st p v t) (λ _ _. at_end tt)

of-toggled-word : (d : Dir) (e word : ℕ) → N (toggled.after_word d e word)
unfolding toggled.after_word
of-toggled-word d e word = (
  λ _. tt,
  λ _. (((((tt, λ _. tt), λ w. (control moving d (ack w), tt)), tt), λ _. tt), ((λ _. tt, λ _. tt), λ _. tt)),
)

of-toggled-wait : (d : Dir) (e : ℕ) → N (toggled.after_wait d e)
unfolding toggled.after_wait
of-toggled-wait d e = ((tt, λ _. tt), λ word. of-toggled-word d e word)

at-toggled : (d : Dir) (e : ℕ) (p : Toggled) (v : ℕ) (t : St) → Sparing (toggled.denote d e p v t)
at-toggled d e (toggled-point.Look n) v t =
    then (at-look v n t) (λ _ u. runs (toggled.after_wait d e) (of-toggled-wait d e) u)
at-toggled d e toggled-point.Word v t = runs (toggled.after_word d e v) (of-toggled-word d e v) t
at-toggled d e toggled-point.AckRead v t = at_ask (no-config d) (λ _ _ _ _. at_end tt)
at-toggled d e toggled-point.Acked v t = at_end tt

at-complete : (p : Complete) (t : St) → Sparing (complete.denote p t)
at-complete (complete-point.Sent e) t = runs (complete.after_sent e) (λ _. tt, λ _. ((tt, tt), λ _. tt)) t
at-complete (complete-point.Loaded e) t = at_end tt

-- the SOF's other endpoints, its callback
then-sof : (frame m : ℕ) {o : tree.Out St Unit} → Sparing o → Sparing (sof.then_walk frame m o)
then-sof frame m x =
    then (then x (λ _ u. runs (sof_walk frame (set_bits m)) (of-sof-walk true frame (set_bits m)) u))
    (λ _ u. runs (get globals-cell >>= (λ g. when (is_on g.callback) callback)) (λ _. tt, λ _. ((tt, tt), tt)) u)

at-sof : (frame : ℕ) (p : Sof) (v : ℕ) (t : St) → Sparing (sof.denote frame p v t)
at-sof frame (sof-point.Mis e m) v t = then-sof frame m (runs (sof.after_mis frame e v) (
  ((λ _. tt, λ _. tt), λ _. of-complete true e),
  ((tt, λ _. tt), λ _. (tt, ((λ _. tt, λ _. tt), λ _. of-complete true e))),
) t)
at-sof frame (sof-point.St e m) v t =
    then-sof frame m (runs (sof.after_st frame e v) (tt, ((λ _. tt, λ _. tt), λ _. of-complete true e)) t)
at-sof frame (sof-point.Completing m p) v t = then-sof frame m (at-complete p t)
at-sof frame sof-point.Callback v t = at_end tt

late_walk_lem : (frame m : ℕ) (t : St) → Sparing (late.walking frame m t)
unfolding late.walking
late_walk_lem frame m t = runs (late_walk frame (set_bits m)) (of-late-walk true frame (set_bits m)) t

at-late : (frame : ℕ) (p : Late) (t : St) → Sparing (late.denote frame p t)
at-late frame p t = then (at-complete p.completing t) (λ _ u. late_walk_lem frame p.rest u)

of-check-st : (e st : ℕ) → N (check.after_st e st)
unfolding check.after_st
of-check-st e st = (tt, (λ _. tt, λ _. ((λ _. tt, tt), λ _. tt)))

at-check : (x : Transfer) (iso : Bool) (p : Check) (v : ℕ) (t : St) → Sparing (check.denote x iso p v t)
at-check x iso (check-point.St e m) v t =
    runs (check.after_st e v >> check.walk x iso m) (of-check-st e v, λ _. of-check-walk true x iso (set_bits m)) t
at-check x iso (check-point.Armed e m) v t =
    runs (wake Out e >> check.walk x iso m) (tt, λ _. of-check-walk true x iso (set_bits m)) t

-- ---- at its own

pub point-spares : (p : Point) (v : ℕ) (t : St) → Sparing (denote p v t)
point-spares point.Frame v t = runs (resultless (after_frame v)) (of-after-frame v, λ _. tt) t
point-spares point.Flags v t = runs (resultless (after_flags v)) (of-after-flags v, λ _. tt) t
point-spares (point.BusRst f) v t = runs (resultless (wake_bus >> after_bus_rst f))
    ((tt, λ _. of-after-bus-rst f), λ _. tt) t
point-spares (point.Suspend f) v t = runs (resultless (wake_bus >> after_suspend f))
    ((tt, λ _. of-after-suspend f), λ _. tt) t
point-spares (point.Fifo f) v t = runs (resultless (after_fifo f)) (of-after-fifo f, λ _. tt) t
point-spares (point.Host f) v t = runs (resultless (after_host f)) (of-after-host f, λ _. tt) t
point-spares (point.Mis setup) v t = finishing setup (runs (after_mis v) (of-after-mis v) t)
point-spares (point.St setup busy) v t = finishing setup (runs (after_st busy v) (of-after-st busy v) t)
point-spares (point.Len setup busy st) v t = finishing setup (runs (after_len busy st v) (of-after-len busy st v) t)
point-spares (point.Nak setup x p) v t =
    finishing setup (then (at-nak x.st p v t) (λ _ u. runs (after_nak x) (of-after-nak x) u))
point-spares (point.Released setup x) v t = finishing setup (runs (after_release x) (of-after-release x) t)
point-spares (point.Settle setup x p) v t =
    finishing setup (then (at-settle x p v t) (λ y u. runs (after_settle y) (of-after-settle y) u))
point-spares (point.FrameNo setup x iso) v t = finishing setup
    (runs (after_frame_no x iso v) (of-after-frame-no x iso v) t)
point-spares (point.Sof setup x iso frame p) v t =
    finishing setup (then (at-sof frame p v t) (λ _ u. runs (after_sof x iso frame) (of-after-sof x iso frame) u))
point-spares (point.Late setup x iso frame p) v t =
    finishing setup (then (at-late frame p t) (λ _ u. runs (after_late x iso frame) (of-after-late x iso frame) u))
point-spares (point.SofArm setup x iso frame p) v t = checking setup x iso (at-sof frame p v t)
point-spares (point.Flip d setup x iso) v t =
    checking setup x iso (runs (after_flip d x.len v) ((control moving d (flip v), tt), λ _. of-flip-done d x.len)
    t)
point-spares (point.Flipped d setup x iso) v t =
    checking setup x iso (runs (flip_done d x.len) (of-flip-done d x.len) t)
point-spares (point.Toggled d setup x iso p) v t =
    checking setup x iso (then (at-toggled d (endpoint x.st) p v t)
    (λ b u. runs (after_toggled d x b) (of-passed d (endpoint x.st) x.len, tt) u))
point-spares (point.Completing setup x iso p) v t = checking setup x iso (at-complete p t)
point-spares (point.Check setup x iso p) v t =
    finishing setup (then (at-check x iso p v t) (λ _ u. runs (after_check x) (of-after-check x) u))
point-spares (point.MovedRead d setup) v t =
    finishing setup (runs (after_moved_read d v) ((control moving d (nakflip v), tt), λ _. of-moved-wrote d) t)
point-spares (point.MovedWrote d setup) v t = finishing setup (runs (after_moved_wrote d) (of-moved-wrote d) t)
point-spares point.SetupRx v t = runs (resultless after_setup_rx) (((tt, tt), λ _. of-setup-tx), λ _. tt) t
point-spares point.SetupTx v t = runs (resultless after_setup_tx) (of-setup-tx, λ _. tt) t
point-spares point.SetupReleased v t = runs (resultless after_setup_released) ((tt, λ _. tt), λ _. tt) t
