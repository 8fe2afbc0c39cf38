-- An endpoint is enabled or disabled: not EP0
use Rattle.std.specs.Prelude.{Bool, true, false, cond, ◌≡◌, refl, ℕ, zero, suc, eqb}
use Rattle.std.proofs.Common.{ap, ◌∙◌}
use Rattle.regs.specs.declared.Dir.{Dir}
use Rattle.regs.specs.declared.Dir.TheVariants.{Out, In}
use Rattle.state.specs.declared.EpState.{EpState}
use Rattle.state.specs.Driver.{Driver, ep_on, with_on}
use Rattle.state.specs.declared.Globals.{Globals}
use Rattle.state.specs.Fresh.{clear_stamps}
use Rattle.state.specs.Kept.{with_ep_type}
use Rattle.frame.specs.Advance.{NO_FRAME}
use Rattle.script.specs.Machine.{Buf}
use Rattle.script.specs.Control.{setup_bytes}
use Rattle.script.specs.Tree as tree
use Rattle.script.specs.Cells.{ep-cell, globals-cell}
use Rattle.script.specs.Script.{row, rows, switch, switch_ask}
use Rattle.script.specs.Statics.{is_on, renewed, with_armed, flag, modify_ep_type}
use Rattle.script.specs.Bus as bus
use Rattle.script.specs.Calls.{slotted, SetEnabled}
use Rattle.script_ops.specs.Rings.{St, slot_step, arm_at, renewed_on, type_step, config_step}
use Rattle.script_ops.specs.Concrete.{concrete}
use Rattle.proof_usb20.specs.Log.{Log, saw}
use Rattle.proof_usb20.specs.Watch.{at_end}
use Rattle.proof_usb20.specs.Ep0.{Watch, view, rec_of, Between, Law}
use Rattle.proof_usb20.specs.ViewsLaws.{made, ep-other}
use Rattle.proof_usb20.proofs.QuietLaws.{Plainly, Stays, Any, LeavesLog, asked, onward, apart, q_ret, q_bind}
use Rattle.proof_usb20.proofs.QuietLaws.{q_test}
use Rattle.proof_usb20.proofs.QuietLaws.{q_write, q_act, q_hand, q_put, Other, put_kept, other_word, other_length_lem}
use Rattle.proof_usb20.proofs.PartsLaws.{q_got, q_wake, q_ep}
use Rattle.proof_usb20.proofs.TasksLaws.{Numbered, quiet-law, q_staged, q-named, q_resultless, put_paced}

-- another endpoint's record
with_other : (d : Driver) (e : ℕ) (r : EpState) → Other e → view (with_on d Out e r) ≡ view d
unfolding with_on
with_other d e r o = made _ _ (ap rec_of (ep-other d Out e r Out 0 (apart Out Out e o))) (ap rec_of
    (ep-other d Out e r In 0 (apart Out In e o))) refl refl refl refl refl refl refl

stamps-view : (d : Driver) (e : ℕ) → view (clear_stamps d e) ≡ view d
unfolding clear_stamps ep_on
stamps-view d e = refl

renewed-view : (d : Driver) (e : ℕ) → Other e → view (renewed_on d e) ≡ view d
unfolding renewed_on
renewed-view d e o = with_other (clear_stamps d e) e _ o ∙ stamps-view d e

slot-view : (e k : ℕ) → Other e → (s : St) → view (slot_step e k s).1.0 ≡ view s.0
unfolding slot_step
slot-view e k o s = by (is_on (ep_on s.0 Out e).iso) (eqb k 15)
  where
    by : (b c : Bool)
        → view (cond b (arm_at e k (cond c (renewed_on s.0 e) s.0, s.1))
        ((ep_on s.0 Out e).armed_slot, s)).1.0 ≡ view s.0
    by true true = with_other (renewed_on s.0 e) e _ o ∙ renewed-view s.0 e o
    by true false = with_other s.0 e _ o
    by false c = refl

switch-view : (e : ℕ) (on : Bool) (n : ℕ) → Other e → (s : St) → view (concrete.row (switch e on) n s).1.0
    ≡ view s.0
unfolding config_step type_step ep_on setup_bytes
switch-view e on zero o s = refl
switch-view e on (suc zero) o s = refl
switch-view e on (suc (suc zero)) o s = refl
switch-view e on (suc (suc (suc k))) o s = slot-view e k o s

silent : (e : ℕ) (on : Bool) (n x : ℕ) → eqb e 0 ≡ false → (w : Log) (b : Buf) (v : ℕ) → saw w (switch_ask e on n x) v b
    ≡ w
silent e on zero x h w b v = refl
silent e on (suc zero) x h w b v = refl
silent e on (suc (suc zero)) x h w b v = other_word Out e (cond on 1 2) h b w
silent e on (suc (suc (suc n))) x h w b v = refl

in_row : (e : ℕ) (on : Bool) → Numbered e → (n : ℕ) (w : Log) (s : St) → Plainly s
    → Watch Between Any (λ x _ t. Stays w s x t) w (rows concrete (switch e on) n (λ t. tree.ends (tt {0}) t) s)
in_row e on m zero w s k = onward w s (concrete.row (switch e on) zero s).1 (switch-view e on zero m.apart s)
    (asked w (silent e on zero (concrete.row (switch e on) zero s).0 m.zero_not w
    (concrete.row (switch e on) zero s).1.1) (λ _ t l. at_end (refl, refl, l)))
in_row e on m (suc n) w s k = onward w s (concrete.row (switch e on) (suc n) s).1
    (switch-view e on (suc n) m.apart s)
    (asked w (silent e on (suc n) (concrete.row (switch e on) (suc n) s).0 m.zero_not w
    (concrete.row (switch e on) (suc n) s).1.1) (λ _ t l. in_row e on m n w t l))

q-row : (e : ℕ) (on : Bool) → Numbered e → LeavesLog (row (switch e on))
q-row e on m = record { goes = λ w s z k. in_row e on m 18 w s k }

q-types : (f : ℕ → ℕ) → LeavesLog (modify_ep_type {i = false} f)
q-types f = record {
  goes = λ w s z k.
      let h : Globals → Globals = λ g. with_ep_type (f g.ep_type) g in
      onward w s (concrete.put globals-cell (h (concrete.get globals-cell s)) s)
      (put_kept h (λ _. refl) s) (asked w (λ _. refl) (λ _ t l. at_end (refl, refl, l)));
}

q-kept : (d : Dir) (e : ℕ) (iso on : Bool) → LeavesLog (bus.kept {i = false} d e iso on)
q-kept d e iso on = q_bind (q-types _) (λ _. q_bind (q_act refl q_ret)
    (λ _. q_bind (q_got globals-cell) (λ g. q_write (λ _ _. refl) q_ret)))

q-enabling : (d : Dir) (e : ℕ) (on : Bool) → Numbered e → LeavesLog (bus.set_enabled d e on)
q-enabling Out e on m = q_bind (q_got (ep-cell Out e)) (λ s. q_bind (q_test (q-row e on m)
    (q_bind (q_act refl q_ret) (λ _. q_bind (q_ep Out e (λ p. with_armed (flag on) (renewed p)) m.apart)
    (λ _. q_bind (q_hand refl q_ret) (λ _. q_bind (q_write (other_word Out e _ m.zero_not) q_ret)
    (λ _. q-kept Out e false on))))))
    (λ _. q_wake Out e))
q-enabling In e on m = q_bind (q_got (ep-cell In e))
    (λ s. q_bind (q_bind (q_act refl q_ret) (λ _. q_bind (q_ep In e renewed m.apart)
    (λ _. q_bind (q_put (put_paced e NO_FRAME) q_ret) (λ _. q_bind (q_hand refl q_ret) (λ _. q_bind (q_write
    (other_length_lem e 0 m.zero_not) q_ret)
    (λ _. q_bind (q_write (other_word In e _ m.zero_not) q_ret) (λ _. q-kept In e (is_on s.iso) on)))))))
    (λ _. q_wake In e))

pub law-set-enabled : (d : Dir) (e : ℕ) (on : Bool) → Law (slotted (SetEnabled d e on))
law-set-enabled d e on = quiet-law (slotted (SetEnabled d e on)) tt refl (λ _ _. refl) (λ _ _. tt) (q_staged 2
    (q-named d e (λ m. q_resultless (q-enabling d e on m))))
