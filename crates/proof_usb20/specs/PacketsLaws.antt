-- Bulk and interrupt endpoints (USB 2.0, 8.6): what the interrupt does once it has seen a token of such an endpoint. A
-- packet is completed, with its length and a wake-up, exactly if the sequence bit in the chip's control word is not the
-- recorded one; else nothing is completed, and a waiting read or write is acknowledged again
use Rattle.std.specs.Prelude.{Bool, not, List, [], ◌∷◌, ◌≡◌, eqb}
use Rattle.std.proofs.Math.Bool.{true, false}
use Rattle.std.proofs.Math.Path.{refl, ap}
use Rattle.std.proofs.Common.{sym, ◌∙◌}
use Prim.Native.Nat.{ℕ, zero, suc, ◌≤◌}
use Rattle.regs.specs.declared.Access.{Access}
use Rattle.regs.specs.declared.Access.TheVariants.{Write}
use Rattle.regs.specs.declared.Dir.{Dir}
use Rattle.regs.specs.declared.Dir.TheVariants.{Out, In}
use Rattle.regs.specs.Registers.{ctrl_of}
use Rattle.regs.specs.ControlWord.{toggle, ack, is_data1}
use Rattle.regs.specs.MisStatus.{sie_free}
use Rattle.state.specs.Wakes.{Wakes, wake_code, all_woken}
use Rattle.state.specs.Driver.{ep_on, with_on}
use Rattle.state.specs.declared.EpState.{EpState}
use Rattle.script.specs.Tree as tree
use Rattle.script.specs.Cells.{EpCore, ep-cell}
use Rattle.script.specs.Script.{when, run, waken, ◌>>=◌, ◌>>◌}
use Rattle.script.specs.Statics.{modify_ep, wake, is_on, flag, with_armed, with_tog, with_len, with_ready, completed}
use Rattle.script.specs.Handler.{looks, repeated, verdict, toggled}
use Rattle.script.specs.Every.{Every, at_end, at_ask}
use Rattle.script.specs.EveryLaws.{every_bind, every-cond}
use Rattle.script.specs.Usb20Toggles.{Pid, DATA0, DATA1, Transaction, bit_after_all, passed}
use Rattle.script.specs.TogglesLaws.{number, shown, repeated-not-passed}
use Rattle.script.proofs.ToggledLaws.{toggling, KeepsRecord, Answered, ack-keeps, ack-acks}
use Rattle.script_ops.specs.Records.{plain_of, merged}
use Rattle.script_ops.specs.Rings.{St}
use Rattle.script_ops.specs.Concrete.{concrete}
use Rattle.proof_book.specs.TransferKindsLaws.{put-steady}
use Rattle.proof_usb20.specs.Toggles.{Whole, same-ep}
use Rattle.proof_usb20.specs.ExemptLaws.{differ}

-- the record of a new packet: taken (OUT) with its length, or sent (IN); the bit as it is now
abbrev pub delivered : Dir → Pid → ℕ → EpCore → EpCore
delivered Out p n r = completed (with_len n (with_armed 0 (with_tog (number p) r)))
delivered In p n r = with_ready 1 (with_armed 0 (with_tog (number p) r))

-- what becomes of the endpoint's record r, with the wake-ups ws before; `true`: a new packet
abbrev pub Passed : Dir → ℕ → EpCore → Wakes → Pid → ℕ → Bool → List Access → St → Type 0
Passed d e r k p n true ws t = (concrete.get (ep-cell d e) t ≡ delivered d p n r)
    × (t.0.wakes ≡ all_woken (wake_code d e ∷ []) k) × (ws ≡ [])
Passed d e r k p n false ws t = (concrete.get (ep-cell d e) t ≡ r) × (t.0.wakes ≡ k)
    × Answered d e p (is_on r.armed) ws

-- between two accesses the record, the wake-ups and the records' places stay: so do open, close and queue leave them
abbrev pub Stay : Dir → ℕ → Wakes → St → St → Type 0
Stay d e k = KeepsRecord (λ t. Whole t × (t.0.wakes ≡ k)) concrete d e

module _ (d : Dir) (e : ℕ) (r : EpCore) (k : Wakes) (p : Pid) where
  abbrev Runs : {A : Type 0} → (List Access → A → St → Type 0) → List Access → tree.Out St A → Type 0
  Runs P ws o = Every (toggling d e p) (Stay d e k) (λ _. Unit {0}) P ws o

  abbrev Same : St → Type 0
  Same t = (concrete.get (ep-cell d e) t ≡ r) × (Whole t × (t.0.wakes ≡ k))

  looked : (i : Bool) (n : ℕ) (s : St) → Same s → Runs (λ ws _ t. (ws ≡ []) × Same t) []
      (run concrete (looks {i = i} n) s)
  unfolding looks
  looked i zero s h = at_end (refl, h)
  looked i (suc n) s h = at_ask tt (λ v t _ q. every-cond (sie_free v) (λ _. at_end (refl, (q.0 ∙ h.0, q.1)))
      (λ _. looked i n t (q.0 ∙ h.0, q.1)))

  put-get : (v : EpCore) (s : St) → Whole s → plain_of (merged (ep_on s.0 d e) v) ≡ v
      → concrete.get (ep-cell d e) (concrete.put (ep-cell d e) v s) ≡ v
  put-get v s h q = ap plain_of (same-ep s.0 d e (merged (ep_on s.0 d e) v) h) ∙ q

  -- what `toggled` leaves
  abbrev Judged : Bool → List Access → Bool → St → Type 0
  Judged true ws b t = (b ≡ true) × (concrete.get (ep-cell d e) t ≡ with_armed 0 (with_tog (number p) r)) × (ws ≡ [])
      × Whole t × (t.0.wakes ≡ k)
  Judged false ws b t = (b ≡ false) × (concrete.get (ep-cell d e) t ≡ r) × Answered d e p (is_on r.armed) ws
      × (t.0.wakes ≡ k)

  judged : (i new : Bool) (ws : List Access) → ws ≡ [] → (u : St) (word : ℕ) → Same u → toggle word ≡ number p
      → repeated r word ≡ not new → Runs (Judged new) ws (run concrete (verdict {i = i} d e word) u)
  unfolding with_on
  judged i true ws n u word h b y = every-cond (repeated (concrete.get (ep-cell d e) u) word)
      (λ x. differ (sym y ∙ (ap (λ (q : EpCore). repeated q word) (sym h.0) ∙ x)))
      (λ _.
      let v = with_armed 0 (with_tog (flag (is_data1 word)) (concrete.get (ep-cell d e) u)) in
      at_end (
        refl,
        put-get v u h.1.0 refl ∙ (ap (λ (q : EpCore). with_armed 0 (with_tog (flag (is_data1 word)) q)) h.0
            ∙ ap (λ (m : ℕ). with_armed 0 (with_tog m r)) (shown p word b)),
        n,
        (put-steady (ep-cell d e) v u).places ∙ h.1.0,
        h.1.1,
      ))
  judged i false ws n u word h b y = every-cond (repeated (concrete.get (ep-cell d e) u) word)
      (λ _. every_bind {P = λ ws _ t. (concrete.get (ep-cell d e) t ≡ r) × Answered d e p (is_on r.armed) ws
      × (t.0.wakes ≡ k)}
      (every-cond (is_on (concrete.get (ep-cell d e) u).armed)
      (λ a. at_ask tt (λ w t c q. at_ask tt (λ _ t' _ q'. at_end (
        q'.0 ∙ (q.0 ∙ h.0),
        rw (sym (ap (λ (z : EpCore). is_on z.armed) h.0) ∙ a) (record {
          word = ack w;
          writes = ap (λ l. Write (ctrl_of d) e (ack w) ∷ l) n;
          acks = ack-acks w;
          keeps = ack-keeps w ∙ c refl;
        }),
        q'.1.1,
      ))))
      (λ a. at_end (h.0, rw (sym (ap (λ (z : EpCore). is_on z.armed) h.0) ∙ a) n, h.1.1)))
      (λ g _ t x. at_end (refl, x.0, x.1, x.2)))
      (λ x. differ (sym x ∙ (ap (λ (q : EpCore). repeated q word) h.0 ∙ y)))

  pub told : (i new : Bool) (s : St) → Same s → ((word : ℕ) → toggle word ≡ number p → repeated r word ≡ not new)
      → Runs (Judged new) [] (run concrete (toggled {i = i} d e) s)
  told i new s h y = every_bind (looked i 2001 s h)
      (λ g _ t x. at_ask tt (λ word u c q. judged i new g x.0 u word (q.0 ∙ x.1.0, q.1) (c refl)
      (y word (c refl))))

wake-leaves : (d : Dir) (e : ℕ) (cs : List ℕ) (s : St)
    → concrete.get (ep-cell d e) (concrete.act (waken cs) s) ≡ concrete.get (ep-cell d e) s
unfolding ep_on
wake-leaves d e cs s = refl

judges : (r : EpCore) (p : Pid) (new : Bool) → eqb r.tog (number p) ≡ not new → (word : ℕ) → toggle word ≡ number p
    → repeated r word ≡ not new
unfolding repeated
judges r p new h word b = ap (eqb r.tog) (shown p word b) ∙ h

-- the record of a packet that passed is completed by f, and its task is woken
completes : (d : Dir) (e : ℕ) (r : EpCore) (k : Wakes) (p : Pid) (n : ℕ) (f : EpCore → EpCore)
    → ((x : EpState) → plain_of (merged x (f (plain_of x))) ≡ f (plain_of x)) → f (with_armed 0 (with_tog (number p) r))
    ≡ delivered d p n r
    → (new : Bool) (ws : List Access) (b : Bool) (t : St) → Judged d e r k p new ws b t
    → Runs d e r k p (λ ws _ t. Passed d e r k p n new ws t) ws (run {i = true} concrete (when b (do
      modify_ep d e f
      wake d e)) t)
unfolding with_on
completes d e r k p n f same done true ws b t j = every-cond b
    (λ _.
    let v = f (concrete.get (ep-cell d e) t) in
    at_end (
      wake-leaves d e (wake_code d e ∷ []) (concrete.put (ep-cell d e) v t)
          ∙ (put-get d e r k p v t j.3 (same (ep_on t.0 d e)) ∙ (ap f j.1 ∙ done)),
      ap (all_woken (wake_code d e ∷ [])) j.4,
      j.2,
    ))
    (λ z. differ (sym z ∙ j.0))
completes d e r k p n f same done false ws b t j = every-cond b (λ z. differ (sym j.0 ∙ z))
    (λ _. at_end (j.1, j.3, j.2))

-- the record has the bit b as it was, `ts` are the transactions since, of which at most one passed: the chip's bit is
-- another exactly if one did
pub new-if-passed : {d : Dir} (r : EpCore) (b : Pid) (ts : List (Transaction d)) → r.tog ≡ number b → passed b ts ≤ 1
    → eqb r.tog (number (bit_after_all b ts)) ≡ not (eqb (passed b ts) 1)
unfolding repeated is_data1 toggle
new-if-passed r b ts h m = by (bit_after_all b ts) refl
  where
    by : (q : Pid) → bit_after_all b ts ≡ q → eqb r.tog (number (bit_after_all b ts)) ≡ not (eqb (passed b ts) 1)
    by DATA0 e = ap (λ (z : Pid). eqb r.tog (number z)) e ∙ repeated-not-passed r 0 b ts h (ap number (sym e)) m
    by DATA1 e = ap (λ (z : Pid). eqb r.tog (number z)) e ∙ repeated-not-passed r 4 b ts h (ap number (sym e)) m
