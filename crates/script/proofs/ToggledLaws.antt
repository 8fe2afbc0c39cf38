-- `toggled` answers whether a new packet passed, records the bit, and acknowledges a repeat again
use Rattle.std.specs.Prelude.{Bool, true, false, not, ◌&&◌, List, [], ◌∷◌, ◌≡◌, refl}
use Rattle.std.proofs.Common.{ap, sym, ◌∙◌, arith}
use Prim.Native.Nat.{ℕ, zero, suc, ◌≤◌}
use Rattle.regs.specs.declared.Access.{Access}
use Rattle.regs.specs.declared.Access.TheVariants.{Read, Write}
use Rattle.regs.specs.declared.Dir.{Dir}
use Rattle.regs.specs.Registers.{ctrl_of}
use Rattle.regs.specs.ControlWord.{ACK, response, toggle, with_response, ack, is_data1}
use Rattle.regs.specs.MisStatus.{sie_free}
use Rattle.script.specs.Tree as tree
use Rattle.script.specs.Cells.{EpCore, ep-cell}
use Rattle.script.specs.Script.{Ops, run}
use Rattle.script.specs.Statics.{is_on, flag, with_armed, with_tog}
use Rattle.script.specs.Handler.{looks, repeated, verdict}
use Rattle.script.specs.Every.{on_write, Chip, Every, at_end, at_ask}
use Rattle.script.specs.EveryLaws.{every_bind, every-cond}
use Rattle.script.specs.Usb20Toggles.{Pid}
use Rattle.script.specs.TogglesLaws.{apart, number, shown}

pub ack-keeps : (w : ℕ) → toggle (ack w) ≡ toggle w
unfolding ack with_response response toggle
ack-keeps w = omega arith

pub ack-acks : (w : ℕ) → response (ack w) ≡ ACK
unfolding ack with_response response
ack-acks w = omega arith

-- the writes handed out, the last first
abbrev pub written : List Access → Access → List Access
written ws q = on_write (λ r e v. Write r e v ∷ ws) ws q

-- the chip's toggle of the endpoint's direction is the sequence bit p
abbrev pub toggling : Dir → ℕ → Pid → Chip
toggling d e p = record {
  Holds = List Access;
  Brings = λ ws q v. q ≡ Read (ctrl_of d) e → toggle v ≡ number p;
  after
      = written;
}

-- the endpoint's record stays as it is between two accesses, and so does K of the state
abbrev pub KeepsRecord : {S : Type 0} → (S → Type 0) → Ops S → Dir → ℕ → S → S → Type 0
KeepsRecord K O d e s t = (O.get (ep-cell d e) t ≡ O.get (ep-cell d e) s) × K t

-- `armed` and `tog` of the endpoint's record are assigned, where K holds of the state
abbrev pub Assigns : {S : Type 0} → (S → Type 0) → Ops S → Dir → ℕ → Type 0
Assigns {S = S} K O d e = (n : ℕ) (s : S) → K s
    → let r = with_armed 0 (with_tog n (O.get (ep-cell d e) s)) in O.get (ep-cell d e) (O.put (ep-cell d e) r s) ≡ r

-- ACK again, with the toggle as it is: one write
pub record AcksAgain (d : Dir) (e : ℕ) (p : Pid) (ws : List Access) : Type 0 where
  pub word : ℕ
  pub writes : ws ≡ (Write (ctrl_of d) e word ∷ [])
  pub acks : response word ≡ ACK
  pub keeps : toggle word ≡ number p

abbrev pub Answered : Dir → ℕ → Pid → Bool → List Access → Type 0
Answered d e p true ws = AcksAgain d e p ws
Answered d e p false ws = ws ≡ []

abbrev pub record_after : Pid → Bool → EpCore → EpCore
record_after p true r = with_armed 0 (with_tog (number p) r)
record_after p false r = r

-- of an endpoint whose record was r: whether a packet passed, the bit now
pub record Toggled {S : Type 0} (O : Ops S) (d : Dir) (e : ℕ) (r : EpCore) (p : Pid) (new : Bool) (ws : List Access)
    (told : Bool) (t : S) : Type 0 where
  pub answer : told ≡ new
  pub recorded : O.get (ep-cell d e) t ≡ record_after p new r
  pub handshake : Answered d e p (not new && is_on r.armed) ws

module _ {S : Type 0} (K : S → Type 0) (O : Ops S) (d : Dir) (e : ℕ) (assigns : Assigns K O d e) (r : EpCore)
    (p : Pid) where
  abbrev Runs : {A : Type 0} → (List Access → A → S → Type 0) → List Access → tree.Out S A → Type 0
  Runs P ws o = Every (toggling d e p) (KeepsRecord K O d e) (λ _. Unit {0}) P ws o

  looked : (i : Bool) (n : ℕ) (s : S) → O.get (ep-cell d e) s ≡ r
      → Runs (λ ws _ t. (ws ≡ []) × (O.get (ep-cell d e) t ≡ r)) [] (run O (looks {i = i} n) s)
  unfolding looks
  looked i zero s h = at_end (refl, h)
  looked i (suc n) s h = at_ask tt (λ v t _ k. every-cond (sie_free v) (λ _. at_end (refl, k.0 ∙ h))
      (λ _. looked i n t (k.0 ∙ h)))

  -- no packet passed
  repeats : (i : Bool) (ws : List Access) → ws ≡ [] → (u : S) (word : ℕ) → O.get (ep-cell d e) u ≡ r
      → repeated r word ≡ true → Runs (Toggled O d e r p false) ws (run O (verdict {i = i} d e word) u)
  repeats i ws n u word h y = every-cond (repeated (O.get (ep-cell d e) u) word)
      (λ _. every_bind {P = λ ws _ t. (O.get (ep-cell d e) t ≡ r) × Answered d e p (is_on r.armed) ws}
      (every-cond (is_on (O.get (ep-cell d e) u).armed)
      (λ a. at_ask tt (λ w t b k. at_ask tt (λ _ t' _ k'. at_end (
        k'.0 ∙ (k.0 ∙ h),
        rw (sym (ap (λ (z : EpCore). is_on z.armed) h) ∙ a) (record {
          word = ack w;
          writes = ap (λ l. Write (ctrl_of d) e (ack w) ∷ l) n;
          acks = ack-acks w;
          keeps = ack-keeps w ∙ b refl;
        }),
      ))))
      (λ a. at_end (h, rw (sym (ap (λ (z : EpCore). is_on z.armed) h) ∙ a) n)))
      (λ g _ t x. at_end (record { answer = refl; recorded = x.0; handshake = x.1 })))
      (λ z. apart (sym y ∙ (ap (λ (q : EpCore). repeated q word) (sym h) ∙ z)))

  -- one passed
  renews : (i : Bool) (ws : List Access) → ws ≡ [] → (u : S) (word : ℕ) → K u → O.get (ep-cell d e) u ≡ r → toggle word
      ≡ number p → repeated r word ≡ false → Runs (Toggled O d e r p true) ws (run O (verdict {i = i} d e word) u)
  renews i ws n u word z h b y = every-cond (repeated (O.get (ep-cell d e) u) word)
      (λ x. apart (sym x ∙ (ap (λ (q : EpCore). repeated q word) h ∙ y)))
      (λ _. at_end (record {
        answer = refl;
        recorded = assigns _ u z ∙ (ap (λ (q : EpCore). with_armed 0 (with_tog (flag (is_data1 word)) q)) h
            ∙ ap (λ (m : ℕ). with_armed 0 (with_tog m r)) (shown p word b));
        handshake = n;
      }))

  judged : (i : Bool) (new : Bool) (ws : List Access) → ws ≡ [] → (u : S) (word : ℕ) → K u → O.get (ep-cell d e) u ≡ r
      → toggle word ≡ number p → repeated r word ≡ not new
      → Runs (Toggled O d e r p new) ws (run O (verdict {i = i} d e word) u)
  judged i true ws n u word z h b y = renews i ws n u word z h b y
  judged i false ws n u word z h b y = repeats i ws n u word h y
