-- The script's data toggles are those of USB 2.0, 8.6
use Rattle.std.specs.Prelude.{Bool, true, false, not, cond, List, [], ◌∷◌, ◌≡◌, refl, ℕ, zero, suc, ◌+◌, ◌≤◌, eqb}
use Rattle.std.proofs.Common.{ap, ◌∙◌, arith}
use Rattle.regs.specs.declared.Dir.{Dir}
use Rattle.regs.specs.declared.Dir.TheVariants.{Out}
use Rattle.regs.specs.ControlWord.{toggle, is_data1}
use Rattle.script.specs.Cells.{EpCore}
use Rattle.script.specs.Statics.{flag}
use Rattle.script.specs.Handler.{repeated}
use Rattle.script.specs.Usb20Toggles.{Pid, DATA0, DATA1, other, Transaction, received, passes}
use Rattle.script.specs.Usb20Toggles.{bit_after, bit_after_all, count, passed}

pub apart : {A : Type 0} → true ≡ false → A
apart h = let z : ◌≡◌ {A = ℕ} 0 1 = cc in absurd (omega arith)

-- a bit as the control word and the driver's record have it
abbrev pub number : Pid → ℕ
number DATA0 = 0
number DATA1 = 1

-- ---- of the protocol itself

abbrev pub times : ℕ → Pid → Pid
times zero b = b
times (suc n) b = times n (other b)

-- the bit has changed once for each new packet
one_more : (b : Pid) (x : Bool) (n : ℕ) → times n (cond x (other b) b) ≡ times (count x + n) b
one_more b true n = let e : suc n ≡ 1 + n = omega arith in ap (λ (m : ℕ). times m b) e
one_more b false n = let e : n ≡ 0 + n = omega arith in ap (λ (m : ℕ). times m b) e

pub bit-counts : {d : Dir} (b : Pid) (ts : List (Transaction d)) → bit_after_all b ts ≡ times (passed b ts) b
bit-counts b [] = refl
bit-counts b (t ∷ ts) = bit-counts (bit_after b t) ts ∙ one_more b (passes b t) (passed (bit_after b t) ts)

-- however often a packet comes again after lost ACKs, it passes once
abbrev pub again : ℕ → Pid → List (Transaction Out)
again zero p = []
again (suc n) p = received p ∷ again n p

not-again : (n : ℕ) (p : Pid) → passed (other p) (again n p) ≡ 0
not-again zero p = refl
not-again (suc n) DATA0 = let h = not-again n DATA0 in omega arith
not-again (suc n) DATA1 = let h = not-again n DATA1 in omega arith

pub lost-acks : (n : ℕ) (p : Pid) → passed p (again (suc n) p) ≡ 1
lost-acks n DATA0 = let h = not-again n DATA0 in omega arith
lost-acks n DATA1 = let h = not-again n DATA1 in omega arith

-- ---- the record and the chip's toggle

pub shown : (p : Pid) (w : ℕ) → toggle w ≡ number p → flag (is_data1 w) ≡ number p
unfolding is_data1
shown DATA0 w e = ap (λ n. flag (eqb n 1)) e
shown DATA1 w e = ap (λ n. flag (eqb n 1)) e

kept : (b : Pid) (n : ℕ) → n ≤ 1 → eqb (number b) (number (times n b)) ≡ not (eqb n 1)
kept DATA0 zero h = refl
kept DATA1 zero h = refl
kept DATA0 (suc zero) h = refl
kept DATA1 (suc zero) h = refl
kept b (suc (suc n)) h = absurd (omega arith)

-- the record has the bit as it was, the word the bit after the transactions since, of which at most one passed: a
-- repeat is what did not pass
pub repeated-not-passed : {d : Dir} (s : EpCore) (word : ℕ) (b : Pid) (ts : List (Transaction d))
    → s.tog ≡ number b → toggle word ≡ number (bit_after_all b ts) → passed b ts ≤ 1
    → repeated s word ≡ not (eqb (passed b ts) 1)
unfolding repeated
repeated-not-passed s word b ts r w h =
    ap (λ n. eqb n (flag (is_data1 word))) r ∙ ap (λ n. eqb (number b) n) (shown (bit_after_all b ts) word w)
    ∙ ap (λ p. eqb (number b) (number p)) (bit-counts b ts) ∙ kept b (passed b ts) h
