-- A word says its answer: different answers have different words
use Rattle.std.specs.Prelude.{◌≡◌, refl, ℕ, ◌+◌, ◌*◌, ◌/◌, ◌%◌, ◌^◌, ◌<◌}
use Rattle.std.proofs.Common.{sym, ap, subst, ◌∙◌, arith}
use Rattle.regs.specs.declared.Reg.{Reg}
use Rattle.regs.specs.declared.Reg.TheVariants.{IntFg, IntSt, MisSt, RxLen, FrameNo, Ctrl, IntEn, DevAd, HostCtrl}
use Rattle.regs.specs.declared.Reg.TheVariants.{EpConfig, EpType, EpBufMod, EpMaxLen, EpTLen, EpRxCtrl, EpTxCtrl}
use Rattle.regs.specs.Registers.{number_of}
use Rattle.regs.specs.declared.Access.{Access}
use Rattle.regs.specs.declared.Access.TheVariants.{Read, Write, Receive, Transmit, Ep0Dma, Wait, Callback}
use Rattle.answer.specs.declared.Step.{Step}
use Rattle.answer.specs.declared.Step.TheVariants.{Refused, Asks, Ends, NotYet, Done, Setup, Shown}
use Rattle.answer.specs.Word.{read_word, write_word, access_word, IsAccessWord, end_word, done_word, shown_word, word_of}
use Rattle.answer.specs.Word.{Encodes}
use Rattle.answer.specs.Parts.{reg_of, write_of, byte_at, half_at, of_kind, step_of, spoken, AccessFits, Fits}

number_lt : (r : Reg) → number_of r < 2 ^ 8
number_lt IntFg = omega arith
number_lt IntSt = omega arith
number_lt MisSt = omega arith
number_lt RxLen = omega arith
number_lt FrameNo = omega arith
number_lt Ctrl = omega arith
number_lt IntEn = omega arith
number_lt DevAd = omega arith
number_lt HostCtrl = omega arith
number_lt EpConfig = omega arith
number_lt EpType = omega arith
number_lt EpBufMod = omega arith
number_lt EpMaxLen = omega arith
number_lt EpTLen = omega arith
number_lt EpRxCtrl = omega arith
number_lt EpTxCtrl = omega arith

register-back : (r : Reg) → reg_of (number_of r) ≡ r
register-back IntFg = refl
register-back IntSt = refl
register-back MisSt = refl
register-back RxLen = refl
register-back FrameNo = refl
register-back Ctrl = refl
register-back IntEn = refl
register-back DevAd = refl
register-back HostCtrl = refl
register-back EpConfig = refl
register-back EpType = refl
register-back EpBufMod = refl
register-back EpMaxLen = refl
register-back EpTLen = refl
register-back EpRxCtrl = refl
register-back EpTxCtrl = refl

-- no register has the number of a buffer's
write-back : (r : Reg) (e x : ℕ) → write_of (number_of r) e x ≡ Write r e x
write-back IntFg e x = refl
write-back IntSt e x = refl
write-back MisSt e x = refl
write-back RxLen e x = refl
write-back FrameNo e x = refl
write-back Ctrl e x = refl
write-back IntEn e x = refl
write-back DevAd e x = refl
write-back HostCtrl e x = refl
write-back EpConfig e x = refl
write-back EpType e x = refl
write-back EpBufMod e x = refl
write-back EpMaxLen e x = refl
write-back EpTLen e x = refl
write-back EpRxCtrl e x = refl
write-back EpTxCtrl e x = refl

-- the parts of each kind's word
read-parts : (n e : ℕ) → n < 2 ^ 8 → e < 2 ^ 8
    → (read_word n e % 2 ^ 4 ≡ 1) × (byte_at (read_word n e) 8 ≡ n) × (byte_at (read_word n e) 16 ≡ e)
read-parts n e hn he = (omega arith, omega arith, omega arith)

write-parts : (n e x : ℕ) → n < 2 ^ 8 → e < 2 ^ 8
    → (write_word n e x % 2 ^ 4 ≡ 2) × (byte_at (write_word n e x) 8 ≡ n) × (byte_at (write_word n e x) 16 ≡ e)
    × (write_word n e x / 2 ^ 32 ≡ x)
write-parts n e x hn he = (omega arith, omega arith, omega arith, omega arith)

-- a write's word says the write
write_word_lem : (n e x : ℕ) → n < 2 ^ 8 → e < 2 ^ 8 → step_of (write_word n e x) ≡ Asks (write_of n e x)
unfolding step_of
write_word_lem n e x hn he =
    let p = write-parts n e x hn he in
    ap (λ k. of_kind k (write_word n e x)) p.0 ∙ (λ i. Asks (write_of (p.1 i) (p.2 i) (p.3 i)))

read_word_lem : (r : Reg) (e : ℕ) → e < 2 ^ 8 → step_of (read_word (number_of r) e) ≡ Asks (Read r e)
unfolding step_of
read_word_lem r e he =
    let p = read-parts (number_of r) e (number_lt r) he in
    ap (λ k. of_kind k (read_word (number_of r) e)) p.0 ∙ (λ i. Asks (Read (reg_of (p.1 i)) (p.2 i)))
    ∙ ap (λ q. Asks (Read q e)) (register-back r)

wait-word : (n : ℕ) → n < 2 ^ 8 → step_of (3 + n * 2 ^ 8) ≡ Asks (Wait n)
unfolding step_of
wait-word n h =
    let k : (3 + n * 2 ^ 8) % 2 ^ 4 ≡ 3 = omega arith in
    let b : byte_at (3 + n * 2 ^ 8) 8 ≡ n = omega arith in
    ap (λ k. of_kind k (3 + n * 2 ^ 8)) k ∙ ap (λ m. Asks (Wait m)) b

refused-word : (n : ℕ) → n < 2 ^ 8 → step_of (n * 2 ^ 8) ≡ Refused n
unfolding step_of
refused-word n h =
    let k : n * 2 ^ 8 % 2 ^ 4 ≡ 0 = omega arith in
    let b : byte_at (n * 2 ^ 8) 8 ≡ n = omega arith in
    ap (λ k. of_kind k (n * 2 ^ 8)) k ∙ ap Refused b

-- the lowest half word
low_half : (n m : ℕ) → n < 2 ^ 16 → (n + m * 2 ^ 16) % 2 ^ 16 ≡ n
low_half n m h = omega arith

end-word : (n k : ℕ) → n < 2 ^ 16 → k < 2 ^ 8 → step_of (end_word n k) ≡ Ends n k
unfolding step_of end_word
end-word n k hn hk =
    let s : end_word n k % 2 ^ 4 ≡ 5 = omega arith in
    let m : end_word n k / 2 ^ 8 ≡ n + k * 2 ^ 16 = omega arith in
    let r : half_at (end_word n k) 8 ≡ n = ap (λ m. m % 2 ^ 16) m ∙ low_half n k hn in
    let o : end_word n k / 2 ^ 24 ≡ k = omega arith in
    let l : k % 2 ^ 8 ≡ k = omega arith in
    let c : byte_at (end_word n k) 24 ≡ k = ap (λ m. m % 2 ^ 8) o ∙ l in
    ap (λ s. of_kind s (end_word n k)) s ∙ (λ i. Ends (r i) (c i))

done-word : (n : ℕ) → n < 2 ^ 16 → step_of (done_word n) ≡ Done n
unfolding step_of
done-word n h =
    let k : done_word n % 2 ^ 4 ≡ 7 = omega arith in
    let b : half_at (done_word n) 8 ≡ n = omega arith in
    ap (λ k. of_kind k (done_word n)) k ∙ ap Done b

shown-word : (at n : ℕ) → n < 2 ^ 16 → step_of (shown_word at n) ≡ Shown at n 0
unfolding step_of
shown-word at n h =
    let k : shown_word at n % 2 ^ 4 ≡ 8 = omega arith in
    let m : shown_word at n / 2 ^ 8 ≡ n + (at * 2 ^ 8) * 2 ^ 16 = omega arith in
    let b : half_at (shown_word at n) 8 ≡ n = ap (λ m. m % 2 ^ 16) m ∙ low_half n _ h in
    let o : shown_word at n / 2 ^ 32 ≡ at = omega arith in
    ap (λ k. of_kind k (shown_word at n)) k ∙ (λ i. Shown (o i) (b i) 0)

access-word : (q : Access) → AccessFits q → step_of (access_word q) ≡ Asks q
unfolding step_of access_word
access-word (Read r e) h = read_word_lem r e h
access-word (Write r e x) h = write_word_lem (number_of r) e x (number_lt r) h.0 ∙ ap Asks (write-back r e x)
access-word (Receive e x) h = write_word_lem 15 e x (omega arith) h.0
access-word (Transmit e x) h = write_word_lem 16 e x (omega arith) h.0
access-word (Ep0Dma x) h = write_word_lem 12 0 x (omega arith) (omega arith)
access-word (Wait n) h = wait-word n h
access-word Callback h = refl

-- the answer comes back
step-word : (step : Step) → Fits step → step_of (word_of step) ≡ spoken step
unfolding word_of step_of
step-word (Refused n) h = refused-word n h
step-word (Asks q) h = access-word q h
step-word (Ends n k) h = end-word n k h.0 h.1
step-word NotYet h = refl
step-word (Done n) h = done-word n h
step-word (Setup low high) h = done-word 8 (omega arith)
step-word (Shown at n stamp) h = shown-word at n h.1

-- the word of an access by another name
pub access-says : (r : ℕ) (q p : Access) → q ≡ p → AccessFits p → r ≡ access_word p → IsAccessWord r q
access-says r q p e h k = (k ∙ ap access_word (sym e), subst AccessFits (sym e) h)

-- that of a register's read, and of its write, made of the register's number
pub read-says : (r n : ℕ) (q : Access) (g : Reg) (e : ℕ) → q ≡ Read g e → e < 2 ^ 8 → n ≡ number_of g → r ≡ read_word n e
    → IsAccessWord r q
unfolding access_word
read-says r n q g e p h k w = access-says r q (Read g e) p h (w ∙ ap (λ (m : ℕ). read_word m e) k)

pub write-says : (r n : ℕ) (q : Access) (g : Reg) (e x : ℕ) → q ≡ Write g e x → (e < 2 ^ 8) × (x < 2 ^ 32) → n
    ≡ number_of g → r ≡ write_word n e x
    → IsAccessWord r q
unfolding access_word
write-says r n q g e x p h k w = access-says r q (Write g e x) p h (w ∙ ap (λ (m : ℕ). write_word m e x) k)

-- the word of an answer by another name
pub says : (r : ℕ) (step t : Step) → step ≡ t → Fits t → r ≡ word_of t → Encodes r step
unfolding Encodes
says r step t e h k = (k ∙ ap word_of (sym e), ap step_of k ∙ (step-word t h ∙ ap spoken (sym e)))

-- a word says one answer
pub says-one : (r : ℕ) (a b : Step) → Encodes r a → Encodes r b → spoken a ≡ spoken b
unfolding Encodes
says-one r a b x y = sym x.1 ∙ y.1

-- of an answer that its word says whole
pub said : (r : ℕ) (step : Step) → Encodes r step → spoken step ≡ step → step_of r ≡ step
unfolding Encodes
said r step h e = h.1 ∙ e

pub sound : (r : ℕ) (step : Step) → Encodes r step → spoken step ≡ step → Encodes r (step_of r)
sound r step h e = subst (λ (z : Step). Encodes r z) (sym (said r step h e)) h

-- a refusal's
pub refused-sound : (n : ℕ) → n < 2 ^ 8 → Encodes (n * 2 ^ 8) (Refused n)
unfolding word_of
refused-sound n h = says (n * 2 ^ 8) (Refused n) (Refused n) refl h refl
