-- Laws on answers and on what the book is told. But for its address an answer says the same (`tells-same`); an access
-- that is told changes the slot of one OUT page or the source of one IN page (`fed-elim`)
use Rattle.std.specs.Prelude.{Bool, true, false, ◌≡◌, refl, ℕ, ◌%◌, eqb}
use Rattle.std.proofs.Common.{true≢false, ap, sym, ◌∙◌, eq-eqb}
use Rattle.regs.specs.declared.Access.{Access}
use Rattle.regs.specs.declared.Access.TheVariants.{Read, Write, Receive, Transmit, Ep0Dma, Wait, Callback}
use Rattle.script.specs.Answers.{Answer}
use Rattle.script.specs.Machine.{Ans, ended, handed, told, blank, blank_a, fed}
use Rattle.proof_book.specs.Pages.{OutPage, InPage, Pages, with_out, with_in}
use Rattle.proof_book.specs.Book.{slot_told, source_told, book}
use Rattle.proof_book.specs.FrameLaws.{at-elim}
use Rattle.proof_book.specs.FrontPage.{addressed, loading}
use Rattle.proof_book.specs.Others.{hands_out, releasing}
use Rattle.proof_book.specs.BookDecidesLaws.{sends_to}

-- ---- but for its address

-- f looks at no address
abbrev pub IgnoresAddresses : {X : Type 0} → (Access → X) → Type 0
IgnoresAddresses f =
    ((e x : ℕ) → f (Receive e 0) ≡ f (Receive e x))
    × ((e x : ℕ) → f (Transmit e 0) ≡ f (Transmit e x)) × ((x : ℕ) → f (Ep0Dma 0) ≡ f (Ep0Dma x))

pub blank-access : {X : Type 0} (f : Access → X) → IgnoresAddresses f → (q : Access) → f (blank q) ≡ f q
blank-access f h (Read r e) = refl
blank-access f h (Write r e v) = refl
blank-access f h (Receive e x) = h.0 e x
blank-access f h (Transmit e x) = h.1 e x
blank-access f h (Ep0Dma x) = h.2 x
blank-access f h (Wait n) = refl
blank-access f h Callback = refl

blank-answer : {X : Type 0} (f : Ans Answer → X) → IgnoresAddresses (λ q. f (handed q)) → (a : Ans Answer)
    → f (blank_a a) ≡ f a
blank-answer f h (ended z) = refl
blank-answer f h (handed q) = blank-access (λ q. f (handed q)) h q
blank-answer f h (told n) = refl

-- what is read off an answer without its address is the same of two answers that are the same but for it
pub tells-same : {X : Type 0} (f : Ans Answer → X) → IgnoresAddresses (λ q. f (handed q)) → (a b : Ans Answer)
    → blank_a a ≡ blank_a b → f a ≡ f b
tells-same f h a b s = sym (blank-answer f h a) ∙ ap f s ∙ blank-answer f h b

-- whether an access is handed out
abbrev pub is_handed : Ans Answer → Bool
is_handed a = hands_out (λ q. true) a

pub handed-same : (a b : Ans Answer) → blank_a a ≡ blank_a b → is_handed a ≡ is_handed b
handed-same = tells-same is_handed (λ _ _. refl, λ _ _. refl, λ _. refl)

pub releasing-same : (a b : Ans Answer) → blank_a a ≡ blank_a b → releasing a ≡ releasing b
releasing-same = tells-same releasing (λ _ _. refl, λ _ _. refl, λ _. refl)

-- a transmit address of IN e
abbrev pub sending : Ans Answer → ℕ → Bool
sending a e = hands_out (λ q. sends_to q e) a

module _ (e : ℕ) where
  pub addressed-same : (a b : Ans Answer) → blank_a a ≡ blank_a b → addressed a e ≡ addressed b e
  addressed-same = tells-same (λ z. addressed z e) (λ _ _. refl, λ _ _. refl, λ _. refl)

  pub sending-same : (a b : Ans Answer) → blank_a a ≡ blank_a b → sending a e ≡ sending b e
  sending-same = tells-same (λ z. sending z e) (λ _ _. refl, λ _ _. refl, λ _. refl)

  pub loading-same : (a b : Ans Answer) → blank_a a ≡ blank_a b → loading a e ≡ loading b e
  loading-same = tells-same (λ z. loading z e) (λ _ _. refl, λ _ _. refl, λ _. refl)

-- ---- what the book is told

pub fed-elim : (P : Pages → Type 0) (a : Ans Answer) (t : Pages) → P t
    → ((e x : ℕ) → a ≡ handed (Receive e x) → P (with_out t e (slot_told (t.outs e) x)))
    → ((e x : ℕ) → a ≡ handed (Transmit e x) → P (with_in t e (source_told (t.ins e) x))) → P (fed book a t)
fed-elim P (ended z) t h o i = h
fed-elim P (handed (Read r e)) t h o i = h
fed-elim P (handed (Write r e v)) t h o i = h
fed-elim P (handed (Receive e x)) t h o i = o e x refl
fed-elim P (handed (Transmit e x)) t h o i = i e x refl
fed-elim P (handed (Ep0Dma x)) t h o i = h
fed-elim P (handed (Wait n)) t h o i = h
fed-elim P (handed Callback) t h o i = h
fed-elim P (told n) t h o i = h

pub fed-kept : (a : Ans Answer) (t : Pages) → (fed book a t).kept ≡ t.kept
fed-kept a t = fed-elim (λ u. u.kept ≡ t.kept) a t refl (λ e x _. refl) (λ e x _. refl)

same_number : (e f : ℕ) → e % 16 ≡ f % 16 → eqb (f % 16) (e % 16) ≡ true
same_number e f h = ap (λ (n : ℕ). eqb (f % 16) n) h ∙ eq-eqb (f % 16) (f % 16) refl

-- the page of another endpoint
pub fed-out : (a : Ans Answer) (t : Pages) (e : ℕ) → addressed a e ≡ false → (fed book a t).outs e ≡ t.outs e
fed-out a t e g = fed-elim (λ u. u.outs e ≡ t.outs e) a t refl
    (λ f x q. at-elim (λ (p : OutPage). p ≡ t.outs e) f e (slot_told (t.outs f) x) t.outs
    (λ k. absurd (true≢false (sym (same_number e f k) ∙ sym (ap (λ (z : Ans Answer). addressed z e) q) ∙ g)))
    (λ _. refl))
    (λ f x _. refl)

pub fed-in : (a : Ans Answer) (t : Pages) (e : ℕ) → sending a e ≡ false → (fed book a t).ins e ≡ t.ins e
fed-in a t e g = fed-elim (λ u. u.ins e ≡ t.ins e) a t refl
    (λ f x _. refl)
    (λ f x q. at-elim (λ (p : InPage). p ≡ t.ins e) f e (source_told (t.ins f) x) t.ins
    (λ k. absurd (true≢false (sym (same_number f e (sym k)) ∙ sym (ap (λ (z : Ans Answer). sending z e) q) ∙ g)))
    (λ _. refl))
