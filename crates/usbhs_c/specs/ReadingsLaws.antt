-- A word asks for the next reading exactly if it is that reading's; so the calls are made in turn. Assumes nothing.
use Rattle.std.specs.Prelude.{Bool, ◌&&◌, List, [], ◌∷◌, ◌≡◌, ℕ, zero, suc, ◌+◌, ◌<◌, eqb}
use Rattle.std.proofs.Math.Bool.{true, false}
use Rattle.std.proofs.Common.{true≢false, sym, ap, subst, ◌∙◌, arith, eqb-true}
use Rattle.std.proofs.Math.Path.{refl}
use Rattle.regs.specs.declared.Access.{Access}
use Rattle.regs.specs.declared.Access.TheVariants.{Read, Write, Receive, Transmit, Ep0Dma, Wait, Callback}
use Rattle.regs.specs.declared.Reg.{Reg}
use Rattle.regs.specs.declared.Reg.TheVariants.{IntFg, IntSt, MisSt, RxLen, FrameNo, Ctrl, IntEn, DevAd, HostCtrl}
use Rattle.regs.specs.declared.Reg.TheVariants.{EpConfig, EpType, EpBufMod, EpMaxLen, EpTLen, EpRxCtrl, EpTxCtrl}
use Rattle.regs.specs.Registers.{number_of}
use Rattle.state.specs.State.{view}
use Rattle.script.specs.Every.{same_reg}
use Rattle.script.specs.Calls.{interrupt}
use Rattle.script.specs.Machine.{Buf, begin, continue}
use Rattle.answer.specs.declared.Step.{Step}
use Rattle.answer.specs.declared.Step.TheVariants.{Refused, Asks, Ends, NotYet, Done, Setup, Shown}
use Rattle.machine.specs.Suspended.{machine_of, drive, answer_of, SavedByAnswer}
use Rattle.answer.specs.Word.{read_word, access_word, word_of, Encodes, Worded}
use Rattle.answer.specs.Parts.{step_of, spoken}
use Rattle.readings.specs.Readings.{Reading, reading, Lent, lent, Continues, When, Over, Brings, BeginsWith}
use Rattle.readings.specs.Readings.{ContinuesWith}
use Rattle.readings.specs.Readings.{asks_for, reads_of, first_look, further_looks}
use Rattle.readings.specs.declared.Entered.{Entered}
use Rattle.readings.specs.declared.Entered.TheVariants as entered
use Rattle.readings.specs.declared.Passed.{Passed}
use Rattle.readings.specs.declared.Passed.TheVariants as passed
use Rattle.readings.specs.declared.Served.{Served}
use Rattle.readings.specs.declared.Served.TheVariants as served
use Rattle.readings.specs.Passing.{EntersAs, PassesAs, ServesAs, FramesAs, Looked}
use Rattle.usbhs_c.specs.Calls.{Answers, AnswersCharged}
use Rattle.usbhs_c.specs.Readings.{AnswersInterrupt, AnswersTransfer, AnswersInterruptTransfer, AnswersReleased}
use Rattle.usbhs_c.specs.Readings.{AnswersLooks}

both : (x y : Bool) → (x && y) ≡ true → (x ≡ true) × (y ≡ true)
both true y h = (refl, h)
both false y h = absurd (true≢false (sym h))

-- a reading that is asked for has that word
asked-word : (r : Reg) (q : Access) → reads_of r q ≡ true → access_word q ≡ read_word (number_of r) 0
unfolding access_word
asked-word r (Read p e) h =
    let k = both (same_reg r p) (eqb e 0) h in
    let same = eqb-true (number_of r) (number_of p) k.0 in
    let zero = eqb-true e 0 k.1 in
    ap (λ (n : ℕ). read_word n e) (sym same) ∙ ap (read_word (number_of r)) zero
asked-word r (Write p e x) h = absurd (true≢false (sym h))
asked-word r (Receive e x) h = absurd (true≢false (sym h))
asked-word r (Transmit e x) h = absurd (true≢false (sym h))
asked-word r (Ep0Dma x) h = absurd (true≢false (sym h))
asked-word r (Wait n) h = absurd (true≢false (sym h))
asked-word r Callback h = absurd (true≢false (sym h))

asked-step : (r : Reg) (x : Step) → asks_for r x ≡ true → word_of x ≡ read_word (number_of r) 0
unfolding word_of
asked-step r (Asks q) h = asked-word r q h
asked-step r (Refused n) h = absurd (true≢false (sym h))
asked-step r (Ends n k) h = absurd (true≢false (sym h))
asked-step r NotYet h = absurd (true≢false (sym h))
asked-step r (Done n) h = absurd (true≢false (sym h))
asked-step r (Setup low high) h = absurd (true≢false (sym h))
asked-step r (Shown at n stamp) h = absurd (true≢false (sym h))

-- what the word leaves out of an answer, no reading has
as-spoken : (r : Reg) (x : Step) → asks_for r x ≡ asks_for r (spoken x)
as-spoken r (Refused n) = refl
as-spoken r (Asks q) = refl
as-spoken r (Ends n k) = refl
as-spoken r NotYet = refl
as-spoken r (Done n) = refl
as-spoken r (Setup low high) = refl
as-spoken r (Shown at n stamp) = refl

-- a reading's word says the reading
reads-back : (r : Reg) → asks_for r (step_of (read_word (number_of r) 0)) ≡ true
unfolding step_of
reads-back IntFg = refl
reads-back IntSt = refl
reads-back MisSt = refl
reads-back RxLen = refl
reads-back FrameNo = refl
reads-back Ctrl = refl
reads-back IntEn = refl
reads-back DevAd = refl
reads-back HostCtrl = refl
reads-back EpConfig = refl
reads-back EpType = refl
reads-back EpBufMod = refl
reads-back EpMaxLen = refl
reads-back EpTLen = refl
reads-back EpRxCtrl = refl
reads-back EpTxCtrl = refl

module _ (w : ℕ) (x : Step) (r : Reg) (says : Encodes w x) where
  -- it is the reading's word
  asks : w ≡ read_word (number_of r) 0 → asks_for r x ≡ true
  unfolding Encodes
  asks e = as-spoken r x ∙ (ap (asks_for r) (sym says.1) ∙ (ap (λ (n : ℕ). asks_for r (step_of n)) e ∙ reads-back r))

  -- it is not
  asks-not : (w ≡ read_word (number_of r) 0 → ⊥) → asks_for r x ≡ false
  unfolding Encodes
  asks-not n = by (asks_for r x) refl
    where
      by : (y : Bool) → asks_for r x ≡ y → y ≡ false
      by true h = absurd (n (says.0 ∙ asked-step r x h))
      by false h = refl

-- ---- readings brought in turn

-- a continue, by what its word says
abbrev pub Continued : ℕ → ℕ → ℕ → Lent → Lent → Type 0
Continued w i v l l' = Worded w (λ y. Continues i v l y l')

-- as its contract has it
pub continued : (w i v : ℕ) (l l' : Lent)
    → AnswersCharged w i (continue v) l.bytes l'.bytes l.slots l'.slots l.time l'.time
    → Continued w i v l l'
continued w i v l l' h = (h.0, h.1, record { did = h.2.0; kept = h.2.1.0; saves = h.2.1.1 })

module _ (i : ℕ) (r : Reg) (v : ℕ) (vs : List Reading) (x : Step) (l : Lent) (y : Step) (l' : Lent) where
  more : asks_for r x ≡ true → (z : Step) (m : Lent) → Continues i v l z m → Brings i vs z m y l'
      → Brings i (reading r v ∷ vs) x l y l'
  more h z m c k =
      subst (λ (b : Bool). When b ((z : Step) × (m : Lent) × Continues i v l z m × Brings i vs z m y l')
      (Over x l y l')) (sym h) (z, m, c, k)

  no_more : asks_for r x ≡ false → Over x l y l' → Brings i (reading r v ∷ vs) x l y l'
  no_more h k = subst (λ (b : Bool). When b ((z : Step) × (m : Lent) × Continues i v l z m × Brings i vs z m y l')
      (Over x l y l')) (sym h) k

-- a reading and those after it, after a word that says x
module _ (i : ℕ) (r : Reg) (v : ℕ) (vs : List Reading) (word : ℕ) (x : Step) (says : Encodes word x) where
  abbrev After : ℕ → Lent → Lent → Type 0
  After w l l' = Worded w (λ y. Brings i (reading r v ∷ vs) x l y l')

  -- it asks for another
  pub not-brought : (l : Lent) → (word ≡ read_word (number_of r) 0 → ⊥) → After word l l
  not-brought l n = (x, says, no_more i r v vs x l x l (asks-not word x r says n) (refl, refl))

  -- for this one; f: those after it
  pub brought : word ≡ read_word (number_of r) 0 → (w z : ℕ) (l m l' : Lent) → Continued w i v l m
      → ((y : Step) → Encodes w y → Worded z (λ y'. Brings i vs y m y' l')) → After z l l'
  brought it-is w z l m l' c f =
      let k = f c.0 c.1 in
      (k.0, k.1, more i r v vs x l k.0 l' (asks word x r says it-is) c.0 m c.2 k.2)

-- the last one
pub last-brought : (i : ℕ) (r : Reg) (v word : ℕ) (x : Step) → Encodes word x → word ≡ read_word (number_of r) 0
    → (w : ℕ) (l l' : Lent) → Continued w i v l l' → Worded w (λ y. Brings i (reading r v ∷ []) x l y l')
last-brought i r v word x says it-is w l l' c =
    (c.0, c.1, more i r v [] x l c.0 l' (asks word x r says it-is) c.0 l' c.2 (refl, refl))

-- ---- the calls

-- the begin, and the readings one by one; m: what it was lent, left unchanged
begun-with : (w i : ℕ) (vs : List Reading) (l m : Lent) → m ≡ l → (word : ℕ) (ys : List ℕ) (l' : Lent)
    → Answers word (begin interrupt) m.bytes ys
    → ((x : Step) → Encodes word x → Worded w (λ y. Brings i vs x (lent ys l.slots l.time) y l'))
    → Worded w (λ y. BeginsWith i vs l y l')
begun-with w i vs l m same word ys l' b f =
    let k = f b.0 b.1 in
    let did = subst (λ (z : Lent). ((a c : Buf) → (answer_of b.0 [] (view ys), machine_of ys c)
    ≡ drive (begin interrupt) (machine_of z.bytes a) c))
    same b.2.0 in
    let saves = subst (λ (z : Lent). SavedByAnswer b.0 z.bytes ys) same b.2.1 in (
      k.0,
      k.1,
      (
        b.0,
        lent ys l.slots l.time,
        record { did = did; saves = saves; slots = refl; time = refl },
        k.2,
      ),
    )

-- as the function that passes over them left it
module _ (w i frame flags : ℕ) (n : Entered) (l m : Lent) (h : EntersAs n i frame flags l m) where
  abbrev EnteredAs : Entered → Type 0
  EnteredAs z = EntersAs z i frame flags l m

  -- the interrupt stands at a transfer
  pub at-transfer : n ≡ entered.Mis → Encodes w (Asks (Read MisSt 0)) → AnswersInterrupt w i frame flags l m
  at-transfer e says =
      let k = subst EnteredAs e h in (
        Asks (Read MisSt 0),
        says,
        (
          Asks (Read FrameNo 0),
          k.1.0,
          k.1.1,
          (Asks (Read IntFg 0), k.0, k.1.2, (Asks (Read MisSt 0), m, k.2, (refl, refl))),
        ),
      )

  -- int_fg is left to a continue
  pub at-flags : n ≡ entered.Flags → (l' : Lent) → Continued w i flags m l' → AnswersInterrupt w i frame flags l l'
  at-flags e l' c =
      let k = subst EnteredAs e h in (
        c.0,
        c.1,
        (Asks (Read FrameNo 0), k.0, k.1, (Asks (Read IntFg 0), m, k.2, (c.0, l', c.2, (refl, refl)))),
      )

  -- one by one
  pub begun : n ≡ entered.No → (word : ℕ) (ys : List ℕ) (l' : Lent) → Answers word (begin interrupt) m.bytes ys
      → ((x : Step) → Encodes word x
      → Worded w (λ y. Brings i (reading FrameNo frame ∷ reading IntFg flags ∷ []) x (lent ys l.slots l.time) y
      l'))
      → AnswersInterrupt w i frame flags l l'
  begun e word ys l' b f = begun-with w i (reading FrameNo frame ∷ reading IntFg flags ∷ []) l m (subst EnteredAs e h)
      word ys l' b f

module _ (w i mis st len : ℕ) (n : Passed) (l m : Lent) (h : PassesAs n i mis st len l m) where
  abbrev PassedAs : Passed → Type 0
  PassedAs z = PassesAs z i mis st len l m

  -- a transfer came through
  pub through : n ≡ passed.Word w → AnswersTransfer w i mis st len l m
  through e =
      let k = subst PassedAs e h in
      let t = k.2 in
      (k.0, k.1, (Asks (Read IntSt 0), t.0, t.2, (Asks (Read RxLen 0), t.1, t.3, (k.0, m, t.4, (refl, refl)))))

  -- one by one
  pub gone_on : n ≡ passed.No → (word : ℕ) (k l' : Lent) → Continued word i mis m k
      → ((x : Step) → Encodes word x → Worded w (λ y. Brings i (reading IntSt st ∷ reading RxLen len ∷ []) x k y l'))
      → AnswersTransfer w i mis st len l l'
  gone_on e word k l' c f =
      let same : m ≡ l = subst PassedAs e h in
      let g = f c.0 c.1 in
      (g.0, g.1, (c.0, k, subst (λ (z : Lent). Continues i mis z c.0 k) same c.2, g.2))

-- all five
module _ (w i frame flags mis st len : ℕ) (n : Served) (l m : Lent) (h : ServesAs n i frame flags mis st len l m) where
  abbrev ServedAs : Served → Type 0
  ServedAs z = ServesAs z i frame flags mis st len l m

  abbrev AllAnswered : Lent → Type 0
  AllAnswered l' = AnswersInterruptTransfer w i frame flags mis st len l l'

  -- a transfer came through
  pub all-through : n ≡ served.Transfer w → AllAnswered m
  all-through e =
      let k = subst ServedAs e h in
      let f = k.2.1 in
      let t = k.2.2 in (
        k.0,
        k.1,
        (
          Asks (Read FrameNo 0),
          f.1.0,
          f.1.1,
          (
            Asks (Read IntFg 0),
            f.0,
            f.1.2,
            (
              Asks (Read MisSt 0),
              k.2.0,
              f.2,
              (Asks (Read IntSt 0), t.0, t.2, (Asks (Read RxLen 0), t.1, t.3, (k.0, m, t.4, (refl, refl)))),
            ),
          ),
        ),
      )

  -- with frame_no and int_fg the interrupt came to the word v; those left are brought where they are asked for
  pub flags-through : (v : ℕ) → n ≡ served.Flags v → (l' : Lent)
      → ((x : Step) → Encodes v x → Worded w (λ y. Brings i (reading MisSt mis ∷ reading IntSt st ∷ reading RxLen len
      ∷ []) x m y l'))
      → AllAnswered l'
  flags-through v e l' g =
      let k = subst ServedAs e h in
      let f = k.2 in
      let rest = g k.0 k.1 in (
        rest.0,
        rest.1,
        (
          Asks (Read FrameNo 0),
          f.1.0,
          f.1.1,
          (Asks (Read IntFg 0), f.0, f.1.2, (k.0, m, f.2, rest.2)),
        ),
      )

  -- one by one
  pub all-begun : n ≡ served.No → (word : ℕ) (ys : List ℕ) (l' : Lent) → Answers word (begin interrupt) m.bytes ys
      → ((x : Step) → Encodes word x → Worded w (λ y. Brings i
      (reading FrameNo frame ∷ reading IntFg flags ∷ reading MisSt mis ∷ reading IntSt st ∷ reading RxLen len ∷ [])
      x (lent ys l.slots l.time) y l'))
      → AllAnswered l'
  all-begun e word ys l' b f =
      begun-with w i (reading FrameNo frame ∷ reading IntFg flags ∷ reading MisSt mis ∷ reading IntSt st
      ∷ reading RxLen len ∷ []) l m
      (subst ServedAs e h) word ys l' b f

-- the flag is cleared, and frame_no
module _ (w i frame : ℕ) (n : Passed) (l m : Lent) (h : FramesAs n i frame l m) where
  abbrev FramedAs : Passed → Type 0
  FramedAs z = FramesAs z i frame l m

  pub frame-through : n ≡ passed.Word w → AnswersReleased w i frame l m
  frame-through e =
      let k = subst FramedAs e h in
      (k.0, k.1, (Asks (Read FrameNo 0), k.2.0, k.2.1, (k.0, m, k.2.2, (refl, refl))))

  -- one by one
  pub frame_on : n ≡ passed.No → (word : ℕ) (k l' : Lent) → Continued word i 0 m k
      → ((x : Step) → Encodes word x → Worded w (λ y. Brings i (reading FrameNo frame ∷ []) x k y l'))
      → AnswersReleased w i frame l l'
  frame_on e word k l' c f =
      let same : m ≡ l = subst FramedAs e h in
      let g = f c.0 c.1 in
      (g.0, g.1, (c.0, k, subst (λ (z : Lent). Continues i 0 z c.0 k) same c.2, g.2))

-- ---- looks: j of them were answered with a reading of mis_st

module _ (i v u : ℕ) where
  abbrev Looks : ℕ → Lent → Step → Lent → Type 0
  Looks k l r l' = ContinuesWith i (first_look k v u) (further_looks k v u) l r l'

  -- one more
  pub one_more : (j : ℕ) (l m n : Lent) → Looked j i v l m → (w : ℕ) → Continued w i v m n → w
      ≡ read_word (number_of MisSt) 0
      → Looked (suc j) i v l n
  one_more zero l m n e w c it-is =
      (c.0, n, asks w c.0 MisSt c.1 it-is, subst (λ (z : Lent). Continues i v z c.0 n) e c.2, refl)
  one_more (suc j) l m n g w c it-is = (g.0, g.1, g.2, g.3, one_more j g.1 m n g.4 w c it-is)

  -- those of two rows
  pub both-rows : (a b k : ℕ) → a + b ≡ k → (l m n : Lent) → Looked a i v l m → Looked b i v m n → Looked k i v l n
  both-rows zero b k e l m n g h =
      let same : b ≡ k = omega (arith, e) in
      subst (λ (z : ℕ). Looked z i v l n) same (subst (λ (z : Lent). Looked b i v z n) g h)
  both-rows (suc a) b zero e l m n g h = absurd (omega (arith, e))
  both-rows (suc a) b (suc k) e l m n g h = (
    g.0,
    g.1,
    g.2,
    g.3,
    both-rows a b k (omega (arith, e)) g.1 m n
        g.4 h,
  )

  more-looks : (k : ℕ) (x : Step) (l m : Lent) (r : Step) (l' : Lent) → Continues i v l x m → asks_for MisSt x ≡ true
      → Looks k m r l'
      → Looks (suc k) l r l'
  more-looks k x l m r l' c a h =
      (x, m, c, more i MisSt (first_look k v u) (further_looks k v u) x m r l' a h.0 h.1 h.2 h.3)

  to_last : (k : ℕ) (l m : Lent) (r : Step) (l' : Lent) → Looked k i v l m → Continues i u m r l' → Looks k l r l'
  to_last zero l m r l' e c = subst (λ (z : Lent). Looks zero z r l') e (r, l', c, (refl, refl))
  to_last (suc k) l m r l' g c = more-looks k g.0 l g.1 r l' g.3 g.2 (to_last k g.1 m r l' g.4 c)

  to-other : (j k : ℕ) → j < k → (l m : Lent) (r : Step) (l' : Lent) → Looked j i v l m → Continues i v m r l'
      → asks_for MisSt r ≡ false
      → Looks k l r l'
  to-other j zero b l m r l' g c a = absurd (omega (arith, b))
  to-other zero (suc k) b l m r l' e c a =
      subst (λ (z : Lent). Looks (suc k) z r l') e
      (r, l', c, no_more i MisSt (first_look k v u) (further_looks k v u) r l' r l' a (refl, refl))
  to-other (suc j) (suc k) b l m r l' g c a =
      more-looks k g.0 l g.1 r l' g.3 g.2 (to-other j k (omega (arith, b)) g.1 m r l' g.4 c a)

  -- all k, and the last
  pub all-looked : (k : ℕ) (l m l' : Lent) → Looked k i v l m → (w : ℕ) → Continued w i u m l'
      → AnswersLooks w i k v u l l'
  all-looked k l m l' g w c = (c.0, c.1, to_last k l m c.0 l' g c.2)

  -- another answer came before: the looks left are not made
  pub looked-less : (j k : ℕ) → j < k → (l m l' : Lent) → Looked j i v l m → (w : ℕ) → Continued w i v m l'
      → (w ≡ read_word (number_of MisSt) 0 → ⊥) → AnswersLooks w i k v u l l'
  looked-less j k b l m l' g w c it-is-not =
      (c.0, c.1, to-other j k b l m c.0 l' g c.2 (asks-not w c.0 MisSt c.1 it-is-not))
