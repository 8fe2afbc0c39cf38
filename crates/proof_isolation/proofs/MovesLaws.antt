-- Lists of turns made from what is done: whether each is allowed is worked out by a test (`fine`), and what passes it
-- is (`sound`)
use Rattle.std.specs.Prelude.{Bool, true, false, not, ◌&&◌, ◌||◌, List, ◌≡◌, refl, ℕ, ◌+◌, ◌-◌, ◌%◌, ◌≤◌, ◌<◌, leb, eqb, length, get_or, drop}
use Rattle.std.proofs.Common.{true≢false, ⊎_elim, ap, subst, sym, ◌∙◌, arith, leb-true, eqb-true, get_or-drop}
use Rattle.std.proofs.Math.Decide.{dec_lt}
use Rattle.regs.specs.declared.Access.{Access}
use Rattle.regs.specs.declared.Access.TheVariants.{Read, Write, Receive, Transmit, Ep0Dma, Wait, Callback}
use Rattle.regs.specs.declared.Reg.{Reg}
use Rattle.regs.specs.declared.Reg.TheVariants.{IntFg, IntSt, MisSt, RxLen, FrameNo, Ctrl, IntEn, DevAd, HostCtrl}
use Rattle.regs.specs.declared.Reg.TheVariants.{EpConfig, EpType, EpBufMod, EpMaxLen, EpTLen, EpRxCtrl, EpTxCtrl}
use Rattle.regs.specs.declared.Dir.TheVariants.{Out}
use Rattle.state.specs.Driver.{Driver, ep_on}
use Rattle.ring.specs.Copies.{copied}
use Rattle.ring.proofs.MarksSlots.{only-copied, copied-part, over-low}
use Rattle.script.specs.IsoOut.{arriving}
use Rattle.script.specs.Answers.{Answer}
use Rattle.script.specs.Calls.{interrupt, aside, Aside, Open, Close}
use Rattle.script.specs.Machine.{Buf, begin, continue, Pending, idle, busy}
use Rattle.proof_book.specs.Coupling.{end_of}
use Rattle.proof_book.specs.Inputs.{left, right}
use Rattle.proof_isolation.specs.EqualExcept.{Channel}
use Rattle.proof_isolation.specs.Whose.{own}
use Rattle.proof_isolation.specs.Apart.{Brings}
use Rattle.proof_isolation.specs.Asides.{Mine}
use Rattle.proof_isolation.specs.Operations.{passes}
use Rattle.proof_isolation.specs.Stores.{Stored}
use Rattle.proof_isolation.specs.StoresLaws.{lent_back, own-lent-back}
use Rattle.proof_isolation.specs.Schedule.{Run, Two, Turn, begins, goes, stores, first, second, state_of}
use Rattle.proof_isolation.specs.Schedule.{Timely, at_own, wide, BringsAt, call_lent, go_on, own_lent, Alone, May}
use Rattle.proof_isolation.specs.Moves.{serves, reads, stored, stored_both, first_Goes, second-goes, first-opens, first-closes, Move, same, is_idle, armed_of, roomy, stored_on, allocated_b, fits_b}

-- x: the channel's number
module _ (x : ℕ) where
  abbrev own_at : Run → Bool
  own_at r = own x r.access r.machine

  -- bytes of its slots
  abbrev region : Run → ℕ → List ℕ → Bool
  region r at p =
      leb (ep_on r.machine.st Out x).base at && leb (at + length p) (end_of (ep_on r.machine.st Out x))

  abbrev read_b : ℕ → Reg → ℕ → ℕ → Bool
  read_b st IntSt v v' = eqb v st && eqb v' st
  read_b st RxLen v v' = arriving st x || eqb v v'
  read_b st IntFg v v' = eqb v v'
  read_b st MisSt v v' = eqb v v'
  read_b st FrameNo v v' = eqb v v'
  read_b st Ctrl v v' = eqb v v'
  read_b st IntEn v v' = eqb v v'
  read_b st DevAd v v' = eqb v v'
  read_b st HostCtrl v v' = eqb v v'
  read_b st EpConfig v v' = eqb v v'
  read_b st EpType v v' = eqb v v'
  read_b st EpBufMod v v' = eqb v v'
  read_b st EpMaxLen v v' = eqb v v'
  read_b st EpTLen v v' = eqb v v'
  read_b st EpRxCtrl v v' = eqb v v'
  read_b st EpTxCtrl v v' = eqb v v'

  abbrev pub brings_b : ℕ → Access → ℕ → ℕ → Bool
  brings_b st (Read r e) v v' = read_b st r v v'
  brings_b st (Write r e y) v v' = true
  brings_b st (Receive e y) v v' = true
  brings_b st (Transmit e y) v v' = true
  brings_b st (Ep0Dma y) v v' = true
  brings_b st (Wait n) v v' = true
  brings_b st Callback v v' = true

  abbrev pub turn_of : Move → Two → Turn
  turn_of (serves st) w = begins st interrupt w.first.machine.buf w.second.machine.buf
  turn_of (reads v v') w = goes v v' w.first.machine.buf w.second.machine.buf
  turn_of (stored e p e' p') w = stores (stored_on w.first e p) (stored_on w.second e' p')
  turn_of (stored_both e p) w = stores (stored_on w.first e p) (stored_on w.second e p)
  turn_of (first_Goes v) w = first (record { call = continue v; lent = w.first.machine.buf })
  turn_of (second-goes v) w = second (record { call = continue v; lent = w.second.machine.buf })
  turn_of first-opens w = first (record { call = begin (aside (Open x)); lent = w.first.machine.buf })
  turn_of first-closes w = first (record { call = begin (aside (Close x)); lent = w.first.machine.buf })

  abbrev two_alike_at : Two → Bool
  two_alike_at w = same (own_at w.first) (own_at w.second)

  abbrev pub fine : Move → Two → Bool
  fine (serves st) w = two_alike_at w && is_idle w.first.machine.under_way_lem
  fine (reads v v') w =
      not (own_at w.first) && (not (own_at w.second) && (not (wide w.first.machine.under_way_lem v) &&
      (not (wide w.second.machine.under_way_lem v') && brings_b w.status w.first.access v v')))
  fine (stored e p e' p') w =
      two_alike_at w && (roomy w.first e p && (roomy w.second e' p' &&
      (region w.first (armed_of w.first e) p && region w.first (armed_of w.second e') p')))
  fine (stored_both e p) w =
      two_alike_at w && (roomy w.first e p &&
      (roomy w.second e p && eqb (armed_of w.second e) (armed_of w.first e)))
  fine (first_Goes v) w = own_at w.first
  fine (second-goes v) w = own_at w.second
  fine first-opens w = true
  fine first-closes w = true

-- ---- what passes the test is allowed

pub off : (x : Bool) → not x ≡ true → x ≡ false
off true h = absurd (true≢false (sym h))
off false h = refl

same-is : (x y : Bool) → same x y ≡ true → x ≡ y
same-is true y h = sym h
same-is false y h = sym (off y h)

stored-in : (r : Run) (e : ℕ) (p : List ℕ) → roomy r e p ≡ true
    → Stored r.machine.st r.machine.buf (stored_on r e p)
stored-in r e p h =
    let o = only-copied r.machine.buf (armed_of r e) p in
    let l = leb-true (length p) r.machine.st.allocator.size (left (fits_b r p) _ (right (allocated_b r e) _ h)) in
    record {
      long = o.long;
      others = λ k w. ⊎_elim (λ z. o.below k z) (λ z. o.above k (omega (arith, z, l)))
          (w.outs e (left (allocated_b r e) _ h));
    }

stored-within : (r : Run) (e : ℕ) (p : List ℕ) → roomy r e p ≡ true → armed_of r e + length p ≤ length r.machine.buf
stored-within r e p h =
    leb-true (armed_of r e + length p) (length r.machine.buf) (right (fits_b r p) _ (right (allocated_b r e) _ h))

-- one packet over two buffers
copied-same : (b c : Buf) (at : ℕ) (p : List ℕ) (k : ℕ) → at + length p ≤ length b → at + length p ≤ length c
    → get_or c k 0 ≡ get_or b k 0 → get_or (copied c at p) k 0 ≡ get_or (copied b at p) k 0
copied-same b c at p k f g h = elim (dec_lt k at) [
  | yes z ↦ (only-copied c at p).below k z ∙ h ∙ sym ((only-copied b at p).below k z)
  | no z ↦ elim (dec_lt k (at + length p)) [
    | yes y ↦ inside c g (omega arith) y ∙ sym (inside b f (omega arith) y)
    | no y ↦ (only-copied c at p).above k (omega arith) ∙ h ∙ sym ((only-copied b at p).above k (omega arith))
  ]
]
  where
    inside : (b : Buf) → at + length p ≤ length b → at ≤ k → k < at + length p
        → get_or (copied b at p) k 0 ≡ get_or p (k - at) 0
    inside b f l h =
        let e : at + (k - at) ≡ k = omega arith in
        subst (λ j. get_or (copied b at p) j 0 ≡ get_or p (k - at) 0) e
        (sym (get_or-drop at (copied b at p) (k - at) 0) ∙ ap (λ (x : List ℕ). get_or x (k - at) 0) (copied-part b at p f)
        ∙ over-low p (drop at b) (k - at) (omega arith))

timely : (w : Pending Answer Driver) (o : Aside) → Timely w (aside o)
timely idle o = tt
timely (busy i a k) o = tt

timely-idle : (w : Pending Answer Driver) → is_idle w ≡ true → Timely w interrupt
timely-idle idle h = tt
timely-idle (busy i a k) h = absurd (true≢false (sym h))

module _ (c : Channel) where
  read-brings : (st : ℕ) (r : Reg) (e v v' : ℕ) → read_b c.number st r v v' ≡ true
      → Brings c.number st (Read r e) v v'
  read-brings st IntSt e v v' h = (eqb-true v st (left (eqb v st) _ h), eqb-true v' st (right (eqb v st) _ h))
  read-brings st RxLen e v v' h = λ z. eqb-true v v' (sym (ap (λ x. x || eqb v v') z) ∙ h)
  read-brings st IntFg e v v' h = eqb-true v v' h
  read-brings st MisSt e v v' h = eqb-true v v' h
  read-brings st FrameNo e v v' h = eqb-true v v' h
  read-brings st Ctrl e v v' h = eqb-true v v' h
  read-brings st IntEn e v v' h = eqb-true v v' h
  read-brings st DevAd e v v' h = eqb-true v v' h
  read-brings st HostCtrl e v v' h = eqb-true v v' h
  read-brings st EpConfig e v v' h = eqb-true v v' h
  read-brings st EpType e v v' h = eqb-true v v' h
  read-brings st EpBufMod e v v' h = eqb-true v v' h
  read-brings st EpMaxLen e v v' h = eqb-true v v' h
  read-brings st EpTLen e v v' h = eqb-true v v' h
  read-brings st EpRxCtrl e v v' h = eqb-true v v' h
  read-brings st EpTxCtrl e v v' h = eqb-true v v' h

  brings : (st : ℕ) (q : Access) (v v' : ℕ) → brings_b c.number st q v v' ≡ true → Brings c.number st q v v'
  brings st (Read r e) v v' h = read-brings st r e v v' h
  brings st (Write r e y) v v' h = tt
  brings st (Receive e y) v v' h = tt
  brings st (Transmit e y) v v' h = tt
  brings st (Ep0Dma y) v v' h = tt
  brings st (Wait n) v v' h = tt
  brings st Callback v v' h = tt

  pub brings-at : (x : Pending Answer Driver) (st : ℕ) (q : Access) (v v' : ℕ) → brings_b c.number st q v v' ≡ true
      → BringsAt c x st q v v'
  brings-at idle st q v v' h = tt
  brings-at (busy i a k) st q v v' h = brings st q v v' h

  mine : (o : Aside) → Mine c.number o → (r : Run) → Alone c (begin (aside o)) r.machine.buf r
  mine o m r = (passes o m, timely r.machine.under_way_lem o, own_lent (own-lent-back c (state_of r)))

  pub sound : (m : Move) (w : Two) → fine c.number m w ≡ true → May c (turn_of c.number m w) w
  sound (serves st) w h =
      let o = at_own c w.first in
      let o' = at_own c w.second in (
        same-is o o' (left (same o o') _ h),
        tt,
        timely-idle w.first.machine.under_way_lem (right (same o o') _ h),
        call_lent (lent_back c (state_of w.first) (state_of w.second)),
      )
  sound (reads v v') w h =
      let o = at_own c w.first in
      let o' = at_own c w.second in
      let z = wide w.first.machine.under_way_lem v in
      let z' = wide w.second.machine.under_way_lem v' in
      let h1 = right (not o) _ h in
      let h2 = right (not o') _ h1 in
      let h3 = right (not z) _ h2 in (
        off o (left (not o) _ h),
        off o' (left (not o') _ h1),
        go_on (off z (left (not z) _ h2))
            (off z' (left (not z') _ h3))
            (brings-at w.first.machine.under_way_lem w.status w.first.access v v' (right (not z') _ h3))
            (lent_back c (state_of w.first) (state_of w.second)),
      )
  sound (stored e p e' p') w h =
      let o = at_own c w.first in
      let o' = at_own c w.second in
      let a = armed_of w.first e in
      let a' = armed_of w.second e' in
      let r = ep_on w.first.machine.st Out c.number in
      let h1 = right (same o o') _ h in
      let h2 = right (roomy w.first e p) _ h1 in
      let h3 = right (roomy w.second e' p') _ h2 in
      let x = left (region c.number w.first a p) _ h3 in
      let x' = right (region c.number w.first a p) _ h3 in
      let q = only-copied w.first.machine.buf a p in
      let q' = only-copied w.second.machine.buf a' p' in
      let lo = leb-true r.base a (left (leb r.base a) _ x) in
      let lo' = leb-true r.base a' (left (leb r.base a') _ x') in
      let hi = leb-true (a + length p) (end_of r) (right (leb r.base a) _ x) in
      let hi' = leb-true (a' + length p') (end_of r) (right (leb r.base a') _ x') in (
        same-is o o' (left (same o o') _ h),
        record {
          left = stored-in w.first e p (left (roomy w.first e p) _ h1);
          right = stored-in w.second e' p' (left (roomy w.second e' p') _ h2);
          same = λ k out y. ⊎_elim
              (λ z. q'.below k (omega (arith, z, lo')) ∙ y ∙ sym (q.below k (omega (arith, z, lo))))
              (λ z. q'.above k (omega (arith, z, hi')) ∙ y ∙ sym (q.above k (omega (arith, z, hi)))) out;
        },
      )
  sound (stored_both e p) w h =
      let o = at_own c w.first in
      let o' = at_own c w.second in
      let b = w.first.machine.buf in
      let b' = w.second.machine.buf in
      let a = armed_of w.first e in
      let a' = armed_of w.second e in
      let h1 = right (same o o') _ h in
      let h2 = right (roomy w.first e p) _ h1 in
      let r1 = left (roomy w.first e p) _ h1 in
      let r2 = left (roomy w.second e p) _ h2 in
      let i = eqb-true a' a (right (roomy w.second e p) _ h2) in
      let f = stored-within w.first e p r1 in
      let g = stored-within w.second e p r2 in (
        same-is o o' (left (same o o') _ h),
        record {
          left = stored-in w.first e p r1;
          right = stored-in w.second e p r2;
          same = λ k out y. subst (λ x. get_or (copied b' x p) k 0 ≡ get_or (copied b a p) k 0) (sym i)
              (copied-same b b' a p k f (omega (arith, g, i)) y);
        },
      )
  sound (first_Goes v) w h = (h, own_lent (own-lent-back c (state_of w.first)))
  sound (second-goes v) w h = (h, own_lent (own-lent-back c (state_of w.second)))
  sound first-opens w h = mine (Open c.number) refl w.first
  sound first-closes w h = mine (Close c.number) refl w.first
