-- IN rings: all their operations do the same in both runs
use Rattle.std.specs.Prelude.{Bool, true, false, cond, List, ◌≢◌, ◌≡◌, ℕ, ◌+◌, ◌*◌, ◌%◌, ◌≤◌, ◌<◌, length, get_or}
use Rattle.std.proofs.Math.Path.{refl, ap}
use Rattle.std.proofs.Common.{sym, ◌∙◌, arith}
use Rattle.regs.specs.declared.Dir.{Dir}
use Rattle.regs.specs.declared.Dir.TheVariants.{Out, In}
use Rattle.state.specs.declared.EpState.{EpState}
use Rattle.state.specs.declared.Globals.{Globals}
use Rattle.state.specs.Driver.{Driver, key, len_key, ep_on, with_on, len_on}
use Rattle.state.specs.Laws.{ep_on-other}
use Rattle.alloc.specs.Buffer.{good_size}
use Rattle.alloc.specs.BufferLaws.{each-size}
use Rattle.ring.specs.Only.{Same}
use Rattle.ring.specs.Slot.{slot_of, slot_addr, has_waiting}
use Rattle.ring.specs.In.{completed_of, loaded_of, unloaded_of}
use Rattle.ring.specs.Waiting.{SamePlace}
use Rattle.script.specs.Script.{waiting, next_len_lem, setup_word, complete, send}
use Rattle.script.specs.Simulates.{quiet}
use Rattle.script_ops.specs.Rings.{St, waiting_on, next_len, word_at, complete_on, send_on, send_addr}
use Rattle.script_ops.specs.Concrete.{is_of, look_of, act_on, hand_on}
use Rattle.proof_book.specs.Coupling.{lens_of}
use Rattle.proof_book.specs.LensLaws.{lens-at}
use Rattle.proof_book.specs.FrameLaws.{same_place}
use Rattle.proof_isolation.specs.EqualExcept.{Channel, LowEquiv, Lawful}
use Rattle.proof_isolation.proofs.ValuesLaws.{in-other}
use Rattle.proof_isolation.specs.ButsLaws.{but-on, but-cond, like-made, lawful-act, lawful-hand, ep0-same}

-- ---- of any endpoint but x

mod-mod : (i : ℕ) → i % 16 % 16 ≡ i % 16
mod-mod i = omega arith

pub len-mod : (d : Driver) (dir : Dir) (e i : ℕ) → len_on d dir e i ≡ len_on d dir e (i % 16)
unfolding len_on len_key
len-mod d dir e i = ap (λ j. get_or d.lens (key dir e * 16 + j) 0) (sym (mod-mod i))

pub len-any : (d d' : Driver) (dir : Dir) (e i : ℕ) → lens_of d dir e ≡ lens_of d' dir e → len_on d dir e i
    ≡ len_on d' dir e i
len-any d d' dir e i h =
    len-mod d dir e i ∙ sym (lens-at d dir e (i % 16) (omega arith))
    ∙ ap (λ l. get_or l (i % 16) 0) h ∙ lens-at d' dir e (i % 16) (omega arith) ∙ sym (len-mod d' dir e i)

pub next-same : (d d' : Driver) (dir : Dir) (e : ℕ) → ep_on d dir e ≡ ep_on d' dir e → lens_of d dir e ≡ lens_of d' dir e
    → next_len d dir e ≡ next_len d' dir e
unfolding next_len
next-same d d' dir e h l =
    ap (λ (r : EpState). cond (has_waiting r) (len_on d dir e (slot_of r r.tail)) 0) h
    ∙ ap (λ n. cond (has_waiting (ep_on d' dir e)) n 0) (len-any d d' dir e (slot_of (ep_on d' dir e) (ep_on d' dir e).tail)
    l)

pub on-seat : (x : ℕ) (d : Driver) (dir : Dir) (e : ℕ) (r : EpState) → key dir e ≢ key Out x
    → SamePlace (ep_on d Out x) (ep_on (with_on d dir e r) Out x)
on-seat x d dir e r n = rw (ep_on-other d dir e r Out x (λ z. n (sym z))) (same_place (ep_on d Out x))

pub cond-seat : (x : ℕ) (r : EpState) (u : Bool) (a b : Driver)
    → SamePlace r (ep_on a Out x) → SamePlace r (ep_on b Out x) → SamePlace r (ep_on (cond u a b) Out x)
cond-seat x r true a b p q = p
cond-seat x r false a b p q = q

-- an OUT endpoint's record, but the channel's, changed where a test of it holds
module _ (c : Channel) (e : ℕ) (n : key Out e ≢ key Out c.number) (g : EpState → Bool) (f : EpState → EpState) where
  abbrev where_so : St → St
  where_so s = (cond (g (ep_on s.0 Out e)) (with_on s.0 Out e (f (ep_on s.0 Out e))) s.0, s.1)

  pub out-changed : (s t : St) → LowEquiv c quiet s t → Lawful c.iso quiet (where_so s)
      → Lawful c.iso quiet (where_so t)
      → LowEquiv c quiet (where_so s) (where_so t)
  out-changed s t l x y = let h = l.but.eps Out e n in like-made l x y
      (but-cond _ _ (ap g h)
      (but-on l.but l.left.rest.sized l.right.rest.sized Out e _ _ (λ _. ap f h) (λ p. absurd (n p)))
      l.but)
      (cond-seat c.number (ep_on s.0 Out c.number) (g (ep_on s.0 Out e)) _ _
      (on-seat c.number s.0 Out e _ n) (same_place (ep_on s.0 Out c.number))) l.bytes

-- ---- a word of EP0's buffer

word_same : (b c : List ℕ) (at : ℕ) → length c ≡ length b → Same at (at + 4) b c → word_at c at ≡ word_at b at
unfolding word_at
word_same b c at long s = rw (
  long,
  s at (omega arith) (omega arith),
  s (at + 1) (omega arith) (omega arith),
  s (at + 2) (omega arith) (omega arith),
  s (at + 3) (omega arith) (omega arith),
) refl

size-least : (n : ℕ) → good_size n ≡ true → 8 ≤ n
size-least = each-size (λ n. 8 ≤ n) (omega arith) (omega arith) (omega arith) (omega arith) (omega arith) (omega arith)

module _ (c : Channel) where
  pub setup-same : (k : ℕ) → k < 2 → (s t : St) → LowEquiv c quiet s t → look_of (setup_word k) s
      ≡ look_of (setup_word k) t
  setup-same k h s t l =
      let at = s.0.globals.ep0_buf + k * 4 in
      let z = size-least s.0.allocator.size l.left.rest.good in
      sym (word_same s.1 t.1 at l.bytes.long (ep0-same l at (at + 4) (omega arith) (omega arith)))
      ∙ ap (λ (g : Globals). word_at t.1 (g.ep0_buf + k * 4)) l.but.globals

  -- ---- IN rings

  pub waiting_in : (e : ℕ) (s t : St) → LowEquiv c quiet s t → is_of (waiting In e) s ≡ is_of (waiting In e) t
  unfolding waiting_on
  waiting_in e s t l = ap has_waiting (l.but.eps In e (in-other c.number e))

  pub next-in : (e : ℕ) (s t : St) → LowEquiv c quiet s t → look_of (next_len_lem In e) s ≡ look_of (next_len_lem In e) t
  next-in e s t l = let n = in-other c.number e in next-same s.0 t.0 In e (l.but.eps In e n)
      (l.but.lens In e n)

  pub completes : (e : ℕ) (s t : St) → LowEquiv c quiet s t
      → LowEquiv c quiet (act_on (complete e) s) (act_on (complete e) t)
  unfolding complete_on with_on
  completes e s t l =
      let n = in-other c.number e in
      like-made l (lawful-act c (complete e) refl l.left) (lawful-act c (complete e) refl l.right)
      (but-on l.but l.left.rest.sized l.right.rest.sized In e _ _
      (λ _. ap (λ r. unloaded_of (completed_of r)) (l.but.eps In e n)) (λ p. absurd (n p)))
      (on-seat c.number s.0 In e _ n) l.bytes

  pub sends : (e : ℕ) (s t : St) → LowEquiv c quiet s t
      → ((hand_on (send e) s).0 ≡ (hand_on (send e) t).0) × LowEquiv c quiet (hand_on (send e) s).1 (hand_on (send e) t).1
  unfolding send_addr send_on
  sends e s t l =
      let n = in-other c.number e in
      let h = l.but.eps In e n in (
        ap (λ (r : EpState). slot_addr r r.tail) h,
        like-made l (lawful-hand c (send e) l.left) (lawful-hand c (send e) l.right)
            (but-cond _ _ (ap has_waiting h)
            (but-on l.but l.left.rest.sized l.right.rest.sized In e _ _ (λ _. ap loaded_of h)
            (λ p. absurd (n p))) l.but)
            (cond-seat c.number (ep_on s.0 Out c.number) (has_waiting (ep_on s.0 In e)) _ _
            (on-seat c.number s.0 In e _ n) (same_place (ep_on s.0 Out c.number))) l.bytes,
      )
