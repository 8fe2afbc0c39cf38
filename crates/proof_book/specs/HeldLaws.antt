-- What an operation of driver and book has to show, and what a ring's record says of those that wait
use Rattle.std.specs.Prelude.{Bool, ◌&&◌, List, [], ◌∷◌, ◌≡◌, ℕ, ◌+◌, ◌*◌, ◌/◌, ◌%◌, ◌≤◌, ◌<◌, ltb, length, get_or}
use Rattle.std.proofs.Math.Bool.{true, false, cond}
use Rattle.std.proofs.Common.{true≢false, sym, ◌∙◌, arith, ltb-true, lt-ltb}
use Rattle.std.proofs.Math.Path.{refl, ap}
use Rattle.bits.specs.Bit.{bit_is_set, both}
use Rattle.regs.specs.declared.Dir.{Dir}
use Rattle.regs.specs.declared.Dir.TheVariants.{Out}
use Rattle.regs.specs.Enables as enables
use Rattle.regs.specs.EnablesLaws.{out-enabled-set}
use Rattle.state.specs.declared.EpState.{EpState}
use Rattle.state.specs.declared.Globals.{Globals}
use Rattle.state.specs.Driver.{Driver, ep_on, len_on, stamp_on}
use Rattle.alloc.specs.Alloc.{allocated_ins, slots_of}
use Rattle.alloc.specs.Buffer.{good_size}
use Rattle.alloc.specs.BufferLaws.{each-size}
use Rattle.ring.specs.Slot.{slot_of, slot_addr, count_of, has_waiting}
use Rattle.ring.specs.Waiting.{waiting}
use Rattle.ring.specs.Slots.{slot-in}
use Rattle.ring.specs.Laws.{waiting-length, waiting-some, first-length, first_part}
use Rattle.ring.specs.Copies.{bytes_at}
use Rattle.script.specs.Script.{Test, Look, Fetch, Act, DmaStep, dma_step_ask}
use Rattle.script.specs.Simulates.{Phase, quiet}
use Rattle.script.specs.Statics.{is_on, iso_outs}
use Rattle.script.specs.Machine.{Buf}
use Rattle.script_ops.specs.Rings.{next_len, next_stamp}
use Rattle.script_ops.specs.Concrete.{is_of, look_of, fetch_of, act_on, hand_on}
use Rattle.proof_book.specs.Pages.{Packet, bytes_of, stamps_of, OutPage, Pages}
use Rattle.proof_book.specs.Book.{some, first, first_stamp, is_b, look_b, fetch_b, act_b, hand_b, feed_b}
use Rattle.proof_book.specs.Coupling.{Used, Shape, lens_of, slot_stamps, Held, OutFits, Coupling, Good}
use Rattle.proof_book.specs.LensLaws.{lens-at, lens-length, stamps-at}
use Rattle.proof_book.specs.StampsLaws.{split-stamps}

pub left : (x y : Bool) → (x && y) ≡ true → x ≡ true
left true y h = refl
left false y h = absurd (true≢false (sym h))

pub right : (x y : Bool) → (x && y) ≡ true → y ≡ true
right true y h = h
right false y h = absurd (true≢false (sym h))

-- ---- each operation, of driver and book

abbrev pub IsAgrees : Test → Type 0
IsAgrees q = (b : Buf) (d : Driver) (t : Pages) → Coupling quiet b d t → is_of q (d, b) ≡ is_b q (t, b)

abbrev pub LookAgrees : Look → Type 0
LookAgrees q = (b : Buf) (d : Driver) (t : Pages) → Coupling quiet b d t → look_of q (d, b) ≡ look_b q (t, b)

abbrev pub FetchAgrees : Fetch → Type 0
FetchAgrees q = (b : Buf) (d : Driver) (t : Pages) → Coupling quiet b d t → fetch_of q (d, b) ≡ fetch_b q (t, b)

abbrev pub ActAgrees : Act → Type 0
ActAgrees q = (b : Buf) (d : Driver) (t : Pages) → Coupling quiet b d t
    → ((act_on q (d, b)).1 ≡ (act_b q (t, b)).1) × Coupling quiet (act_on q (d, b)).1 (act_on q (d, b)).0 (act_b q (t, b)).0

abbrev pub HandAgrees : DmaStep → Type 0
HandAgrees q = (b : Buf) (d : Driver) (t : Pages) → Coupling quiet b d t
    → let x = hand_on q (d, b) in let t' = feed_b (dma_step_ask q x.0) (hand_b q (t, b)).1.0 in
    Coupling quiet x.1.1 x.1.0 t' × Good (dma_step_ask q x.0) x.1.1 t'

-- ---- those that wait

some-length : (w : List (List ℕ)) → ltb 0 (length w) ≡ some w
some-length [] = refl
some-length (p ∷ ps) = lt-ltb 0 (length (p ∷ ps)) (omega arith)

pub held-some : {most : ℕ} {b : Buf} {r : EpState} {ls : List ℕ} {w : List (List ℕ)} → Held most b r ls w → has_waiting r
    ≡ some w
held-some {b = b} {r = r} {ls = ls} {w = w} h = waiting-some b r ls ∙ ap (λ x. ltb 0 (length x)) h.waits
    ∙ some-length w

pub held-length : {most : ℕ} {b : Buf} {r : EpState} {ls : List ℕ} {w : List (List ℕ)} → Held most b r ls w → count_of r
    ≡ length w
held-length {b = b} {r = r} {ls = ls} h = sym (waiting-length b r ls) ∙ ap (λ x. length x) h.waits

pub waits-count : (r : EpState) → has_waiting r ≡ true → 0 < count_of r
unfolding has_waiting
waits-count r h = ltb-true 0 (count_of r) h

-- the length of the first and its bytes
module _ (d : Driver) (dir : Dir) (e : ℕ) {most : ℕ} {b : Buf} {w : List (List ℕ)}
    (h : Held most b (ep_on d dir e) (lens_of d dir e) w) where
  tail-in : slot_of (ep_on d dir e) (ep_on d dir e).tail < 16
  tail-in = omega (arith, slot-in h.placed (ep_on d dir e).tail, h.ring.whole, lens-length d dir e)

  next-by : (w : List (List ℕ)) → waiting b (ep_on d dir e) (lens_of d dir e) ≡ w
      → cond (some w) (len_on d dir e (slot_of (ep_on d dir e) (ep_on d dir e).tail)) 0 ≡ length (first w)
  next-by [] q = refl
  next-by (p ∷ ps) q = sym (lens-at d dir e _ tail-in) ∙ first-length h.placed h.ring b p ps q

  pub held_next : next_len d dir e ≡ length (first w)
  unfolding next_len
  held_next = ap (λ u. cond u (len_on d dir e (slot_of (ep_on d dir e) (ep_on d dir e).tail)) 0) (held-some h)
      ∙ next-by w h.waits

  first_by : (w : List (List ℕ)) → waiting b (ep_on d dir e) (lens_of d dir e) ≡ w
      → bytes_at b (slot_addr (ep_on d dir e) (ep_on d dir e).tail) (length (first w)) ≡ first w
  first_by [] q = refl
  first_by (p ∷ ps) q = first_part h.placed h.ring b p ps q (omega arith)

  pub held_first : bytes_at b (slot_addr (ep_on d dir e) (ep_on d dir e).tail) (next_len d dir e) ≡ first w
  held_first = ap (λ n. bytes_at b (slot_addr (ep_on d dir e) (ep_on d dir e).tail) n) held_next ∙ first_by w h.waits

-- the stamp of the first
module _ (d : Driver) (e : ℕ) {b : Buf} {p : OutPage} (f : OutFits b (ep_on d Out e) (lens_of d Out e) (slot_stamps d e)
    p) where
  stamp-by : (w : List Packet) → p.waiting ≡ w → cond (some (bytes_of w))
      (stamp_on d e (slot_of (ep_on d Out e) (ep_on d Out e).tail)) 0 ≡ first_stamp w
  stamp-by [] h = refl
  stamp-by (q ∷ qs) h =
      let n : 0 < count_of (ep_on d Out e) = omega (
        arith,
        held-length f.held
            ∙ ap (λ (w : List Packet). length (bytes_of w)) h,
      ) in
      sym (stamps-at d e _ (tail-in d Out e f.held))
      ∙ ap (λ (l : List ℕ). get_or l 0 0)
      (sym (split-stamps f.held.placed f.held.ring (slot_stamps d e) n) ∙ f.stamps
      ∙ ap (λ (w : List Packet). stamps_of w) h)

  pub held-stamp : next_stamp d e ≡ first_stamp p.waiting
  unfolding next_stamp
  held-stamp = ap (λ u. cond u (stamp_on d e (slot_of (ep_on d Out e) (ep_on d Out e).tail)) 0) (held-some f.held)
      ∙ stamp-by p.waiting refl

-- ---- an enabled isochronous OUT

abbrev pub receives : Driver → ℕ → Bool
receives d e = bit_is_set (iso_outs d.globals) (e % 16)

both_left : (a c : Bool) → both a c ≡ true → a ≡ true
both_left true c h = refl
both_left false c h = absurd (true≢false (sym h))

pub receives-is : (g : Globals) (e : ℕ) → bit_is_set (iso_outs g) (e % 16)
    ≡ both (bit_is_set g.iso_out_eps (e % 16)) (enables.is_on g.ep_config Out e)
unfolding iso_outs enables.is_on
receives-is g e =
    let m : 16 + e % 16 % 16 ≡ 16 + e % 16 = omega arith in
    out-enabled-set g.ep_config g.iso_out_eps (e % 16) (omega arith)
    ∙ ap (λ (k : ℕ). both (bit_is_set g.iso_out_eps (e % 16)) (bit_is_set g.ep_config k)) m

module _ {φ : Phase} {b : Buf} {d : Driver} {t : Pages} (R : Coupling φ b d t) (e : ℕ) where
  pub receives-iso : receives d e ≡ true → is_on (ep_on d Out e).iso ≡ true
  receives-iso h = sym (R.isos e) ∙ both_left _ _ (sym (receives-is d.globals e) ∙ h)

  pub iso-used : is_on (ep_on d Out e).iso ≡ true → Used d.allocator Out (ep_on d Out e)
  unfolding is_on
  iso-used h = go (bit_is_set (allocated_ins d.allocator Out) (e % 16)) (R.shape Out e)
    where
      go : (u : Bool) → Shape u d.allocator Out (ep_on d Out e) → Used d.allocator Out (ep_on d Out e)
      go true s = s
      go false s = absurd (true≢false (sym h ∙ ap is_on s.iso))

  pub receives-used : receives d e ≡ true → Used d.allocator Out (ep_on d Out e)
  receives-used h = iso-used (receives-iso h)

  pub receives-slots : receives d e ≡ true → (ep_on d Out e).slots ≡ 16
  unfolding slots_of
  receives-slots h = (receives-used h).slots ∙ ap (λ u. slots_of u Out) (receives-iso h)

  -- one that is not isochronous
  pub plain-receives : is_on (ep_on d Out e).iso ≡ false → receives d e ≡ false
  plain-receives h =
      receives-is d.globals e ∙ ap (λ u. both u (enables.is_on d.globals.ep_config Out e)) (R.isos e ∙ h)

-- ---- a slot is of whole words

abbrev pub Words : ℕ → Type 0
Words size = (4 ≤ size) × (size / 4 * 4 ≡ size)

pub good-words : (size : ℕ) → good_size size ≡ true → Words size
good-words = each-size Words (omega arith, refl) (omega arith, refl) (omega arith, refl) (omega arith, refl)
    (omega arith, refl) (omega arith, refl)
