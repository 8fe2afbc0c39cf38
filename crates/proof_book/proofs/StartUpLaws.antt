-- A start-up agrees: driver and book begin alike
use Rattle.std.specs.Prelude.{Bool, true, false, cond, not, [], ◌≢◌, ◌≡◌, ℕ, ◌*◌, ◌%◌, ◌≤◌, eqb, leb, length, get_or}
use Rattle.std.proofs.Common.{true≢false, inl, ap, ◌∙◌, mod-lt, eqb-true}
use Rattle.std.proofs.Math.Path.{refl, sym}
use native.Mathlib.Omega.{arith}
use Rattle.std.proofs.Math.Decide.{dec_lt}
use Rattle.std.proofs.Math.Nat.{zero-div, mul-le-mul_right}
use Rattle.std.proofs.Math.ListN.{get_or-replicate, length-replicate, get_or-eq_default}
use Rattle.std.proofs.lemmas.Bool.{eqb-false}
use Rattle.bits.specs.Bit.{bit_is_set}
use Rattle.regs.specs.declared.Dir.{Dir}
use Rattle.regs.specs.declared.Dir.TheVariants.{Out, In}
use Rattle.state.specs.declared.EpState.{EpState}
use Rattle.state.specs.Driver.{Driver, key, ep_on, len_on, paced_on, request_on}
use Rattle.alloc.specs.Alloc.{allocated_ins}
use Rattle.alloc.proofs.RunLaws.{step}
use Rattle.alloc.specs.Sound.{Sound}
use Rattle.script.specs.Simulates.{quiet}
use Rattle.script.specs.Machine.{Buf}
use Rattle.state.specs.Ep.{new_ep}
use Rattle.state.specs.Fresh.{fresh_driver}
use Rattle.state.specs.Driver.{no_ep, no_request, len_key}
use Rattle.alloc.specs.Alloc as alloc
use Rattle.state.specs.Laws.{key-lt, len_key-lt}
use Rattle.alloc.specs.Buffer.{good_size, good_buffer, fits}
use Rattle.alloc.specs.Alloc.{if}
use Rattle.alloc.proofs.SoundLaws.{sound-fresh}
use Rattle.bits.specs.TablesLaws.{get_d-tab, length-tab}
use Rattle.ring.specs.Laws.{reset-count, reset-waits, reset_ring}
use Rattle.script.specs.Statics.{is_on, flag}
use Rattle.script.specs.Calls.{Config, start_row}
use Rattle.script_ops.specs.Records.{plain_of}
use Rattle.proof_book.specs.Pages.{OutPage}
use Rattle.proof_book.specs.Book.{fresh_pages}
use Rattle.proof_book.specs.Coupling.{Coupling, Held, AtRest, lens_of, slot_stamps}
use Rattle.proof_book.specs.EmptyPagesLaws.{empty-out, empty-in}
use Rattle.proof_book.proofs.GivenPartsLaws.{zero-addr}

-- ---- start-up

new-rows : (s z : Bool) (c : Config) (b : Buf) → fits (length b) c.size c.count ≡ s
    → good_buffer c.size c.count ≡ z → ◌≡◌ {A = ℕ} (cond (not s) 1 (cond z 0 2)) 0
    → (length b ≡ c.count * c.size) × (good_buffer c.size c.count ≡ true)
unfolding fits
new-rows true true c b p q h = (eqb-true (length b) (c.count * c.size) p, q)
new-rows true false c b p q h = absurd (let z : ◌≡◌ {A = ℕ} 2 0 = h in omega arith)
new-rows false z c b p q h = absurd (let z : ◌≡◌ {A = ℕ} 1 0 = h in omega arith)

size-good : (size count : ℕ) → good_buffer size count ≡ true → good_size size ≡ true
unfolding good_buffer
size-good size count h = by (good_size size) refl h
  where
    by : (x : Bool) → good_size size ≡ x → if x (if (eqb count 0) false (leb (count * size) 65536)) false ≡ true → x
        ≡ true
    by true p h = refl
    by false p h = absurd (true≢false (sym h))

count-some : (size count : ℕ) → good_buffer size count ≡ true → 1 ≤ count
unfolding good_buffer
count-some size count h = by (good_size size) (eqb count 0) refl h
  where
    pos : (n : ℕ) → n ≢ 0 → 1 ≤ n
    pos n h = elim (dec_lt 0 n) [ yes l ↦ omega arith | no l ↦ absurd (h (omega arith)) ]

    by : (x z : Bool) → eqb count 0 ≡ z → if x (if z false (leb (count * size) 65536)) false ≡ true → 1 ≤ count
    by true true q h = absurd (true≢false (sym h))
    by true false q h = pos count (eqb-false count 0 q)
    by false z q h = absurd (true≢false (sym h))

module _ (c : Config) (b : Buf) (row : start_row c b ≡ 0) where
  abbrev D : Driver
  D = fresh_driver c.size c.count (flag c.callback)

  rows : (length b ≡ c.count * c.size) × (good_buffer c.size c.count ≡ true)
  unfolding start_row
  rows = new-rows (fits (length b) c.size c.count) (good_buffer c.size c.count) c b refl refl row

  record-new : (dir : Dir) (e : ℕ) → ep_on D dir e ≡ new_ep
  unfolding ep_on fresh_driver
  record-new dir e = get_or-replicate 32 (key dir e) new_ep no_ep (key-lt dir e)

  len-new : (dir : Dir) (e i : ℕ) → len_on D dir e i ≡ 0
  unfolding len_on fresh_driver
  len-new dir e i = get_or-replicate 512 (len_key dir e i) 0 0 (len_key-lt dir e i)

  lens-new : (dir : Dir) (e i : ℕ) → get_or (lens_of D dir e) i 0 ≤ 0
  lens-new dir e i = elim (dec_lt i 16) [
    | yes h ↦ rw (get_d-tab (λ i. len_on D dir e i) 16 i 0 h, len-new dir e i) (omega arith)
    | no h ↦ rw (get_or-eq_default (lens_of D dir e) 0 {n = i} (omega (arith, length-tab (λ i. len_on D dir e i) 16)))
        (omega arith)
  ]

  small-new : c.count * c.size ≤ 65536
  unfolding alloc.fresh
  small-new = (sound-fresh c.size c.count rows.1).small

  held_new : (most : ℕ) (dir : Dir) (e : ℕ) → Held most b new_ep (lens_of D dir e) []
  held_new most dir e = record {
    placed = record {
      part = 256;
      divides = refl;
      byte = omega arith;
      inside = omega arith;
      low
          = omega (arith, rows.0, small-new);
    };
    ring = reset_ring new_ep refl refl most (lens_of D dir e) (omega (arith, length-tab (λ i. len_on D dir e i) 16))
        (λ i. lens-new dir e i);
    least = omega arith;
    waits = reset-waits new_ep refl refl b (lens_of D dir e);
  }

  rest-new : (on : Bool) (p : OutPage) → p.slot ≡ 0 → AtRest on new_ep p
  rest-new on p h = record {
    armed = λ _. h ∙ sym (zero-addr new_ep (omega arith));
    none
        = λ _. reset-count new_ep refl refl;
  }

  no-bit : (e : ℕ) → bit_is_set 0 e ≡ false
  unfolding bit_is_set
  no-bit e = rw zero-div refl

  unused-new : (dir : Dir) (e : ℕ) → bit_is_set (allocated_ins D.allocator dir) (e % 16) ≡ false
  unfolding fresh_driver allocated_ins
  unused-new Out e = no-bit (e % 16)
  unused-new In e = no-bit (e % 16)

  sound-new : Sound D.allocator
  unfolding fresh_driver alloc.fresh
  sound-new = sound-fresh c.size c.count rows.1

  paced-new : (e : ℕ) → paced_on D e ≡ 0x1800
  unfolding paced_on fresh_driver
  paced-new e = get_or-replicate 16 (e % 16) 0x1800 0 (mod-lt e (omega arith))

  request-new : (dir : Dir) (e : ℕ) → request_on D dir e ≡ no_request
  unfolding request_on fresh_driver
  request-new dir e = get_or-replicate 32 (key dir e) no_request no_request (key-lt dir e)

  off : is_on 0 ≡ false
  unfolding is_on
  off = refl

  plain-new : (dir : Dir) (e : ℕ) → plain_of (ep_on D dir e) ≡ plain_of new_ep
  plain-new dir e = ap plain_of (record-new dir e)

  -- a start-up that no row stops
  pub fresh_kept : Coupling quiet b D (fresh_pages c)
  unfolding fresh_driver
  fresh_kept = record {
    step = tt;
    sized = record {
      eps = length-replicate 32 new_ep;
      lens = length-replicate {A = ℕ} 512 0;
      stamps = length-replicate {A = ℕ} 256 0;
      paced = length-replicate {A = ℕ} 16 0x1800;
      requests = length-replicate 32 no_request;
    };
    sound = sound-new;
    good = size-good c.size c.count rows.1;
    long = rows.0;
    same = record {
      globals = refl;
      wakes = refl;
      control = refl;
      allocator = refl;
      paced = paced-new;
      requests
          = request-new;
      plain = plain-new;
    };
    shape = λ dir e. rw (unused-new dir e, record-new dir e)
        (record { iso = refl; base = refl; stride = refl; slots = refl });
    outs = λ e. rw (record-new Out e)
        (empty-out refl refl refl (held_new 0 Out e) ((fresh_pages c).outs e)
        (record { lost = refl; slot = refl; from = omega arith; upto = omega arith }) (slot_stamps D e));
    ins = λ e. rw (record-new In e) (empty-in refl refl refl (held_new 1 In e));
    arming = λ e. rw (record-new Out e) (rest-new _ _ refl);
    apart = λ dir dir' e e' h. rw (record-new dir e, record-new dir' e') (inl (omega arith));
    ep0_below = omega arith;
    ep0_apart = λ dir e. rw (record-new dir e) (inl (omega arith));
    ep0_lies = omega (arith, rows.0, mul-le-mul_right c.size (count-some c.size c.count rows.1));
    ep0_least = omega arith;
    isos = λ e. no-bit (e % 16) ∙ sym (ap (λ (r : EpState). is_on r.iso) (record-new Out e) ∙ off);
  }
