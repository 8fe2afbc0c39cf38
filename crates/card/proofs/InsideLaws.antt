-- Laws on the definitions of Inside.antt
use Rattle.std.specs.Prelude.{◌≡◌, ℕ, zero, suc, ◌+◌, ◌-◌, ◌*◌, ◌/◌, ◌%◌, ◌<◌, ◌≤◌, true, List, length, drop, ◌≢◌, slice_index, refl, Some}
use Rattle.std.proofs.Common.{sym, ap, ◌∙◌, arith, add-one, take_all}
use Rattle.std.proofs.lemmas.Bool.{false≢true}
use Rattle.std.proofs.Math.Decide.{dec_lt}
use Rattle.std.proofs.Math.Seq.{paste}
use Rattle.card.specs.declared.stream.Step.TheVariants.{Gives}
use Rattle.card.specs.Reading.{View, total, block_end, clean_to, clean_up_to, length_at, endpoint_at, packet_at, begin_at}
use Rattle.card.specs.Reading.{step_at, bytes_from, find}
use Rattle.card.specs.Streams.{view, pair_at, good_block, data_byte}
use Rattle.card.specs.Places.{good-inside}
use Rattle.card.specs.Steps.{intact-good, packet-in, begin-packet, step-begin}
use Rattle.card.proofs.Clean.{clean-good}
use Rattle.card.proofs.Progress.{find-give, find-fits}
use Rattle.card.specs.Rooms.{length-bytes, run-bytes}
use Rattle.card.specs.Seen.{Seen}
use Rattle.card.specs.Inside.{Standing, Walked, Near}

pub standing-none : (v : View) (d : ℕ) → Standing v d 0 0
unfolding Standing
standing-none v d = refl

pub standing-more : (v : View) (d count m a len : ℕ) → Standing v d count m → find v (total v) (d + m)
    ≡ Some (record { at = d + m; endpoint = a; len = len })
    → Standing v d (count + 1) (m + (3 + len))
unfolding Standing
standing-more v d count m a len s h = rw (add-one count)
    (m, s, record { endpoint = a; len = len; next = h; ends = refl })

pub standing-count : (v : View) (d count n : ℕ) → Standing v d count n → count ≤ n
unfolding Standing
standing-count v d zero n s = omega arith
standing-count v d (suc count) n s = omega (arith, standing-count v d count s.0 s.1, s.2.ends)

-- packets lie in the stream
pub standing-lies : (v : View) (d count n : ℕ) → Standing v d count n → 0 < n → d + n ≤ total v
unfolding Standing
standing-lies v d zero n s l = absurd (omega arith)
standing-lies v d (suc count) n s l =
    let last = s.2 in
    omega (arith, last.ends, find-fits v (total v) (d + s.0) _ last.next)

-- the block of d has been seen
pub seen-good : (v : View) (d first : ℕ) → Seen v d first → d / 504 < first → v.good (d / 504) ≡ true
seen-good v d first s l = clean-good v (first - d / 504) (d / 504) (d / 504) (omega arith) (omega (arith, s.good))

pub good-lies : (s : List ℕ) (k : ℕ) → good_block s k ≡ true → k < length s / 512
good-lies s k g = elim (dec_lt k (length s / 512)) [
  | yes l ↦ l
  | no l ↦ absurd (false≢true (sym (good-inside s k (omega arith)) ∙ g))
]

-- the places from d up to x of one good block
one-clean : (v : View) (d x : ℕ) → v.good (d / 504) ≡ true → d < x → block_end x ≡ d / 504 + 1 → block_end x
    ≤ clean_up_to v d x
unfolding clean_to
one-clean v d x g l e =
    let one : block_end x - d / 504 ≡ 1 = omega arith in
    rw (one, g) (omega arith)

inside_found : (v : View) (d a n : ℕ) → v.good (d / 504) ≡ true → d / 504 < v.blocks → d % 504 + 3 + n ≤ 504
    → endpoint_at v d ≡ a → (a ≢ 0) → length_at v d ≡ n → find v (total v) d
    ≡ Some (record { at = d; endpoint = a; len = n })
inside_found v d a n g b l e nz m =
    let header = intact-good v d (d + 3) (begin_at v d) (one-clean v d (d + 3) g (omega arith) (omega arith)) in
    let begin = begin-packet v d (λ z. nz (sym e ∙ z)) in
    let packet = packet-in v d n (omega arith) in
    let whole = intact-good v d (d + 3 + n) (Gives (endpoint_at v d) n)
    (one-clean v d (d + 3 + n) g (omega arith) (omega arith)) in
    let gives : step_at v d ≡ Gives a n =
    step-begin v d (omega arith) ∙ header ∙ begin ∙ ap (λ (k : ℕ). packet_at v d k) m ∙ packet ∙ whole
    ∙ ap (λ (x : ℕ). Gives x n) e in
    let some-places : total v ≡ suc (total v - 1) = omega arith in
    rw some-places (find-give v (total v - 1) d a n gives)

-- the header m bytes behind place d of a stream, which ends in the block of d
header-bytes : (s : List ℕ) (d m : ℕ) → d % 504 + m + 3 ≤ 504
    → (slice_index s (d / 504 * 512 + (6 + d % 504 + m + 2)) ≡ endpoint_at (view s) (d + m))
    × (pair_at s (d / 504) (6 + d % 504 + m) ≡ length_at (view s) (d + m))
unfolding data_byte
header-bytes s d m h =
    let k0 : (d + m) / 504 ≡ d / 504 = omega arith in
    let k1 : (d + m + 1) / 504 ≡ d / 504 = omega arith in
    let k2 : (d + m + 2) / 504 ≡ d / 504 = omega arith in
    let i0 : 6 + (d + m) % 504 ≡ 6 + d % 504 + m = omega arith in
    let i1 : 6 + (d + m + 1) % 504 ≡ 6 + d % 504 + m + 1 = omega arith in
    let i2 : 6 + (d + m + 2) % 504 ≡ 6 + d % 504 + m + 2 = omega arith in
    (rw (k2, i2), rw (k0, i0, k1, i1))

-- a header in a good block, of a packet that ends in it
pub walk_more : (s : List ℕ) (d count m a n : ℕ) → good_block s (d / 504) ≡ true → d % 504 + m + (3 + n) ≤ 504
    → Standing (view s) d count m
    → a ≡ slice_index s (d / 504 * 512 + (6 + d % 504 + m + 2)) → (a ≢ 0) → n ≡ pair_at s (d / 504) (6 + d % 504 + m)
    → Standing (view s) d (count + 1) (m + (3 + n))
walk_more s d count m a n g l st e nz p =
    let header = header-bytes s d m (omega arith) in
    let k : (d + m) / 504 ≡ d / 504 = omega arith in
    let good : good_block s ((d + m) / 504) ≡ true = rw k g in
    let lies = good-lies s (d / 504) g in
    let next = inside_found (view s) (d + m) a n good (omega arith) (omega arith) (sym (e ∙ header.0)) nz
    (sym (p ∙ header.1)) in
    standing-more (view s) d count m a n st next

-- what was looked at serves at the place behind
seen-near : (v : View) (d first n : ℕ) → Seen v d first → first ≡ d / 504 + 1 → d % 504 + n ≤ 504 → Seen v (d + n) first
unfolding clean_to
seen-near v d first n s e l = elim (dec_lt (d % 504 + n) 504) [
  | yes h ↦ (let k : (d + n) / 504 ≡ d / 504 = omega arith in
      record { low = omega arith; high = omega arith; good = rw k s.good })
  | no h ↦ (let k : (d + n) / 504 ≡ first = omega arith in
      let z : first - first ≡ 0 = omega arith in
      record { low = omega arith; high = omega arith; good = rw (k, z) (omega arith) })
]

pub near_none : (v : View) (d first room : ℕ) → Seen v d first → Near v d first room 0 0
near_none v d first room s =
    let e : d + 0 ≡ d = omega arith in
    record { standing = standing-none v d; fits = omega arith; seen = rw e s }

pub near-walked : (v : View) (d first room count n : ℕ) → Seen v d first → first ≡ d / 504 + 1 → Walked v d room count n
    → Near v d first room count n
near-walked v d first room count n s e w =
    record { standing = w.standing; fits = w.fits; seen = seen-near v d first n s e w.inside }

-- the bytes of a good block, copied together
pub near-bytes : (s room : List ℕ) (d used n : ℕ) → good_block s (d / 504) ≡ true → d % 504 + n ≤ 504
    → paste room used (drop (d / 504 * 512 + (6 + d % 504)) s) n ≡ paste room used (bytes_from (view s) d n) n
near-bytes s room d used n g l =
    let lies = good-lies s (d / 504) g in
    let run = run-bytes s n d l (omega arith) in
    let all = take_all n (bytes_from (view s) d n) (omega (arith, length-bytes (view s) n d)) in
    rw (run, all)
