-- What a public function answers where the slot lies in the buffer, and where it does not.
use Rattle.std.proofs.Common.{◌≡◌, ℕ, ◌+◌, ◌-◌, ◌*◌, ◌<◌, ◌≤◌, true, List, ◌++◌, length, take, drop, ◌∙◌, append-nil, arith, length-drop, drop_of_length-le, take_all, le-ltb, lt-ltb}
use Rattle.ring.specs.Marks.{armed_words, reach, marked_run, is_mark, arm, found, is_marked, armed, marked_len}
use Rattle.ring.specs.Copies.{over, copied, copied_out}
use Rattle.ring.proofs.Laws.{run_part}

-- ---- the part of a list from `at` on

pub part-is : (b : List ℕ) (at : ℕ) → take (length b - at) (drop at b) ≡ drop at b
part-is b at = take_all (length b - at) (drop at b) (simp length-drop (omega arith))

pub part-back : (b ys : List ℕ) (at : ℕ) → take at b ++ (ys ++ drop (length b - at) (drop at b)) ≡ take at b ++ ys
part-back b ys at = rw (drop_of_length-le (drop at b) {i = length b - at} (simp length-drop (omega arith)), append-nil)

-- ---- the mark test

pub marked-short : (b : List ℕ) (at : ℕ) → length b < at + 4 → true ≡ is_marked b at
unfolding is_marked
marked-short b at h = rw (lt-ltb (length b) (at + 4) h)

pub marked-fits : (b : List ℕ) (at : ℕ) → at + 4 ≤ length b → is_mark (take (length b - at) (drop at b)) 0
    ≡ is_marked b at
unfolding is_marked
marked-fits b at h = rw (le-ltb (length b) (at + 4) h, part-is b at)

-- ---- arming

pub armed-short : (b : List ℕ) (at maximum : ℕ) → length b < at + reach maximum → b ≡ armed b at maximum
unfolding armed
armed-short b at maximum h = rw (lt-ltb (length b) (at + reach maximum) h)

pub armed-fits : (b ys : List ℕ) (at maximum n : ℕ) → n ≡ armed_words maximum → at + reach maximum ≤ length b
    → ys ≡ marked_run (take (length b - at) (drop at b)) 0 n
    → take at b ++ (ys ++ drop (length b - at) (drop at b)) ≡ armed b at maximum
unfolding armed arm
armed-fits b ys at maximum n w h e = rw (
  le-ltb (length b) (at + reach maximum) h,
  part-back b ys at,
  e,
  part-is b at,
  w,
)

-- by words of the whole buffer
pub armed-words-fit : (b ys : List ℕ) (at w maximum n : ℕ) → at ≡ w * 4 → n ≡ armed_words maximum → at + reach maximum
    ≤ length b
    → ys ≡ marked_run b w n → ys ≡ armed b at maximum
unfolding armed arm
armed-words-fit b ys at w maximum n a m h e = rw (le-ltb (length b) (at + reach maximum) h)
    (e ∙ run_part b at w n a (omega arith) ∙ rw m)

-- ---- the length

pub len_short : (b : List ℕ) (at maximum : ℕ) → length b < at + maximum → 0 ≡ marked_len b at maximum
unfolding marked_len
len_short b at maximum h = rw (lt-ltb (length b) (at + maximum) h)

pub len-fits : (b : List ℕ) (at maximum : ℕ) → at + maximum ≤ length b
    → found maximum (take (length b - at) (drop at b)) ≡ marked_len b at maximum
unfolding marked_len
len-fits b at maximum h = rw (le-ltb (length b) (at + maximum) h, part-is b at)

-- ---- copies

pub copied-short : (b : List ℕ) (at : ℕ) (s : List ℕ) → length b < at + length s → b ≡ copied b at s
unfolding copied
copied-short b at s h = rw (lt-ltb (length b) (at + length s) h)

pub copied-fits : (b ys : List ℕ) (at : ℕ) (s : List ℕ) → at + length s ≤ length b → ys
    ≡ over s (take (length b - at) (drop at b))
    → take at b ++ (ys ++ drop (length b - at) (drop at b)) ≡ copied b at s
unfolding copied
copied-fits b ys at s h e = rw (le-ltb (length b) (at + length s) h, part-back b ys at, e, part-is b at)

pub out-short : (b : List ℕ) (at : ℕ) (out : List ℕ) (n : ℕ) → length b < at + n → out ≡ copied_out b at out n
unfolding copied_out
out-short b at out n h = rw (lt-ltb (length b) (at + n) h)

pub out-small : (b : List ℕ) (at : ℕ) (out : List ℕ) (n : ℕ) → at + n ≤ length b → length out < n → out
    ≡ copied_out b at out n
unfolding copied_out
out-small b at out n h g = rw (le-ltb (length b) (at + n) h, lt-ltb (length out) n g)

pub out-fits : (b : List ℕ) (at : ℕ) (out : List ℕ) (n k : ℕ) (ys : List ℕ) → k ≡ n → at + n ≤ length b → n ≤ length out
    → ys ≡ over (take k (drop at b)) out → ys ≡ copied_out b at out n
unfolding copied_out
out-fits b at out n k ys e h g f = f ∙ rw (e, le-ltb (length b) (at + n) h, le-ltb (length out) n g)
