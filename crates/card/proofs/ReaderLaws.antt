-- What the reader's functions and loops keep.
use Rattle.std.proofs.Common.{◌≡◌, ℕ, suc, ◌+◌, ◌-◌, ◌*◌, ◌/◌, ◌<◌, ◌≤◌, true, false, List, length, arith, le-ltb, lt-ltb}
use Rattle.card.specs.Streams.{placed, checked, good_block}
use Rattle.card.specs.Reading.{View, block_end, clean_to, clean_up_to, seek, begins}
use Rattle.card.proofs.SeenLaws.{clean-behind}

pub clean-more : (v : View) (k end : ℕ) → k < end → v.good k ≡ true → clean_to v k (end - k)
    ≡ clean_to v (k + 1) (end - (k + 1))
unfolding clean_to
clean-more v k end h g = let e : end - k ≡ suc (end - (k + 1)) = omega arith in rw (e, g)

pub clean-bad : (v : View) (k end : ℕ) → k < end → v.good k ≡ false → clean_to v k (end - k) ≡ k
unfolding clean_to
clean-bad v k end h g = let e : end - k ≡ suc (end - (k + 1)) = omega arith in rw (e, g)

pub clean-stop : (v : View) (k end : ℕ) → end ≤ k → clean_to v k (end - k) ≡ k
unfolding clean_to
clean-stop v k end h = let e : end - k ≡ 0 = omega arith in rw e

pub seek-more : (v : View) (k end : ℕ) → k < end → begins v k ≡ false → seek v k (end - k)
    ≡ seek v (k + 1) (end - (k + 1))
unfolding seek
seek-more v k end h b = let e : end - k ≡ suc (end - (k + 1)) = omega arith in rw (e, b)

pub seek-here : (v : View) (k end : ℕ) → k < end → begins v k ≡ true → seek v k (end - k) ≡ k * 504 + (v.named k - 6)
unfolding seek
seek-here v k end h b = let e : end - k ≡ suc (end - (k + 1)) = omega arith in rw (e, b)

pub seek_stop : (v : View) (k end : ℕ) → end ≤ k → seek v k (end - k) ≡ k * 504
unfolding seek
seek_stop v k end h = let e : end - k ≡ 0 = omega arith in rw e

-- the blocks behind those of a header that are good
pub clean-rest : (v : View) (d e : ℕ) → d + 3 ≤ e → block_end (d + 3) ≤ clean_up_to v d (d + 3)
    → clean_to v (block_end (d + 3)) (block_end e - block_end (d + 3)) ≡ clean_up_to v d e
clean-rest v d e h c = clean-behind v (d / 504) (block_end (d + 3)) (block_end e) (omega arith) (omega arith) c

-- ---- good blocks

pub good-outside : (s : List ℕ) (k : ℕ) → length s / 512 ≤ k → false ≡ good_block s k
unfolding good_block
good-outside s k h = rw (le-ltb k (length s / 512) h)

pub good-elsewhere : (s : List ℕ) (k : ℕ) → k < length s / 512 → placed s k ≡ false → false ≡ good_block s k
unfolding good_block
good-elsewhere s k h p = rw (lt-ltb k (length s / 512) h, p)

pub good-here : (s : List ℕ) (k : ℕ) → k < length s / 512 → placed s k ≡ true → checked s k ≡ good_block s k
unfolding good_block
good-here s k h p = rw (lt-ltb k (length s / 512) h, p)
