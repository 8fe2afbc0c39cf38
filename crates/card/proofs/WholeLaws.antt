-- Laws on the definitions of Whole.antt
use Rattle.std.specs.Prelude.{◌≡◌, ℕ, ◌+◌, ◌*◌, ◌/◌, ◌%◌, ◌<◌, ◌≤◌, true, List, [], ◌∷◌, length, take, drop, slice_index, refl}
use Rattle.std.proofs.Common.{sym, ap, ap₂, ◌∙◌, arith, length-append, length-drop, drop_of_length-le, length-take-le}
use Rattle.std.proofs.lemmas.Bool.{false≢true}
use Rattle.std.proofs.Math.Decide.{dec_lt}
use Rattle.card.specs.Packet.{Packet, All, size, data_of}
use Rattle.card.specs.Reading.{read_all, block_end}
use Rattle.card.specs.Kept.{kept_from, AsWritten}
use Rattle.card.specs.Written.{block_of, block_count, stream}
use Rattle.card.specs.Streams.{block_at, good_block, data_byte, view}
use Rattle.card.specs.Places.{block-data, block-first, byte-block, good-inside, block_written, length-stream}
use Rattle.card.specs.Places.{written-good}
use Rattle.card.proofs.Theorem.{reads_kept, kept_whole}
use Rattle.card.specs.Whole.{AsInStream}

-- each good block of the stream is as written there; behind the last block written there would be filler alone
abbrev pub GoodAsWritten : List ℕ → List Packet → Type 0
GoodAsWritten s ps = (k : ℕ) → good_block s k ≡ true → block_at s k ≡ block_of ps k

as_written : (s : List ℕ) (ps : List Packet) → GoodAsWritten s ps → AsWritten (view s) ps
unfolding data_byte
as_written s ps h = record {
  inside = good-inside s;
  bytes = λ d l g.
      let e : d / 504 * 504 + d % 504 ≡ d = omega arith in
      byte-block s (d / 504) (6 + d % 504) (omega arith)
      ∙ ap (λ (b : List ℕ). slice_index b (6 + d % 504)) (h (d / 504) g)
      ∙ block-data ps (d / 504) (d % 504) (omega arith)
      ∙ ap (λ (i : ℕ). slice_index (data_of ps) i) e;
  names = λ k l g.
      ap₂ (λ (a b : ℕ). a + b * 256)
      (byte-block s k 4 (omega arith) ∙ ap (λ (b : List ℕ). slice_index b 4) (h k g))
      (byte-block s k 5 (omega arith) ∙ ap (λ (b : List ℕ). slice_index b 5) (h k g))
      ∙ block-first ps k;
}

pub reads-written : (ps : List Packet) → All ps → (s : List ℕ) → GoodAsWritten s ps → read_all (view s)
    ≡ kept_from (view s) 0 ps
reads-written ps fine s h = reads_kept (view s) ps (as_written s ps h) fine

-- ---- the stream as written

all-kept : (ps : List Packet) (s : List ℕ) (d n : ℕ) → ((k : ℕ) → k < block_end n → good_block s k ≡ true) → d
    + length (data_of ps) ≤ n
    → kept_from (view s) d ps ≡ ps
unfolding kept_from data_of
all-kept [] s d n g h = refl
all-kept (p ∷ ps) s d n g h =
    let l = length-append p.bytes (data_of ps) in
    kept_whole (view s) d p ps (λ j a b. g j (omega arith))
    ∙ ap (λ (l : List Packet). p ∷ l) (all-kept ps s (d + size p) n g (omega arith))

-- so it is one of those written: behind them there are no bytes, and a good block has 512
good-written : (ps : List Packet) (s : List ℕ) → AsInStream s ps → (k : ℕ) → good_block s k ≡ true → k < block_count ps
good-written ps s h k g = go (dec_lt k (block_count ps)) (dec_lt k (length s / 512))
  where
    go : Dec (k < block_count ps) → Dec (k < length s / 512) → k < block_count ps
    go (yes l) i = l
    go (no l) (no i) = absurd (false≢true (sym (good-inside s k (omega arith)) ∙ g))
    go (no l) (yes i) =
        let a : length (block_at s k) ≡ 512 = length-take-le 512 (drop (k * 512) s)
        (omega (arith, length-drop (k * 512) s)) in
        let b : drop (k * 512) (stream ps) ≡ [] = drop_of_length-le (stream ps) {i = k * 512}
        (omega (arith, length-stream ps)) in
        let c : length (block_at s k) ≡ 0 = ap length (h k g ∙ ap (take 512) b) in
        absurd (omega arith)

pub as-in-stream : (ps : List Packet) (s : List ℕ) → AsInStream s ps → GoodAsWritten s ps
as-in-stream ps s h k g = h k g ∙ block_written ps k (good-written ps s h k g)

-- what is written reads back
pub reads-back : (ps : List Packet) → All ps → read_all (view (stream ps)) ≡ ps
reads-back ps fine =
    reads-written ps fine (stream ps) (as-in-stream ps (stream ps) (λ k g. refl))
    ∙ all-kept ps (stream ps) 0 (length (data_of ps)) (λ k h. written-good ps k h) (omega arith)
