-- Where bytes stand in blocks and streams.
use Rattle.std.specs.Prelude.{◌≡◌, ℕ, zero, suc, ◌+◌, ◌*◌, ◌/◌, ◌%◌, ◌<◌, ◌≤◌, true, false, List, [], ◌∷◌, ◌++◌, length, take, drop, slice_index, slice_index_or, refl}
use Rattle.std.proofs.Common.{sym, ap, ◌∙◌, arith, lt-ltb, le-ltb, eq-eqb, length-append, get_or-take, get_or-drop, get_or-append-add, take_at, take-take}
use Rattle.std.proofs.Math.ListN.{get_or-append}
use Rattle.std.proofs.Math.Seq.{drop-append-add}
use Rattle.card.specs.Crc.{data_crc}
use Rattle.card.specs.Packet.{Packet, le16, data_of}
use Rattle.card.specs.Kept.{first_in}
use Rattle.card.specs.Written.{filled, body, sealed, block_of, blocks_from, block_count, stream}
use Rattle.card.specs.Streams.{byte_in, pair_at, number_at, block_at, checked, placed, good_block}

-- ---- filled

pub length-filled : (n : ℕ) (l : List ℕ) → length (filled n l) ≡ n
unfolding filled
length-filled zero l = refl
length-filled (suc n) [] = ap suc (length-filled n [])
length-filled (suc n) (x ∷ l) = ap suc (length-filled n l)

pub get_d-filled : (n : ℕ) (l : List ℕ) (i : ℕ) → i < n → slice_index (filled n l) i ≡ slice_index l i
unfolding filled
get_d-filled zero l i h = absurd (omega arith)
get_d-filled (suc n) [] zero h = refl
get_d-filled (suc n) [] (suc i) h = get_d-filled n [] i (omega arith)
get_d-filled (suc n) (x ∷ l) zero h = refl
get_d-filled (suc n) (x ∷ l) (suc i) h = get_d-filled n l i (omega arith)

-- ---- a block

pub length-body : (k first : ℕ) (l : List ℕ) → length l ≡ 504 → length (body k first l) ≡ 510
unfolding body
length-body k first l h = omega arith

pub length-sealed : (b : List ℕ) → length b ≡ 510 → length (sealed b) ≡ 512
unfolding sealed
length-sealed b h = omega (arith, length-append b (le16 (data_crc b)))

pub length-block : (ps : List Packet) (k : ℕ) → length (block_of ps k) ≡ 512
unfolding block_of
length-block ps k = length-sealed _ (length-body k _ _ (length-filled 504 _))

pub sealed-head : (b : List ℕ) (i : ℕ) → i < length b → slice_index (sealed b) i ≡ slice_index b i
unfolding sealed
sealed-head b i h = get_or-append b (le16 (data_crc b)) 0 i h

-- bytes 0 to 509 of block k
abbrev pub body_of : List Packet → ℕ → List ℕ
body_of ps k = body k (first_in k 0 ps) (filled 504 (drop (k * 504) (data_of ps)))

pub length-body-of : (ps : List Packet) (k : ℕ) → length (body_of ps k) ≡ 510
length-body-of ps k = length-body k (first_in k 0 ps) _ (length-filled 504 (drop (k * 504) (data_of ps)))

block-head : (ps : List Packet) (k i : ℕ) → i < 510 → slice_index (block_of ps k) i ≡ slice_index (body_of ps k) i
unfolding block_of
block-head ps k i h = sealed-head (body_of ps k) i (omega (arith, length-body-of ps k))

-- the byte i of block k's packet data
pub block-data : (ps : List Packet) (k i : ℕ) → i < 504 → slice_index (block_of ps k) (6 + i)
    ≡ slice_index (data_of ps) (k * 504 + i)
unfolding body
block-data ps k i h =
    let e : 6 + i ≡ suc (suc (suc (suc (suc (suc i))))) = omega arith in
    block-head ps k (6 + i) (omega arith) ∙ rw e (get_d-filled 504 (drop (k * 504) (data_of ps)) i h
    ∙ get_or-drop (k * 504) (data_of ps) i 0)

pub block-first : (ps : List Packet) (k : ℕ) → slice_index (block_of ps k) 4 + slice_index (block_of ps k) 5 * 256 ≡ first_in k 0 ps
unfolding body
block-first ps k =
    let a : slice_index_or (block_of ps k) 4 0 ≡ first_in k 0 ps % 256 = block-head ps k 4 (omega arith) in
    let b : slice_index_or (block_of ps k) 5 0 ≡ first_in k 0 ps / 256 = block-head ps k 5 (omega arith) in
    omega arith

-- ---- a stream

-- a byte of a block of the stream
pub byte-block : (s : List ℕ) (k i : ℕ) → i < 512 → byte_in s k i ≡ slice_index (block_at s k) i
byte-block s k i h = sym (get_or-take 512 (drop (k * 512) s) i 0 h ∙ get_or-drop (k * 512) s i 0)

pub good-inside : (s : List ℕ) (k : ℕ) → length s / 512 ≤ k → good_block s k ≡ false
unfolding good_block
good-inside s k h = rw (le-ltb k (length s / 512) h)

-- ---- the stream as written

pub length-blocks : (ps : List Packet) (n k : ℕ) → length (blocks_from ps k n) ≡ n * 512
unfolding blocks_from
length-blocks ps zero k = refl
length-blocks ps (suc n) k =
    omega (arith, length-append (block_of ps k) (blocks_from ps (k + 1) n), length-block ps k, length-blocks ps n (k + 1))

drop-blocks : (ps : List Packet) (j n k : ℕ) → j < n → take 512 (drop (j * 512) (blocks_from ps k n))
    ≡ block_of ps (k + j)
unfolding blocks_from
drop-blocks ps j zero k h = absurd (omega arith)
drop-blocks ps zero (suc n) k h =
    let e : k + 0 ≡ k = omega arith in
    rw e (take_at (block_of ps k) (blocks_from ps (k + 1) n) 512 (length-block ps k))
drop-blocks ps (suc j) (suc n) k h =
    let e : k + suc j ≡ k + 1 + j = omega arith in
    let f : suc j * 512 ≡ length (block_of ps k) + j * 512 = omega (arith, length-block ps k) in
    rw (e, f, drop-append-add (block_of ps k) (blocks_from ps (k + 1) n) (j * 512))
    (drop-blocks ps j n (k + 1) (omega arith))

pub block_written : (ps : List Packet) (k : ℕ) → k < block_count ps → block_at (stream ps) k ≡ block_of ps k
unfolding stream
block_written ps k h = let e : 0 + k ≡ k = omega arith in rw e at (drop-blocks ps k (block_count ps) 0 h)

pub length-stream : (ps : List Packet) → length (stream ps) ≡ block_count ps * 512
unfolding stream
length-stream ps = length-blocks ps (block_count ps) 0

-- what is written is good
two_bytes : (x : ℕ) → x % 256 + x / 256 % 256 * 256 ≡ x % 65536
two_bytes x = omega arith

four_bytes : (x : ℕ) → x % 256 + x / 256 % 256 * 256 + x / 65536 % 256 * 65536 + x / 16777216 % 256 * 16777216
    ≡ x % 4294967296
four_bytes x =
    let h : x / 16777216 ≡ x / 65536 / 256 = omega arith in
    let a = two_bytes x in
    let b = two_bytes (x / 65536) in
    let c : x % 65536 + x / 65536 % 65536 * 65536 ≡ x % 4294967296 = wide x in
    rw h (omega (a, b, c, arith))
  where
    wide : (y : ℕ) → y % 65536 + y / 65536 % 65536 * 65536 ≡ y % 4294967296
    wide y = omega arith

pub number-written : (s : List ℕ) (ps : List Packet) (k : ℕ) → block_at s k ≡ block_of ps k → number_at s k
    ≡ k % 4294967296
unfolding body
number-written s ps k e =
    let at : (i : ℕ) → i < 510 → byte_in s k i ≡ slice_index_or (body_of ps k) i 0 =
    λ i h. byte-block s k i (omega arith) ∙ ap (λ (b : List ℕ). slice_index b i) e ∙ block-head ps k i h in
    let b0 : byte_in s k 0 ≡ k % 256 = at 0 (omega arith) in
    let b1 : byte_in s k 1 ≡ k / 256 % 256 = at 1 (omega arith) in
    let b2 : byte_in s k 2 ≡ k / 65536 % 256 = at 2 (omega arith) in
    let b3 : byte_in s k 3 ≡ k / 16777216 % 256 = at 3 (omega arith) in
    rw (b0, b1, b2, b3) (four_bytes k)

pub check-written : (s : List ℕ) (ps : List Packet) (k : ℕ) → block_at s k ≡ block_of ps k → pair_at s k 510
    ≡ data_crc (take 510 (drop (k * 512) s))
unfolding block_of sealed
check-written s ps k e =
    let l = length-body-of ps k in
    let b0 : byte_in s k 510 ≡ data_crc (body_of ps k) % 256 =
    byte-block s k 510 (omega arith) ∙ ap (λ (b : List ℕ). slice_index b 510) e ∙ behind 0 510 (omega arith) in
    let b1 : byte_in s k 511 ≡ data_crc (body_of ps k) / 256 =
    byte-block s k 511 (omega arith) ∙ ap (λ (b : List ℕ). slice_index b 511) e ∙ behind 1 511 (omega arith) in
    let c : take 510 (drop (k * 512) s) ≡ body_of ps k =
    sym (take-take 510 512 (drop (k * 512) s) (omega arith)) ∙ ap (take 510) e
    ∙ take_at (body_of ps k) (le16 (data_crc (body_of ps k))) 510 l in
    rw (b0, b1, c) (omega arith)
  where
    behind : (i j : ℕ) → j ≡ length (body_of ps k) + i
        → slice_index (body_of ps k ++ le16 (data_crc (body_of ps k))) j ≡ slice_index (le16 (data_crc (body_of ps k))) i
    behind i j h = rw h (get_or-append-add (body_of ps k) (le16 (data_crc (body_of ps k))) i 0)

pub written-good : (ps : List Packet) (k : ℕ) → k < block_count ps → good_block (stream ps) k ≡ true
unfolding good_block placed checked
written-good ps k h =
    let e = block_written ps k h in
    rw (
      lt-ltb k (length (stream ps) / 512) (omega (arith, length-stream ps)),
      eq-eqb _ _ (number-written (stream ps) ps k e),
      eq-eqb _ _ (check-written (stream ps) ps k e),
    )
