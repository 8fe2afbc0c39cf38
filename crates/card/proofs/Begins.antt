-- The first packet that begins in a block, over two lists of packets; bytes and blocks of a stream.
use Rattle.std.specs.Prelude.{◌≡◌, ℕ, zero, suc, ◌+◌, ◌*◌, ◌/◌, ◌%◌, ◌<◌, ◌≤◌, cond, List, [], ◌∷◌, ◌++◌, length, take, drop, ◌==◌, slice_index, refl}
use Rattle.std.proofs.Common.{sym, ap, ◌∙◌, append_assoc, append-nil, arith, eq-eqb, ne_eqb, length-append, length-drop, get_or-append-add, get_or-take, get_or-drop, length-take-le, ext_get_or}
use Rattle.std.proofs.Math.Decide.{ℕ_discrete}
use Rattle.std.proofs.Math.ListN.{get_or-append}
use Rattle.std.proofs.Math.Seq.{paste, length_paste_head}
use Rattle.card.specs.Packet.{Packet, size, packet_bytes, data_of}
use Rattle.card.specs.Kept.{first_in}
use Rattle.card.specs.Written.{filled, body, sealed, block_of, blocks_from}
use Rattle.card.specs.Places.{length-filled, get_d-filled}
use Rattle.card.proofs.Theorem.{first-behind}
use Rattle.card.specs.Writing.{closed}

-- ---- the data of two lists of packets

pub data-append : (xs ys : List Packet) → data_of (xs ++ ys) ≡ data_of xs ++ data_of ys
unfolding data_of
data-append [] ys = refl
data-append (x ∷ xs) ys = ap (λ (l : List ℕ). packet_bytes x ++ l) (data-append xs ys)
    ∙ sym (append_assoc (packet_bytes x) (data_of xs) (data_of ys))

pub data-one : (p : Packet) (qs : List Packet) → length (data_of (p ∷ qs)) ≡ size p + length (data_of qs)
unfolding data_of
data-one p qs = omega (arith, length-append p.bytes (data_of qs))

-- a byte of a packet that stands behind others
pub data-at : (xs : List Packet) (p : Packet) (qs : List Packet) (i : ℕ) → i < size p
    → slice_index (packet_bytes p) i ≡ slice_index (data_of (xs ++ (p ∷ qs))) (length (data_of xs) + i)
unfolding data_of
data-at xs p qs i h =
    sym (ap (λ (l : List ℕ). slice_index l (length (data_of xs) + i)) (data-append xs (p ∷ qs))
    ∙ get_or-append-add (data_of xs) (packet_bytes p ++ data_of qs) i 0
    ∙ get_or-append (packet_bytes p) (data_of qs) 0 i (omega arith))

-- ---- begins

pub first-append : (xs ys : List Packet) (k d : ℕ)
    → first_in k d (xs ++ ys) ≡ cond (first_in k d xs == 65535) (first_in k (d + length (data_of xs)) ys)
    (first_in k d xs)
unfolding first_in data_of
first-append [] ys k d = let e : d + 0 ≡ d = omega arith in rw e
first-append (x ∷ xs) ys k d = elim (ℕ_discrete (d / 504) k) [
  | yes h ↦ rw (eq-eqb (d / 504) k h, ne_eqb (6 + d % 504) 65535 (λ e. omega arith))
  | no h ↦ (let n : d + length (packet_bytes x ++ data_of xs) ≡ d + size x + length (data_of xs)
      = omega (arith, length-append x.bytes (data_of xs)) in
      rw (ne_eqb (d / 504) k h, n) (first-append xs ys k (d + size x)))
]

-- packets that end before block k
pub first-before : (xs : List Packet) (k d : ℕ) → d + length (data_of xs) ≤ k * 504 → first_in k d xs ≡ 65535
unfolding first_in
first-before [] k d h = refl
first-before (x ∷ xs) k d h =
    let l = data-one x xs in
    rw (ne_eqb (d / 504) k (λ e. omega arith)) (first-before xs k (d + size x) (omega arith))

none_or : (a : ℕ) → cond (a == 65535) 65535 a ≡ a
none_or a = elim (ℕ_discrete a 65535) [
  | yes h ↦ rw (eq-eqb a 65535 h) (sym h)
  | no h ↦ rw (ne_eqb a 65535 h)
]

-- no later packet begins in block k
pub first-settled : (xs qs : List Packet) (k : ℕ) → (k + 1) * 504 ≤ length (data_of xs) → first_in k 0 (xs ++ qs)
    ≡ first_in k 0 xs
first-settled xs qs k h =
    let z : first_in k (0 + length (data_of xs)) qs ≡ 65535 = first-behind qs k (0 + length (data_of xs)) (omega arith) in
    first-append xs qs k 0 ∙ rw z (none_or (first_in k 0 xs))

-- ---- a copy

pub paste-before : (d : List ℕ) (at : ℕ) (s : List ℕ) (n i : ℕ) → i < at → at ≤ length d → slice_index (paste d at s n) i
    ≡ slice_index d i
paste-before d at s n i h l =
    get_or-append (take at d ++ take n s) (drop (at + n) d) 0 i
    (omega (arith, length-append (take at d) (take n s), length-take-le at d l))
    ∙ get_or-append (take at d) (take n s) 0 i (omega (arith, length-take-le at d l)) ∙ get_or-take at d i 0 h

pub paste-inside : (d : List ℕ) (at : ℕ) (s : List ℕ) (n i : ℕ) → i < n → at ≤ length d → n ≤ length s
    → slice_index (paste d at s n) (at + i) ≡ slice_index s i
paste-inside d at s n i h l m =
    let e : length (take at d) ≡ at = length-take-le at d l in
    let f : at + i ≡ length (take at d) + i = omega arith in
    get_or-append (take at d ++ take n s) (drop (at + n) d) 0 (at + i)
    (omega (arith, length_paste_head d at s n l m))
    ∙ rw f (get_or-append-add (take at d) (take n s) i 0) ∙ get_or-take n s i 0 h

-- ---- blocks

pub blocks-snoc : (ps : List Packet) (n k : ℕ) → blocks_from ps k n ++ block_of ps (k + n) ≡ blocks_from ps k (n + 1)
unfolding blocks_from
blocks-snoc ps zero k = let e : k + 0 ≡ k = omega arith in rw e (sym (append-nil (block_of ps k)))
blocks-snoc ps (suc n) k =
    let e : k + suc n ≡ k + 1 + n = omega arith in
    let f : suc n + 1 ≡ suc (n + 1) = omega arith in
    rw (e, f) (append_assoc (block_of ps k) (blocks_from ps (k + 1) n) (block_of ps (k + 1 + n))
    ∙ ap (λ (l : List ℕ). block_of ps k ++ l) (blocks-snoc ps n (k + 1)))

low_byte : (k : ℕ) → k % 4294967296 % 256 ≡ k % 256
low_byte k = omega arith

second-byte : (k : ℕ) → k % 4294967296 / 256 % 256 ≡ k / 256 % 256
second-byte k = omega arith

third-byte : (k : ℕ) → k % 4294967296 / 65536 % 256 ≡ k / 65536 % 256
third-byte k = omega arith

fourth-byte : (k : ℕ) → k % 4294967296 / 16777216 % 256 ≡ k / 16777216 % 256
fourth-byte k = omega arith

pub number-modulo : (k : ℕ) (l m : List ℕ) (f : ℕ) → l ≡ m → body (k % 4294967296) f l ≡ body k f m
unfolding body
number-modulo k l m f e = rw (low_byte k, second-byte k, third-byte k, fourth-byte k, e)

-- a block whose packet data is in place is closed as it stands in the stream
pub closed_is : (ps : List Packet) (k first : ℕ) (b : List ℕ) → length b ≡ 512 → first ≡ first_in k 0 ps
    → ((i : ℕ) → i < 504 → slice_index b (6 + i) ≡ slice_index (data_of ps) (k * 504 + i))
    → closed (k % 4294967296) first b ≡ block_of ps k
unfolding closed block_of
closed_is ps k first b l f h =
    ap sealed (number-modulo k _ (filled 504 (drop (k * 504) (data_of ps))) first same
    ∙ ap (λ (x : ℕ). body k x (filled 504 (drop (k * 504) (data_of ps)))) f)
  where
    len : length (take 504 (drop 6 b)) ≡ 504
    len = length-take-le 504 (drop 6 b) (omega (arith, length-drop 6 b))

    same : take 504 (drop 6 b) ≡ filled 504 (drop (k * 504) (data_of ps))
    same =
        ext_get_or 0 (take 504 (drop 6 b)) (filled 504 (drop (k * 504) (data_of ps)))
        (len ∙ sym (length-filled 504 (drop (k * 504) (data_of ps))))
        (λ i g. get_or-take 504 (drop 6 b) i 0 (omega (arith, len)) ∙ get_or-drop 6 b i 0 ∙ h i (omega (arith, len))
        ∙ sym (get_d-filled 504 (drop (k * 504) (data_of ps)) i (omega (arith, len))
        ∙ get_or-drop (k * 504) (data_of ps) i 0))
