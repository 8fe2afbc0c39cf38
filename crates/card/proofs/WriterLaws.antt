-- What stores leave in a block.
use Rattle.std.proofs.Common.{◌≡◌, ℕ, suc, ◌+◌, ◌/◌, ◌%◌, ◌≤◌, List, [], ◌∷◌, ◌++◌, length, take, drop, set, sym, ap, ◌∙◌, ap₂, append_assoc, append-nil, arith, length-drop, drop_of_length-le, length-take-le, take_all, drop-drop, le-ltb}
use lib.Seq.{sets-eq, paste, length-paste}
use Rattle.ring.specs.Copies.{copied}
use Rattle.card.specs.Crc.{data_crc}
use Rattle.card.specs.Packet.{packet_bytes, packet_of}
use Rattle.card.specs.Rooms.{paste-run}
use Rattle.card.specs.Written.{body, sealed}
use Rattle.card.specs.Writing.{closed}

-- ---- a packet's bytes in a block

-- the header by three stores
pub header-stores : (e : ℕ) (s b : List ℕ) (at : ℕ) → at + 3 ≤ length b
    → set (set (set b at (length s % 256)) (at + 1) (length s / 256)) (at + 2) e
    ≡ paste b at (packet_bytes (packet_of e s)) 3
header-stores e s b at h =
    let e1 : suc at ≡ at + 1 = omega arith in
    let e2 : suc (at + 1) ≡ at + 2 = omega arith in
    rw (e1, e2) at (sets-eq (length s % 256 ∷ length s / 256 ∷ e ∷ []) b at h)

-- a copy that fits is a run of bytes in place
copied-in : (b d : List ℕ) (at : ℕ) → at + length d ≤ length b → copied b at d ≡ paste b at d (length d)
unfolding copied
copied-in b d at h =
    rw (le-ltb (length b) (at + length d) h)
    (ap₂ (λ (x y : List ℕ). take at b ++ (x ++ y)) (sym (take_all (length d) d (omega arith)))
    (drop-drop (length d) at b)
    ∙ sym (append_assoc (take at b) (take (length d) d) (drop (at + length d) b)))

-- the header's part is in place; m bytes of data behind it are copied
pub data-behind : (e : ℕ) (s b c r : List ℕ) (at from few m n a : ℕ) → at + n ≤ length b → from + n ≤ 3 + length s → few
    + m ≡ n
    → from + few ≡ 3 + a → c ≡ paste b at (drop from (packet_bytes (packet_of e s))) few
    → r ≡ copied c (at + few) (take m (drop a s)) → r ≡ paste b at (drop from (packet_bytes (packet_of e s))) n
data-behind e s b c r at from few m n a hb hs hn ha hc hr =
    let source = drop from (packet_bytes (packet_of e s)) in
    let d = take m (drop a s) in
    let long = length-drop from (packet_bytes (packet_of e s)) in
    let far = length-drop a s in
    let three : from + few ≡ suc (suc (suc a)) = omega (arith, ha) in
    let k : length d ≡ m = length-take-le m (drop a s) (omega (arith, far)) in
    let same : length c ≡ length b = ap length hc ∙ length-paste b at source few (omega arith) (omega (arith, long)) in
    let there : drop few source ≡ drop a s =
    drop-drop few from (packet_bytes (packet_of e s)) ∙ ap (λ (i : ℕ). drop i (packet_bytes (packet_of e s))) three in
    let whole : take m d ≡ take m (drop few source) =
    take_all m d (omega (arith, k)) ∙ ap (λ (l : List ℕ). take m l) (sym there) in
    hr
    ∙ copied-in c d (at + few) (omega (arith, k, same))
    ∙ rw (k, hc) (paste-run b source d at few m (omega arith) (omega (arith, long)) whole)
    ∙ ap (λ (i : ℕ). paste b at source i) hn

-- ---- a block's head and check

pub head-stores : (l : List ℕ) (number first : ℕ) → 6 ≤ length l
    → set
    (set (set (set (set (set l 0 (number % 256)) 1 (number / 256 % 256)) 2 (number / 65536 % 256)) 3
    (number / 16777216 % 256)) 4
    (first % 256)) 5 (first / 256)
    ≡ body number first (drop 6 l)
unfolding body
head-stores l number first h =
    sets-eq (number % 256 ∷ number / 256 % 256 ∷ number / 65536 % 256 ∷ number / 16777216 % 256 ∷ first % 256
    ∷ first / 256 ∷ []) l 0 h

pub check-stores : (l : List ℕ) (crc : ℕ) → length l ≡ 512 → crc ≡ data_crc (take 510 l)
    → set (set l 510 (crc % 256)) 511 (crc / 256) ≡ sealed (take 510 l)
unfolding sealed
check-stores l crc h e =
    let z : length l ≤ 512 = omega arith in
    sets-eq (crc % 256 ∷ crc / 256 ∷ []) l 510 (omega arith)
    ∙ rw (drop_of_length-le l z, append-nil (take 510 l ++ (crc % 256 ∷ crc / 256 ∷ [])), e)

pub closed-by : (b c r : List ℕ) (number first : ℕ) → c ≡ body number first (drop 6 b) → r ≡ sealed (take 510 c) → r
    ≡ closed number first b
unfolding closed body
closed-by b c r number first h e = e ∙ rw h
