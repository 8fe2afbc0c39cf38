-- A reader gives exactly the written packets that lie wholly in good blocks, in order, provided that each good block is
-- as written there.
use Rattle.std.specs.Prelude.{◌≡◌, ℕ, zero, suc, ◌+◌, ◌-◌, ◌*◌, ◌/◌, ◌%◌, ◌<◌, ◌≤◌, Bool, true, false, cond, List, [], ◌∷◌, length, ◌≢◌, slice_index}
use Rattle.std.proofs.Math.Path.{refl, sym, ap}
use Rattle.std.proofs.Common.{ap₂, ◌∙◌, get_or-append-add}
use native.Mathlib.Omega.{arith}
use Rattle.std.proofs.Math.Decide.{ℕ_discrete, dec_lt}
use borrow.Author.Tests.{le-leb, lt-leb, eq-eqb, ne_eqb}
use Rattle.std.proofs.Math.ListN.{get_or-append}
use Rattle.card.specs.Packet.{Packet, Writable, All, more, packet_bytes, size, data_of}
use Rattle.card.specs.Reading.{View, total, begins, seek, seek_from, block_end, clean_up_to, length_at, endpoint_at}
use Rattle.card.specs.Reading.{bytes_from, packet_from, packet_at, step_at, read_from, read_all}
use Rattle.card.specs.declared.stream.Step.TheVariants.{Gives}
use Rattle.card.specs.Kept.{kept_from, first_in, AsWritten}
use Rattle.card.specs.Steps.{intact-good, intact-cut, packet-in, packet-past, begin-filler, begin-packet}
use Rattle.card.specs.Steps.{step-short, step-begin, read-ends, read_goes, read-gives}
use Rattle.card.proofs.Clean.{clean-low, clean-bad, clean-good, all-false, all_true}

-- ---- begins

-- no packet behind block k begins in it
pub first-behind : (ps : List Packet) (k d : ℕ) → (k + 1) * 504 ≤ d → first_in k d ps ≡ 65535
unfolding first_in
first-behind [] k d h = refl
first-behind (p ∷ ps) k d h = rw (ne_eqb (d / 504) k (λ e. omega arith)) (first-behind ps k (d + size p) (omega arith))

pub first-here : (p : Packet) (ps : List Packet) (k d : ℕ) → d / 504 ≡ k → first_in k d (p ∷ ps) ≡ 6 + d % 504
unfolding first_in
first-here p ps k d h = rw (eq-eqb (d / 504) k h)

pub first-later : (p : Packet) (ps : List Packet) (k d : ℕ) → (d / 504 ≢ k) → first_in k d (p ∷ ps)
    ≡ first_in k (d + size p) ps
unfolding first_in
first-later p ps k d h = rw (ne_eqb (d / 504) k h)

-- ---- bytes

pub bytes-are : (v : View) (s : List ℕ) (d : ℕ) → ((i : ℕ) → i < length s → v.byte (d + i) ≡ slice_index s i)
    → bytes_from v d (length s) ≡ s
unfolding bytes_from
bytes-are v [] d h = refl
bytes-are v (x ∷ s) d h =
    let z : d + 0 ≡ d = omega arith in
    ap₂ (λ (a : ℕ) (l : List ℕ). a ∷ l) (rw z at (h 0 (omega arith)))
    (bytes-are v s (d + 1) (λ i l. let e : d + 1 + i ≡ d + suc i = omega arith in rw e (h (suc i) (omega arith))))

-- ---- the packets that are left

-- the packets qs stand from place d on
pub record Rest (ps : List Packet) (d : ℕ) (qs : List Packet) : Type 0 where
  pub bytes : (i : ℕ) → slice_index (data_of ps) (d + i) ≡ slice_index (data_of qs) i
  pub fine : All qs

-- the blocks from k on name the begins of packets from place d on
abbrev pub Names : List Packet → ℕ → ℕ → List Packet → Type 0
Names ps k d qs = (j : ℕ) → k ≤ j → first_in j 0 ps ≡ first_in j d qs

data-behind : (q : Packet) (qs : List Packet) (i : ℕ) → slice_index (data_of (q ∷ qs)) (size q + i) ≡ slice_index (data_of qs) i
unfolding data_of
data-behind q qs i = let e : size q + i ≡ length (packet_bytes q) + i
    = omega arith in rw e (get_or-append-add (packet_bytes q) (data_of qs) i 0)

pub data_head : (q : Packet) (qs : List Packet) (i : ℕ) → i < size q → slice_index (data_of (q ∷ qs)) i
    ≡ slice_index (packet_bytes q) i
unfolding data_of
data_head q qs i h = get_or-append (packet_bytes q) (data_of qs) 0 i (omega arith)

tail-fine : {q : Packet} {qs : List Packet} → All (q ∷ qs) → All qs
tail-fine (more h t) = t

pub head-fine : {q : Packet} {qs : List Packet} → All (q ∷ qs) → Writable q
head-fine (more h t) = h

pub rest-next : (ps : List Packet) (d : ℕ) (q : Packet) (qs : List Packet) → Rest ps d (q ∷ qs)
    → Rest ps (d + size q) qs
rest-next ps d q qs r = record {
  bytes = λ i. let e : d + size q + i ≡ d + (size q + i)
      = omega arith in rw e (r.bytes (size q + i) ∙ data-behind q qs i);
  fine = tail-fine r.fine;
}

pub kept-cut : (v : View) (d : ℕ) (q : Packet) (qs : List Packet) (b : ℕ) → d / 504 ≤ b → b * 504 < d + size q
    → v.good b ≡ false
    → kept_from v d (q ∷ qs) ≡ kept_from v (d + size q) qs
unfolding kept_from
kept-cut v d q qs b l h g =
    rw (all-false v (block_end (d + size q) - d / 504) (d / 504) b l (omega arith) g)

pub kept_whole : (v : View) (d : ℕ) (q : Packet) (qs : List Packet)
    → ((j : ℕ) → d / 504 ≤ j → j * 504 < d + size q → v.good j ≡ true) → kept_from v d (q ∷ qs) ≡ q
    ∷ kept_from v (d + size q) qs
unfolding kept_from
kept_whole v d q qs g =
    rw (all_true v (block_end (d + size q) - d / 504) (d / 504) (λ j l m. g j l (omega arith)))

-- ---- the theorem: packets from a begin on, from a block on

module _ (v : View) (ps : List Packet) (w : AsWritten v ps) where
  -- reading from the begin of a packet
  abbrev At : List Packet → Type 0
  At qs = (d : ℕ) → Rest ps d qs → Names ps (block_end d) d qs → (f : ℕ) → total v ≤ d + f → read_from v f d
      ≡ kept_from v d qs

  -- reading from the next begin that is named by block k or a later one; a packet before block k begins in a block that
  -- is not good
  abbrev Seeks : List Packet → Type 0
  Seeks qs = (d k n : ℕ) → k + n ≡ v.blocks → Rest ps d qs → Names ps k d qs
      → (d < k * 504 → (d / 504 + 1 ≡ k) × (v.good (d / 504) ≡ false))
      → (f : ℕ) → total v ≤ k * 504 + f → read_from v f (seek v k n) ≡ kept_from v d qs

  -- a packet that block b cuts
  skip : (q : Packet) (qs : List Packet) → Seeks qs → (d : ℕ) → Rest ps d (q ∷ qs) → Names ps (block_end d) d (q ∷ qs)
      → (b f : ℕ)
      → b < v.blocks → d / 504 ≤ b → b * 504 < d + size q → v.good b ≡ false → total v ≤ d + suc f
      → read_from v f (seek_from v (b + 1)) ≡ kept_from v d (q ∷ qs)
  skip q qs ih d r nm b f u l h g t =
      let n = rest-next ps d q qs r in
      ih (d + size q) (b + 1) (v.blocks - (b + 1)) (omega arith) n
      (λ j m. nm j (omega arith) ∙ first-later q qs j d (λ e. omega arith))
      (λ m. let e : (d + size q) / 504 ≡ b = omega arith in (omega arith, rw e g)) f (omega arith)
      ∙ sym (kept-cut v d q qs b l h g)

  -- a byte of a packet in a good block
  byte_is : (q : Packet) (qs : List Packet) (d : ℕ) → Rest ps d (q ∷ qs) → (i : ℕ) → i < size q → d + i < total v
      → v.good ((d + i) / 504) ≡ true
      → v.byte (d + i) ≡ slice_index (packet_bytes q) i
  byte_is q qs d r i h l g = w.bytes (d + i) l g ∙ r.bytes i ∙ data_head q qs i h

  -- the blocks up to the first that is not good are good
  good_up_to : (d e x : ℕ) → block_end e ≤ clean_up_to v d e → d ≤ x → x < e → v.good (x / 504) ≡ true
  good_up_to d e x c l h = clean-good v (block_end e - d / 504) (d / 504) (x / 504) (omega arith) (omega arith)

  header_is : (q : Packet) (qs : List Packet) (d : ℕ) → Rest ps d (q ∷ qs) → d + 3 ≤ total v → block_end (d + 3)
      ≤ clean_up_to v d (d + 3)
      → (endpoint_at v d ≡ q.endpoint) × (length_at v d ≡ length q.bytes)
  header_is q qs d r l c =
      let z : d + 0 ≡ d = omega arith in
      let b0 : v.byte d ≡ length q.bytes % 256 =
      rw z at (byte_is q qs d r 0 (omega arith) (omega arith)
      (good_up_to d (d + 3) (d + 0) c (omega arith) (omega arith))) in
      let b1 : v.byte (d + 1) ≡ length q.bytes / 256 =
      byte_is q qs d r 1 (omega arith) (omega arith) (good_up_to d (d + 3) (d + 1) c (omega arith) (omega arith)) in (
        byte_is q qs d r 2 (omega arith) (omega arith) (good_up_to d (d + 3) (d + 2) c (omega arith) (omega arith)),
        omega arith,
      )

  gives_it : (q : Packet) (qs : List Packet) → At qs → (d : ℕ) → Rest ps d (q ∷ qs) → Names ps (block_end d) d (q ∷ qs)
      → (f : ℕ)
      → total v ≤ d + suc f → d + 3 + length q.bytes ≤ total v → (endpoint_at v d ≡ q.endpoint) → step_at v d
      ≡ packet_at v d (length q.bytes)
      → block_end (d + 3 + length q.bytes) ≤ clean_up_to v d (d + 3 + length q.bytes)
      → read_from v (suc f) d ≡ kept_from v d (q ∷ qs)
  gives_it q qs ih d r nm f t u ep st c =
      let n = rest-next ps d q qs r in
      let e : d + 3 + length q.bytes ≡ d + size q = omega arith in
      let bs : bytes_from v (d + 3) (length q.bytes) ≡ q.bytes =
      bytes-are v q.bytes (d + 3) (λ i l. let y : d + 3 + i ≡ d + suc (suc (suc i)) = omega arith in
      rw y (byte_is q qs d r (suc (suc (suc i))) (omega arith) (omega arith)
      (good_up_to d (d + 3 + length q.bytes) (d + suc (suc (suc i))) c (omega arith) (omega arith)))) in
      let pk : packet_from v d q.endpoint (length q.bytes) ≡ q =
      ap (λ (b : List ℕ). record { endpoint = q.endpoint; bytes = b }) bs in
      let s : step_at v d ≡ Gives q.endpoint (length q.bytes) =
      st ∙ packet-in v d (length q.bytes) u ∙ intact-good v d (d + 3 + length q.bytes) _ c
      ∙ ap (λ (a : ℕ). Gives a (length q.bytes)) ep in
      read-gives v f d q.endpoint (length q.bytes) s
      ∙ rw (pk, e) (ap (λ (l : List Packet). q ∷ l)
      (ih (d + size q) n (λ j m. nm j (omega arith) ∙ first-later q qs j d (λ y. omega arith)) f (omega arith)))
      ∙ sym (kept_whole v d q qs (λ j l m.
      clean-good v (block_end (d + 3 + length q.bytes) - d / 504) (d / 504) j l (omega arith)))

  -- packets past the stream's end lie in no good block
  kept-past : (qs : List Packet) (d : ℕ) → total v < d + 3 → kept_from v d qs ≡ []
  unfolding kept_from
  kept-past [] d h = refl
  kept-past (q ∷ qs) d h =
      kept-cut v d q qs ((d + 2 + length q.bytes) / 504) (omega arith) (omega arith)
      (w.inside ((d + 2 + length q.bytes) / 504) (omega arith))
      ∙ kept-past qs (d + size q) (omega arith)

  -- a packet whose header is in the stream
  at_packet : (q : Packet) (qs : List Packet) → At qs → Seeks qs → (d : ℕ) → Rest ps d (q ∷ qs)
      → Names ps (block_end d) d (q ∷ qs) → (f : ℕ)
      → total v ≤ d + suc f → d + 3 ≤ total v → (endpoint_at v d ≡ q.endpoint) → step_at v d
      ≡ packet_at v d (length q.bytes)
      → read_from v (suc f) d ≡ kept_from v d (q ∷ qs)
  at_packet q qs ia is d r nm f t u ep st = elim (dec_lt (total v) (d + 3 + length q.bytes)) [
    | yes p ↦ elim (dec_lt (clean_up_to v d (total v)) (block_end (total v))) [
      | yes b ↦ read_goes v f d _ (st ∙ packet-past v d (length q.bytes) p ∙ intact-cut v d (total v) _ b)
          ∙ skip q qs is d r nm (clean_up_to v d (total v)) f (omega arith)
          (clean-low v (block_end (total v) - d / 504) (d / 504)) (omega arith)
          (clean-bad v (block_end (total v) - d / 504) (d / 504) (omega arith)) t
      | no b ↦ read-ends v f d (st ∙ packet-past v d (length q.bytes) p ∙ intact-good v d (total v) _ (omega arith))
          ∙ sym (kept-cut v d q qs v.blocks (omega arith) (omega arith) (w.inside v.blocks (omega arith))
          ∙ kept-past qs (d + size q) (omega arith))
    ]
    | no p ↦ elim (dec_lt (clean_up_to v d (d + 3 + length q.bytes)) (block_end (d + 3 + length q.bytes))) [
      | yes b ↦ read_goes v f d _ (st ∙ packet-in v d (length q.bytes) (omega arith)
          ∙ intact-cut v d (d + 3 + length q.bytes) _ b)
          ∙ skip q qs is d r nm (clean_up_to v d (d + 3 + length q.bytes)) f (omega arith)
          (clean-low v (block_end (d + 3 + length q.bytes) - d / 504) (d / 504)) (omega arith)
          (clean-bad v (block_end (d + 3 + length q.bytes) - d / 504) (d / 504) (omega arith)) t
      | no b ↦ gives_it q qs ia d r nm f t (omega arith) ep st (omega arith)
    ]
  ]

  at_more : (q : Packet) (qs : List Packet) → At qs → Seeks qs → At (q ∷ qs)
  unfolding read_from
  at_more q qs ia is d r nm zero t = sym (kept-past (q ∷ qs) d (omega arith))
  at_more q qs ia is d r nm (suc f) t = elim (dec_lt (total v) (d + 3)) [
    | yes s ↦ read-ends v f d (step-short v d s) ∙ sym (kept-past (q ∷ qs) d s)
    | no s ↦ elim (dec_lt (clean_up_to v d (d + 3)) (block_end (d + 3))) [
      | yes c ↦ read_goes v f d _ (step-begin v d (omega arith) ∙ intact-cut v d (d + 3) _ c)
          ∙ skip q qs is d r nm (clean_up_to v d (d + 3)) f (omega arith)
          (clean-low v (block_end (d + 3) - d / 504) (d / 504)) (omega arith)
          (clean-bad v (block_end (d + 3) - d / 504) (d / 504) (omega arith)) t
      | no c ↦ (let hd = header_is q qs d r (omega arith) (omega arith) in
          at_packet q qs ia is d r nm f t (omega arith) hd.0
          (step-begin v d (omega arith) ∙ intact-good v d (d + 3) _ (omega arith)
          ∙ begin-packet v d (λ z. omega (arith, hd.0, (head-fine r.fine).numbered)) ∙ ap (packet_at v d) hd.1))
    ]
  ]

  -- ---- none left

  seek-none : (n k d : ℕ) → k + n ≡ v.blocks → Names ps k d [] → seek v k n ≡ total v
  unfolding seek first_in
  seek-none zero k d e nm = let e' : k ≡ v.blocks = omega arith in rw e'
  seek-none (suc n) k d e nm = go (seek-none n (k + 1) d (omega arith) (λ j m. nm j (omega arith))) (v.good k) refl
    where
      go : seek v (k + 1) n ≡ total v → (b : Bool) → v.good k ≡ b
          → cond (begins v k) (k * 504 + (v.named k - 6)) (seek v (k + 1) n) ≡ total v
      go i true g =
          let x : v.named k ≡ 65535 = w.names k (omega arith) g ∙ nm k (omega arith) in
          rw (g, x) i
      go i false g = rw g i

  read-end : (f : ℕ) → read_from v f (total v) ≡ []
  unfolding read_from
  read-end zero = refl
  read-end (suc f) = read-ends v f (total v) (step-short v (total v) (omega arith))

  read_none : (n k d f : ℕ) → k + n ≡ v.blocks → Names ps k d [] → read_from v f (seek v k n) ≡ []
  read_none n k d f e nm = rw (seek-none n k d e nm) (read-end f)

  seeks_none : Seeks []
  unfolding kept_from
  seeks_none d k n e r nm bh f t = read_none n k d f e nm

  at_none : At []
  unfolding kept_from read_from data_of
  at_none d r nm zero t = refl
  at_none d r nm (suc f) t = elim (dec_lt (total v) (d + 3)) [
    | yes s ↦ read-ends v f d (step-short v d s)
    | no s ↦ elim (dec_lt (clean_up_to v d (d + 3)) (block_end (d + 3))) [
      | yes c ↦ (let b = clean_up_to v d (d + 3) in
          let l = clean-low v (block_end (d + 3) - d / 504) (d / 504) in
          read_goes v f d _ (step-begin v d (omega arith) ∙ intact-cut v d (d + 3) _ c)
          ∙ read_none (v.blocks - (b + 1)) (b + 1) d f (omega arith) (λ j m. nm j (omega arith)))
      | no c ↦ read-ends v f d (step-begin v d (omega arith) ∙ intact-good v d (d + 3) _ (omega arith)
          ∙ begin-filler v d
          (w.bytes (d + 2) (omega arith) (good_up_to d (d + 3) (d + 2) (omega arith) (omega arith) (omega arith))
          ∙ r.bytes 2))
    ]
  ]

  -- ---- the next begin that is named

  seek_named : (n k : ℕ) → v.good k ≡ true → 6 ≤ v.named k → v.named k ≤ 509 → seek v k (suc n) ≡ k * 504
      + (v.named k - 6)
  unfolding seek
  seek_named n k g l h = rw (g, le-leb 6 (v.named k) l, le-leb (v.named k) 509 h)

  seek_bad : (n k : ℕ) → v.good k ≡ false → seek v k (suc n) ≡ seek v (k + 1) n
  unfolding seek
  seek_bad n k g = rw g

  seek_nameless : (n k : ℕ) → v.good k ≡ true → 509 < v.named k → seek v k (suc n) ≡ seek v (k + 1) n
  unfolding seek
  seek_nameless n k g h = rw (g, le-leb 6 (v.named k) (omega arith), lt-leb (v.named k) 509 h)

  -- no packet before block k is left
  seeks_at : (q : Packet) (qs : List Packet) → At (q ∷ qs) → Seeks qs → (n d k : ℕ) → k + n ≡ v.blocks
      → Rest ps d (q ∷ qs) → Names ps k d (q ∷ qs)
      → k * 504 ≤ d → (f : ℕ) → total v ≤ k * 504 + f → read_from v f (seek v k n) ≡ kept_from v d (q ∷ qs)
  unfolding seek
  seeks_at q qs ia is zero d k e r nm l f t =
      let z : k ≡ v.blocks = omega arith in
      rw z (read-end f) ∙ sym (kept-past (q ∷ qs) d (omega arith))
  seeks_at q qs ia is (suc n) d k e r nm l f t =
      go (λ m. seeks_at q qs ia is n d (k + 1) (omega arith) r (λ j h. nm j (omega arith)) m f (omega arith))
      (v.good k) refl
    where
      go : ((k + 1) * 504 ≤ d → read_from v f (seek v (k + 1) n) ≡ kept_from v d (q ∷ qs))
          → (b : Bool) → v.good k ≡ b → read_from v f (seek v k (suc n)) ≡ kept_from v d (q ∷ qs)
      go i true g = elim (ℕ_discrete (d / 504) k) [
        | yes h ↦ (let x : v.named k ≡ 6 + d % 504 = w.names k (omega arith) g ∙ nm k (omega arith)
            ∙ first-here q qs k d h in
            let y : seek v k (suc n) ≡ d = seek_named n k g (omega arith) (omega arith) ∙ omega arith in
            rw y (ia d r (λ j m. nm j (omega arith)) f (omega arith)))
        | no h ↦ (let x : v.named k ≡ 65535 =
            w.names k (omega arith) g ∙ nm k (omega arith) ∙ first-behind (q ∷ qs) k d (omega arith) in
            rw (seek_nameless n k g (omega arith)) (i (omega arith)))
      ]
      go i false g = elim (dec_lt d ((k + 1) * 504)) [
        | yes h ↦ (let z : d / 504 ≡ k = omega arith in
            rw (seek_bad n k g)
            (is (d + size q) (k + 1) n (omega arith) (rest-next ps d q qs r)
            (λ j m. nm j (omega arith) ∙ first-later q qs j d (λ y. omega arith))
            (λ m. let y : (d + size q) / 504 ≡ k = omega arith in (omega arith, rw y g)) f (omega arith)
            ∙ sym (kept-cut v d q qs k (omega arith) (omega arith) g)))
        | no h ↦ rw (seek_bad n k g) (i (omega arith))
      ]

  seeks_more : (q : Packet) (qs : List Packet) → At (q ∷ qs) → Seeks qs → Seeks (q ∷ qs)
  seeks_more q qs ia is d k n e r nm bh f t = elim (dec_lt d (k * 504)) [
    | yes h ↦ (let z = bh h in
        is (d + size q) k n e (rest-next ps d q qs r)
        (λ j m. nm j m ∙ first-later q qs j d (λ y. omega arith))
        (λ m. let y : (d + size q) / 504 ≡ d / 504 = omega arith in rw y z) f t
        ∙ sym (kept-cut v d q qs (d / 504) (omega arith) (omega arith) z.1))
    | no h ↦ seeks_at q qs ia is n d k e r nm (omega arith) f t
  ]

  both : (qs : List Packet) → At qs × Seeks qs
  both [] = (at_none, seeks_none)
  both (q ∷ qs) =
      let i = both qs in
      let a = at_more q qs i.0 i.1 in
      (a, seeks_more q qs a i.1)

  pub reads_kept : All ps → read_all v ≡ kept_from v 0 ps
  unfolding read_all
  reads_kept fine =
      (both ps).1 0 0 (v.blocks - 0) (omega arith)
      (record { bytes = λ i. let e : 0 + i ≡ i = omega arith in rw e; fine = fine })
      (λ j m. refl) (λ m. absurd (omega arith)) (total v) (omega arith)
