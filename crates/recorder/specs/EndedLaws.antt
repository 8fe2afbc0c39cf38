-- Laws on the definitions of Ended.antt: what lies behind a stream that says where it ends is not read.
use Rattle.std.specs.Prelude.{◌≡◌, Bool, List, [], ◌∷◌, length, get_or}
use Rattle.std.proofs.Math.Path.{refl, sym, ap}
use Rattle.std.proofs.Common.{ap₂, ◌∙◌, length-append}
use Rattle.std.proofs.Math.Bool.{true, false}
use Rattle.std.proofs.lemmas.Bool.{false≢true}
use Prim.Native.Nat.{ℕ, zero, suc, ◌+◌, ◌-◌, ◌*◌, ◌/◌, ◌%◌, ◌≤◌, ◌<◌}
use native.Mathlib.Omega.{arith}
use Rattle.std.proofs.Math.Decide.{ℕ_discrete, dec_lt}
use borrow.Author.Tests.{le-leb, lt-leb, eq-eqb}
use Rattle.card.specs.Packet.{Packet, All, packet_bytes, size, data_of}
use Rattle.card.specs.Reading.{View, total, seek, seek_from, block_end, clean_up_to, length_at, endpoint_at}
use Rattle.card.specs.Reading.{bytes_from, packet_from, packet_at, step_at, read_from, read_all}
use Rattle.card.specs.declared.stream.Step.TheVariants.{Gives}
use Rattle.card.specs.Kept.{kept_from, first_in}
use Rattle.card.specs.Steps.{intact-good, intact-cut, packet-in, begin-filler, begin-packet}
use Rattle.card.specs.Steps.{step-begin, read-ends, read_goes, read-gives}
use Rattle.card.proofs.Clean.{clean-low, clean-bad, clean-good}
use Rattle.card.proofs.Theorem.{first-behind, first-here, first-later, bytes-are, Rest, Names, data_head, head-fine}
use Rattle.card.proofs.Theorem.{rest-next, kept-cut, kept_whole}
use Rattle.card.specs.Streams.{data_byte, view}
use Rattle.card.specs.Places.{block-data, block-first, byte-block}
use Rattle.card.specs.Turns.{by_calls}
use Rattle.card.proofs.TurnsLaws.{calls-read}
use Rattle.card.specs.Calls.{start_of}
use Rattle.card.specs.Runs.{read_run}
use Rattle.card.proofs.RunsLaws.{run-in-turn, kept-all}
use Rattle.recorder.specs.Ended.{EndsIn, EndsInBlock}

data-size : (q : Packet) (qs : List Packet) → length (data_of (q ∷ qs)) ≡ size q + length (data_of qs)
unfolding data_of
data-size q qs = omega (arith, length-append q.bytes (data_of qs))

module _ (v : View) (ps : List Packet) (m : ℕ) (w : EndsIn v ps m) where
  -- the packets qs are the last ones, and begin at place d
  record Last (d : ℕ) (qs : List Packet) : Type 0 where
    rest : Rest ps d qs
    sums : d + length (data_of qs) ≡ length (data_of ps)

  last_next : (d : ℕ) (q : Packet) (qs : List Packet) → Last d (q ∷ qs) → Last (d + size q) qs
  last_next d q qs r = record {
    rest = rest-next ps d q qs r.rest;
    sums = omega (arith, data-size q qs, r.sums);
  }

  -- where a packet ends, the filler follows in block m
  fits : (d : ℕ) (q : Packet) (qs : List Packet) → Last d (q ∷ qs) → d + size q + 3 ≤ (m + 1) * 504
  fits d q qs r = omega (arith, data-size q qs, r.sums, w.ends)

  many : (m + 1) * 504 ≤ total v
  many = omega (arith, w.inside)

  -- a block that is not good stands before block m
  below : (b : ℕ) → b ≤ m → v.good b ≡ false → b < m
  below b l g = elim (ℕ_discrete b m) [
    | yes e ↦ absurd (false≢true (sym (rw e at g) ∙ w.good))
    | no e ↦ omega arith
  ]

  -- reading from the begin of a packet
  abbrev At : List Packet → Type 0
  At qs = (d : ℕ) → Last d qs → Names ps (block_end d) d qs → (f : ℕ) → total v ≤ d + f → read_from v f d
      ≡ kept_from v d qs

  -- reading from the next begin that is named by block k or a later one; a packet before block k begins in a block that
  -- is not good
  abbrev Seeks : List Packet → Type 0
  Seeks qs = (d k n : ℕ) → k + n ≡ v.blocks → k ≤ m → Last d qs → Names ps k d qs
      → (d < k * 504 → (d / 504 + 1 ≡ k) × (v.good (d / 504) ≡ false))
      → (f : ℕ) → total v ≤ k * 504 + f → read_from v f (seek v k n) ≡ kept_from v d qs

  -- a packet that block b cuts
  skip : (q : Packet) (qs : List Packet) → Seeks qs → (d : ℕ) → Last d (q ∷ qs) → Names ps (block_end d) d (q ∷ qs)
      → (b f : ℕ)
      → d / 504 ≤ b → b * 504 < d + size q → v.good b ≡ false → total v ≤ d + suc f
      → read_from v f (seek_from v (b + 1)) ≡ kept_from v d (q ∷ qs)
  skip q qs ih d r nm b f l h g t =
      let before : b < m = below b (omega (arith, fits d q qs r)) g in
      ih (d + size q) (b + 1) (v.blocks - (b + 1)) (omega (arith, w.inside)) (omega arith) (last_next d q qs r)
      (λ j m. nm j (omega arith) ∙ first-later q qs j d (λ e. omega arith))
      (λ m. let e : (d + size q) / 504 ≡ b = omega arith in (omega arith, rw e g)) f (omega arith)
      ∙ sym (kept-cut v d q qs b l h g)

  -- a byte of a packet in a good block
  byte_is : (q : Packet) (qs : List Packet) (d : ℕ) → Last d (q ∷ qs) → (i : ℕ) → i < size q → v.good ((d + i) / 504)
      ≡ true
      → v.byte (d + i) ≡ get_or (packet_bytes q) i 0
  byte_is q qs d r i h g = w.bytes (d + i) (omega (arith, fits d q qs r)) g ∙ r.rest.bytes i ∙ data_head q qs i h

  -- the blocks up to the first that is not good are good
  good_up_to : (d e x : ℕ) → block_end e ≤ clean_up_to v d e → d ≤ x → x < e → v.good (x / 504) ≡ true
  good_up_to d e x c l h = clean-good v (block_end e - d / 504) (d / 504) (x / 504) (omega arith) (omega arith)

  header_is : (q : Packet) (qs : List Packet) (d : ℕ) → Last d (q ∷ qs) → block_end (d + 3) ≤ clean_up_to v d (d + 3)
      → (endpoint_at v d ≡ q.endpoint) × (length_at v d ≡ length q.bytes)
  header_is q qs d r c =
      let z : d + 0 ≡ d = omega arith in
      let b0 : v.byte d ≡ length q.bytes % 256 =
      rw z at (byte_is q qs d r 0 (omega arith) (good_up_to d (d + 3) (d + 0) c (omega arith) (omega arith))) in
      let b1 : v.byte (d + 1) ≡ length q.bytes / 256 =
      byte_is q qs d r 1 (omega arith) (good_up_to d (d + 3) (d + 1) c (omega arith) (omega arith)) in
      (byte_is q qs d r 2 (omega arith) (good_up_to d (d + 3) (d + 2) c (omega arith) (omega arith)), omega arith)

  gives_it : (q : Packet) (qs : List Packet) → At qs → (d : ℕ) → Last d (q ∷ qs) → Names ps (block_end d) d (q ∷ qs)
      → (f : ℕ)
      → total v ≤ d + suc f → d + 3 + length q.bytes ≤ total v → (endpoint_at v d ≡ q.endpoint) → step_at v d
      ≡ packet_at v d (length q.bytes)
      → block_end (d + 3 + length q.bytes) ≤ clean_up_to v d (d + 3 + length q.bytes)
      → read_from v (suc f) d ≡ kept_from v d (q ∷ qs)
  gives_it q qs ih d r nm f t u ep st c =
      let n = last_next d q qs r in
      let e : d + 3 + length q.bytes ≡ d + size q = omega arith in
      let bs : bytes_from v (d + 3) (length q.bytes) ≡ q.bytes =
      bytes-are v q.bytes (d + 3) (λ i l. let y : d + 3 + i ≡ d + suc (suc (suc i)) = omega arith in
      rw y (byte_is q qs d r (suc (suc (suc i))) (omega arith)
      (good_up_to d (d + 3 + length q.bytes) (d + suc (suc (suc i))) c (omega arith) (omega arith)))) in
      let pk : packet_from v d q.endpoint (length q.bytes) ≡ q =
      ap (λ (b : List ℕ). record { endpoint = q.endpoint; bytes = b }) bs in
      let s : step_at v d ≡ Gives q.endpoint (length q.bytes) =
      st ∙ packet-in v d (length q.bytes) u ∙ intact-good v d (d + 3 + length q.bytes) _ c
      ∙ ap (λ (a : ℕ). Gives a (length q.bytes)) ep in
      read-gives v f d q.endpoint (length q.bytes) s
      ∙ rw (pk, e) (ap (λ (l : List Packet). q ∷ l)
      (ih (d + size q) n (λ j m. nm j (omega arith) ∙ first-later q qs j d (λ y. omega arith)) f (omega arith)))
      ∙ sym (kept_whole v d q qs (λ j l m.
      clean-good v (block_end (d + 3 + length q.bytes) - d / 504) (d / 504) j l (omega arith)))

  at_packet : (q : Packet) (qs : List Packet) → At qs → Seeks qs → (d : ℕ) → Last d (q ∷ qs)
      → Names ps (block_end d) d (q ∷ qs) → (f : ℕ)
      → total v ≤ d + suc f → (endpoint_at v d ≡ q.endpoint) → step_at v d ≡ packet_at v d (length q.bytes)
      → read_from v (suc f) d ≡ kept_from v d (q ∷ qs)
  at_packet q qs ia is d r nm f t ep st =
      let n = length q.bytes in
      let inside : d + 3 + length q.bytes ≤ total v = omega (arith, fits d q qs r, many) in
      elim (dec_lt (clean_up_to v d (d + 3 + n)) (block_end (d + 3 + n))) [
        | yes b ↦ read_goes v f d _ (st ∙ packet-in v d n inside ∙ intact-cut v d (d + 3 + n) _ b)
            ∙ skip q qs is d r nm (clean_up_to v d (d + 3 + n)) f
            (clean-low v (block_end (d + 3 + n) - d / 504) (d / 504)) (omega arith)
            (clean-bad v (block_end (d + 3 + n) - d / 504) (d / 504) (omega arith)) t
        | no b ↦ gives_it q qs ia d r nm f t inside ep st (omega arith)
      ]

  at_more : (q : Packet) (qs : List Packet) → At qs → Seeks qs → At (q ∷ qs)
  unfolding read_from
  at_more q qs ia is d r nm zero t = absurd (omega (arith, fits d q qs r, many))
  at_more q qs ia is d r nm (suc f) t =
      let three : d + 3 ≤ total v = omega (arith, fits d q qs r, many) in
      elim (dec_lt (clean_up_to v d (d + 3)) (block_end (d + 3))) [
        | yes c ↦ read_goes v f d _ (step-begin v d three ∙ intact-cut v d (d + 3) _ c)
            ∙ skip q qs is d r nm (clean_up_to v d (d + 3)) f (clean-low v (block_end (d + 3) - d / 504) (d / 504))
            (omega arith)
            (clean-bad v (block_end (d + 3) - d / 504) (d / 504) (omega arith)) t
        | no c ↦ (let hd = header_is q qs d r (omega arith) in
            at_packet q qs ia is d r nm f t hd.0
            (step-begin v d three ∙ intact-good v d (d + 3) _ (omega arith)
            ∙ begin-packet v d (λ z. omega (arith, hd.0, (head-fine r.rest.fine).numbered))
            ∙ ap (packet_at v d) hd.1))
      ]

  -- ---- none left: the filler

  none_sums : (d : ℕ) → Last d [] → d ≡ length (data_of ps)
  unfolding data_of
  none_sums d r = omega (arith, r.sums)

  -- the last packet begins in block m, so the filler does
  in_last : (d : ℕ) → Names ps (block_end d) d [] → m * 504 < d
  unfolding first_in
  in_last d nm = elim (dec_lt m (block_end d)) [
    | yes l ↦ omega arith
    | no l ↦ absurd (w.begun (nm m (omega arith)))
  ]

  at_none : At []
  unfolding kept_from read_from data_of
  at_none d r nm zero t = refl
  at_none d r nm (suc f) t =
      let e = none_sums d r in
      let low = in_last d nm in
      let here : d / 504 ≡ m = omega (arith, w.ends) in
      let three : d + 3 ≤ total v = omega (arith, w.ends, many) in
      elim (dec_lt (clean_up_to v d (d + 3)) (block_end (d + 3))) [
        | yes c ↦ (let b = clean_up_to v d (d + 3) in
            let l = clean-low v (block_end (d + 3) - d / 504) (d / 504) in
            let bad = clean-bad v (block_end (d + 3) - d / 504) (d / 504) (omega arith) in
            absurd (let x = below b (omega (arith, w.ends)) bad in omega arith))
        | no c ↦ read-ends v f d (step-begin v d three ∙ intact-good v d (d + 3) _ (omega arith) ∙ begin-filler v d
            (w.bytes (d + 2) (omega (arith, w.ends))
            (good_up_to d (d + 3) (d + 2) (omega arith) (omega arith) (omega arith)) ∙ r.rest.bytes 2))
      ]

  seeks_none : Seeks []
  unfolding first_in
  seeks_none d k n e l r nm bh f t = absurd (w.begun (nm m l))

  -- ---- the next begin that is named

  seek_named : (n k : ℕ) → v.good k ≡ true → 6 ≤ v.named k → v.named k ≤ 509 → seek v k (suc n) ≡ k * 504
      + (v.named k - 6)
  unfolding seek
  seek_named n k g l h = rw (g, le-leb 6 (v.named k) l, le-leb (v.named k) 509 h)

  seek_bad : (n k : ℕ) → v.good k ≡ false → seek v k (suc n) ≡ seek v (k + 1) n
  unfolding seek
  seek_bad n k g = rw g

  seek_nameless : (n k : ℕ) → v.good k ≡ true → 509 < v.named k → seek v k (suc n) ≡ seek v (k + 1) n
  unfolding seek
  seek_nameless n k g h = rw (g, le-leb 6 (v.named k) (omega arith), lt-leb (v.named k) 509 h)

  -- no packet before block k is left
  seeks_at : (q : Packet) (qs : List Packet) → At (q ∷ qs) → Seeks qs → (n d k : ℕ) → k + n ≡ v.blocks → k ≤ m
      → Last d (q ∷ qs)
      → Names ps k d (q ∷ qs) → k * 504 ≤ d → (f : ℕ) → total v ≤ k * 504 + f → read_from v f (seek v k n)
      ≡ kept_from v d (q ∷ qs)
  unfolding seek
  seeks_at q qs ia is zero d k e u r nm l f t = absurd (omega (arith, w.inside))
  seeks_at q qs ia is (suc n) d k e u r nm l f t =
      go (λ x m. seeks_at q qs ia is n d (k + 1) (omega arith) x r (λ j h. nm j (omega arith)) m f (omega arith))
      (v.good k) refl
    where
      go : (k + 1 ≤ m → (k + 1) * 504 ≤ d → read_from v f (seek v (k + 1) n) ≡ kept_from v d (q ∷ qs))
          → (b : Bool) → v.good k ≡ b → read_from v f (seek v k (suc n)) ≡ kept_from v d (q ∷ qs)
      go i true g = elim (ℕ_discrete (d / 504) k) [
        | yes h ↦ (let x : v.named k ≡ 6 + d % 504 = w.names k u g ∙ nm k (omega arith) ∙ first-here q qs k d h in
            let y : seek v k (suc n) ≡ d = seek_named n k g (omega arith) (omega arith) ∙ omega arith in
            rw y (ia d r (λ j m. nm j (omega arith)) f (omega arith)))
        | no h ↦ (let none : first_in k 0 ps ≡ 65535 = nm k (omega arith) ∙ first-behind (q ∷ qs) k d (omega arith) in
            let x : v.named k ≡ 65535 = w.names k u g ∙ none in
            let other : k + 1 ≤ m = elim (ℕ_discrete k m) [
              | yes z ↦ absurd (w.begun (rw z at none))
              | no z ↦ omega arith
            ] in
            rw (seek_nameless n k g (omega arith)) (i other (omega arith)))
      ]
      go i false g =
          let other : k + 1 ≤ m = omega (arith, below k u g) in
          elim (dec_lt d ((k + 1) * 504)) [
            | yes h ↦ (let z : d / 504 ≡ k = omega arith in
                rw (seek_bad n k g)
                (is (d + size q) (k + 1) n (omega arith) other (last_next d q qs r)
                (λ j m. nm j (omega arith) ∙ first-later q qs j d (λ y. omega arith))
                (λ m. let y : (d + size q) / 504 ≡ k = omega arith in (omega arith, rw y g)) f (omega arith)
                ∙ sym (kept-cut v d q qs k (omega arith) (omega arith) g)))
            | no h ↦ rw (seek_bad n k g) (i other (omega arith))
          ]

  seeks_more : (q : Packet) (qs : List Packet) → At (q ∷ qs) → Seeks qs → Seeks (q ∷ qs)
  seeks_more q qs ia is d k n e u r nm bh f t = elim (dec_lt d (k * 504)) [
    | yes h ↦ (let z = bh h in
        is (d + size q) k n e u (last_next d q qs r)
        (λ j m. nm j m ∙ first-later q qs j d (λ y. omega arith))
        (λ m. let y : (d + size q) / 504 ≡ d / 504 = omega arith in rw y z) f t
        ∙ sym (kept-cut v d q qs (d / 504) (omega arith) (omega arith) z.1))
    | no h ↦ seeks_at q qs ia is n d k e u r nm (omega arith) f t
  ]

  both : (qs : List Packet) → At qs × Seeks qs
  both [] = (at_none, seeks_none)
  both (q ∷ qs) =
      let i = both qs in
      let a = at_more q qs i.0 i.1 in
      (a, seeks_more q qs a i.1)

  pub reads_ended : All ps → read_all v ≡ kept_from v 0 ps
  unfolding read_all
  reads_ended fine =
      (both ps).1 0 0 (v.blocks - 0) (omega arith) (omega arith)
      (record {
        rest = record { bytes = λ i. let e : 0 + i ≡ i = omega arith in rw e; fine = fine };
        sums
            = omega arith;
      })
      (λ j m. refl) (λ m. absurd (omega arith)) (total v) (omega arith)

-- ---- a card's bytes

ends-in : (s : List ℕ) (ps : List Packet) (m : ℕ) → EndsInBlock s ps m → EndsIn (view s) ps m
unfolding data_byte
ends-in s ps m h = record {
  inside = h.inside;
  bytes = λ d l g.
      let e : d / 504 * 504 + d % 504 ≡ d = omega arith in
      byte-block s (d / 504) (6 + d % 504) (omega arith)
      ∙ ap (λ (b : List ℕ). get_or b (6 + d % 504) 0) (h.written (d / 504) (omega arith) g)
      ∙ block-data ps (d / 504) (d % 504) (omega arith)
      ∙ ap (λ (i : ℕ). get_or (data_of ps) i 0) e;
  names = λ k l g.
      ap₂ (λ (a b : ℕ). a + b * 256)
      (byte-block s k 4 (omega arith) ∙ ap (λ (b : List ℕ). get_or b 4 0) (h.written k l g))
      (byte-block s k 5 (omega arith) ∙ ap (λ (b : List ℕ). get_or b 5 0) (h.written k l g))
      ∙ block-first ps k;
  good = h.good;
  begun = h.begun;
  ends = h.ends;
}

-- The reader's calls over a whole card give exactly the packets of the stream that lie wholly in good blocks, and
-- nothing of what lies behind it.
pub ended-gives : (ps : List Packet) → All ps → (s room : List ℕ) → length s % 512 ≡ 0 → (m : ℕ) → EndsInBlock s ps m
    → 1024 ≤ length room
    → read_run s room ≡ kept_from (view s) 0 ps
unfolding read_run start_of
ended-gives ps fine s room whole m h r =
    let g : by_calls s ≡ kept_from (view s) 0 ps = calls-read s ∙ reads_ended (view s) ps m (ends-in s ps m h) fine in
    let a : All (by_calls s) = rw g (kept-all (view s) ps 0 fine) in
    rw (eq-eqb (length s % 512) 0 whole, read_run) (run-in-turn s whole (total (view s)) (seek_from (view s) 0) room r a
    ∙ g)
