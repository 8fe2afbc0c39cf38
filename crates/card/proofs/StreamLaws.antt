-- The calls make the stream of the packets, whatever the lent blocks hold.
use Rattle.std.specs.Prelude.{◌≡◌, ℕ, zero, suc, ◌+◌, ◌-◌, ◌*◌, ◌/◌, ◌%◌, ◌^◌, ◌<◌, ◌≤◌, min, Bool, true, false, cond, List, [], ◌∷◌, ◌++◌, length, drop, replicate, ◌==◌, ◌≢◌, nat_eq, slice_index}
use Rattle.std.proofs.Math.Path.{refl, sym, ap}
use Rattle.std.proofs.Common.{ap₂, subst, ◌∙◌, eq-eqb, ne_eqb, length-append, length-drop, get_or-drop}
use mathlib.Core.List.{append_assoc, append-nil}
use native.Mathlib.Omega.{arith}
use Rattle.std.proofs.Math.Decide.{ℕ_discrete, dec_lt}
use Rattle.std.proofs.lemmas.List.{length-replicate, get_or-replicate}
use Rattle.std.proofs.Math.ListN.{get_or-eq_default}
use Rattle.std.proofs.Math.Seq.{paste}
use Rattle.std.proofs.lemmas.List.Edits.{length-paste}
use Rattle.card.specs.Packet.{Packet, Writable, All, more, packet_bytes, size, data_of}
use Rattle.card.specs.Kept.{first_in}
use Rattle.card.specs.Written.{block_of, blocks_from, block_count, stream}
use Rattle.card.proofs.Theorem.{first-here, first-later}
use Rattle.card.specs.Turns.{by_calls}
use Rattle.card.proofs.TurnsLaws.{calls_back}
use Rattle.card.specs.declared.writer.Writer.{Writer}
use Rattle.card.specs.Writing.{new_writer, used_of, done_of, piece_of, first_of, full_of, whole_of, done_after, writer_of}
use Rattle.card.specs.Writing.{closed, piece_in}
use Rattle.card.specs.Writing.{block_of_piece}
use Rattle.card.specs.Pieces.{first-under-way, first-named, first-here as first-begins, done-whole}
use Rattle.card.specs.Pieces.{done-part, writer-full, writer-part, block-full, block-part, fit}
use Rattle.card.specs.Pieces.{write-answer, write-block, finish-nothing, finish-last}
use Rattle.card.specs.WriterRuns.{Desk, Lends, after, packet_run, packets_run, last_run, stream_run}
use Rattle.card.proofs.Begins.{data-append, data-at, first-append, first-before, first-settled, paste-before}
use Rattle.card.proofs.Begins.{paste-inside, blocks-snoc}
use Rattle.card.proofs.Begins.{closed_is}
use Rattle.card.specs.Stream.{So, begun}

pub so-as : (ps : List Packet) (d : Desk) (m m' j j' : ℕ) (pre pre' : List Packet) → m ≡ m' → j ≡ j' → pre ≡ pre'
    → So ps d m j pre → So ps d m' j' pre'
so-as ps d m m' j j' pre pre' a b c s =
    subst (λ (x : List Packet). So ps d m' j' x) c (subst (λ (x : ℕ). So ps d m' x pre) b
    (subst (λ (x : ℕ). So ps d x j pre) a s))

so-of : (ps : List Packet) (d e : Desk) (m j : ℕ) (pre : List Packet) → d ≡ e → So ps e m j pre → So ps d m j pre
so-of ps d e m j pre p s = subst (λ (y : Desk). So ps y m j pre) (sym p) s

first-with : (xs : List Packet) (p : Packet) (k a : ℕ) → a ≡ first_in k 0 xs → length (data_of xs) / 504 ≡ k
    → cond (a == 65535) (6 + length (data_of xs) % 504) a ≡ first_in k 0 (xs ++ (p ∷ []))
first-with xs p k a e h =
    let z : 0 + length (data_of xs) ≡ length (data_of xs) = omega arith in
    let f : first_in k (0 + length (data_of xs)) (p ∷ []) ≡ 6 + length (data_of xs) % 504
    = rw z (first-here p [] k (length (data_of xs)) h) in
    rw e (sym (first-append xs (p ∷ []) k 0 ∙ ap (λ (x : ℕ). cond (first_in k 0 xs == 65535) x (first_in k 0 xs)) f))

-- none of the packets begun begins in a later block
first_next : (xs : List Packet) (p : Packet) (k : ℕ) → length (data_of xs) < k * 504 → first_in k 0 (xs ++ (p ∷ []))
    ≡ 65535
unfolding first_in
first_next xs p k h =
    let a : first_in k 0 xs ≡ 65535 = first-before xs k 0 (omega arith) in
    let b : first_in k (0 + length (data_of xs)) (p ∷ []) ≡ 65535
    = first-later p [] k (0 + length (data_of xs)) (λ e. omega arith) in
    first-append xs (p ∷ []) k 0 ∙ rw (a, b)

next-number : (k a : ℕ) → a ≡ k % 4294967296 → (a + 1) % 2 ^ 32 ≡ (k + 1) % 4294967296
next-number k a e = omega arith

pub piece-bounds : (u j z n : ℕ) → u < 504 → j < z → n ≡ min (504 - u) (z - j) → (0 < n) × (u + n ≤ 504) × (j + n ≤ z)
piece-bounds u j z n h l e = (omega arith, omega arith, omega arith)

module _ (lend : Lends) (lends : (k : ℕ) → length (lend k) ≡ 512) (ps xs : List Packet) (p : Packet) (fine : Writable p)
    (bytes : (i : ℕ) → i < size p → slice_index (packet_bytes p) i ≡ slice_index (data_of ps) (length (data_of xs) + i))
    (settled : (k : ℕ) → (k + 1) * 504 ≤ length (data_of xs) + size p → first_in k 0 ps
    ≡ first_in k 0 (xs ++ (p ∷ []))) where
  -- ---- one call

  first-is : (d : Desk) (j : ℕ) → So ps d (length (data_of xs) + j) j (begun xs p j)
      → j < size p → first_of d.writer (length p.bytes)
      ≡ first_in ((length (data_of xs) + j) / 504) 0 (xs ++ (p ∷ []))
  first-is d zero s l =
      let m = length (data_of xs) + 0 in
      let dn : done_of d.writer (length p.bytes) ≡ 0 = omega (arith, s.done) in
      let us : used_of d.writer ≡ length (data_of xs) % 504 = omega (arith, s.used) in
      let w = first-with xs p ((length (data_of xs) + 0) / 504) d.writer.first s.first (omega arith) in
      elim (ℕ_discrete d.writer.first 65535) [
        | yes e ↦ sym (first-begins d.writer (length p.bytes) dn e (omega arith))
            ∙ rw us (rw (eq-eqb d.writer.first 65535 e) at w)
        | no e ↦ sym (first-named d.writer (length p.bytes) dn e) ∙ (rw (ne_eqb d.writer.first 65535 e) at w)
      ]
  first-is d (suc j) s l = sym (first-under-way d.writer (length p.bytes) (λ e. omega (arith, s.done)))
      ∙ s.first

  pub used-is : (d : Desk) (j : ℕ) → So ps d (length (data_of xs) + j) j (begun xs p j) → used_of d.writer
      ≡ (length (data_of xs) + j) % 504
  used-is d j s = omega (arith, s.used)

  pub done-is : (d : Desk) (j : ℕ) → So ps d (length (data_of xs) + j) j (begun xs p j) → j < size p
      → done_of d.writer (length p.bytes) ≡ j
  done-is d j s l = omega (arith, s.done)

  -- a piece of n bytes, after j of the packet
  module _ (d : Desk) (j n : ℕ) (s : So ps d (length (data_of xs) + j) j (begun xs p j)) (l : j < size p)
      (piece : piece_of d.writer (length p.bytes) ≡ n) (room : (length (data_of xs) + j) % 504 + n ≤ 504)
      (rest : j + n ≤ size p) where
    abbrev m : ℕ
    m = length (data_of xs) + j

    abbrev put : List ℕ
    put = paste d.block (6 + m % 504) (drop j (packet_bytes p)) n

    put_is : piece_in d.writer p d.block ≡ put
    put_is = rw (piece, used-is d j s, done-is d j s l)

    rest-fits : n ≤ length (drop j (packet_bytes p))
    rest-fits = omega (arith, length-drop j (packet_bytes p))

    put-long : length put ≡ 512
    put-long = length-paste d.block (6 + m % 504) (drop j (packet_bytes p)) n (omega (arith, s.long)) rest-fits
        ∙ s.long

    put-held : (i : ℕ) → i < m % 504 + n → slice_index put (6 + i) ≡ slice_index (data_of ps) (m / 504 * 504 + i)
    put-held i h = elim (dec_lt i (m % 504)) [
      | yes a ↦ paste-before d.block (6 + m % 504) (drop j (packet_bytes p)) n (6 + i) (omega arith)
          (omega (arith, s.long)) ∙ s.held i a
      | no a ↦ (
          let e : 6 + i ≡ 6 + m % 504 + (i - m % 504) = omega arith in
          let g : length (data_of xs) + (j + (i - m % 504)) ≡ m / 504 * 504 + i = omega arith in
          rw e (paste-inside d.block (6 + m % 504) (drop j (packet_bytes p)) n (i - m % 504) (omega arith)
          (omega (arith, s.long)) rest-fits)
          ∙ get_or-drop j (packet_bytes p) (i - m % 504) 0
          ∙ bytes (j + (i - m % 504)) (omega arith) ∙ rw g)
    ]

    -- ---- the block is not full yet

    after-part : full_of d.writer (length p.bytes) ≡ false → (m % 504 + n ≢ 504)
        → So ps (record {
          writer = writer_of d.writer (length p.bytes);
          block
              = piece_in d.writer p d.block;
          count = d.count;
          stored = d.stored;
        })
        (m + n) (done_after d.writer (length p.bytes)) (xs ++ (p ∷ []))
    after-part f x =
        let q : (m + n) / 504 ≡ m / 504 = omega arith in
        let r : (m + n) % 504 ≡ m % 504 + n = omega arith in
        let w = writer-part d.writer (length p.bytes) _ _ _ f refl refl refl in
        record {
          long = ap length put_is ∙ put-long;
          stored = rw q s.stored;
          number = ap (λ (y : Writer). y.number) (sym w) ∙ rw q s.number;
          used = ap (λ (y : Writer). y.used) (sym w) ∙ rw r (ap₂ (λ (y z : ℕ). y + z) (used-is d j s) piece);
          done = ap (λ (y : Writer). y.done) (sym w);
          first = ap (λ (y : Writer). y.first) (sym w) ∙ rw q (first-is d j s l);
          held = λ i h. ap (λ (y : List ℕ). slice_index y (6 + i)) put_is ∙ rw q (put-held i (omega arith));
        }

    -- ---- the block is full

    pub closes : m % 504 + n ≡ 504
        → closed d.writer.number (first_of d.writer (length p.bytes)) (piece_in d.writer p d.block)
        ≡ block_of ps (m / 504)
    closes x =
        ap₂ (λ (a : ℕ) (b : List ℕ). closed a (first_of d.writer (length p.bytes)) b) s.number put_is
        ∙ closed_is ps (m / 504) (first_of d.writer (length p.bytes)) put put-long
        (first-is d j s l ∙ sym (settled (m / 504) (omega arith))) (λ i h. put-held i (omega arith))

    after_full : full_of d.writer (length p.bytes) ≡ true → m % 504 + n ≡ 504
        → So ps (record {
          writer = writer_of d.writer (length p.bytes);
          block = lend (d.count + 1);
          count = d.count + 1;
          stored = d.stored ++ closed d.writer.number (first_of d.writer (length p.bytes))
              (piece_in d.writer p d.block);
        })
        (m + n) (done_after d.writer (length p.bytes)) (xs ++ (p ∷ []))
    after_full f x =
        let q : (m + n) / 504 ≡ m / 504 + 1 = omega arith in
        let r : (m + n) % 504 ≡ 0 = omega arith in
        let w = writer-full d.writer (length p.bytes) _ _ f refl refl in
        let z : 0 + m / 504 ≡ m / 504 = omega arith in
        record {
          long = lends (d.count + 1);
          stored = ap₂ (λ (a b : List ℕ). a ++ b) s.stored (closes x) ∙ rw q (rw z at (blocks-snoc ps (m / 504) 0));
          number = ap (λ (y : Writer). y.number) (sym w)
              ∙ rw q (next-number (m / 504) d.writer.number s.number);
          used = ap (λ (y : Writer). y.used) (sym w) ∙ sym r;
          done = ap (λ (y : Writer). y.done) (sym w);
          first = ap (λ (y : Writer). y.first) (sym w) ∙ rw q (sym (first_next xs p (m / 504 + 1) (omega arith)));
          held = λ i h. absurd (omega arith);
        }

    -- ---- either

    pub full_is : full_of d.writer (length p.bytes) ≡ (m % 504 + n == 504)
    full_is = ap₂ (λ (y z : ℕ). nat_eq (y + z) 504) (used-is d j s) piece

    pub whole_is : whole_of d.writer (length p.bytes) ≡ (j + n == size p)
    whole_is = ap₂ (λ (y z : ℕ). nat_eq (y + z) (size p)) (done-is d j s l) piece

    abbrev pub then : Desk
    then = after lend d (writer_of d.writer (length p.bytes)) (full_of d.writer (length p.bytes))
        (block_of_piece d.writer p d.block)

    pub after_call : So ps then (m + n) (done_after d.writer (length p.bytes)) (xs ++ (p ∷ []))
    after_call = elim (ℕ_discrete (m % 504 + n) 504) [
      | yes e ↦ (let f = full_is ∙ eq-eqb (m % 504 + n) 504 e in
          subst (λ (y : Desk). So ps y (m + n) (done_after d.writer (length p.bytes)) (xs ++ (p ∷ [])))
          (ap (after lend d (writer_of d.writer (length p.bytes)) true)
          (block-full d.writer p d.block (piece_in d.writer p d.block) _ _ f refl refl refl)
          ∙ ap (λ (t : Bool). after lend d (writer_of d.writer (length p.bytes)) t
          (block_of_piece d.writer p d.block)) (sym f))
          (after_full f e))
      | no e ↦ (let f = full_is ∙ ne_eqb (m % 504 + n) 504 e in
          subst (λ (y : Desk). So ps y (m + n) (done_after d.writer (length p.bytes)) (xs ++ (p ∷ [])))
          (ap (after lend d (writer_of d.writer (length p.bytes)) false)
          (block-part d.writer p d.block (piece_in d.writer p d.block) f refl)
          ∙ ap (λ (t : Bool). after lend d (writer_of d.writer (length p.bytes)) t
          (block_of_piece d.writer p d.block)) (sym f))
          (after-part f e))
    ]

    -- the packet is whole, or more of it is left
    pub whole_then : j + n ≡ size p → So ps then (length (data_of xs) + size p) 0 (xs ++ (p ∷ []))
    whole_then e =
        so-as ps then (m + n) (length (data_of xs) + size p) _ 0 (xs ++ (p ∷ [])) (xs ++ (p ∷ [])) (omega arith)
        (sym (done-whole d.writer (length p.bytes) (whole_is ∙ eq-eqb (j + n) (size p) e))) refl after_call

    pub part_then : 0 < n → (j + n ≢ size p) → So ps then (length (data_of xs) + (j + n)) (j + n)
        (begun xs p (j + n))
    part_then z e =
        so-as ps then (m + n) (length (data_of xs) + (j + n)) _ (j + n) (xs ++ (p ∷ [])) (begun xs p (j + n))
        (omega arith)
        (sym (done-part d.writer (length p.bytes) (whole_is ∙ ne_eqb (j + n) (size p) e))
        ∙ ap₂ (λ (y z : ℕ). y + z) (done-is d j s l) piece)
        (begun_some (j + n) (omega arith)) after_call
      where
        begun_some : (i : ℕ) → 0 < i → xs ++ (p ∷ []) ≡ begun xs p i
        begun_some zero h = absurd (omega arith)
        begun_some (suc i) h = refl

  -- ---- a packet

  abbrev called : Desk → Desk
  called d = after lend d (writer_of d.writer (length p.bytes)) (full_of d.writer (length p.bytes))
      (block_of_piece d.writer p d.block)

  run_step : (f : ℕ) (d : Desk) → length d.block ≡ 512
      → packet_run lend (suc f) p d
      ≡ cond (whole_of d.writer (length p.bytes)) (called d) (packet_run lend f p (called d))
  unfolding packet_run
  run_step f d b =
      let u = fit p d.block b fine.short (λ e. omega (arith, fine.numbered)) fine.small in
      let a = sym (write-answer d.writer p d.block _ _ _ u refl refl refl) in
      let c = sym (write-block d.writer p d.block _ u refl) in
      rw (a, c, packet_run)

  run_whole : (f : ℕ) (d : Desk) → length d.block ≡ 512 → whole_of d.writer (length p.bytes) ≡ true
      → packet_run lend (suc f) p d ≡ called d
  run_whole f d b h = run_step f d b ∙ rw h

  run_part : (f : ℕ) (d : Desk) → length d.block ≡ 512 → whole_of d.writer (length p.bytes) ≡ false
      → packet_run lend (suc f) p d ≡ packet_run lend f p (called d)
  run_part f d b h = run_step f d b ∙ rw h

  run : (f : ℕ) (d : Desk) (j : ℕ) → size p ≤ j + f → j < size p → So ps d (length (data_of xs) + j) j (begun xs p j)
      → So ps (packet_run lend f p d) (length (data_of xs) + size p) 0 (xs ++ (p ∷ []))
  run zero d j h l s = absurd (omega arith)
  run (suc f) d j h l s =
      go (min (504 - (length (data_of xs) + j) % 504) (size p - j)) refl (λ e i a b c. run f e i a b c)
    where
      more_steps : (n : ℕ) → 0 < n → size p ≤ j + n + f
      more_steps n z = omega arith

      less_left : (n : ℕ) → j + n ≤ size p → (j + n ≢ size p) → j + n < size p
      less_left n a b = omega arith

      go : (n : ℕ) → n ≡ min (504 - (length (data_of xs) + j) % 504) (size p - j)
          → ((e : Desk) (i : ℕ) → size p ≤ i + f → i < size p → So ps e (length (data_of xs) + i) i (begun xs p i)
          → So ps (packet_run lend f p e) (length (data_of xs) + size p) 0 (xs ++ (p ∷ [])))
          → So ps (packet_run lend (suc f) p d) (length (data_of xs) + size p) 0 (xs ++ (p ∷ []))
      go n e ih =
          let k = piece-bounds ((length (data_of xs) + j) % 504) j (size p) n (omega arith) l e in
          let some = k.0 in
          let room = k.1 in
          let rest = k.2 in
          let pc : piece_of d.writer (length p.bytes) ≡ n =
          ap₂ (λ (a b : ℕ). min (504 - a) (size p - b)) (used-is d j s) (done-is d j s l) ∙ sym e in
          elim (ℕ_discrete (j + n) (size p)) [
            | yes w ↦ so-of ps (packet_run lend (suc f) p d) (then d j n s l pc room rest) (length (data_of xs) + size p)
                0 (xs ++ (p ∷ []))
                (run_whole f d s.long (whole_is d j n s l pc room rest ∙ eq-eqb (j + n) (size p) w))
                (whole_then d j n s l pc room rest w)
            | no w ↦ so-of ps (packet_run lend (suc f) p d) (packet_run lend f p (then d j n s l pc room rest))
                (length (data_of xs) + size p) 0 (xs ++ (p ∷ []))
                (run_part f d s.long (whole_is d j n s l pc room rest ∙ ne_eqb (j + n) (size p) w))
                (ih (then d j n s l pc room rest) (j + n) (more_steps n some) (less_left n rest w)
                (part_then d j n s l pc room rest some w))
          ]

-- ---- all packets

pub length-snoc : (xs : List Packet) (p : Packet) → length (data_of xs) + size p ≡ length (data_of (xs ++ (p ∷ [])))
unfolding data_of
length-snoc xs p =
    omega (
      arith,
      ap length (data-append xs (p ∷ [])),
      length-append (data_of xs) (packet_bytes p ++ []),
      length-append
          p.bytes [],
    )

module _ (lend : Lends) (lends : (k : ℕ) → length (lend k) ≡ 512) (ps : List Packet) where
  all-run : (qs xs : List Packet) (d : Desk) → ps ≡ xs ++ qs → All qs → So ps d (length (data_of xs)) 0 xs
      → So ps (packets_run lend qs d) (length (data_of ps)) 0 ps
  unfolding packets_run
  all-run [] xs d e a s =
      let f : xs ≡ ps = sym (e ∙ append-nil xs) in
      so-as ps d (length (data_of xs)) (length (data_of ps)) 0 0 xs ps (ap (λ (l : List Packet). length (data_of l)) f)
      refl f s
  all-run (p ∷ qs) xs d e (more h t) s =
      let g : ps ≡ (xs ++ (p ∷ [])) ++ qs = e ∙ sym (append_assoc xs (p ∷ []) qs) in
      let r = run lend lends ps xs p h
      (λ i l. data-at xs p qs i l ∙ ap (λ (y : List Packet). slice_index (data_of y) (length (data_of xs) + i)) (sym e))
      (λ k l. ap (first_in k 0) g ∙ first-settled (xs ++ (p ∷ [])) qs k (omega (arith, length-snoc xs p)))
      (size p) d 0 (omega arith) (omega arith)
      (so-as ps d (length (data_of xs)) (length (data_of xs) + 0) 0 0 xs xs (omega arith) refl refl s) in
      all-run qs (xs ++ (p ∷ [])) (packet_run lend (size p) p d) g t
      (so-as ps (packet_run lend (size p) p d) (length (data_of xs) + size p) _ 0 0 (xs ++ (p ∷ [])) _ (length-snoc xs p)
      refl refl r)

  start-so : So ps (record { writer = new_writer; block = lend 0; count = 0; stored = [] }) 0 0 []
  unfolding blocks_from first_in
  start-so = record {
    long = lends 0;
    stored = refl;
    number = refl;
    used = refl;
    done = refl;
    first = refl;
    held = λ i h. absurd (omega arith);
  }

  -- ---- the last block

  abbrev pub desk_filled_up : Desk → List ℕ
  desk_filled_up d =
      paste d.block (6 + length (data_of ps) % 504) (replicate (504 - length (data_of ps) % 504) 0)
      (504 - length (data_of ps) % 504)

  pub filled-long : (d : Desk) → So ps d (length (data_of ps)) 0 ps → length (desk_filled_up d) ≡ 512
  filled-long d s =
      length-paste d.block (6 + length (data_of ps) % 504) (replicate (504 - length (data_of ps) % 504) 0)
      (504 - length (data_of ps) % 504)
      (omega (arith, s.long)) (omega (arith, length-replicate {A = ℕ} (504 - length (data_of ps) % 504) 0))
      ∙ s.long

  pub filled-held : (d : Desk) → So ps d (length (data_of ps)) 0 ps
      → (i : ℕ) → i < 504 → slice_index (desk_filled_up d) (6 + i) ≡ slice_index (data_of ps) (length (data_of ps) / 504 * 504 + i)
  filled-held d s i h = elim (dec_lt i (length (data_of ps) % 504)) [
    | yes a ↦ paste-before d.block (6 + length (data_of ps) % 504) _ (504 - length (data_of ps) % 504) (6 + i)
        (omega arith) (omega (arith, s.long))
        ∙ s.held i a
    | no a ↦ (
        let e : 6 + i ≡ 6 + length (data_of ps) % 504 + (i - length (data_of ps) % 504) = omega arith in
        rw e (paste-inside d.block (6 + length (data_of ps) % 504) (replicate (504 - length (data_of ps) % 504) 0)
        (504 - length (data_of ps) % 504)
        (i - length (data_of ps) % 504) (omega arith) (omega (arith, s.long))
        (omega (arith, length-replicate {A = ℕ} (504 - length (data_of ps) % 504) 0)))
        ∙ get_or-replicate (504 - length (data_of ps) % 504) (i - length (data_of ps) % 504) 0 0 (omega arith)
        ∙ sym (get_or-eq_default (data_of ps) 0 (omega arith)))
  ]

  last_is : (d : Desk) → So ps d (length (data_of ps)) 0 ps → last_run d ≡ stream ps
  unfolding last_run stream
  last_is d s = elim (ℕ_discrete (length (data_of ps) % 504) 0) [
    | yes z ↦ (let k : length (data_of ps) / 504 ≡ block_count ps = omega arith in
        let f = finish-nothing d.writer d.block s.long (omega (arith, s.used)) in
        rw (sym f.0, last_run) (s.stored ∙ ap (blocks_from ps 0) k))
    | no z ↦ (let k : length (data_of ps) / 504 + 1 ≡ block_count ps = omega arith in
        let q : 0 + length (data_of ps) / 504 ≡ length (data_of ps) / 504 = omega arith in
        let u : length (data_of ps) % 504 ≡ used_of d.writer = omega (arith, s.used) in
        let b = desk_filled_up d in
        let f = finish-last d.writer d.block b (closed d.writer.number d.writer.first b)
        (length (data_of ps) % 504) s.long u z refl refl in
        rw (sym f.0, last_run)
        (ap₂ (λ (x y : List ℕ). x ++ y) s.stored
        (sym f.1 ∙ ap (λ (x : ℕ). closed x d.writer.first b) s.number
        ∙ closed_is ps (length (data_of ps) / 504) d.writer.first b (filled-long d s) s.first (filled-held d s))
        ∙ rw q at (blocks-snoc ps (length (data_of ps) / 504) 0) ∙ ap (blocks_from ps 0) k))
  ]

-- The calls make the stream of these packets.
pub stream-run : (lend : Lends) → ((k : ℕ) → length (lend k) ≡ 512) → (ps : List Packet) → All ps → stream_run lend ps
    ≡ stream ps
unfolding stream_run data_of
stream-run lend lends ps fine = last_is lend lends ps _
    (all-run lend lends ps ps [] _ refl fine (start-so lend lends ps))

-- What the writer's calls make, the reader's calls give back.
pub round_trip : (lend : Lends) → ((k : ℕ) → length (lend k) ≡ 512) → (ps : List Packet) → All ps
    → by_calls (stream_run lend ps) ≡ ps
round_trip lend lends ps fine = ap by_calls (stream-run lend lends ps fine) ∙ calls_back ps fine
