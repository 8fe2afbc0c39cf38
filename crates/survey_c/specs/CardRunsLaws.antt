-- The exported writer's four numbers, carried from call to call, make the stream, and the exported reader gives the
-- packets back. Assumes nothing.
use Rattle.std.specs.Prelude.{◌≡◌, Bool, cond, not, length, Result, Ok, Err}
use Rattle.std.proofs.Math.Path.{refl, ap, subst}
use Rattle.std.proofs.Common.{sym, ◌∙◌, true≢false, arith, lt-ltb}
use Rattle.std.proofs.Math.Bool.{true, false, or-true}
use mathlib.Core.List.{List, [], ◌∷◌, ◌++◌}
use Prim.Native.Nat.{ℕ, zero, suc, ◌%◌, ◌≤◌}
use Rattle.std.proofs.Math.Decide.{dec_lt}
use Rattle.std.proofs.Math.Dec.{eqb}
use Rattle.card.specs.Packet.{Packet, All, size}
use Rattle.card.specs.Written.{stream}
use Rattle.card.specs.Places.{length-stream}
use Rattle.card.proofs.TurnsLaws.{calls-give, calls_back}
use Rattle.card.specs.Runs.{read_run}
use Rattle.card.proofs.RunsLaws.{run-gives}
use Rattle.card.specs.declared.writer.Writer.{Writer}
use Rattle.card.specs.declared.writer.Piece.{Piece}
use Rattle.card.specs.declared.refusal.Refusal.{Refusal}
use Rattle.card.specs.declared.refusal.Refusal.TheVariants.{Card}
use Rattle.card.specs.Writing.{new_writer, used_of, writer_of, full_of, whole_of, unfit, block_of_piece, piece_wrote, write_of}
use Rattle.card.specs.Writing.{written_of, finish_of, last_of}
use Rattle.card.specs.WriterRuns.{Lends, Desk, after, packet_run, packets_run, last_run, stream_run}
use Rattle.card.proofs.StreamLaws.{stream-run}
use Rattle.survey_c.specs.Card.{writer_in, numbers_of, wrote_word, writer_by, finished_word}
use Rattle.survey_c.specs.CardLaws.{Short, writer-back, new-short, next-short}
use Rattle.survey_c.specs.CardRuns.{is_refused, block_full, packet_written, Caller, stored_if, packet_calls}
use Rattle.survey_c.specs.CardRuns.{packets_calls, last_call, stream_calls}

-- a desk as the caller has it
abbrev seen : Desk → Caller
seen e = record { numbers = numbers_of e.writer; block = e.block; count = e.count; stored = e.stored }

-- a packet that is taken is short
few_bytes : (p : Packet) (b : List ℕ) → unfit p b ≡ false → length p.bytes ≤ 1024
few_bytes p b h = elim (dec_lt 1024 (length p.bytes)) [
  | yes l ↦ absurd (true≢false (sym (rw (lt-ltb 1024 (length p.bytes) l, or-true (not (eqb (length b) 512)))) ∙ h))
  | no l ↦ omega arith
]

-- ---- a call's answer by its tests

wrote_by : (w : Writer) (p : Packet) (b : List ℕ) (t : Bool) → unfit p b ≡ t → write_of w p b
    ≡ cond t (Err Card) (Ok (piece_wrote w p))
unfolding write_of
wrote_by w p b t u = rw u

block-by : (w : Writer) (p : Packet) (b : List ℕ) (t : Bool) → unfit p b ≡ t → written_of w p b
    ≡ cond t b (block_of_piece w p b)
unfolding written_of
block-by w p b t u = rw u

finish-by : (w : Writer) (b : List ℕ) (t u : Bool) → eqb (length b) 512 ≡ t → eqb (used_of w) 0 ≡ u
    → finish_of w b ≡ cond t (cond u (Ok false) (Ok true)) (Err Card)
unfolding finish_of
finish-by w b t u p q = rw (p, q)

module _ (lend : Lends) where
  -- what the caller makes of a call's answer and block
  abbrev takes : ℕ → Packet → Caller → Result Piece Refusal → List ℕ → Caller
  takes n p d r b =
      let next = stored_if lend d (writer_by r d.numbers) (block_full (wrote_word r)) b in
      cond (is_refused (wrote_word r)) d (cond (packet_written (wrote_word r)) next (packet_calls lend n p next))

  record Same (d : Caller) (e : Desk) : Type 0 where
    is : d ≡ seen e
    short : Short e.writer

  calls_step : (n : ℕ) (p : Packet) (d : Caller) (r : Result Piece Refusal) (b : List ℕ)
      → write_of (writer_in d.numbers) p d.block
      ≡ r
      → written_of (writer_in d.numbers) p d.block ≡ b → packet_calls lend (suc n) p d ≡ takes n p d r b
  unfolding packet_calls
  calls_step n p d r b q z = rw (q, z)

  run_refused : (n : ℕ) (p : Packet) (e : Desk) → write_of e.writer p e.block ≡ Err Card
      → packet_run lend (suc n) p e ≡ e
  unfolding packet_run
  run_refused n p e q = rw (q, packet_run)

  abbrev goes_on : ℕ → Packet → Desk → Bool → Desk
  goes_on n p e done = cond done e (packet_run lend n p e)

  run_piece : (n : ℕ) (p : Packet) (e : Desk) (w : Writer) (full done : Bool) → write_of e.writer p e.block
      ≡ Ok (record { next = w; full = full; done = done })
      → packet_run lend (suc n) p e ≡ goes_on n p (after lend e w full (written_of e.writer p e.block)) done
  unfolding packet_run
  run_piece n p e w full done q = rw (q, packet_run)

  -- one packet
  packet_same : (p : Packet) (n : ℕ) (e : Desk) → Short e.writer
      → Same (packet_calls lend n p (seen e)) (packet_run lend n p e)
  unfolding packet_calls packet_run
  packet_same p zero e h = record { is = refl; short = h }
  packet_same p (suc n) e h = by (packet_same p n) (unfit p e.block) refl
    where
      -- the caller's numbers are the writer's
      same_write : write_of (writer_in (numbers_of e.writer)) p e.block ≡ write_of e.writer p e.block
      same_write = ap (λ (x : Writer). write_of x p e.block) (writer-back e.writer h)

      same_block : written_of (writer_in (numbers_of e.writer)) p e.block ≡ written_of e.writer p e.block
      same_block = ap (λ (x : Writer). written_of x p e.block) (writer-back e.writer h)

      piece : ((d : Desk) → Short d.writer → Same (packet_calls lend n p (seen d)) (packet_run lend n p d))
          → (x : Writer) (full done : Bool) (b : List ℕ) → Short x
          → Same (takes n p (seen e) (Ok (record { next = x; full = full; done = done })) b) (goes_on n p
          (after lend e x full b) done)
      piece l x true true b s = record { is = refl; short = s }
      piece l x false true b s = record { is = refl; short = s }
      piece l x true false b s = l (after lend e x true b) s
      piece l x false false b s = l (after lend e x false b) s

      by : ((d : Desk) → Short d.writer → Same (packet_calls lend n p (seen d)) (packet_run lend n p d))
          → (t : Bool) → unfit p e.block ≡ t → Same (packet_calls lend (suc n) p (seen e))
          (packet_run lend (suc n) p e)
      by l true u =
          let q = wrote_by e.writer p e.block true u in
          record {
            is = calls_step n p (seen e) (Err Card) e.block (same_write ∙ q)
                (same_block ∙ block-by e.writer p e.block true u) ∙ ap seen (sym (run_refused n p e q));
            short = subst (λ (d : Desk). Short d.writer) (sym (run_refused n p e q)) h;
          }
      by l false u =
          let k = length p.bytes in
          let q = wrote_by e.writer p e.block false u in
          let z = block-by e.writer p e.block false u in
          let b = block_of_piece e.writer p e.block in
          let s = piece l (writer_of e.writer k) (full_of e.writer k) (whole_of e.writer k) b
          (next-short e.writer k (few_bytes p e.block u) h) in
          let r = run_piece n p e (writer_of e.writer k) (full_of e.writer k) (whole_of e.writer k) q
          ∙ ap (λ (c : List ℕ). goes_on n p (after lend e (writer_of e.writer k) (full_of e.writer k) c)
          (whole_of e.writer k)) z in
          record {
            is = calls_step n p (seen e) (Ok (piece_wrote e.writer p)) b (same_write ∙ q) (same_block ∙ z) ∙ s.is
                ∙ ap seen (sym r);
            short = subst (λ (d : Desk). Short d.writer) (sym r) s.short;
          }

  packets_same : (ps : List Packet) (e : Desk) → Short e.writer
      → Same (packets_calls lend ps (seen e)) (packets_run lend ps e)
  unfolding packets_calls packets_run
  packets_same [] e h = record { is = refl; short = h }
  packets_same (p ∷ ps) e h =
      let s = packet_same p (size p) e h in
      subst (λ (d : Caller). Same (packets_calls lend ps d) (packets_run lend ps (packet_run lend (size p) p e)))
      (sym s.is)
      (packets_same ps (packet_run lend (size p) p e) s.short)

  -- the last block
  abbrev last_by : List ℕ → Result Bool Refusal → List ℕ → List ℕ
  last_by stored f b = cond (is_refused (finished_word f)) stored (cond (block_full (finished_word f)) (stored ++ b) stored)

  last_same : (d : Caller) (e : Desk) → Same d e → last_call d ≡ last_run e
  unfolding last_call last_run
  last_same d e s =
      ap (λ (x : Caller). last_by x.stored (finish_of (writer_in x.numbers) x.block)
      (last_of (writer_in x.numbers) x.block)) s.is
      ∙ ap (λ (w : Writer). last_by e.stored (finish_of w e.block) (last_of w e.block))
      (writer-back e.writer s.short)
      ∙ by (eqb (length e.block) 512) (eqb (used_of e.writer) 0) refl refl
    where
      by : (t u : Bool) → eqb (length e.block) 512 ≡ t → eqb (used_of e.writer) 0 ≡ u
          → last_by e.stored (finish_of e.writer e.block) (last_of e.writer e.block) ≡ last_run e
      by false u p q = rw (finish-by e.writer e.block false u p q, last_run)
      by true true p q = rw (finish-by e.writer e.block true true p q, last_run)
      by true false p q = rw (finish-by e.writer e.block true false p q, last_run)

  calls_run : (ps : List Packet) → stream_calls lend ps ≡ stream_run lend ps
  unfolding stream_calls stream_run
  calls_run ps =
      let e : Desk = record { writer = new_writer; block = lend 0; count = 0; stored = [] } in
      last_same (packets_calls lend ps (seen e)) (packets_run lend ps e) (packets_same ps e new-short)

  -- the exported writer's calls make the stream of these packets
  pub calls_stream : ((k : ℕ) → length (lend k) ≡ 512) → (ps : List Packet) → All ps → stream_calls lend ps ≡ stream ps
  calls_stream lends ps fine = calls_run ps ∙ stream-run lend lends ps fine

  -- and the reader's calls, with a lent room of 1,024 bytes, give them back
  pub carried : ((k : ℕ) → length (lend k) ≡ 512) → (ps : List Packet) → All ps → (room : List ℕ) → 1024 ≤ length room
      → read_run (stream_calls lend ps) room ≡ ps
  carried lends ps fine room r =
      let whole : length (stream ps) % 512 ≡ 0 = omega (arith, length-stream ps) in
      ap (λ (s : List ℕ). read_run s room) (calls_stream lends ps fine)
      ∙ run-gives ps fine (stream ps) room whole (λ k g. refl) r
      ∙ sym (calls-give ps fine (stream ps) (λ k g. refl)) ∙ calls_back ps fine
