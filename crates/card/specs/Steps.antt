-- What one step of the reader finds, by cases.
use Rattle.std.specs.Prelude.{◌≡◌, ℕ, suc, ◌+◌, ◌<◌, ◌≤◌, min, [], ◌∷◌, ◌≢◌}
use Rattle.std.proofs.Common.{arith, lt-ltb, le-ltb, eq-eqb, ne_eqb}
use Rattle.card.specs.declared.stream.Step.{Step}
use Rattle.card.specs.declared.stream.Step.TheVariants.{Ends, Goes, Gives}
use Rattle.card.specs.Reading.{View, total, seek_from, block_end, clean_up_to, intact, length_at, endpoint_at}
use Rattle.card.specs.Reading.{packet_from, packet_at, begin_at, step_at}
use Rattle.card.specs.Reading.{read_from}

pub intact-good : (v : View) (d e : ℕ) (s : Step) → block_end e ≤ clean_up_to v d e → intact v d e s ≡ s
unfolding intact
intact-good v d e s h = rw (le-ltb (clean_up_to v d e) (block_end e) h)

pub intact-cut : (v : View) (d e : ℕ) (s : Step) → clean_up_to v d e < block_end e → intact v d e s
    ≡ Goes (seek_from v (clean_up_to v d e + 1))
unfolding intact
intact-cut v d e s h = rw (lt-ltb (clean_up_to v d e) (block_end e) h)

pub packet-in : (v : View) (d n : ℕ) → d + 3 + n ≤ total v → packet_at v d n
    ≡ intact v d (d + 3 + n) (Gives (endpoint_at v d) n)
unfolding packet_at
packet-in v d n h = let e : min (d + 3 + n) (total v) ≡ d + 3 + n
    = omega arith in rw (e, le-ltb (total v) (d + 3 + n) h)

pub packet-past : (v : View) (d n : ℕ) → total v < d + 3 + n → packet_at v d n ≡ intact v d (total v) Ends
unfolding packet_at
packet-past v d n h = let e : min (d + 3 + n) (total v) ≡ total v
    = omega arith in rw (e, lt-ltb (total v) (d + 3 + n) h)

pub begin-filler : (v : View) (d : ℕ) → endpoint_at v d ≡ 0 → begin_at v d ≡ Ends
unfolding begin_at
begin-filler v d z = rw (eq-eqb (endpoint_at v d) 0 z)

pub begin-packet : (v : View) (d : ℕ) → (endpoint_at v d ≢ 0) → begin_at v d ≡ packet_at v d (length_at v d)
unfolding begin_at
begin-packet v d z = rw (ne_eqb (endpoint_at v d) 0 z)

pub step-short : (v : View) (d : ℕ) → total v < d + 3 → step_at v d ≡ Ends
unfolding step_at
step-short v d h = rw (lt-ltb (total v) (d + 3) h)

pub step-begin : (v : View) (d : ℕ) → d + 3 ≤ total v → step_at v d ≡ intact v d (d + 3) (begin_at v d)
unfolding step_at
step-begin v d h = rw (le-ltb (total v) (d + 3) h)

-- ---- what is read

pub read-ends : (v : View) (f d : ℕ) → step_at v d ≡ Ends → read_from v (suc f) d ≡ []
unfolding read_from
read-ends v f d h = rw (h, read_from)

pub read_goes : (v : View) (f d e : ℕ) → step_at v d ≡ Goes e → read_from v (suc f) d ≡ read_from v f e
unfolding read_from
read_goes v f d e h = rw (h, read_from)

pub read-gives : (v : View) (f d endpoint n : ℕ) → step_at v d ≡ Gives endpoint n
    → read_from v (suc f) d ≡ packet_from v d endpoint n ∷ read_from v f (d + 3 + n)
unfolding read_from
read-gives v f d endpoint n h = rw (h, read_from)
