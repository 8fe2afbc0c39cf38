-- The packets found one at a time, each from where the one before ended, are those that are read.
use Rattle.std.specs.Prelude.{◌≡◌, ℕ, zero, suc, ◌+◌, ◌≤◌, List, [], ◌∷◌, refl, Option, Some, None}
use Rattle.std.proofs.Common.{sym, ap, ◌∙◌, arith}
use Rattle.card.specs.Packet.{Packet, All}
use Rattle.card.specs.declared.stream.Step.{Step}
use Rattle.card.specs.declared.stream.Step.TheVariants.{Ends, Goes, Gives}
use Rattle.card.specs.declared.stream.Found.{Found}
use Rattle.card.specs.Reading.{View, total, seek_from, packet_from, step_at, read_from, read_all, find, in_turn}
use Rattle.card.specs.Kept.{kept_from}
use Rattle.card.specs.Steps.{step-short, read-ends, read_goes, read-gives}
use Rattle.card.specs.Written.{stream}
use Rattle.card.specs.Streams.{view}
use Rattle.card.specs.Whole.{AsInStream}
use Rattle.card.proofs.WholeLaws.{reads-written, as-in-stream, reads-back}
use Rattle.card.proofs.Progress.{goes_further, find-end, find-go, find-give, nothing-packet}
use Rattle.card.specs.Turns.{behind, by_calls}

-- nothing is read at the stream's end
read_behind : (v : View) (f d : ℕ) → total v ≤ d → read_from v f d ≡ []
unfolding read_from
read_behind v zero d h = refl
read_behind v (suc f) d h = read-ends v f d (step-short v d (omega arith))

-- steps enough are as good as more
read-enough : (v : View) (f g d : ℕ) → total v ≤ d + f → total v ≤ d + g → read_from v f d ≡ read_from v g d
unfolding read_from
read-enough v zero g d l m = sym (read_behind v g d (omega arith))
read-enough v (suc f) zero d l m = read_behind v (suc f) d (omega arith)
read-enough v (suc f) (suc g) d l m = go (step_at v d) refl (λ e. read-enough v f g e)
  where
    go : (s : Step) → step_at v d ≡ s → ((e : ℕ) → total v ≤ e + f → total v ≤ e + g → read_from v f e ≡ read_from v g e)
        → read_from v (suc f) d ≡ read_from v (suc g) d
    go Ends e i = read-ends v f d e ∙ sym (read-ends v g d e)
    go (Goes x) e i =
        let h = goes_further v d x e in
        read_goes v f d x e ∙ i x (omega arith) (omega arith) ∙ sym (read_goes v g d x e)
    go (Gives a n) e i =
        read-gives v f d a n e ∙ ap (λ (l : List Packet). packet_from v d a n ∷ l)
        (i (d + 3 + n) (omega arith) (omega arith))
        ∙ sym (read-gives v g d a n e)

find-behind : (v : View) (f d : ℕ) → total v ≤ d + f → read_from v f d ≡ behind v (find v f d)
unfolding read_from find behind
find-behind v zero d h = refl
find-behind v (suc f) d h = go (step_at v d) refl (λ e. find-behind v f e)
  where
    go : (s : Step) → step_at v d ≡ s → ((e : ℕ) → total v ≤ e + f → read_from v f e ≡ behind v (find v f e))
        → read_from v (suc f) d ≡ behind v (find v (suc f) d)
    go Ends e i = read-ends v f d e ∙ ap (behind v) (sym (find-end v (suc f) d e))
    go (Goes x) e i =
        let g = goes_further v d x e in
        read_goes v f d x e ∙ i x (omega arith) ∙ ap (behind v) (sym (find-go v f d x e))
    go (Gives a n) e i =
        read-gives v f d a n e
        ∙ ap (λ (l : List Packet). packet_from v d a n ∷ l)
        (read-enough v f (total v) (d + 3 + n) (omega arith) (omega arith))
        ∙ ap (behind v) (sym (find-give v f d a n e))

find-further : (v : View) (f d : ℕ) (p : Found) → find v f d ≡ Some p → d ≤ p.at
unfolding find
find-further v zero d p h = absurd (nothing-packet p h)
find-further v (suc f) d p h = go (step_at v d) refl (λ e. find-further v f e p)
  where
    go : (s : Step) → step_at v d ≡ s → ((e : ℕ) → find v f e ≡ Some p → e ≤ p.at) → d ≤ p.at
    go Ends e i = absurd (nothing-packet p (sym (find-end v (suc f) d e) ∙ h))
    go (Goes x) e i =
        let g = goes_further v d x e in
        let l = i x (sym (find-go v f d x e) ∙ h) in
        omega arith
    go (Gives b m) e i =
        let here : Found = record { at = d; endpoint = b; len = m } in
        let g : Some here ≡ Some p = sym (find-give v f d b m e) ∙ h in
        let same : here ≡ p = cc in
        let x : d ≡ p.at = ap (λ (q : Found). q.at) same in
        omega arith

in-turn : (v : View) (n d : ℕ) → total v ≤ d + n → in_turn v n d ≡ read_from v (total v) d
unfolding in_turn behind
in-turn v zero d h = sym (read_behind v (total v) d (omega arith))
in-turn v (suc n) d h = go (find v (total v) d) refl (λ e. in-turn v n e)
    ∙ sym (find-behind v (total v) d (omega arith))
  where
    go : (f : Option Found) → find v (total v) d ≡ f → ((e : ℕ) → total v ≤ e + n
        → in_turn v n e ≡ read_from v (total v) e)
        → in_turn v (suc n) d ≡ behind v (find v (total v) d)
    go (Some p) e i =
        rw (e, in_turn) (ap (λ (l : List Packet). packet_from v p.at p.endpoint p.len ∷ l)
        (i (p.at + 3 + p.len) (omega (arith, find-further v (total v) d p e))))
    go None e i = rw (e, in_turn)

pub calls-read : (s : List ℕ) → by_calls s ≡ read_all (view s)
unfolding read_all
calls-read s = in-turn (view s) (total (view s)) (seek_from (view s) 0) (omega arith)

-- The calls give exactly the written packets that lie wholly in good blocks, in order, provided that each good block is
-- as written there; the stream may be cut short, and blocks that are not good may follow.
pub calls-give : (ps : List Packet) → All ps → (s : List ℕ) → AsInStream s ps → by_calls s ≡ kept_from (view s) 0 ps
calls-give ps fine s h = calls-read s ∙ reads-written ps fine s (as-in-stream ps s h)

-- where all are good, these are the packets
pub calls_back : (ps : List Packet) → All ps → by_calls (stream ps) ≡ ps
calls_back ps fine = calls-read (stream ps) ∙ reads-back ps fine
