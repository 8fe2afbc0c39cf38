-- Which packets lie wholly in good blocks, where all blocks are good and where all but one are.
use Rattle.std.specs.Prelude.{◌≡◌, refl, true, false, List, [], ◌∷◌, ◌++◌, ℕ, ◌+◌, ◌*◌, ◌/◌, ◌≤◌, ◌<◌, length}
use Rattle.std.proofs.Common.{sym, ap, ◌∙◌, arith, le-leb, lt-ltb, le-ltb}
use Rattle.std.proofs.Math.Decide.{dec_lt}
use Rattle.std.proofs.lemmas.Bool.{lt-leb}
use Rattle.card.specs.Packet.{Packet, size, data_of}
use Rattle.card.specs.Reading.{View, block_end}
use Rattle.card.specs.Kept.{kept_from}
use Rattle.card.proofs.Begins.{data-one}
use Rattle.card.proofs.Theorem.{kept-cut, kept_whole}
use Rattle.recorder.specs.Survives.{outside}

pub kept-good : (v : View) (ps : List Packet) (d : ℕ)
    → ((k : ℕ) → k < block_end (d + length (data_of ps)) → v.good k ≡ true) → kept_from v d ps ≡ ps
unfolding kept_from
kept-good v [] d g = refl
kept-good v (p ∷ ps) d g =
    kept_whole v d p ps (λ j l m. g j (omega (arith, data-one p ps)))
    ∙ ap (λ (l : List Packet). p ∷ l) (kept-good v ps (d + size p) (λ k l. g k (omega (arith, data-one p ps))))

-- a packet in block k, and one outside of it
outside-in : (k d : ℕ) (p : Packet) (ps : List Packet) → d / 504 ≤ k → k < block_end (d + size p)
    → outside k d (p ∷ ps) ≡ outside k (d + size p) ps
unfolding outside
outside-in k d p ps l h = rw (le-leb (d / 504) k l, lt-ltb k (block_end (d + size p)) h)

outside-before : (k d : ℕ) (p : Packet) (ps : List Packet) → k < d / 504
    → outside k d (p ∷ ps) ≡ p ∷ outside k (d + size p) ps
unfolding outside
outside-before k d p ps l = rw (lt-leb (d / 504) k l)

outside_behind : (k d : ℕ) (p : Packet) (ps : List Packet) → d / 504 ≤ k → block_end (d + size p) ≤ k
    → outside k d (p ∷ ps) ≡ p ∷ outside k (d + size p) ps
unfolding outside
outside_behind k d p ps l h = rw (le-leb (d / 504) k l, le-ltb k (block_end (d + size p)) h)

pub kept-outside : (v : View) (k : ℕ) (ps : List Packet) (d : ℕ) → v.good k ≡ false
    → ((j : ℕ) → (j ≡ k → ⊥) → j < block_end (d + length (data_of ps)) → v.good j ≡ true)
    → kept_from v d ps ≡ outside k d ps
unfolding kept_from outside
kept-outside v k [] d bad g = refl
kept-outside v k (p ∷ ps) d bad g =
    let rest : kept_from v (d + size p) ps ≡ outside k (d + size p) ps =
    kept-outside v k ps (d + size p) bad (λ j n l. g j n (omega (arith, data-one p ps))) in
    let more : ((j : ℕ) → d / 504 ≤ j → j * 504 < d + size p → (j ≡ k → ⊥))
    → kept_from v d (p ∷ ps) ≡ p ∷ outside k (d + size p) ps =
    λ n. kept_whole v d p ps (λ j l m. g j (n j l m) (omega (arith, data-one p ps)))
    ∙ ap (λ (l : List Packet). p ∷ l) rest in
    elim (dec_lt k (d / 504)) [
      | yes l ↦ more (λ j a c e. omega arith) ∙ sym (outside-before k d p ps l)
      | no l ↦ elim (dec_lt k (block_end (d + size p))) [
        | yes h ↦ kept-cut v d p ps k (omega arith) (omega arith) bad ∙ rest ∙ sym (outside-in k d p ps (omega arith) h)
        | no h ↦ more (λ j a c e. omega arith) ∙ sym (outside_behind k d p ps (omega arith) (omega arith))
      ]
    ]

-- a packet that begins in a later block stays
pub outside-last : (k : ℕ) (ps : List Packet) (e : Packet) (d : ℕ) → k < (d + length (data_of ps)) / 504
    → outside k d (ps ++ (e ∷ [])) ≡ outside k d ps ++ (e ∷ [])
unfolding outside data_of
outside-last k [] e d l = outside-before k d e [] (omega arith)
outside-last k (p ∷ ps) e d l =
    let rest : outside k (d + size p) (ps ++ (e ∷ [])) ≡ outside k (d + size p) ps ++ (e ∷ []) =
    outside-last k ps e (d + size p) (omega (arith, data-one p ps)) in
    let more : outside k d (p ∷ (ps ++ (e ∷ []))) ≡ p ∷ outside k (d + size p) (ps ++ (e ∷ []))
    → outside k d (p ∷ ps) ≡ p ∷ outside k (d + size p) ps
    → outside k d (p ∷ (ps ++ (e ∷ []))) ≡ outside k d (p ∷ ps) ++ (e ∷ []) =
    λ a c. a ∙ ap (λ (x : List Packet). p ∷ x) rest ∙ sym (ap (λ (x : List Packet). x ++ (e ∷ [])) c) in
    elim (dec_lt k (d / 504)) [
      | yes h ↦ more (outside-before k d p (ps ++ (e ∷ [])) h) (outside-before k d p ps h)
      | no h ↦ elim (dec_lt k (block_end (d + size p))) [
        | yes g ↦ outside-in k d p (ps ++ (e ∷ [])) (omega arith) g ∙ rest
            ∙ sym (ap (λ (x : List Packet). x ++ (e ∷ [])) (outside-in k d p ps (omega arith) g))
        | no g ↦ more (outside_behind k d p (ps ++ (e ∷ [])) (omega arith) (omega arith))
            (outside_behind k d p ps (omega arith) (omega arith))
      ]
    ]
