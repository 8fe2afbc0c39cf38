-- Laws on the definitions of Advance.antt: a begin hands out an access with its point's record
use Rattle.std.specs.Prelude.{List, ◌≡◌, ℕ}
use Rattle.std.proofs.Common.{ap, sym, ◌∙◌}
use Rattle.regs.specs.declared.Access.{Access}
use Rattle.state.specs.declared.Saved.{Saved}
use Rattle.state.specs.Driver.{Driver}
use Rattle.script_ops.specs.Numbers.{ADVANCE, with_tag}
use Rattle.isochronous.specs.declared.advance.Advance.{Advance}
use Rattle.isochronous.specs.declared.advance.AdvanceNext.TheVariants as next
use Rattle.isochronous.specs.Codec.{as_numbers, encode, decode}
use Rattle.isochronous.specs.CodecLaws.{decode-encode}
use Rattle.isochronous.specs.Advance.{asked, meaning, awaits_at, Awaited, Linked}

-- the point that was saved is found again
pub decoded : (p : Advance) {c : Saved} → c ≡ with_tag ADVANCE (as_numbers p) → decode c ≡ p
unfolding encode decode
decoded p e = ap decode e ∙ decode-encode p

-- so the operation is under way there
pub begun-at : (p : Advance) {q : Access} {c : Saved} → c ≡ with_tag ADVANCE (as_numbers p) → Awaited q p
    → ((d : Driver) (b : List ℕ) → meaning (next.Asks q c) d b ≡ asked q p d b) × Linked (next.Asks q c)
begun-at p {q} e l = (
  λ d b. ap (λ (x : Advance). asked q x d b) (decoded p e),
  (l ∙ ap awaits_at (sym (decoded p e)), e ∙ ap (λ (x : Advance). with_tag ADVANCE (as_numbers x)) (sym (decoded p e))),
)
