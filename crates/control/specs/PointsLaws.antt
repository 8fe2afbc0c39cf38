-- Laws on the definitions of Points.antt: a begin hands out an access with its point's record
use Rattle.std.specs.Prelude.{List, ◌≡◌, ℕ}
use Rattle.std.proofs.Common.{ap, sym, ◌∙◌}
use Rattle.regs.specs.declared.Access.{Access}
use Rattle.state.specs.declared.Saved.{Saved}
use Rattle.state.specs.Driver.{Driver}
use Rattle.script.specs.Machine.{Awaits}
use Rattle.script_ops.specs.Numbers.{CONTROL, with_tag}
use Rattle.control.specs.declared.Point.{Point}
use Rattle.control.specs.Codec.{as_numbers, encode, decode}
use Rattle.control.specs.CodecLaws.{decode-encode}
use Rattle.control.specs.Points.{asked, awaits_at}

-- the point that was saved is found again
pub decoded : (p : Point) {c : Saved} → c ≡ with_tag CONTROL (as_numbers p) → decode c ≡ p
unfolding encode decode
decoded p e = ap decode e ∙ decode-encode p

-- so the operation is under way there
pub asked-at : (p : Point) {q : Access} {c : Saved} → c ≡ with_tag CONTROL (as_numbers p)
    → (d : Driver) (b : List ℕ) → asked q (decode c) d b ≡ asked q p d b
asked-at p {q} e d b = ap (λ (x : Point). asked q x d b) (decoded p e)

pub linked-at : (p : Point) {a : Awaits} {c : Saved} → c ≡ with_tag CONTROL (as_numbers p) → a ≡ awaits_at p
    → (a ≡ awaits_at (decode c)) × (c ≡ with_tag CONTROL (as_numbers (decode c)))
linked-at p e l = (
  l ∙ ap awaits_at (sym (decoded p e)),
  e
      ∙ ap (λ (x : Point). with_tag CONTROL (as_numbers x)) (sym (decoded p e)),
)
