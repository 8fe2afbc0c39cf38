-- Laws on the definitions of Points.antt: a begin hands out an access with its point's record
use Rattle.std.specs.Prelude.{List, ◌≡◌, ℕ}
use Rattle.std.proofs.Common.{ap, sym, ◌∙◌}
use Rattle.regs.specs.declared.Access.{Access}
use Rattle.state.specs.declared.Saved.{Saved}
use Rattle.state.specs.Driver.{Driver}
use Rattle.script_ops.specs.Numbers.{DRIVER, with_tag}
use Rattle.driver.specs.declared.Point.{Point}
use Rattle.driver.specs.declared.Next.TheVariants as next
use Rattle.driver.specs.Codec.{as_numbers, encode, decode}
use Rattle.driver.specs.CodecLaws.{decode-encode}
use Rattle.driver.specs.Points.{asked, meaning, awaits_at, Awaited, Linked}

-- the point that was saved is found again
pub decoded : (p : Point) {c : Saved} → c ≡ with_tag DRIVER (as_numbers p) → decode c ≡ p
unfolding encode decode
decoded p e = ap decode e ∙ decode-encode p

-- so the operation is under way there
pub begun-at : (p : Point) {q : Access} {c : Saved} → c ≡ with_tag DRIVER (as_numbers p) → Awaited q p
    → ((d : Driver) (b : List ℕ) → meaning (next.Asks q c) d b ≡ asked q p d b) × Linked (next.Asks q c)
begun-at p {q} e l = (
  λ d b. ap (λ (x : Point). asked q x d b) (decoded p e),
  (l ∙ ap awaits_at (sym (decoded p e)), e ∙ ap (λ (x : Point). with_tag DRIVER (as_numbers x)) (sym (decoded p e))),
)
