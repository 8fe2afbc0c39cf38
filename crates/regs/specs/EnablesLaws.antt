-- What setting an endpoint's direction does to the others, and which endpoints a mask has left. Assumes nothing.
use Rattle.std.specs.Prelude.{◌≡◌, Bool, ℕ, ◌+◌, ◌/◌, ◌<◌, eqb}
use Rattle.std.proofs.Common.{ap, sym, ◌∙◌, mod-eq_of_lt, arith, ne_eqb}
use Rattle.bits.specs.Bit.{bit_is_set, pick, both}
use Rattle.bits.specs.BitLaws.{set-with, set-and, set-high}
use Rattle.regs.specs.declared.Dir.{Dir}
use Rattle.regs.specs.declared.Dir.TheVariants.{Out, In}
use Rattle.regs.specs.Enables.{place, is_on, with_on, out_enabled}

pub on-with : (w : ℕ) (dir : Dir) (e : ℕ) (on : Bool) (dir' : Dir) (e' : ℕ)
    → is_on (with_on w dir e on) dir' e' ≡ pick (eqb (place dir e) (place dir' e')) on (is_on w dir' e')
unfolding is_on with_on
on-with w dir e on dir' e' = set-with w (place dir e) on (place dir' e')

pub out-kept : (w e e' : ℕ) (on : Bool) → is_on (with_on w In e on) Out e' ≡ is_on w Out e'
out-kept w e e' on = on-with w In e on Out e' ∙ simp (ne_eqb (place In e) (place Out e') (λ z. omega arith))

pub out-enabled-set : (w m e : ℕ) → e < 16 → bit_is_set (out_enabled w m) e ≡ both (bit_is_set m e) (is_on w Out e)
unfolding out_enabled is_on
out-enabled-set w m e h =
    set-and m (w / 65536) e
    ∙ ap (both (bit_is_set m e)) (set-high 16 w e ∙ ap (λ (x : ℕ). bit_is_set w (16 + x)) (sym (mod-eq_of_lt h)))
