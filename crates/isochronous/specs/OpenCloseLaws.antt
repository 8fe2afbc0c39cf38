-- Rows 4 and 5 before a script, and what the scripts of open and close come to. Assumes nothing.
use Rattle.std.specs.Prelude.{◌≡◌, ◌≢◌, Bool, true, false, cond, List, ℕ, eqb}
use Rattle.std.proofs.Common.{ap, sym, ◌∙◌, eq-eqb, ne_eqb}
use Rattle.regs.specs.declared.Dir.{Dir}
use Rattle.regs.specs.declared.Dir.TheVariants.{Out}
use Rattle.state.specs.Driver.{Driver, ep_on}
use Rattle.script.specs.Tree.{ends}
use Rattle.script.specs.Script.{Script}
use Rattle.script.specs.Statics.{is_on}
use Rattle.script.specs.Answers.{Answer, Refused, Shown, staged, named, is_number}
use Rattle.script_ops.specs.Rows.{refusal_of}
use Rattle.script_ops.specs.RowsLaws.{numbered, by_row}
use Rattle.script_ops.specs.Rings.{waiting_on, opened_on, oldest_on, oldest_at, next_len, next_stamp, open_on, close_on}
use Rattle.script_ops.specs.Concrete.{go}
use Rattle.isochronous.specs.declared.open_close.Packet.TheVariants as packet
use Rattle.isochronous.specs.Packets.{answered, opening, closing}

rowed : (dir : Dir) (e : ℕ) (p : Script false Answer) (d : Driver) (b : List ℕ)
    → go (staged 2 (named dir e p)) d b ≡ cond (eqb (refusal_of d dir e) 0) (go p d b)
    (ends (Refused (refusal_of d dir e)) (d, b))
rowed dir e p d b = by_row (λ (n : ℕ). ends (Refused n) (d, b)) (go p d b) d dir e

-- no row: the script
pub passed : (dir : Dir) (e row : ℕ) (p : Script false Answer) (d : Driver) (b : List ℕ)
    → row ≡ refusal_of d dir e → row ≡ 0 → go p d b ≡ go (staged 2 (named dir e p)) d b
passed dir e row p d b h z =
    sym (rowed dir e p d b ∙ ap (λ (x : Bool). cond x (go p d b) (ends (Refused (refusal_of d dir e)) (d, b)))
    (eq-eqb (refusal_of d dir e) 0 (sym h ∙ z)))

-- a row: its refusal
pub refused : (dir : Dir) (e row : ℕ) (p : Script false Answer) (d : Driver) (b : List ℕ)
    → row ≡ refusal_of d dir e → row ≢ 0 → ends (Refused row) (d, b) ≡ go (staged 2 (named dir e p)) d b
refused dir e row p d b h z =
    ap (λ (n : ℕ). ends (Refused n) (d, b)) h
    ∙ sym (rowed dir e p d b ∙ ap (λ (x : Bool). cond x (go p d b) (ends (Refused (refusal_of d dir e)) (d, b)))
    (ne_eqb (refusal_of d dir e) 0 (λ q. z (h ∙ q))))

pub passed-number : (d : Driver) (dir : Dir) (e row : ℕ) → row ≡ refusal_of d dir e → row ≡ 0 → is_number e ≡ true
passed-number d dir e row h z = numbered d dir e (eq-eqb (refusal_of d dir e) 0 (sym h ∙ z))

-- ---- open, by what is found

pub open-shown : (e : ℕ) (d x : Driver) (b : List ℕ) (at n stamp : ℕ) → is_on (ep_on d Out e).iso ≡ true
    → waiting_on d Out e ≡ true → x ≡ open_on d e → at ≡ oldest_at x e → n ≡ next_len x Out e → stamp ≡ next_stamp x e
    → answered (packet.Shown at n stamp) x b ≡ go (opening e) d b
unfolding oldest_on
open-shown e d x b at n stamp iso some h p q r =
    ap (λ (y : ℕ). answered (packet.Shown y n stamp) x b) p
    ∙ (ap (λ (y : ℕ). answered (packet.Shown (oldest_at x e) y stamp) x b) q
    ∙ (ap (λ (y : ℕ). answered (packet.Shown (oldest_at x e) (next_len x Out e) y) x b) r
    ∙ (ap (λ (y : Driver). ends (Shown (oldest_on y e b) (next_stamp y e)) (y, b)) h
    ∙ sym (simp (iso, some)))))

pub open_none : (e : ℕ) (d : Driver) (b : List ℕ) → is_on (ep_on d Out e).iso ≡ true
    → waiting_on d Out e ≡ false → answered (packet.Refused 12) d b ≡ go (opening e) d b
open_none e d b iso none = simp (iso, none)

pub open-other : (e : ℕ) (d : Driver) (b : List ℕ) → is_on (ep_on d Out e).iso ≡ false → answered (packet.Refused 11) d b
    ≡ go (opening e) d b
open-other e d b iso = simp iso

-- ---- close

pub close_open : (e : ℕ) (d x : Driver) (b : List ℕ) → opened_on d e ≡ true → x ≡ close_on d e → answered packet.Ok x b
    ≡ go (closing e) d b
close_open e d x b some h = ap (λ (y : Driver). answered packet.Ok y b) h ∙ sym (simp some)

pub close-none : (e : ℕ) (d : Driver) (b : List ℕ) → opened_on d e ≡ false → answered (packet.Refused 14) d b
    ≡ go (closing e) d b
close-none e d b none = simp none
