-- A record's reset, step by step, and `endpoint_set_enabled` by the sort of the endpoint. Assumes nothing.
use Rattle.std.specs.Prelude.{◌≡◌, refl, Bool, true, false, List, ℕ}
use Rattle.std.proofs.Common.{ap, ◌∙◌}
use Rattle.regs.specs.declared.Access.TheVariants.{Transmit}
use Rattle.regs.specs.declared.Dir.{Dir}
use Rattle.regs.specs.declared.Dir.TheVariants.{Out, In}
use Rattle.state.specs.declared.EpState.{EpState}
use Rattle.state.specs.Driver.{Driver, ep_on, with_on, with_paced_on}
use Rattle.state.specs.Laws.{Sized, ep_on-same, with_on-twice}
use Rattle.script.specs.Statics.{is_on, with_armed, renewed, wake}
use Rattle.script.specs.Tree as tree
use Rattle.script.specs.Tree.{asks}
use Rattle.script.specs.Script.{Script, test, row, switch, ◌>>=◌, ◌>>◌}
use Rattle.script.specs.Bus.{set_enabled_out, set_enabled}
use Rattle.script_ops.specs.Records.{plain_of, merged, iso_out}
use Rattle.script_ops.specs.Rings.{St, emptied, emptied_on, place_on}
use Rattle.script_ops.specs.Concrete.{go}
use Rattle.bus.specs.declared.Point.TheVariants as point
use Rattle.bus.specs.Points.{resultless, woken, reset_as, renewed_as, enabled_out, after_placed, after_words}
use Rattle.bus.specs.Points.{switching, denote}

-- ---- a record reset, in the script's two changes

abbrev change : EpState → ℕ → EpState
change r armed = merged r (with_armed armed (renewed (plain_of r)))

both : (x : EpState) (armed : ℕ) → change (emptied x) armed ≡ reset_as x armed
unfolding emptied
both x armed = refl

ring-emptied : (d : Driver) (dir : Dir) (e : ℕ) → iso_out d dir e ≡ false → emptied_on d dir e
    ≡ with_on d dir e (emptied (ep_on d dir e))
unfolding emptied_on
ring-emptied d dir e h = rw h refl

pub renew-both : (d : Driver) → Sized d → (dir : Dir) (e armed : ℕ)
    → iso_out d dir e ≡ false → renewed_as d dir e armed ≡ with_on d dir e (reset_as (ep_on d dir e) armed)
renew-both d s dir e armed h =
    ap (λ (x : Driver). with_on x dir e (change (ep_on x dir e) armed)) (ring-emptied d dir e h)
    ∙ (with_on-twice d dir e (emptied (ep_on d dir e)) (change (ep_on (with_on d dir e (emptied (ep_on d dir e))) dir e)
    armed)
    ∙ (ap (λ (r : EpState). with_on d dir e (change r armed)) (ep_on-same d dir e (emptied (ep_on d dir e)) s)
    ∙ ap (with_on d dir e) (both (ep_on d dir e) armed)))

-- ---- `endpoint_set_enabled`, by the sort of the endpoint

abbrev chosen : ℕ → Bool → Bool → Script false ℕ
chosen e on iso = resultless (do
  test iso (row (switch e on)) (set_enabled_out e on)
  wake Out e)

asked : (e : ℕ) (on : Bool) (d : Driver) (b : List ℕ) (iso : Bool) → iso_out d Out e ≡ iso
    → go (resultless (set_enabled Out e on)) d b ≡ go (chosen e on iso) d b
unfolding iso_out
asked e on d b iso h = ap (λ (x : Bool). go (chosen e on x) d b) h

row-begun : (e : ℕ) (on : Bool) (d : Driver) (b : List ℕ) → go (chosen e on true) d b ≡ switching e on 19 (d, b)
unfolding switching
row-begun e on d b = refl

pub enable-iso : (dir : Dir) (e : ℕ) (on : Bool) (d : Driver) (b : List ℕ)
    → dir ≡ Out → iso_out d Out e ≡ true → go (resultless (set_enabled dir e on)) d b ≡ switching e on 19 (d, b)
enable-iso dir e on d b p h = ap (λ (x : Dir). go (resultless (set_enabled x e on)) d b) p
    ∙ (asked e on d b true h ∙ row-begun e on d b)

pub enable-out : (dir : Dir) (e : ℕ) (on : Bool) (d : Driver) (b : List ℕ)
    → dir ≡ Out → iso_out d Out e ≡ false → go (resultless (set_enabled dir e on)) d b ≡ go (enabled_out e on) d b
enable-out dir e on d b p h = ap (λ (x : Dir). go (resultless (set_enabled x e on)) d b) p ∙ asked e on d b false h

abbrev placed : ℕ → Bool → Bool → ℕ × Driver → List ℕ → tree.Out St ℕ
placed e on iso p b = asks (Transmit e p.0) (p.1, b) (λ v t. denote (point.PlacedIn e iso on) v t)

begun : (e : ℕ) (on : Bool) (d : Driver) (b : List ℕ) → placed e on (is_on (ep_on d In e).iso)
    (place_on In e (with_paced_on (renewed_as d In e 0) e 0x1800)) b ≡ go (resultless (set_enabled In e on)) d b
unfolding after_placed after_words woken
begun e on d b = refl

pub enable-in : (e : ℕ) (on : Bool) (d x y : Driver) (iso : Bool) (at : ℕ) (b : List ℕ)
    → iso ≡ is_on (ep_on d In e).iso
    → x ≡ with_paced_on (renewed_as d In e 0) e 0x1800
    → at ≡ (place_on In e x).0
    → y ≡ (place_on In e x).1
    → placed e on iso (at, y) b ≡ go (resultless (set_enabled In e on)) d b
enable-in e on d x y iso at b h k m n =
    ap (λ (z : Bool). placed e on z (at, y) b) h
    ∙ (ap (λ (z : ℕ). placed e on (is_on (ep_on d In e).iso) (z, y) b) m
    ∙ (ap (λ (z : Driver). placed e on (is_on (ep_on d In e).iso) ((place_on In e x).0, z) b) n
    ∙ (ap (λ (z : Driver). placed e on (is_on (ep_on d In e).iso) (place_on In e z) b) k
    ∙ begun e on d b)))
