-- The laws on data toggles (script/proofs/ToggledLaws.antt, RestartLaws.antt) at the driver's own operations: a record's
-- fields are assigned, and the driver has all its records
use Rattle.std.specs.Prelude.{Bool, true, false, cond, List, ◌≡◌, refl, ℕ, ◌%◌, ◌≤◌, length, get_or}
use Rattle.std.proofs.Common.{ap, ◌∙◌, arith, length-set, get_or-set_same}
use Rattle.std.proofs.Math.Decide.{dec_lt}
use Rattle.std.proofs.Math.Seq.{set_out}
use Rattle.bits.specs.Bit.{bit_is_set}
use Rattle.regs.specs.declared.Dir.{Dir}
use Rattle.regs.specs.declared.Dir.TheVariants.{Out, In}
use Rattle.state.specs.declared.EpState.{EpState}
use Rattle.state.specs.Driver.{Driver, key, no_ep, ep_on, with_on, with_paced_on}
use Rattle.state.specs.Laws.{key-lt}
use Rattle.ring.specs.Out.{armed_at}
use Rattle.script.specs.Statics.{iso_outs, with_armed, with_tog}
use Rattle.script.proofs.ToggledLaws.{Assigns}
use Rattle.script.specs.RestartLaws as restart
use Rattle.script.specs.RestartLaws.{Lawful}
use Rattle.script_ops.specs.Records.{plain_of, merged, iso_out, configured, enabled_on}
use Rattle.script_ops.specs.Rings.{St, emptied, emptied_on, place_on}
use Rattle.script_ops.specs.Concrete.{concrete}

-- a driver that has its 32 records, as every view of lent bytes has (`view-sized`)
abbrev pub Whole : St → Type 0
Whole s = length s.0.eps ≡ 32

pub same-ep : (d : Driver) (dir : Dir) (e : ℕ) (r : EpState) → length d.eps ≡ 32 → ep_on (with_on d dir e r) dir e ≡ r
unfolding ep_on with_on
same-ep d dir e r h = get_or-set_same d.eps (key dir e) r no_ep (omega (arith, h, key-lt dir e))

-- ---- `toggled`

pub assigns : (dir : Dir) (e : ℕ) → Assigns Whole concrete dir e
assigns dir e n s h = ap plain_of (same-ep s.0 dir e
    (merged (ep_on s.0 dir e) (with_armed 0 (with_tog n (plain_of (ep_on s.0 dir e))))) h)

-- ---- DATA0 in the record

-- the record's place changed, its toggle not: whether there is such a place or not
tog-kept : (d : Driver) (dir : Dir) (e : ℕ) (r : EpState) → r.tog ≡ (ep_on d dir e).tog
    → (ep_on (with_on d dir e r) dir e).tog ≡ (ep_on d dir e).tog
unfolding ep_on with_on
tog-kept d dir e r h = elim (dec_lt (key dir e) (length d.eps)) [
  | yes l ↦ ap (λ (q : EpState). q.tog) (get_or-set_same d.eps (key dir e) r no_ep l) ∙ h
  | no l ↦ ap (λ (q : List EpState). (get_or q (key dir e) no_ep).tog) (set_out d.eps (key dir e) r (omega arith))
]

whole-emptied : (d : Driver) (dir : Dir) (e : ℕ) → length d.eps ≡ 32 → length (emptied_on d dir e).eps ≡ 32
unfolding emptied_on with_on
whole-emptied d dir e h = by (iso_out d dir e)
  where
    by : (t : Bool) → length (cond t d (with_on d dir e (emptied (ep_on d dir e)))).eps ≡ 32
    by true = h
    by false = length-set d.eps (key dir e) (emptied (ep_on d dir e)) ∙ h

enabled-tog : (d : Driver) (dir : Dir) (e : ℕ) (on : Bool) → (ep_on (enabled_on d dir e on) dir e).tog ≡ (ep_on d dir e).tog
unfolding enabled_on configured ep_on
enabled-tog d dir e on = by (iso_out d dir e)
  where
    by : (t : Bool) → (ep_on (cond t d (configured d dir e on)) dir e).tog ≡ (ep_on d dir e).tog
    by true = refl
    by false = refl

place-tog : (d : Driver) (dir : Dir) (e : ℕ) → (ep_on (place_on dir e d).1 dir e).tog ≡ (ep_on d dir e).tog
unfolding place_on armed_at
place-tog d In e = refl
place-tog d Out e = by (bit_is_set (iso_outs d.globals) (e % 16))
  where
    by : (t : Bool) → (ep_on (cond {A = ℕ × Driver} t ((ep_on d Out e).armed_slot, d) (
      (ep_on d Out e).base,
      with_on d Out e (armed_at (ep_on d Out e) (ep_on d Out e).base),
    )).1 Out e).tog ≡ (ep_on d Out e).tog
    by true = refl
    by false = tog-kept d Out e (armed_at (ep_on d Out e) (ep_on d Out e).base) refl

pub lawful : (dir : Dir) (e : ℕ) → Lawful Whole concrete dir e
unfolding ep_on with_paced_on
lawful dir e = record {
  assigned = λ v s h. ap (λ (r : EpState). r.tog) (same-ep s.0 dir e (merged (ep_on s.0 dir e) v) h);
  emptied = λ s h. whole-emptied s.0 dir e h;
  wakes = λ cs s. refl;
  globals = λ v s. refl;
  paced = λ v s. refl;
  enabling = λ on s. enabled-tog s.0 dir e on;
  placing = λ s. place-tog s.0 dir e;
}
