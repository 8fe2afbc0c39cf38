-- What TransferKindsLaws.antt speaks of. It proves: the sorts of the driver's endpoints are the flags of their records.
-- No operation but an allocation changes a flag or one of the two sets of isochronous endpoints, so the driver's own
-- operations leave the sorts
use Rattle.std.specs.Prelude.{◌≡◌, ℕ, length}
use Rattle.regs.specs.declared.Dir.{Dir}
use Rattle.regs.specs.declared.Dir.TheVariants.{Out, In}
use Rattle.state.specs.Driver.{Driver, ep_on}
use Rattle.script.specs.Statics.{is_on}
use Rattle.script.specs.TransferKinds.{TransferKinds, Among}

-- ---- what leaves the flags and the sets

pub record Steady (d d' : Driver) : Type 0 where
  pub places : length d'.eps ≡ length d.eps
  pub flags : (dir : Dir) (e : ℕ) → (ep_on d' dir e).iso ≡ (ep_on d dir e).iso
  pub outs : d'.globals.iso_out_eps ≡ d.globals.iso_out_eps
  pub every : d'.globals.iso_in_every ≡ d.globals.iso_in_every
  pub allocator : d'.allocator ≡ d.allocator
  pub codes : length d'.wakes.codes ≡ length d.wakes.codes

-- ---- the instance

-- a state with these sorts: the flags say them, and the sets have isochronous endpoints only
pub record Has (iso : TransferKinds) (d : Driver) : Type 0 where
  pub flags : (dir : Dir) (e : ℕ) → is_on (ep_on d dir e).iso ≡ iso dir e
  pub outs : Among (iso Out) d.globals.iso_out_eps
  pub every : Among (iso In) d.globals.iso_in_every
