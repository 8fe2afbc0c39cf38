-- Isochronous OUT: arrivals (`iso_out_check`, mod.rs 461-512)
use Rattle.std.specs.Prelude.{Bool, not, ◌&&◌, List, [], ◌∷◌, ℕ, eqb}
use Rattle.bits.specs.Walk.{set_bits}
use Rattle.regs.specs.declared.Reg.TheVariants.{IntSt}
use Rattle.regs.specs.declared.Dir.TheVariants.{Out}
use Rattle.regs.specs.Status.{endpoint, is_out, tog_ok}
use Rattle.script.specs.declared.Transfer.{Transfer}
use Rattle.script.specs.Cells.{globals-cell}
use Rattle.script.specs.Script.{Script, done, test, ◌>>=◌, ◌>>◌, read, get, is, look, hand, when, changed, marked}
use Rattle.script.specs.Script.{arrive}
use Rattle.script.specs.Statics.{wake, iso_outs}

-- the status shows OUT for this endpoint: its packet may still be arriving
unfoldable pub arriving : ℕ → ℕ → Bool
arriving st ep = is_out st && eqb (endpoint st) ep

-- `entry` (792) is for this endpoint: the length that came with this interrupt is its packet's
unfoldable pub entry : Transfer → Bool → ℕ → Bool
entry x iso ep = not x.busy && (x.len_ok && (iso && (tog_ok x.st && arriving x.st ep)))

-- 491-509: the packet is admitted or turned away and the head's slot armed, all in the call that hands out its address;
-- a length above the maximum is capped there
abbrev pub arrives : {i : Bool} → ℕ → ℕ → Script i Unit
arrives ep len = do
  hand (arrive ep len)
  wake Out ep

-- 471-511, one endpoint; the first word is looked at before the status is read
abbrev pub check_one : {i : Bool} → Transfer → Bool → ℕ → Script i Unit
check_one x iso ep = do
  b ← is (changed ep)
  when b (test (entry x iso ep)
      (arrives ep x.len)
      (do
        st ← read IntSt 0
        test (arriving st ep) done (do
          len ← look (marked ep)
          arrives ep len)))

-- lowest number first
unfoldable pub check_walk : {i : Bool} → Transfer → Bool → List ℕ → Script i Unit
check_walk x iso [] = done
check_walk x iso (ep ∷ eps) = do
  check_one x iso ep
  check_walk x iso eps

abbrev pub iso_out_check : {i : Bool} → Transfer → Bool → Script i Unit
iso_out_check x iso = do
  g ← get globals-cell
  check_walk x iso (set_bits (iso_outs g))
