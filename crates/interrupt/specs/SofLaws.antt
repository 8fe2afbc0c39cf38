-- After a SOF's arm nothing of the transfer is left: neither isochronous OUTs nor EP0's stage are looked at. Assumes
-- nothing.
use Rattle.std.specs.Prelude.{Bool, true, false, not, ◌≡◌, refl, eqb}
use Rattle.std.proofs.Common.{true≢false, ap, sym}
use Rattle.regs.specs.declared.Token.{Token}
use Rattle.regs.specs.declared.Token.TheVariants as tok
use Rattle.regs.specs.Status.{endpoint, token, is_sof, sof_token}
use Rattle.script.specs.declared.Transfer.{Transfer}
use Rattle.script.specs.Tree.{ends}
use Rattle.script.specs.Script.{Script, run, when, ◌>>◌}
use Rattle.script.specs.IsoOut.{iso_out_check}
use Rattle.script.specs.Handler.{ep0_moved_on}
use Rattle.script_ops.specs.Rings.{St}
use Rattle.script_ops.specs.Concrete.{concrete}
use Rattle.interrupt.specs.Continuations.{finish, after_check, after_dispatch}

over : (k : Token) (at-ep0 : Bool) (p : Script true Unit) (t : St) → sof_token k ≡ true
    → ends tt t ≡ run concrete (when (not (sof_token k)) p >> when at-ep0 (ep0_moved_on k)) t
over tok.Sof true p t h = refl
over tok.Sof false p t h = refl
over tok.Out e p t h = absurd (true≢false (sym h))
over tok.In e p t h = absurd (true≢false (sym h))
over tok.Setup e p t h = absurd (true≢false (sym h))

pub sof-over : (setup : Bool) (x : Transfer) (iso : Bool) (t : St) → is_sof x.st ≡ true
    → finish setup (ends tt t) ≡ finish setup (run concrete (after_dispatch x iso) t)
unfolding after_dispatch after_check is_sof
sof-over setup x iso t h = ap (finish setup) (over (token x.st) (eqb (endpoint x.st) 0) (iso_out_check x iso) t h)
