use Rattle.machine.specs.declared.Suspended.TheVariants as under
use Rattle.machine.proofs.StandsLaws.{handed_out_lem, stored-by}
use Rattle.machine.proofs.PointsStandsLaws.{stands_at}
use Rattle.machine.specs.Fits.{linked-polled}
use Rattle.machine.proofs.RowsLaws.{ends-idle}
use Rattle.machine.specs.Suspended.{decode}
use Rattle.state.specs.State.{view, saved}
use Rattle.control.specs.Codec as codec
use mathlib.Core.Path.{◌∙◌, refl}
use borrow.Author.Rules.{rules}
use Rattle.machine.proofs.halts.polled_control.Goals as goal

pub enum_told-1 : goal.enum_told-1
enum_told-1 c = search rules

pub returns-in-Refused : goal.returns-in-Refused
returns-in-Refused c =
    record {
      by_index = λ out b. ends-idle (decode (saved c.args.s.now))
          (view c.args.s.now) b _ c.requires.1 ∙ simp c.in-Refused.is;
      saved_by_answer = refl;
    }

pub returns-in-NotYet : goal.returns-in-NotYet
returns-in-NotYet c =
    record {
      by_index = λ out b. ends-idle (decode (saved c.args.s.now))
          (view c.args.s.now) b _ c.requires.1 ∙ simp c.in-NotYet.is;
      saved_by_answer = refl;
    }

pub returns-in-Done : goal.returns-in-Done
returns-in-Done c =
    record {
      by_index = λ out b. ends-idle (decode (saved c.args.s.now))
          (view c.args.s.now) b _ c.requires.1 ∙ simp c.in-Done.is;
      saved_by_answer = refl;
    }

pub returns-in-Setup : goal.returns-in-Setup
returns-in-Setup c =
    record {
      by_index = λ out b. ends-idle (decode (saved c.args.s.now))
          (view c.args.s.now) b _ c.requires.1 ∙ simp c.in-Setup.is;
      saved_by_answer = refl;
    }

pub returns-in-Asks : goal.returns-in-Asks
returns-in-Asks c =
    let link = linked-polled _ _ _ c.in-Asks.is c.requires.0 in
    let stood = stands_at {u = under.Control (codec.decode _)} c.stand.ensures link.1 in
    record {
      by_index = λ out b. handed_out_lem stood _ stood.answered out b ∙ simp (c.in-Asks.is, link.0);
      saved_by_answer = stored-by stood _ stood.answered _;
    }
