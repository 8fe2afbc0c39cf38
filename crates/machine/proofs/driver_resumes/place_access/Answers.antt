use mathlib.Core.Path.{refl}
use borrow.Author.Rules.{rules}
use Rattle.machine.proofs.driver_resumes.place_access.Goals as goal

pub enum_told-1 : goal.enum_told-1
enum_told-1 c = search rules

pub returns-in-Out : goal.returns-in-Out
returns-in-Out c =
    record {
      value = simp (c.place-at.ensures.value, c.in-Out.is);
      s_after = c.place-at.ensures.s_after;
      result_value = refl;
    }

pub returns-in-In : goal.returns-in-In
returns-in-In c =
    record {
      value = simp (c.place-at.ensures.value, c.in-In.is);
      s_after = c.place-at.ensures.s_after;
      result_value = refl;
    }
