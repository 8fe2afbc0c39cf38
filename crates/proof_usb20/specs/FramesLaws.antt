-- The interrupt from the reading of the frame on, which both logs follow
use Rattle.std.specs.Prelude.{Bool, true, false, cond, ◌≡◌, refl, ℕ}
use Rattle.script.specs.declared.Transfer.{Transfer}
use Rattle.script.specs.Script.{Script}
use Rattle.script.specs.Handler as handler
use Rattle.script.specs.Handler.{own_in, framed, released}

pub framed_st : (x : Transfer) (iso : Bool) (sof frame : ℕ) → (framed x iso sof frame).st ≡ x.st
framed_st x iso sof frame = by (own_in x iso sof frame)
  where
    by : (b : Bool) → (cond b (released x) x).st ≡ x.st
    by true = refl
    by false = refl

abbrev pub frames : Transfer → Script true Unit
frames x = handler.frames x
