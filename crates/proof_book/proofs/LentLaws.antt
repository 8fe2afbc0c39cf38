-- The premise of demand 3 shuts no list of calls out: lent the slot buffer as the last call left it, every list of
-- calls is lawful
use Rattle.std.specs.Prelude.{Bool, true, false, cond, List, [], ◌∷◌, ◌≡◌, refl}
use Rattle.state.specs.Driver.{Driver}
use Rattle.script.specs.Answers.{Answer}
use Rattle.script.specs.Calls.{Config, Op, calls}
use Rattle.script.specs.Machine.{Buf, Call, start, begin, continue, question, Event, Machine, misfit}
use Rattle.script.specs.Agree.{Lawful, LentAlike, unless}
use Rattle.machine.specs.Suspended.{driver_of, drive}
use Rattle.proof_book.specs.Pages.{Pages}
use Rattle.proof_book.specs.Book.{book}
use Rattle.proof_book.specs.Coupling.{Chip}
use Rattle.proof_book.proofs.StartUpLaws.{fresh_kept}
use Rattle.proof_book.proofs.AgreesLaws.{agree}

-- the calls, each lent the slot buffer as the last one left it: the chip stores nothing
abbrev pub gives_lent_back : List (Call Config Op) → Machine Answer Driver → List (Event Config Op)
gives_lent_back [] m = []
gives_lent_back (c ∷ cs) m = record { call = c; lent = m.buf } ∷ gives_lent_back cs (drive c m m.buf).1

no_store : (t : Pages) (b : Buf) → Chip t b b
no_store t b = record { long = refl; others = λ k e. refl }

granted : (g : Bool) {X : Type 0} → X → unless driver_of book agree calls g X
granted true x = tt
granted false x = x

pub lent : (c : Call Config Op) (m : Machine Answer Driver) (n : Machine Answer Pages)
    → LentAlike driver_of book agree calls c m n m.buf
lent (start c) m n = tt
lent (begin o) m n = granted (cond (calls.slots o) (misfit calls driver_of m.st m.buf) false)
    (no_store n.st m.buf)
lent (continue v) m n = granted (misfit calls driver_of m.st m.buf) (no_store n.st m.buf)
lent (question q) m n = no_store n.st m.buf

pub lawful : (cs : List (Call Config Op)) (m : Machine Answer Driver) (n : Machine Answer Pages)
    → Lawful driver_of book agree calls fresh_kept (gives_lent_back cs m) m n
lawful [] m n = tt
lawful (c ∷ cs) m n = (lent c m n, lawful cs _ _)
