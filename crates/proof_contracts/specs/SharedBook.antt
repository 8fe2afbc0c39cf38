-- The book with the record of bus time that up to four drivers share (document 02, request Seven): it turns an
-- enabling down, and works the record
-- out, by its own kept values. Definitions
use Rattle.std.specs.Prelude.{Bool, false, cond, ◌&&◌, List, ℕ, set}
use Rattle.regs.specs.declared.Access.{Access}
use Rattle.regs.specs.declared.Dir.{Dir}
use Rattle.script.specs.Answers.{Answer, Refused}
use Rattle.script.specs.Calls.{Config, Op, calls}
use Rattle.script.specs.Machine.{Buf, Call, Machine, Ans, ended, handed, told, lent_to}
use Rattle.bus_time.specs.Time.{charge_of, entry_of, passes, keep_of}
use Rattle.calls.specs.Sharing.{Sort, enabling, starting, going, apart, sort_of, is_handed}
use Rattle.calls.specs.Sharing as sharing
use Rattle.proof_book.specs.Pages.{Pages}
use Rattle.proof_book.specs.Book.{book}
use Rattle.proof_book.specs.FrontPage.{book_step}

-- what an endpoint is charged, by the kept kind and maximum
abbrev pub charge_in : Pages → Dir → ℕ → ℕ
charge_in t dir e = charge_of (t.kept.plain dir e).kind (t.kept.plain dir e).max_len

-- "19, on an enable that would pass 6,000, checked after 5": one that the book's own step, which answers a, would begin
abbrev pub would_pass : ℕ → Sort → Ans Answer → Pages → List ℕ → Bool
would_pass i (enabling dir e) a t time = is_handed a && passes time (entry_of i dir e) (charge_in t dir e)
would_pass i starting a t time = false
would_pass i going a t time = false
would_pass i apart a t time = false

-- the book's step as driver i's, told what the call answered: row 19 changes nothing
abbrev pub shared_step : ℕ → Ans Answer → Call Config Op → Machine Answer Pages → List ℕ → Buf → Ans Answer
    × Machine Answer Pages
shared_step i x c n time b =
    let y = book_step x c n b in
    cond (would_pass i (sort_of c) y.0 n.st time) (ended (Refused 19), lent_to calls book.driver n b) y

-- ---- the record after a call that answered so: "an enable counts from its beginning; time comes back with the write
-- of a disabling or bus reset that
-- clears its ep_config bit, or as an accepted start-up begins"

abbrev pub time_handed : ℕ → Sort → Access → Pages → List ℕ → List ℕ
time_handed i (enabling dir e) q t time = set time (entry_of i dir e) (charge_in t dir e)
time_handed i starting q t time = keep_of i 0 time
time_handed i going q t time = sharing.written i q time
time_handed i apart q t time = time

abbrev pub time_in : ℕ → Sort → Ans Answer → Pages → List ℕ → List ℕ
time_in i x (ended a) t time = time
time_in i x (handed q) t time = time_handed i x q t time
time_in i x (told n) t time = time
