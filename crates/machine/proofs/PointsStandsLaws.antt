-- A continue goes on to a point, or to its end, whichever family it is. Assumes nothing.
use Rattle.std.specs.Prelude.{true, false, List, [], ◌≡◌, refl, ℕ}
use Rattle.std.proofs.Common.{◌∙◌, ap, sym}
use Rattle.regs.specs.declared.Access.{Access}
use Rattle.state.specs.declared.Saved.{Saved}
use Rattle.state.specs.Driver.{Driver}
use Rattle.state.specs.State.{view, saved}
use Rattle.script.specs.Answers.{Answer}
use Rattle.script.specs.Tree.{Out, ends, asks, bind_out}
use Rattle.script.specs.Machine.{Buf, Awaits, Pending, busy, handed, awaited}
use Rattle.script.specs.Script.{run}
use Rattle.script_ops.specs.Numbers.{fits}
use Rattle.script_ops.specs.Rings.{St}
use Rattle.script_ops.specs.Concrete.{concrete}
use Rattle.machine.specs.declared.Suspended.{Suspended}
use Rattle.answer.specs.declared.Step.{Step}
use Rattle.answer.specs.declared.Step.TheVariants as step
use Rattle.machine.specs.Suspended.{as_saved, decode, machine_of, finish, handed_out, resumed, answer_of, Stored}
use Rattle.answer.specs.Goes.{StepResult}
use Rattle.machine.specs.GoesLaws.{stayed}
use Rattle.machine.specs.Stands.{Stands, halted, StepsTo, Ends, AtNumber, Resumes}
use Rattle.machine.proofs.StandsLaws.{stored-by, handed_out_lem, suspends}
use Rattle.machine.specs.Fits.{gone-by, stay-by}
use Rattle.machine.specs.Family.{Family}

-- the bytes of the point are stored
pub stands_at : {r : Step} {q : Access} {u : Suspended} {c : Saved} {xs ys : List ℕ}
    → (r ≡ step.Asks q) × ((view ys ≡ view xs) × (saved ys ≡ c)) → c ≡ as_saved u → Stands r q u xs ys
stands_at h e = record { answered = h.0; viewed = h.1.0; stored = h.1.1 ∙ e }

abbrev handed_on : Access → Driver → Buf → Pending Answer Driver → StepResult
handed_on q d b w = (handed q, record { under_way_lem = w; st = d; buf = b })

-- one that ends leads to its end
pub leads-end : {r : Step} {n : ℕ} {xs ys : List ℕ} (o : Buf → Out St ℕ) → Ends r n xs ys
    → ((b : Buf) → ends n (view xs, b) ≡ o b) → StepsTo r ys (λ b. halted (o b)) × Stored r ys
leads-end o h m = (λ b. h.there b ∙ ap halted (m b), h.stored)

module _ {P : Type 0} {under : P → Suspended} {awaits : P → Awaits} {rest : P → ℕ → St → Out St ℕ}
    {mark : ℕ} {by_number : ℕ → Saved → P} (F : Family under awaits rest mark by_number) where
  -- the point that a number is, with the parts that were loaded
  pub at-point : (k : ℕ) {p : P} {xs : List ℕ} → AtNumber mark k xs → p ≡ by_number k (saved xs) → decode (saved xs)
      ≡ under p
  at-point k {p} {xs} a e = F.read (saved xs) a.tagged
      ∙ ap under (ap (λ (n : ℕ). by_number n (saved xs)) a.numbered ∙ sym e)

  -- the same for the last arm of a dispatch
  pub at_last : (xs : List ℕ) {k : ℕ} {p : P} → (saved xs).tag ≡ mark → k ≡ (saved xs).sub → p ≡ by_number k (saved xs)
      → decode (saved xs) ≡ under p
  at_last xs {k} t h e = at-point k (record { tagged = t; numbered = sym h }) e

  -- an operation that hands out an access at p is under way there
  pub stood : (q : Access) (p : P) (d : Driver) (b : Buf) → awaited q ≡ awaits p → handed_out q (under p) d b
      ≡ halted (asks q (d, b) (rest p))
  stood q p d b h = ap (handed_on q d b) (F.under_way_lem p)
      ∙ ap (λ (a : Awaits). handed_on q d b (busy false a
      (λ v t. bind_out (rest p v t) (λ n u. run concrete (finish n) u)))) (sym h)

  -- a continue: the call leaves the operation where the rest o stops
  pub follows : {r : Step} {v : ℕ} {p : P} {xs zs : List ℕ} {b after : Buf} {o : Out St ℕ} → decode (saved xs) ≡ under p
      → fits (awaits p) v ≡ true
      → ◌≡◌ {A = StepResult} (answer_of r [] (view zs), machine_of zs after) (halted o) → Stored r zs → o
      ≡ rest p v (view xs, b)
      → Resumes r v xs b zs after
  follows {v = v} {p = p} {xs = xs} {b = b} e f h k m = record {
    called = h ∙ (ap halted m ∙ (sym (gone-by (under p) (F.under_way_lem p) v (view xs) b f)
        ∙ ap (λ (w : Suspended). resumed v w (view xs) b) (sym e)));
    kept = k xs;
  }

  -- it goes on to t, whose access is the first of the rest
  pub goes_to : {r : Step} {q : Access} {v : ℕ} {p t : P} {xs ys zs : List ℕ} {b after : Buf} → decode (saved xs)
      ≡ under p → fits (awaits p) v ≡ true
      → Stands r q (under t) ys zs → awaited q ≡ awaits t → asks q (view ys, after) (rest t) ≡ rest p v (view xs, b)
      → Resumes r v xs b zs after
  goes_to {r = r} {q = q} {t = t} {ys = ys} {after = after} e f h l m =
      follows e f (handed_out_lem h r h.answered [] after ∙ stood q t (view ys) after l) (stored-by h r h.answered) m

  -- it ends
  pub comes-to : {r : Step} {n v : ℕ} {p : P} {xs ys zs : List ℕ} {b after : Buf} → decode (saved xs) ≡ under p
      → fits (awaits p) v ≡ true
      → Ends r n ys zs → ends n (view ys, after) ≡ rest p v (view xs, b) → Resumes r v xs b zs after
  comes-to {after = after} e f h m = follows e f (h.there after) h.stored m

  -- a call that leaves the operation at t leads where the rest o stops
  pub leads-to : {r : Step} {q : Access} {t : P} {xs ys : List ℕ} (o : Buf → Out St ℕ) → Stands r q (under t) xs ys
      → awaited q ≡ awaits t
      → ((b : Buf) → asks q (view xs, b) (rest t) ≡ o b) → StepsTo r ys (λ b. halted (o b)) × Stored r ys
  leads-to {q = q} {t = t} {xs = xs} o h l m = suspends h (λ b. stood q t (view xs) b l ∙ ap halted (m b))

  -- row 16: it stays where it is
  pub stays_at : {v : ℕ} {p : P} {xs : List ℕ} {b : Buf} → decode (saved xs) ≡ under p → fits (awaits p) v ≡ false
      → Resumes (step.Refused 16) v xs b xs b
  stays_at {v} {p} {xs} {b} e f = record {
    called = ap (λ (w : Suspended). stayed w (view xs) b) e
        ∙ (sym (stay-by (under p) (F.under_way_lem p) v (view xs) b f)
        ∙ ap (λ (w : Suspended). resumed v w (view xs) b) (sym e));
    kept = refl;
  }
