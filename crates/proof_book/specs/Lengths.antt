-- Document 01: "Length: the one of this interrupt, else by the marks, probing words by halving up to the maximum". What
-- the interrupt under way was brought, by the calls and their answers alone, and which length that tells. Definitions;
-- FrontPage.antt says it of every call
use Rattle.std.specs.Prelude.{Bool, true, false, not, cond, ◌&&◌, List, [], ◌∷◌, ◌++◌, ℕ, min, eqb}
use Rattle.regs.specs.declared.Access.{Access}
use Rattle.regs.specs.declared.Access.TheVariants.{Read, Write, Receive, Transmit, Ep0Dma, Wait, Callback}
use Rattle.regs.specs.declared.Reg.TheVariants.{IntSt, MisSt, RxLen}
use Rattle.regs.specs.declared.Dir.TheVariants.{Out}
use Rattle.regs.specs.MisStatus.{sie_free}
use Rattle.regs.specs.Status.{tog_ok}
use Rattle.ring.specs.Marks.{marked_len}
use Rattle.script.specs.Every.{same_reg}
use Rattle.script.specs.IsoOut.{arriving}
use Rattle.script.specs.Answers.{Answer}
use Rattle.script.specs.Calls.{Config, Op}
use Rattle.script.specs.Machine.{Buf, Call, start, begin, continue, question, Ans, ended, handed, told, blank}
use Rattle.proof_book.specs.Pages.{Pages}

-- ---- what the operation under way was brought

-- its readings of mis_st, int_st and rx_len, first to last
pub record Readings : Type 0 where
  pub engine : List ℕ
  pub status : List ℕ
  pub lengths : List ℕ

-- and the access that it handed out last, but for an address in it
pub record Known : Type 0 where
  pub asked : Access
  pub readings : Readings

abbrev pub nothing_read : Readings
nothing_read = record { engine = []; status = []; lengths = [] }

abbrev pub one_more : Bool → ℕ → List ℕ → List ℕ
one_more true v l = l ++ (v ∷ [])
one_more false v l = l

-- a continue brings v, which is a reading where one was asked for
abbrev pub bringing : Access → ℕ → Readings → Readings
bringing (Read r e) v h = record {
  engine = one_more (same_reg r MisSt) v h.engine;
  status = one_more (same_reg r IntSt) v h.status;
  lengths = one_more (same_reg r RxLen) v h.lengths;
}
bringing (Write r e x) v h = h
bringing (Receive e x) v h = h
bringing (Transmit e x) v h = h
bringing (Ep0Dma x) v h = h
bringing (Wait n) v h = h
bringing Callback v h = h

-- after a call, by what it was answered: a begin or a start-up that is handed an access begins an operation; a continue
-- that is handed one went on.
-- A refusal and a call that ends at once leave it
abbrev pub learnt : Call Config Op → Ans Answer → Known → Known
learnt (start c) (handed q) k = record { asked = blank q; readings = nothing_read }
learnt (start c) (ended a) k = k
learnt (start c) (told n) k = k
learnt (begin o) (handed q) k = record { asked = blank q; readings = nothing_read }
learnt (begin o) (ended a) k = k
learnt (begin o) (told n) k = k
learnt (continue v) (handed q) k = record { asked = blank q; readings = bringing k.asked v k.readings }
learnt (continue v) (ended a) k = k
learnt (continue v) (told n) k = k
learnt (question q) a k = k

-- ---- the length of an arrival

abbrev pub first : List ℕ → ℕ
first [] = 0
first (x ∷ xs) = x

abbrev pub second : List ℕ → ℕ
second [] = 0
second (x ∷ xs) = first xs

-- the status with which the interrupt began is OUT for endpoint e, with the toggle that was expected
abbrev pub its_own : Readings → ℕ → Bool
its_own h e = tog_ok (first h.status) && arriving (first h.status) e

-- "the one of this interrupt, else by the marks" (m). With the engine free at its beginning the length read there is
-- the packet's. With the engine busy the packet was still on the bus: its length is the one read after it, where the
-- status then still is OUT for e and that length is not 0
abbrev pub length_of : Readings → ℕ → ℕ → ℕ
length_of h e m = cond (sie_free (first h.engine))
    (cond (its_own h e) (first h.lengths) m)
    (cond (its_own h e && (not (eqb (second h.lengths) 0) && arriving (second h.status) e)) (second h.lengths) m)

-- of OUT e, where the call that decides it is lent b and finds the book t: "an isochronous length is capped at the
-- maximum"
abbrev pub length_at : Readings → Buf → Pages → ℕ → ℕ
length_at h b t e = let most = (t.kept.plain Out e).max_len in min (length_of h e (marked_len b (t.outs e).slot most))
    most
