-- Two machines run the same calls: the driver's, and a book's that is told the accesses which the driver handed out
use Rattle.std.specs.Prelude.{Bool, false, not, cond, List, ℕ, zero, suc, eqb, length}
use Rattle.regs.specs.declared.Access.{Access}
use Rattle.regs.specs.declared.Access.TheVariants.{Read, Write, Receive, Transmit, Ep0Dma, Wait, Callback}
use Rattle.regs.specs.Registers.{width_of}
use Rattle.regs.specs.declared.Dir.{Dir}
use Rattle.script.specs.Tree as tree
use Rattle.script.specs.Tree.{ends, asks}
use Rattle.script.specs.Script.{Ops, Script, run}

abbrev pub Buf : Type 0
Buf = List ℕ

-- the questions, which answer always
pub data Question : Type 0 where
  pending overruns : ℕ → Question
  enabled : Dir → ℕ → Question

-- start-up with its inputs C, an operation's begin or a call that ends at once, continue with the number brought, a
-- question
pub data Call (C Op : Type 0) : Type 0 where
  start : C → Call C Op
  begin : Op → Call C Op
  continue : ℕ → Call C Op
  question : Question → Call C Op

-- a call, and the slot buffer as it stands then
pub record Event (C Op : Type 0) : Type 0 where
  pub call : Call C Op
  pub lent : Buf

pub data Ans (A : Type 0) : Type 0 where
  ended : A → Ans A
  handed : Access → Ans A
  told : ℕ → Ans A

-- what an operation awaits: a reading of so many bits, or nothing
pub data Awaits : Type 0 where
  nothing : Awaits
  reading : ℕ → Awaits

abbrev pub awaited : Access → Awaits
awaited (Read r e) = reading (width_of r)
awaited (Write r e x) = nothing
awaited (Receive e x) = nothing
awaited (Transmit e x) = nothing
awaited (Ep0Dma x) = nothing
awaited (Wait n) = nothing
awaited Callback = nothing

-- what is under way: nothing, or an operation that handed out an access; `true`: an interrupt
pub data Pending (A S : Type 0) : Type 0 where
  idle : Pending A S
  busy : Bool → Awaits → (ℕ → S × Buf → tree.Out (S × Buf) A) → Pending A S

pub record Machine (A S : Type 0) : Type 0 where
  pub under_way_lem : Pending A S
  pub st : S
  pub buf : Buf

-- the calls: their scripts; which bring the slot buffer; which pass during an interrupt; the rows of start-up (0:
-- accepted); whether a reading has bits above its width; the answer that a row gives
pub record Calls (C Op A : Type 0) : Type 1 where
  pub irq : Op → Bool
  pub code : (o : Op) → Script (irq o) A
  pub slots : Op → Bool
  pub aside : Op → Bool
  pub starts : C → Script false A
  pub refuses : C → Buf → ℕ
  pub wide : ℕ → ℕ → Bool
  pub refusal : ℕ → A

-- a driver: its operations over its state with the buffer, the state that a start-up makes, the buffer's length, the
-- questions
pub record Instance (C S : Type 0) : Type 0 where
  pub ops : Ops (S × Buf)
  pub fresh : C → S
  pub size : S → ℕ
  pub question : Question → S → ℕ

-- row 16
abbrev pub over : {C Op A : Type 0} → Calls C Op A → Awaits → ℕ → Bool
over L (reading w) v = L.wide w v
over L nothing v = false

module _ {C Op A : Type 0} (L : Calls C Op A) {S : Type 0} (D : Instance C S) where
  -- row 1
  abbrev pub misfit : S → Buf → Bool
  misfit s b = not (eqb (length b) (D.size s))

  abbrev pub stay : ℕ → Machine A S → Ans A × Machine A S
  stay n m = (ended (L.refusal n), m)

  abbrev pub lent_to : Machine A S → Buf → Machine A S
  lent_to m b = record { under_way_lem = m.under_way_lem; st = m.st; buf = b }

  -- a call that falls between two accesses of an interrupt: it ends at once
  abbrev pub during_interrupt : Machine A S → tree.Out (S × Buf) A → Ans A × Machine A S
  during_interrupt m (ends a s) = (ended a, record { under_way_lem = m.under_way_lem; st = s.0; buf = s.1 })
  during_interrupt m (asks q s k) = stay 3 m

  -- `told_of`: what becomes of the state where an access is handed out; of the driver's, nothing
  module _ (told_of : S → S) where
    abbrev pub halt : Bool → tree.Out (S × Buf) A → Ans A × Machine A S
    halt i (ends a s) = (ended a, record { under_way_lem = idle; st = s.0; buf = s.1 })
    halt i (asks q s k) = (handed q, record { under_way_lem = busy i (awaited q) k; st = told_of s.0; buf = s.1 })

    abbrev pub begun : Op → Machine A S → Pending A S → Buf → Ans A × Machine A S
    begun o m idle b = halt (L.irq o) (run D.ops (L.code o) (m.st, b))
    begun o m (busy i q k) b = cond (cond i (L.aside o) false)
        (during_interrupt (lent_to m b) (run D.ops (L.code o) (m.st, b))) (stay 3 (lent_to m b))

    abbrev pub continued : ℕ → Machine A S → Pending A S → Buf → Ans A × Machine A S
    continued v m idle b = stay 15 (lent_to m b)
    continued v m (busy i q k) b = cond (over L q v) (stay 16 (lent_to m b)) (halt i (k v (m.st, b)))

    abbrev pub started : C → ℕ → Machine A S → Buf → Ans A × Machine A S
    started c zero m b = halt false (run D.ops (L.starts c) (D.fresh c, b))
    started c (suc n) m b = stay (suc n) m

    -- one call, with the slot buffer as it stands then
    abbrev pub call : Call C Op → Machine A S → Buf → Ans A × Machine A S
    call (start c) m b = started c (L.refuses c b) m b
    call (begin o) m b = cond (cond (L.slots o) (misfit m.st b) false) (stay 1 m) (begun o m m.under_way_lem b)
    call (continue v) m b = cond (misfit m.st b) (stay 1 m) (continued v m m.under_way_lem b)
    call (question q) m b = (told (D.question q m.st), lent_to m b)

-- an access but for the address in it
abbrev pub blank : Access → Access
blank (Read r e) = Read r e
blank (Write r e v) = Write r e v
blank (Receive e x) = Receive e 0
blank (Transmit e x) = Transmit e 0
blank (Ep0Dma x) = Ep0Dma 0
blank (Wait n) = Wait n
blank Callback = Callback

abbrev pub blank_a : {A : Type 0} → Ans A → Ans A
blank_a (ended a) = ended a
blank_a (handed q) = handed (blank q)
blank_a (told n) = told n

-- a book: a driver of its own, and what it makes of an access that it is told
pub record Book (C T : Type 0) : Type 0 where
  pub driver : Instance C T
  pub feed : Access → T → T

abbrev pub fed : {C T A : Type 0} → Book C T → Ans A → T → T
fed K (ended a) t = t
fed K (handed q) t = K.feed q t
fed K (told n) t = t
