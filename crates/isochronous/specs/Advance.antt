-- What is left to run at each point of a paced advance
use Rattle.std.specs.Prelude.{◌≡◌, false, List, ℕ}
use Rattle.regs.specs.declared.Reg.TheVariants.{FrameNo}
use Rattle.regs.specs.declared.Access.{Access}
use Rattle.regs.specs.Registers.{width_of}
use Rattle.frame.specs.Usb20.{index_of, frame_of}
use Rattle.frame.specs.Advance.{completions}
use Rattle.state.specs.Driver.{Driver, paced_on}
use Rattle.script.specs.Tree as tree
use Rattle.script.specs.Tree.{asks, ends, bind_out}
use Rattle.script.specs.Cells.{paced_cell}
use Rattle.script.specs.Script.{Script, run, ret, ◌>>=◌, ◌>>◌, put}
use Rattle.script.specs.Machine.{Awaits, nothing, reading, awaited}
use Rattle.script.specs.IsoIn.{iso_in_completions, iso_in_advance}
use Rattle.script_ops.specs.Rings.{St}
use Rattle.script_ops.specs.Concrete.{concrete}
use Rattle.isochronous.specs.Complete as complete
use Rattle.isochronous.specs.declared.advance.Advance.{Advance}
use Rattle.isochronous.specs.declared.advance.Advance.TheVariants as point
use Rattle.script_ops.specs.Numbers.{ADVANCE, with_tag}
use Rattle.isochronous.specs.Codec.{as_numbers, decode}
use Rattle.isochronous.specs.declared.advance.AdvanceNext.{AdvanceNext}
use Rattle.isochronous.specs.declared.advance.AdvanceNext.TheVariants as next

-- without a result it answers 0
abbrev pub advance : ℕ → Script false ℕ
advance e = do
  iso_in_advance e
  ret 0

-- the completions, then their microframe is kept
abbrev pub then_kept : ℕ → ℕ → tree.Out St Unit → tree.Out St ℕ
then_kept e frame o = bind_out (bind_out o (λ _ u. run concrete (put {i = false} (paced_cell e) frame) u))
    (λ _ u. ends 0 u)

-- n completions are left
unfoldable pub completing : ℕ → ℕ → ℕ → tree.Prog St ℕ
completing e n frame t = then_kept e frame (run concrete (iso_in_completions {i = false} n e) t)

-- one's outcome, then n
abbrev pub then_more : ℕ → ℕ → ℕ → tree.Out St Unit → tree.Out St ℕ
then_more e n frame o = then_kept e frame (bind_out o (λ _ u. run concrete (iso_in_completions {i = false} n e) u))

abbrev pub after_frame_no : ℕ → ℕ → tree.Prog St ℕ
after_frame_no e v t = completing e (completions (paced_on t.0 e) (index_of v)) (frame_of (index_of v)) t

abbrev pub denote : Advance → ℕ → tree.Prog St ℕ
denote (point.FrameNo e) v t = after_frame_no e v t
denote (point.Completing e n frame p) v t = then_more e n frame (complete.denote p t)

-- the access is handed out, and the advance is under way at a point
abbrev pub asked : Access → Advance → Driver → List ℕ → tree.Out St ℕ
asked q p d b = asks q (d, b) (λ v t. denote p v t)

-- its begin's answer, with what is to be saved
abbrev pub meaning : AdvanceNext → Driver → List ℕ → tree.Out St ℕ
meaning (next.Asks q c) d b = asked q (decode c) d b
meaning (next.Ends n) d b = ends n (d, b)

-- what a point awaits, and that it is the access handed out with it
abbrev pub awaits_at : Advance → Awaits
awaits_at (point.FrameNo e) = reading (width_of FrameNo)
awaits_at (point.Completing e n frame p) = nothing

abbrev pub Awaited : Access → Advance → Type 0
Awaited q p = awaited q ≡ awaits_at p

-- so of a begin, and what is to be saved is the point's record
abbrev pub Linked : AdvanceNext → Type 0
Linked (next.Asks q c) = Awaited q (decode c) × (c ≡ with_tag ADVANCE (as_numbers (decode c)))
Linked (next.Ends n) = Unit {0}
