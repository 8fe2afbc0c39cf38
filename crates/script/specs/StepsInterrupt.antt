-- The interrupt and advance do what Steps.antt says of their kind. A proof has the shape of its script: a pair for each
-- bind and test, a function for each number brought, `tt` at each access
use Rattle.std.specs.Prelude.{Bool, List, [], ◌∷◌, ℕ, zero, suc}
use Rattle.bits.specs.Walk.{set_bits}
use Rattle.regs.specs.declared.Access.TheVariants.{Write}
use Rattle.regs.specs.declared.Dir.{Dir}
use Rattle.regs.specs.declared.Dir.TheVariants.{Out, In}
use Rattle.regs.specs.declared.Token.{Token}
use Rattle.regs.specs.declared.Token.TheVariants as tok
use Rattle.regs.specs.Registers.{ctrl_of}
use Rattle.regs.specs.ControlWord.{ack, nakflip}
use Rattle.regs.specs.Status.{endpoint, token}
use Rattle.script.specs.declared.Transfer.{Transfer}
use Rattle.script.specs.Script.{Script, dma}
use Rattle.frame.specs.Usb20.{index_of}
use Rattle.frame.specs.Advance.{completions}
use Rattle.script.specs.Statics.{every_iso_in, iso_outs}
use Rattle.script.specs.IsoIn.{iso_in_complete, sof_one, sof_walk, on_sof, late_walk, iso_in_completions, iso_in_advance}
use Rattle.script.specs.IsoOut.{check_walk}
use Rattle.script.specs.Handler.{looks, nak_non_iso, toggled, retake, settle, out_arm, in_arm, entered, framed}
use Rattle.script.specs.Handler.{iso_for}
use Rattle.script.specs.Handler.{dispatch, moved_on, ep0_moved_on, served, on_transfer, on_setup, on_interrupt}
use Rattle.script.specs.Handler.{stamped_interrupt}
use Rattle.script.specs.Steps.{Kind, moving, Asks, Steps}

abbrev N : {i : Bool} {A : Type 0} → Script i A → Type 0
N p = Steps moving p

pub control : (k : Kind) (d : Dir) (v : ℕ) → Asks k (Write (ctrl_of d) 0 v)
control k Out v = tt
control k In v = tt

pub placed : (k : Kind) (d : Dir) (e x : ℕ) → Asks k (dma d e x)
placed k Out e x = tt
placed k In e x = tt

pub of-looks : (i : Bool) (n : ℕ) → N (looks {i = i} n)
unfolding looks
of-looks i zero = tt
of-looks i (suc n) = ((tt, λ _. tt), λ _. (tt, of-looks i n))

pub of-nak : (i : Bool) (st : ℕ) → N (nak_non_iso {i = i} st)
of-nak i st = (λ _. tt, λ _. (λ _. tt, λ _. (((tt, λ _. tt), λ _. (tt, tt)), (((tt, λ _. tt), λ _. (tt, tt)), tt))))

of-toggled : (i : Bool) (d : Dir) (e : ℕ) → N (toggled {i = i} d e)
of-toggled i d e = (
  of-looks i 2001,
  λ _. (
    (tt, λ _. tt),
    λ _. (
      λ _. tt,
      λ _. (
        ((((tt, λ _. tt), λ w. (control moving d (ack w), tt)), tt), λ _. tt),
        ((λ _. tt, λ _. tt), λ _. tt),
      ),
    ),
  ),
)

of-retake : (i : Bool) (x : Transfer) → N (retake {i = i} x)
of-retake i x = ((tt, λ _. tt), λ _. (((tt, λ _. tt), λ _. (tt, ((tt, λ _. tt), λ st. (of-nak i st, λ _. tt)))), tt))

pub of-settle : (i : Bool) (x : Transfer) → N (settle {i = i} x)
of-settle i x = (
  λ _. tt,
  λ _. (
    λ _. tt,
    λ _. (
      (of-looks i 2001, λ _. ((tt, λ _. tt), λ _. ((tt, λ _. tt), λ _. tt))),
      ((of-looks i 2001, λ _. ((tt, λ _. tt), λ _. tt)), (of-retake i x, tt)),
    ),
  ),
)

pub of-complete : (i : Bool) (e : ℕ) → N (iso_in_complete {i = i} e)
of-complete i e = (tt, λ _. ((λ _. tt, λ _. (((λ _. tt, tt), λ _. (λ _. tt, λ _. (tt, tt))), (tt, tt))), λ _. tt))

of-sof-one : (i : Bool) (frame e : ℕ) → N (sof_one {i = i} frame e)
of-sof-one i frame e = (
  λ _. tt,
  λ _. (
    tt,
    (
      (tt, λ _. tt),
      λ _. (
        ((λ _. tt, λ _. tt), λ _. of-complete i e),
        ((tt, λ _. tt), λ _. (tt, ((λ _. tt, λ _. tt), λ _. of-complete i e))),
      ),
    ),
  ),
)

pub of-sof-walk : (i : Bool) (frame : ℕ) (es : List ℕ) → N (sof_walk {i = i} frame es)
unfolding sof_walk
of-sof-walk i frame [] = tt
of-sof-walk i frame (e ∷ es) = (of-sof-one i frame e, λ _. of-sof-walk i frame es)

pub of-sof : (i : Bool) (frame : ℕ) → N (on_sof {i = i} frame)
of-sof i frame = (
  (λ _. tt, λ _. tt),
  λ _. (
    λ _. tt,
    λ g.
        (of-sof-walk i frame (set_bits (every_iso_in g)), λ _. (λ _. tt, λ _. ((tt, tt), tt))),
  ),
)

pub of-late-walk : (i : Bool) (frame : ℕ) (es : List ℕ) → N (late_walk {i = i} frame es)
unfolding late_walk
of-late-walk i frame [] = tt
of-late-walk i frame (e ∷ es) = (
  ((λ _. tt, λ _. (tt, λ _. tt)), λ _. (of-complete i e, tt)),
  λ _. of-late-walk i frame
      es,
)

pub of-check-walk : (i : Bool) (x : Transfer) (iso : Bool) (es : List ℕ) → N (check_walk {i = i} x iso es)
unfolding check_walk
of-check-walk i x iso [] = tt
of-check-walk i x iso (e ∷ es) = (
  (
    λ _. tt,
    λ _. (
      (((λ _. tt, tt), λ _. tt), ((tt, λ _. tt), λ _. (tt, (λ _. tt, λ _. ((λ _. tt, tt), λ _. tt))))),
      tt,
    ),
  ),
  λ _. of-check-walk i x iso es,
)

of-out : (i : Bool) (x : Transfer) (iso : Bool) → N (out_arm {i = i} x iso)
of-out i x iso = (
  tt,
  (
    ((((tt, λ _. tt), λ _. (tt, tt)), λ _. ((λ _. tt, λ _. tt), λ _. tt)), tt),
    (of-toggled i Out (endpoint x.st), λ _. (((λ _. tt, λ _. tt), λ _. tt), tt)),
  ),
)

of-in : (i : Bool) (x : Transfer) (iso : Bool) (frame : ℕ) → N (in_arm {i = i} x iso frame)
of-in i x iso frame = (
  (λ _. tt, λ _. (tt, ((λ _. tt, λ _. (tt, λ _. tt)), λ _. (of-complete i (endpoint x.st), tt)))),
  (
    (((tt, λ _. tt), λ _. (tt, tt)), λ _. ((λ _. tt, λ _. tt), λ _. ((λ _. tt, λ _. tt), λ _. tt))),
    (of-toggled i In (endpoint x.st), λ _. (((λ _. tt, λ _. tt), λ _. tt), tt)),
  ),
)

pub of-dispatch : (i : Bool) (t : Token) (x : Transfer) (iso : Bool) (frame : ℕ) → N (dispatch {i = i} t x iso frame)
of-dispatch i tok.Sof x iso frame = (λ _. tt, λ _. (of-sof i frame, tt))
of-dispatch i tok.Out x iso frame = of-out i x iso
of-dispatch i tok.In x iso frame = of-in i x iso frame
of-dispatch i tok.Setup x iso frame = tt

of-moved : (i : Bool) (d : Dir) → N (moved_on {i = i} d)
of-moved i d = (
  λ _. tt,
  λ _. (
    (
      ((tt, λ _. tt), λ w. (control moving d (nakflip w), tt)),
      λ _.
          ((λ _. tt, λ _. tt), λ _. tt),
    ),
    tt,
  ),
)

pub of-moved-on : (i : Bool) (t : Token) → N (ep0_moved_on {i = i} t)
of-moved-on i tok.Out = of-moved i In
of-moved-on i tok.In = of-moved i Out
of-moved-on i tok.Sof = tt
of-moved-on i tok.Setup = tt

of-served : (i : Bool) (x : Transfer) (iso : Bool) (frame : ℕ) → N (served {i = i} x iso frame)
of-served i x iso frame = (
  λ _. tt,
  λ _. (
    (of-sof i frame, tt),
    λ _. (
      ((λ _. tt, λ g. of-late-walk i frame (set_bits (every_iso_in g))), tt),
      λ _. (
        (of-dispatch i (token x.st) x iso frame, tt),
        λ _. (
          ((λ _. tt, λ g. of-check-walk i x iso (set_bits (iso_outs g))), tt),
          λ _.
              (of-moved-on i (token x.st), tt),
        ),
      ),
    ),
  ),
)

pub of-transfer : (i : Bool) → N (on_transfer {i = i})
of-transfer i = (
  (tt, λ _. tt),
  λ m. (
    (tt, λ _. tt),
    λ st. (
      (tt, λ _. tt),
      λ n. (
        (of-nak i st, tt),
        λ _. (
          (tt, tt),
          λ _. (
            of-settle i (entered m st n),
            λ x. (
              λ _. tt,
              λ o. (
                λ _. tt,
                λ n. (
                  (tt, λ _. tt),
                  λ frame. (
                    λ _. tt,
                    λ g. of-served i (framed x (iso_for (token x.st) o n) g.sof_frame frame)
                        (iso_for (token x.st) o n) frame,
                  ),
                ),
              ),
            ),
          ),
        ),
      ),
    ),
  ),
)

pub of-setup : (i : Bool) → N (on_setup {i = i})
of-setup i = (
  (tt, tt),
  λ _. (
    (tt, tt),
    λ _. (
      λ _. tt,
      λ _. (
        λ _. tt,
        λ _. (
          (λ _. tt, λ _. tt),
          λ _. (
            (λ _. tt, λ _. tt),
            λ _.
                ((λ _. tt, λ _. tt), λ _. ((tt, tt), λ _. (tt, λ _. tt))),
          ),
        ),
      ),
    ),
  ),
)

pub of_interrupt : (i : Bool) → N (on_interrupt {i = i})
of_interrupt i = (
  (tt, λ _. tt),
  λ _. (
    (((λ _. tt, λ _. (tt, λ _. (tt, tt))), λ _. tt), tt),
    λ _. (
      (((λ _. tt, λ _. (tt, λ _. (tt, tt))), λ _. tt), tt),
      λ _. (((tt, tt), tt), λ _. (((tt, tt), tt), λ _. ((of-transfer i, tt), λ _. (of-setup i, tt)))),
    ),
  ),
)

pub of-stamped : (i : Bool) → N (stamped_interrupt {i = i})
of-stamped i = (((tt, λ _. tt), λ _. (λ _. tt, λ _. tt)), λ _. of_interrupt i)

of-completions : (i : Bool) (n e : ℕ) → N (iso_in_completions {i = i} n e)
unfolding iso_in_completions
of-completions i zero e = tt
of-completions i (suc n) e = (of-complete i e, λ _. of-completions i n e)

pub of-advance : (i : Bool) (e : ℕ) → N (iso_in_advance {i = i} e)
of-advance i e = (
  λ _. tt,
  λ _. (
    (
      (
        (tt, λ _. tt),
        λ frame.
            (λ _. tt, λ last. (of-completions i (completions last (index_of frame)) e, λ _. tt)),
      ),
      tt,
    ),
    tt,
  ),
)
