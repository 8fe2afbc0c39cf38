-- The interrupt's script taken apart: the changes it makes are completions each with its load, wake-ups and arrivals,
-- it
-- assigns no request, and writes neither ep_config nor a length but a load's
use Rattle.std.specs.Prelude.{Bool, true, false, not, ◌&&◌, ◌||◌, List, [], ◌∷◌, ◌≡◌, ℕ, zero, suc, ltb}
use Rattle.regs.specs.declared.Reg.{Reg}
use Rattle.regs.specs.declared.Reg.TheVariants.{EpTLen, EpConfig}
use Rattle.regs.specs.declared.Dir.{Dir}
use Rattle.regs.specs.declared.Dir.TheVariants.{Out, In}
use Rattle.regs.specs.declared.Token.{Token}
use Rattle.regs.specs.declared.Token.TheVariants as tok
use Rattle.script.specs.declared.Transfer.{Transfer}
use Rattle.script.specs.Cells.{Cell, Val}
use Rattle.script.specs.Every.{same_reg}
use Rattle.script.specs.Script.{Script, ret, bind, test, read_then, write_then, wait_then, callback_then, get_then}
use Rattle.script.specs.Script.{put_then, is_then, look_then, fetch_then, act_then, hand_then, Test, Look, Fetch}
use Rattle.script.specs.Script.{no_wakes, waken, arrive}
use Rattle.script.specs.Answers.{Answer}
use Rattle.script.specs.Calls.{interrupt_code}
use Rattle.script.specs.IsoIn.{iso_in_complete, sof_one, sof_walk, late_one, late_walk, on_sof}
use Rattle.script.specs.IsoOut.{check_one, check_walk}
use Rattle.script.specs.Handler.{looks, toggled, settle, dispatch, moved_on, ep0_moved_on, served, on_transfer, on_setup}
use Rattle.script.specs.Handler.{stamped_interrupt}
use Rattle.proof_book.specs.LeavesLaws.{is_request}

-- a write of another register than ep_config and an endpoint's length; EP0's may be written
abbrev pub ordinary : Reg → ℕ → Bool
ordinary r e = not ((same_reg r EpTLen && ltb 0 e) || same_reg r EpConfig)

-- a script made of such parts
pub data Parts : (A : Type 0) → Script true A → Type 1 where
  p_ret : {A : Type 0} {a : A} → Parts A (ret a)
  p_bind : {A B : Type 0} {p : Script true B} {f : B → Script true A} → Parts B p → ((b : B) → Parts A (f b))
      → Parts A (bind p f)
  p_test : {A : Type 0} {b : Bool} {p q : Script true A} → Parts A p → Parts A q → Parts A (test b p q)
  p_read : {A : Type 0} {r : Reg} {e : ℕ} {k : ℕ → Script true A} → ((v : ℕ) → Parts A (k v))
      → Parts A (read_then r e k)
  p_write : {A : Type 0} {r : Reg} {e v : ℕ} {p : Script true A} → ordinary r e ≡ true → Parts A p
      → Parts A (write_then r e v p)
  p_wait : {A : Type 0} {n : ℕ} {p : Script true A} → Parts A p → Parts A (wait_then n p)
  p_callback : {A : Type 0} {p : Script true A} → Parts A p → Parts A (callback_then p)
  p_get : {A : Type 0} {c : Cell} {k : Val c → Script true A} → ((v : Val c) → Parts A (k v)) → Parts A (get_then c k)
  p_put : {A : Type 0} {c : Cell} {v : Val c} {p : Script true A} → is_request c ≡ false → Parts A p
      → Parts A (put_then c v p)
  p_is : {A : Type 0} {q : Test} {k : Bool → Script true A} → ((b : Bool) → Parts A (k b)) → Parts A (is_then q k)
  p_look : {A : Type 0} {q : Look} {k : ℕ → Script true A} → ((n : ℕ) → Parts A (k n)) → Parts A (look_then q k)
  p_fetch : {A : Type 0} {q : Fetch} {k : List ℕ → Script true A} → ((l : List ℕ) → Parts A (k l))
      → Parts A (fetch_then q k)
  -- the tail passes, and IN e is loaded at the next access
  p_load : {e : ℕ} → Parts Unit (iso_in_complete e)
  p_no_wakes : {A : Type 0} {p : Script true A} → Parts A p → Parts A (act_then no_wakes p)
  p_waken : {A : Type 0} {codes : List ℕ} {p : Script true A} → Parts A p → Parts A (act_then (waken codes) p)
  p_arrive : {A : Type 0} {e n : ℕ} {p : Script true A} → Parts A p → Parts A (hand_then (arrive e n) p)

ruleset apart = (
  p_ret,
  p_load,
  p_bind,
  p_test,
  p_read,
  p_write,
  p_wait,
  p_callback,
  p_get,
  p_put,
  p_is,
  p_look,
  p_fetch,
  p_no_wakes,
  p_waken,
  p_arrive,
)

of-looks : (n : ℕ) → Parts Unit (looks {i = true} n)
unfolding looks
of-looks zero = search apart
of-looks (suc n) = p_bind (p_read (λ v. p_ret)) (λ m. p_test p_ret (of-looks n))

-- a walk over endpoints, from what is done at one
of-walk : (w : List ℕ → Script true Unit) (one : ℕ → Script true Unit) → Parts Unit (w [])
    → ((e : ℕ) (es : List ℕ) → Parts Unit (bind (one e) (λ _. w es)) → Parts Unit (w (e ∷ es)))
    → ((e : ℕ) → Parts Unit (one e)) → (es : List ℕ) → Parts Unit (w es)
of-walk w one h g p [] = h
of-walk w one h g p (e ∷ es) = g e es (p_bind (p e) (λ _. of-walk w one h g p es))

of-sof-one : (frame e : ℕ) → Parts Unit (sof_one {i = true} frame e)
of-sof-one frame e = search apart depth 30

of-sof-walk : (frame : ℕ) (es : List ℕ) → Parts Unit (sof_walk {i = true} frame es)
unfolding sof_walk
of-sof-walk frame = of-walk (sof_walk frame) (sof_one frame) p_ret (λ e es x. x) (of-sof-one frame)

of-sof : (frame : ℕ) → Parts Unit (on_sof {i = true} frame)
of-sof frame = search (of-sof-walk, apart) depth 30

of-late-one : (frame e : ℕ) → Parts Unit (late_one {i = true} frame e)
of-late-one frame e = search apart depth 30

of-late-walk : (frame : ℕ) (es : List ℕ) → Parts Unit (late_walk {i = true} frame es)
unfolding late_walk
of-late-walk frame = of-walk (late_walk frame) (late_one frame) p_ret (λ e es x. x) (of-late-one frame)

of-check-one : (y : Transfer) (iso : Bool) (e : ℕ) → Parts Unit (check_one {i = true} y iso e)
of-check-one y iso e = search apart depth 30

of-check-walk : (y : Transfer) (iso : Bool) (es : List ℕ) → Parts Unit (check_walk {i = true} y iso es)
unfolding check_walk
of-check-walk y iso = of-walk (check_walk y iso) (check_one y iso) p_ret (λ e es x. x) (of-check-one y iso)

of-toggled : (dir : Dir) (e : ℕ) → Parts Bool (toggled {i = true} dir e)
of-toggled Out e = search (of-looks, apart) depth 30
of-toggled In e = search (of-looks, apart) depth 30

of-settle : (y : Transfer) → Parts Transfer (settle {i = true} y)
of-settle y = search (of-looks, apart) depth 40

of-dispatch : (t : Token) (y : Transfer) (iso : Bool) (frame : ℕ) → Parts Unit (dispatch {i = true} t y iso frame)
of-dispatch tok.Sof y iso frame = search (of-sof, apart) depth 30
of-dispatch tok.Out y iso frame = search (of-toggled, apart) depth 30
of-dispatch tok.In y iso frame = search (of-toggled, apart) depth 30
of-dispatch tok.Setup y iso frame = search apart

of-moved : (dir : Dir) → Parts Unit (moved_on {i = true} dir)
of-moved Out = search apart depth 30
of-moved In = search apart depth 30

of-ep0-moved : (t : Token) → Parts Unit (ep0_moved_on {i = true} t)
of-ep0-moved tok.Out = of-moved In
of-ep0-moved tok.In = of-moved Out
of-ep0-moved tok.Sof = search apart
of-ep0-moved tok.Setup = search apart

of-served : (y : Transfer) (iso : Bool) (frame : ℕ) → Parts Unit (served {i = true} y iso frame)
of-served y iso frame = search (of-sof, of-late-walk, of-dispatch, of-check-walk, of-ep0-moved, apart) depth 40

of-on-transfer : Parts Unit (on_transfer {i = true})
of-on-transfer = search (of-settle, of-served, apart) depth 40

of-on-setup : Parts Unit (on_setup {i = true})
of-on-setup = search apart depth 60

of-stamped : Parts Unit (stamped_interrupt {i = true})
of-stamped = search (of-on-transfer, of-on-setup, apart) depth 60

pub of_interrupt : Parts Answer interrupt_code
of_interrupt = search (of-stamped, apart) depth 30
