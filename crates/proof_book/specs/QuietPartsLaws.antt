-- The parts of the interrupt's script in which no packet arrives, by the registers that they read
use Rattle.std.specs.Prelude.{Bool, true, not, ◌||◌, List, [], ◌∷◌, ◌≡◌, refl, ℕ, zero, suc}
use Rattle.regs.specs.declared.Reg.{Reg}
use Rattle.regs.specs.declared.Reg.TheVariants.{IntSt, MisSt, RxLen}
use Rattle.regs.specs.declared.Dir.{Dir}
use Rattle.regs.specs.declared.Dir.TheVariants.{Out, In}
use Rattle.regs.specs.declared.Token.{Token}
use Rattle.regs.specs.declared.Token.TheVariants as tok
use Rattle.script.specs.declared.Transfer.{Transfer}
use Rattle.script.specs.Cells.{Cell, Val}
use Rattle.script.specs.Every.{same_reg}
use Rattle.script.specs.Script.{Script, ret, bind, test, read_then, write_then, wait_then, callback_then, get_then}
use Rattle.script.specs.Script.{put_then, is_then, look_then, fetch_then, act_then, hand_then, Test, Look, Fetch}
use Rattle.script.specs.Script.{complete, no_wakes, waken, send}
use Rattle.script.specs.Statics.{modify_int_en, wake_bus}
use Rattle.script.specs.IsoIn.{iso_in_complete, sof_one, sof_walk, late_one, late_walk, on_sof}
use Rattle.script.specs.Handler.{looks, nak_non_iso, toggled, dispatch, moved_on, ep0_moved_on, on_setup, keep_microframe}

-- the registers whose readings tell no length; those, and the engine's; any
abbrev pub plainly : Reg → Bool
plainly r = not (same_reg r MisSt || (same_reg r IntSt || same_reg r RxLen))

abbrev pub not_again : Reg → Bool
not_again r = not (same_reg r IntSt || same_reg r RxLen)

abbrev pub freely : Reg → Bool
freely r = true

-- a script that reads such registers, and in which no packet of an OUT endpoint arrives
pub data NoPacketArrives (reads : Reg → Bool) : (A : Type 0) → Script true A → Type 1 where
  q_ret : {A : Type 0} {a : A} → NoPacketArrives reads A (ret a)
  q_bind : {A B : Type 0} {p : Script true B} {f : B → Script true A} → NoPacketArrives reads B p
      → ((b : B) → NoPacketArrives reads A (f b)) → NoPacketArrives reads A (bind p f)
  q_test : {A : Type 0} {b : Bool} {p q : Script true A} → NoPacketArrives reads A p → NoPacketArrives reads A q
      → NoPacketArrives reads A (test b p q)
  q_read : {A : Type 0} {r : Reg} {e : ℕ} {k : ℕ → Script true A} → reads r ≡ true
      → ((v : ℕ) → NoPacketArrives reads A (k v)) → NoPacketArrives reads A (read_then r e k)
  q_write : {A : Type 0} {r : Reg} {e v : ℕ} {p : Script true A} → NoPacketArrives reads A p
      → NoPacketArrives reads A (write_then r e v p)
  q_wait : {A : Type 0} {n : ℕ} {p : Script true A} → NoPacketArrives reads A p
      → NoPacketArrives reads A (wait_then n p)
  q_callback : {A : Type 0} {p : Script true A} → NoPacketArrives reads A p → NoPacketArrives reads A (callback_then p)
  q_get : {A : Type 0} {c : Cell} {k : Val c → Script true A} → ((v : Val c) → NoPacketArrives reads A (k v))
      → NoPacketArrives reads A (get_then c k)
  q_put : {A : Type 0} {c : Cell} {v : Val c} {p : Script true A} → NoPacketArrives reads A p
      → NoPacketArrives reads A (put_then c v p)
  q_is : {A : Type 0} {q : Test} {k : Bool → Script true A} → ((b : Bool) → NoPacketArrives reads A (k b))
      → NoPacketArrives reads A (is_then q k)
  q_look : {A : Type 0} {q : Look} {k : ℕ → Script true A} → ((n : ℕ) → NoPacketArrives reads A (k n))
      → NoPacketArrives reads A (look_then q k)
  q_fetch : {A : Type 0} {q : Fetch} {k : List ℕ → Script true A} → ((l : List ℕ) → NoPacketArrives reads A (k l))
      → NoPacketArrives reads A (fetch_then q k)
  q_complete : {A : Type 0} {e : ℕ} {p : Script true A} → NoPacketArrives reads A p
      → NoPacketArrives reads A (act_then (complete e) p)
  q_no_wakes : {A : Type 0} {p : Script true A} → NoPacketArrives reads A p
      → NoPacketArrives reads A (act_then no_wakes p)
  q_waken : {A : Type 0} {codes : List ℕ} {p : Script true A} → NoPacketArrives reads A p
      → NoPacketArrives reads A (act_then (waken codes) p)
  q_send : {A : Type 0} {e : ℕ} {p : Script true A} → NoPacketArrives reads A p
      → NoPacketArrives reads A (hand_then (send e) p)

ruleset quietly = (
  q_ret,
  q_bind,
  q_test,
  q_read,
  q_write,
  q_wait,
  q_callback,
  q_get,
  q_put,
  q_is,
  q_look,
  q_fetch,
  q_complete,
  q_no_wakes,
  q_waken,
  q_send,
)

pub of-looks : (n : ℕ) → NoPacketArrives not_again Unit (looks n)
unfolding looks
of-looks zero = search quietly
of-looks (suc n) = q_bind (q_read refl (λ v. q_ret)) (λ m. q_test q_ret (of-looks n))

looks-freely : (n : ℕ) → NoPacketArrives freely Unit (looks n)
unfolding looks
looks-freely zero = search quietly
looks-freely (suc n) = q_bind (q_read refl (λ v. q_ret)) (λ m. q_test q_ret (looks-freely n))

pub of-nak : (st : ℕ) → NoPacketArrives not_again Unit (nak_non_iso st)
of-nak st = search quietly depth 30

pub nak-freely : (st : ℕ) → NoPacketArrives freely Unit (nak_non_iso st)
nak-freely st = search quietly depth 30

of-complete : (e : ℕ) → NoPacketArrives freely Unit (iso_in_complete e)
of-complete e = search quietly depth 30

of-sof-one : (frame e : ℕ) → NoPacketArrives freely Unit (sof_one frame e)
of-sof-one frame e = search (of-complete, quietly) depth 30

of-sof-walk : (frame : ℕ) (es : List ℕ) → NoPacketArrives freely Unit (sof_walk frame es)
unfolding sof_walk
of-sof-walk frame [] = search quietly
of-sof-walk frame (e ∷ es) = q_bind (of-sof-one frame e) (λ _. of-sof-walk frame es)

pub of-sof : (frame : ℕ) → NoPacketArrives freely Unit (on_sof frame)
of-sof frame = search (of-sof-walk, quietly) depth 30

of-late-one : (frame e : ℕ) → NoPacketArrives freely Unit (late_one frame e)
of-late-one frame e = search (of-complete, quietly) depth 30

pub of-late-walk : (frame : ℕ) (es : List ℕ) → NoPacketArrives freely Unit (late_walk frame es)
unfolding late_walk
of-late-walk frame [] = search quietly
of-late-walk frame (e ∷ es) = q_bind (of-late-one frame e) (λ _. of-late-walk frame es)

of-toggled : (dir : Dir) (e : ℕ) → NoPacketArrives freely Bool (toggled dir e)
of-toggled dir e = search (looks-freely, quietly) depth 30

pub of-dispatch : (t : Token) (y : Transfer) (iso : Bool) (frame : ℕ)
    → NoPacketArrives freely Unit (dispatch t y iso frame)
of-dispatch tok.Sof y iso frame = search (of-sof, quietly) depth 30
of-dispatch tok.Out y iso frame = search (of-toggled, quietly) depth 30
of-dispatch tok.In y iso frame = search (of-toggled, of-complete, quietly) depth 30
of-dispatch tok.Setup y iso frame = search quietly

of-moved : (dir : Dir) → NoPacketArrives freely Unit (moved_on dir)
of-moved dir = search quietly depth 30

pub of-ep0-moved : (t : Token) → NoPacketArrives freely Unit (ep0_moved_on t)
of-ep0-moved tok.Out = of-moved In
of-ep0-moved tok.In = of-moved Out
of-ep0-moved tok.Sof = search quietly
of-ep0-moved tok.Setup = search quietly

pub of-on-setup : NoPacketArrives freely Unit (on_setup {i = true})
of-on-setup = search quietly depth 60

pub of-microframe : NoPacketArrives plainly Unit (keep_microframe {i = true})
of-microframe = search quietly depth 20

-- a bus reset or a suspend
pub of-masked : (f : ℕ → ℕ) → NoPacketArrives plainly Unit (bind (modify_int_en f) (λ _. wake_bus))
of-masked f = search quietly depth 30
