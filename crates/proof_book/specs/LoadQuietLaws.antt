-- The parts of the interrupt's script that load no IN endpoint, by the registers that they read
use Rattle.std.specs.Prelude.{Bool, true, List, [], ◌∷◌, ◌≡◌, refl, ℕ, zero, suc, eqb}
use Rattle.regs.specs.declared.Dir.{Dir}
use Rattle.regs.specs.declared.Dir.TheVariants.{Out, In}
use Rattle.regs.specs.declared.Token.{Token}
use Rattle.regs.specs.declared.Token.TheVariants as tok
use Rattle.script.specs.declared.Transfer.{Transfer}
use Rattle.script.specs.Script.{Script, bind, test, when, ◌>>=◌, ◌>>◌}
use Rattle.script.specs.Statics.{modify, modify_ep, modify_reg, modify_int_en, wake_bus, with_entered, with_armed}
use Rattle.regs.specs.declared.Reg.TheVariants.{EpTxCtrl}
use Rattle.regs.specs.ControlWord.{flip}
use Rattle.regs.specs.Status.{endpoint}
use Rattle.script.specs.IsoOut.{check_one, check_walk}
use Rattle.script.specs.Handler.{looks, nak_non_iso, toggled, sent, out_arm, moved_on, ep0_moved_on, on_setup}
use Rattle.frame.specs.Usb20.{index_of}
use Rattle.proof_book.specs.ArrivalQuietLaws.{silent, spares, steady}
use Rattle.proof_book.specs.LoadScriptsLaws.{Calm, c_ret, c_globals, c_globals_then, c_ep, c_bind, c_test, c_read}
use Rattle.proof_book.specs.LoadScriptsLaws.{c_write, c_callback, c_get, c_is, c_look, c_no_wakes, c_waken}
use Rattle.proof_book.specs.LoadScriptsLaws.{c_arrive}

ruleset calmly = (
  c_ret,
  c_globals,
  c_globals_then,
  c_ep,
  c_bind,
  c_test,
  c_read,
  c_write,
  c_callback,
  c_get,
  c_is,
  c_look,
  c_no_wakes,
  c_waken,
  c_arrive,
)

pub of-looks : (n : ℕ) → Calm spares Unit (looks n)
unfolding looks
of-looks zero = search calmly
of-looks (suc n) = c_bind (c_read refl (λ v. c_ret)) (λ m. c_test c_ret (of-looks n))

looks-steady : (n : ℕ) → Calm steady Unit (looks n)
unfolding looks
looks-steady zero = search calmly
looks-steady (suc n) = c_bind (c_read refl (λ v. c_ret)) (λ m. c_test c_ret (looks-steady n))

pub of-nak : (st : ℕ) → Calm spares Unit (nak_non_iso st)
of-nak st = search calmly depth 30

of-toggled : (dir : Dir) (e : ℕ) → Calm steady Bool (toggled dir e)
of-toggled Out e = search (looks-steady, calmly) depth 30
of-toggled In e = search (looks-steady, calmly) depth 30

pub of-out-arm : (y : Transfer) (iso : Bool) → Calm steady Unit (out_arm y iso)
of-out-arm y iso = search (of-toggled, calmly) depth 30

-- an IN that is not isochronous (the end of `in_arm`)
abbrev pub plain_in : {i : Bool} → Transfer → Script i Unit
plain_in x = test (eqb (endpoint x.st) 0)
    (do
      modify_reg EpTxCtrl 0 flip
      modify_ep In 0 (with_armed 0)
      sent 0)
    (do
      b ← toggled In (endpoint x.st)
      when b (sent (endpoint x.st)))

pub of-plain-in : (y : Transfer) → Calm steady Unit (plain_in y)
of-plain-in y = search (of-toggled, calmly) depth 30

of-check-one : (y : Transfer) (iso : Bool) (e : ℕ) → Calm steady Unit (check_one y iso e)
of-check-one y iso e = search calmly depth 30

pub of-check-walk : (y : Transfer) (iso : Bool) (es : List ℕ) → Calm steady Unit (check_walk y iso es)
unfolding check_walk
of-check-walk y iso [] = search calmly
of-check-walk y iso (e ∷ es) = c_bind (of-check-one y iso e) (λ _. of-check-walk y iso es)

of-moved : (dir : Dir) → Calm steady Unit (moved_on dir)
of-moved Out = search calmly depth 30
of-moved In = search calmly depth 30

pub of-ep0-moved : (t : Token) → Calm steady Unit (ep0_moved_on t)
of-ep0-moved tok.Out = of-moved In
of-ep0-moved tok.In = of-moved Out
of-ep0-moved tok.Sof = search calmly
of-ep0-moved tok.Setup = search calmly

pub of-on-setup : Calm steady Unit (on_setup {i = true})
of-on-setup = search calmly depth 60

pub of-entered : (frame : ℕ) → Calm silent Unit (modify {i = true} (with_entered (index_of frame)))
of-entered frame = search calmly depth 20

-- a bus reset or a suspend
pub of-masked : (f : ℕ → ℕ) → Calm silent Unit (bind (modify_int_en f) (λ _. wake_bus))
of-masked f = search calmly depth 30
