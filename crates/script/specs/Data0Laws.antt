-- DATA0 after a configuration, a cleared halt and a bus reset (USB 2.0, 9.1.1.5, 9.4.5): every control word that their
-- scripts write has it. That they write the endpoint's own is `proof_usb20/specs/Data0.antt`, the driver's record
-- RestartLaws.antt
use Rattle.std.specs.Prelude.{Bool, true, false, ◌||◌, ◌≡◌, ℕ}
use Rattle.std.proofs.Common.{arith}
use Rattle.regs.specs.declared.Access.{Access}
use Rattle.regs.specs.declared.Reg.{Reg}
use Rattle.regs.specs.declared.Reg.TheVariants.{EpRxCtrl, EpTxCtrl}
use Rattle.regs.specs.declared.Dir.{Dir}
use Rattle.regs.specs.declared.Dir.TheVariants.{Out, In}
use Rattle.regs.specs.ControlWord as word
use Rattle.regs.specs.ControlWord.{toggle, word_of}
use Rattle.script.specs.Cells.{EpCore}
use Rattle.script.specs.Bus.{set_enabled_out, set_enabled_in, kept, restarted}
use Rattle.script.specs.Every.{same_reg, Throughout, OnWrite}
use Rattle.script.specs.EveryLaws.{Only}
use Rattle.script.specs.Usb20Toggles.{initial}
use Rattle.script.specs.TogglesLaws.{number}

-- a control word that is written has the toggle of the initial sequence bit
abbrev pub is_control : Reg → Bool
is_control r = same_reg r EpRxCtrl || same_reg r EpTxCtrl

abbrev pub Initial : Access → Type 0
Initial q = OnWrite (λ r e v. Throughout (is_control r) (toggle v ≡ number initial)) q

pub word-data0 : (r : ℕ) (a : Bool) → toggle (word_of r word.DATA0 a) ≡ number initial
unfolding word_of toggle
word-data0 r true = omega arith
word-data0 r false = omega arith

restarted-data0 : (r e : ℕ) (s : EpCore) → toggle (restarted r e s) ≡ number initial
unfolding restarted
restarted-data0 r e s = word-data0 _ _

-- an endpoint is enabled or disabled: a configuration
kept-data0 : (d : Dir) (e : ℕ) (iso on : Bool) → Only Initial (kept {i = false} d e iso on)
kept-data0 d e iso on = ((λ _. tt, λ _. (tt, λ _. (tt, tt))), λ _. (tt, λ _. (λ _. tt, λ _. (tt, tt))))

out-enabled : (e : ℕ) (on : Bool) → Only Initial (set_enabled_out {i = false} e on)
out-enabled e on = (
  tt,
  λ _. (
    (λ _. tt, λ _. tt),
    λ _.
        ((λ _. tt, tt), λ _. ((word-data0 _ _, tt), λ _. kept-data0 Out e false on)),
  ),
)

in-enabled : (e : ℕ) (iso on : Bool) → Only Initial (set_enabled_in {i = false} e iso on)
in-enabled e iso on = (
  tt,
  λ _. (
    (λ _. tt, λ _. tt),
    λ _. (
      tt,
      λ _. (
        (λ _. tt, tt),
        λ _.
            ((tt, tt), λ _. ((word-data0 _ _, tt), λ _. kept-data0 In e iso on)),
      ),
    ),
  ),
)
