-- The driver's record of the toggle after a configuration and a cleared halt: DATA0, as in the chip (USB 2.0, 9.1.1.5,
-- 9.4.5)
use Rattle.std.specs.Prelude.{Bool, false, not, List, ◌≡◌, ℕ}
use Rattle.std.proofs.Common.{◌∙◌}
use Rattle.regs.specs.declared.Dir.{Dir}
use Rattle.regs.specs.declared.Dir.TheVariants.{Out, In}
use Rattle.state.specs.declared.Globals.{Globals}
use Rattle.script.specs.Tree as tree
use Rattle.script.specs.Cells.{EpCore, ep-cell, globals-cell, paced_cell}
use Rattle.script.specs.Script.{Ops, run, reset_ring, set_enabled_lem, waken, place}
use Rattle.script.specs.Statics.{is_on}
use Rattle.script.specs.Bus.{set_stalled, set_enabled_out, set_enabled_in}
use Rattle.script.specs.Every.{Chip, Every, at_end, at_ask}
use Rattle.script.specs.EveryLaws.{every_bind, every-cond}
use Rattle.script.specs.Usb20Toggles.{initial}
use Rattle.script.specs.TogglesLaws.{number}

abbrev pub tog_of : {S : Type 0} → Ops S → Dir → ℕ → S → ℕ
tog_of O d e s = (O.get (ep-cell d e) s).tog

-- where K holds of the state, the record's toggle is assigned; the operations that these scripts have beside that leave
-- it
pub record Lawful {S : Type 0} (K : S → Type 0) (O : Ops S) (d : Dir) (e : ℕ) : Type 0 where
  pub assigned : (v : EpCore) (s : S) → K s → tog_of O d e (O.put (ep-cell d e) v s) ≡ v.tog
  pub emptied : (s : S) → K s → K (O.act (reset_ring d e) s)
  pub wakes : (cs : List ℕ) (s : S) → tog_of O d e (O.act (waken cs) s) ≡ tog_of O d e s
  pub globals : (v : Globals) (s : S) → tog_of O d e (O.put globals-cell v s) ≡ tog_of O d e s
  pub paced : (v : ℕ) (s : S) → tog_of O d e (O.put (paced_cell e) v s) ≡ tog_of O d e s
  pub enabling : (on : Bool) (s : S) → tog_of O d e (O.act (set_enabled_lem d e on) s) ≡ tog_of O d e s
  pub placing : (s : S) → tog_of O d e (O.hand (place d e) s).1 ≡ tog_of O d e s

-- nothing is asked of the chip
abbrev pub some_chip : Chip
some_chip = record { Holds = Unit {0}; Brings = λ _ _ _. Unit {0}; after = λ h _. h }

module _ {S : Type 0} (K : S → Type 0) (O : Ops S) where
  -- the toggle stays as it is between two accesses, and so does K; at each end it is the initial bit
  abbrev pub Restarts : {A : Type 0} → Dir → ℕ → tree.Out S A → Type 0
  Restarts {A = A} d e o = Every some_chip (λ (s t : S). (tog_of O d e t ≡ tog_of O d e s) × K t)
      (λ _. Unit {0}) {A = A} (λ _ _ t. tog_of O d e t ≡ number initial) tt o

  pub cleared-recorded : (i : Bool) (d : Dir) (e : ℕ) → Lawful K O d e → (s : S) → K s
      → Restarts d e (run O (set_stalled {i = i} d e false) s)
  cleared-recorded i Out e L s z = at_ask tt (λ _ t _ k. at_end (L.wakes _ t ∙ (k.0 ∙ L.assigned _ s z)))
  cleared-recorded i In e L s z = at_ask tt (λ _ t _ k. every_bind {P = λ _ _ u. tog_of O In e u ≡ number initial}
      (every-cond (not (is_on (O.get (ep-cell In e) s).iso))
      (λ _. at_end (L.assigned _ t k.1 ∙ (k.0 ∙ L.assigned _ s z))) (λ _. at_end (k.0 ∙ L.assigned _ s z)))
      (λ _ _ u x. at_end (L.wakes _ u ∙ x)))

  pub enabled-out-recorded : (i : Bool) (e : ℕ) (on : Bool) → Lawful K O Out e → (s : S) → K s
      → Restarts Out e (run O (set_enabled_out {i = i} e on) s)
  enabled-out-recorded i e on L s z = at_ask tt (λ _ a _ ka. at_ask tt
      (λ _ b _ kb. at_ask tt (λ _ c _ kc. at_ask tt (λ _ t _ kt.
      at_end (kt.0 ∙ (L.enabling on c ∙ (kc.0 ∙ (L.globals _ b
      ∙ (kb.0 ∙ (ka.0 ∙ (L.placing _ ∙ L.assigned _ _ (L.emptied s z))))))))))))

  pub enabled-in-recorded : (i : Bool) (e : ℕ) (iso on : Bool) → Lawful K O In e → (s : S) → K s
      → Restarts In e (run O (set_enabled_in {i = i} e iso on) s)
  enabled-in-recorded i e iso on L s z = at_ask tt (λ _ a _ ka. at_ask tt
      (λ _ l _ kl. at_ask tt (λ _ b _ kb. at_ask tt (λ _ c _ kc. at_ask tt (λ _ t _ kt.
      at_end (kt.0 ∙ (L.enabling on c
      ∙ (kc.0 ∙ (L.globals _ b ∙ (kb.0 ∙ (kl.0 ∙ (ka.0
      ∙ (L.placing _ ∙ (L.paced _ _ ∙ L.assigned _ _ (L.emptied s z)))))))))))))))
