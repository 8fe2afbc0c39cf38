-- Time does come back: with a disabling's writes, whatever is read, its endpoint's charge; with a bus reset's every
-- charge. An enabling's charge stays to its end. By the accesses that the scripts hand out, as the history counts them
use Rattle.std.specs.Prelude.{Bool, true, false, cond, ◌≡◌, refl, ℕ, zero, suc}
use Rattle.std.proofs.Common.{ap, ◌∙◌, eq-eqb}
use Rattle.bits.specs.Bit.{bit_is_set, with_bit}
use Rattle.bits.specs.BitLaws.{set-with}
use Rattle.regs.specs.declared.Access.{Access}
use Rattle.regs.specs.declared.Dir.{Dir}
use Rattle.regs.specs.declared.Dir.TheVariants.{Out, In}
use Rattle.regs.specs.Enables as enables
use Rattle.regs.specs.Enables.{place}
use Rattle.state.specs.Driver.{Driver, ep_on}
use Rattle.script.specs.Tree as tree
use Rattle.script.specs.Tree.{ends}
use Rattle.script.specs.Script.{run, rows, switch, bus_reset_lem}
use Rattle.script.specs.Statics.{is_on, wake_all}
use Rattle.script.specs.Every.{Chip, Every, at_end, at_ask}
use Rattle.script.specs.EveryLaws.{every_bind}
use Rattle.script.specs.Bus.{nak_all, bus_reset, set_enabled_out, set_enabled}
use Rattle.script_ops.specs.Records.{iso_out, configured, enabled_on}
use Rattle.script_ops.specs.Rings.{St, config_step}
use Rattle.script_ops.specs.Concrete.{concrete}
use Rattle.proof_bus_time.specs.History.{cleared}
use Rattle.proof_bus_time.proofs.HistoriesLaws.{none-set}

-- the charge of the endpoint with this bit, as the history has it
abbrev pub charging_chip : ℕ → Chip
charging_chip bit = record { Holds = ℕ; Brings = λ _ _ _. Unit {0}; after = λ charge q. cleared bit q charge }

abbrev Any : Access → Type 0
Any q = Unit {0}

-- from a charge, P of the charge at the end, whatever is read; between an access and the next call the endpoint keeps
-- its sort
abbrev pub Ends : {A : Type 0} → Dir → ℕ → Bool → (ℕ → Type 0) → ℕ → tree.Out St A → Type 0
Ends dir e iso P charge o = Every (charging_chip (place dir e)) (λ (s t : St). is_on (ep_on t.0 dir e).iso ≡ iso) Any
    (λ c _ _. P c) charge o

-- ---- the words that are written

own-bit : (w k : ℕ) (on : Bool) → bit_is_set (with_bit w k on) k ≡ on
own-bit w k on = set-with w k on k ∙ rw (eq-eqb k k refl) refl

in_word : (d : Driver) (e : ℕ) (on : Bool) → bit_is_set (enabled_on d In e on).globals.ep_config (place In e) ≡ on
unfolding enabled_on iso_out configured enables.with_on
in_word d e on = own-bit d.globals.ep_config (place In e) on

out-word : (d : Driver) (e : ℕ) (on : Bool) → is_on (ep_on d Out e).iso ≡ false
    → bit_is_set (enabled_on d Out e on).globals.ep_config (place Out e) ≡ on
unfolding enabled_on iso_out configured enables.with_on
out-word d e on h = rw h (own-bit d.globals.ep_config (place Out e) on)

row_word : (d : Driver) (e : ℕ) (on : Bool) → is_on (ep_on d Out e).iso ≡ true
    → bit_is_set (config_step e on d).0 (place Out e) ≡ on
unfolding config_step enables.with_on
row_word d e on h = rw h (own-bit d.globals.ep_config (place Out e) on)

-- ---- an endpoint is enabled or disabled

module _ (e : ℕ) (on : Bool) (charge : ℕ) where
  abbrev Left : ℕ → Type 0
  Left c = c ≡ cond on charge 0

  abbrev by_word : {b : Bool} → b ≡ on → cond b charge 0 ≡ cond on charge 0
  by_word h = ap (λ (b : Bool). cond b charge 0) h

  of-in : (iso : Bool) (s : St) → Ends In e iso Left charge (run concrete (set_enabled In e on) s)
  of-in iso s =
      at_ask tt (λ _ _ _ _. at_ask tt (λ _ _ _ _. at_ask tt
      (λ _ _ _ _. at_ask tt (λ _ u _ _. at_ask tt (λ _ _ _ _. at_end (by_word (in_word u.0 e on)))))))

  of_row : (n : ℕ) (s : St) → is_on (ep_on s.0 Out e).iso ≡ true
      → Ends Out e true Left charge (rows concrete (switch e on) n (λ t. ends (tt {0}) t) s)
  of_row zero s h = at_ask tt (λ _ _ _ _. at_end (by_word (row_word s.0 e on h)))
  of_row (suc zero) s h = at_ask tt (λ _ t _ k. of_row zero t k)
  of_row (suc (suc zero)) s h = at_ask tt (λ _ t _ k. of_row (suc zero) t k)
  of_row (suc (suc (suc n))) s h = at_ask tt (λ _ t _ k. of_row (suc (suc n)) t k)

  of_plain : (s : St) → Ends Out e false Left charge (run concrete (set_enabled_out {i = false} e on) s)
  of_plain s = at_ask tt (λ _ _ _ _. at_ask tt (λ _ _ _ _. at_ask tt
      (λ _ u _ k. at_ask tt (λ _ _ _ _. at_end (by_word (out-word u.0 e on k))))))

  -- by its sort
  of-out : (iso : Bool) (s : St) → is_on (ep_on s.0 Out e).iso ≡ iso → Ends Out e iso Left charge
      (cond iso (rows concrete (switch e on) 18 (λ t. ends (tt {0}) t) s)
      (run concrete (set_enabled_out {i = false} e on) s))
  of-out true s h = of_row 18 s h
  of-out false s h = of_plain s

  pub switched : (dir : Dir) (s : St) → Ends dir e (is_on (ep_on s.0 dir e).iso) Left charge
      (run concrete (set_enabled dir e on) s)
  switched In s = of-in (is_on (ep_on s.0 In e).iso) s
  switched Out s = every_bind (of-out (is_on (ep_on s.0 Out e).iso) s refl) (λ _ _ _ p. at_end p)

-- ---- a bus reset

-- every endpoint: whatever becomes of the state
abbrev pub Ends-all : {A : Type 0} → ℕ → (ℕ → Type 0) → ℕ → tree.Out St A → Type 0
Ends-all bit P charge o = Every (charging_chip bit) (λ (s t : St). Unit {0}) Any (λ c _ _. P c) charge o

naks : (bit n e charge : ℕ) (s : St) → Ends-all bit (λ c. c ≡ charge) charge (run concrete (nak_all {i = false} n e) s)
unfolding nak_all
naks bit zero e charge s = at_end refl
naks bit (suc n) e charge s = at_ask tt (λ _ _ _ _. at_ask tt (λ _ t _ _. naks bit n (suc e) charge t))

reset-row : (bit charge : ℕ) (s : St) → Ends-all bit (λ c. c ≡ 0) charge
    (rows concrete bus_reset_lem 3 (λ t. ends (tt {0}) t) s)
reset-row bit charge s = at_ask tt
    (λ _ _ _ _. at_ask tt (λ _ _ _ _. at_ask tt (λ _ _ _ _. at_ask tt
    (λ _ _ _ _. at_end (ap (λ (b : Bool). cond b charge 0) (none-set bit))))))

pub reset : (bit charge : ℕ) (s : St) → Ends-all bit (λ c. c ≡ 0) charge (run concrete bus_reset s)
reset bit charge s =
    at_ask tt (λ _ _ _ _. at_ask tt (λ _ _ _ _. at_ask tt (λ _ t _ _.
    every_bind (naks bit 15 1 charge t)
    (λ c _ u p. every_bind {f = λ (_ : Unit {0}) (v : St). run concrete (wake_all {i = false}) v} (reset-row bit c u)
    (λ _ _ _ z. at_end z)))))
