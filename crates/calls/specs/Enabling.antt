-- The three ways of an enabling: turned down, stopped by another row, begun; a disabling, whose begin changes no charge
use Rattle.std.specs.Prelude.{Bool, true, false, cond, ◌&&◌, List, ◌≡◌, refl, ℕ}
use Rattle.std.proofs.Common.{true≢false, ap, sym, ◌∙◌}
use Rattle.regs.specs.declared.Dir.{Dir}
use Rattle.state.specs.Driver.{Driver}
use Rattle.script.specs.Answers.{Answer, Refused}
use Rattle.script.specs.Calls.{slotted, SetEnabled}
use Rattle.script.specs.Machine.{Buf, Machine, begin, Ans, ended, handed, told}
use Rattle.machine.specs.declared.Suspended.{Suspended}
use Rattle.machine.specs.Suspended.{machine_at, drive, slots_fit, lent_or}
use Rattle.answer.specs.Goes.{StepResult}
use Rattle.bus_time.specs.Time.{entry_of, passes}
use Rattle.calls.specs.Sharing.{Sort, enabling, apart, charge_on, is_handed, time_after, shared_call}
use Rattle.calls.specs.SharingLaws.{settles, refuses}
use Rattle.calls.specs.Accepts.{accepts}
use Rattle.calls.specs.AcceptsLaws.{accepts-is}
use Rattle.calls.specs.Charging.{charged_at}
use Rattle.calls.specs.ChargingLaws.{charged-is}

unchanged : (i : ℕ) (x : Sort) (a : Ans Answer) (d : Driver) (t : List ℕ) → is_handed a ≡ false → t ≡ time_after i x a d t
unchanged i x (ended a) d t h = refl
unchanged i x (handed q) d t h = absurd (true≢false h)
unchanged i x (told n) d t h = refl

and-false : (x : Bool) → (x && false) ≡ false
and-false true = refl
and-false false = refl

accepts-fits : (d : Driver) (u : Suspended) (b : Buf) (dir : Dir) (e : ℕ) → accepts d u b dir e ≡ true → slots_fit d b
    ≡ true
unfolding accepts
accepts-fits d u b dir e h = by (slots_fit d b) _ h
  where
    by : (x y : Bool) → cond x y false ≡ true → x ≡ true
    by true y h = refl
    by false y h = absurd (true≢false (sym h))

module _ (i : ℕ) (dir : Dir) (e : ℕ) (u : Suspended) (d : Driver) (a b : Buf) (t : List ℕ) where
  pub turned : accepts d u b dir e ≡ true → passes t (entry_of i dir e) (charge_on d dir e) ≡ true
      → ((ended (Refused 19), machine_at u d (lent_or d b b a)), t)
      ≡ shared_call i (begin (slotted (SetEnabled dir e true))) (machine_at u d a) t b
  turned h p = rw (accepts-fits d u b dir e h) (refuses i dir e (machine_at u d a) t b (accepts-is dir e true u d a b
      ∙ h) p)

  pub stopped : (y : StepResult) → accepts d u b dir e ≡ false → y
      ≡ drive (begin (slotted (SetEnabled dir e true))) (machine_at u d a) b
      → (y, t) ≡ shared_call i (begin (slotted (SetEnabled dir e true))) (machine_at u d a) t b
  stopped y h k =
      let n : is_handed y.0 ≡ false = ap (λ (z : StepResult). is_handed z.0) k
      ∙ (accepts-is dir e true u d a b ∙ h) in
      settles i (begin (slotted (SetEnabled dir e true))) (machine_at u d a) t b y t (rw n refl) k
      (unchanged i (enabling dir e) y.0 d t n)

  pub begun : (y : StepResult) (after : List ℕ) (k c : ℕ) → k ≡ entry_of i dir e → c ≡ charge_on d dir e → passes t k c
      ≡ false
      → y ≡ drive (begin (slotted (SetEnabled dir e true))) (machine_at u d a) b → after ≡ charged_at y.0 k c t
      → (y, after) ≡ shared_call i (begin (slotted (SetEnabled dir e true))) (machine_at u d a) t b
  begun y after k c ek ec p q h =
      let z : passes t (entry_of i dir e) (charge_on d dir e) ≡ false = sym (λ j. passes t (ek j) (ec j)) ∙ p in
      settles i (begin (slotted (SetEnabled dir e true))) (machine_at u d a) t b y after
      (rw z (and-false (is_handed y.0))) q
      (h ∙ ((λ j. charged_at y.0 (ek j) (ec j) t) ∙ charged-is i dir e y.0 d t))

apart-stays : (i : ℕ) (a : Ans Answer) (d : Driver) (t : List ℕ) → t ≡ time_after i apart a d t
apart-stays i (ended a) d t = refl
apart-stays i (handed q) d t = refl
apart-stays i (told n) d t = refl

pub disables : (i : ℕ) (dir : Dir) (e : ℕ) (on : Bool) (m : Machine Answer Driver) (t : List ℕ) (b : Buf)
    (y : StepResult) → on ≡ false
    → y ≡ drive (begin (slotted (SetEnabled dir e false))) m b → (y, t)
    ≡ shared_call i (begin (slotted (SetEnabled dir e on))) m t b
disables i dir e on m t b y h k = rw h (settles i (begin (slotted (SetEnabled dir e false))) m t b y t refl k
    (apart-stays i y.0 m.st t))
