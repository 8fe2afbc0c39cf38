-- The row of an isochronous OUT, by how many of its accesses are left. Assumes nothing.
use Rattle.std.specs.Prelude.{◌≡◌, refl, ◌≢◌, Bool, cond, ℕ, zero, suc, ◌-◌, ◌<◌, ◌≤◌}
use Rattle.std.proofs.Common.{arith}
use Rattle.regs.specs.declared.Access.TheVariants.{Write, Receive}
use Rattle.regs.specs.declared.Reg.TheVariants.{EpConfig, EpType, EpRxCtrl}
use Rattle.script.specs.Tree.{asks}
use Rattle.script_ops.specs.Rings.{St, slot_step, type_step, config_step}
use Rattle.bus.specs.Points.{woken, switching}

pub one_left : (n : ℕ) → 0 < n → n ≤ 3 → n ≢ 3 → n ≢ 2 → n ≡ 1
one_left zero l h three two = absurd (omega arith)
one_left (suc zero) l h three two = refl
one_left (suc (suc zero)) l h three two = absurd (two refl)
one_left (suc (suc (suc zero))) l h three two = absurd (three refl)
one_left (suc (suc (suc (suc n)))) l h three two = absurd (omega arith)

pub switch-config : (e : ℕ) (on : Bool) (t : St) → switching e on 1 t
    ≡ asks (Write EpConfig 0 (config_step e on t.0).0) ((config_step e on t.0).1, t.1) (λ _ u. switching e on 0 u)
unfolding switching woken
switch-config e on t = refl

pub switch-type : (e : ℕ) (on : Bool) (t : St) → switching e on 2 t
    ≡ asks (Write EpType 0 (type_step e on t.0).0) ((type_step e on t.0).1, t.1) (λ _ u. switching e on 1 u)
unfolding switching
switch-type e on t = refl

pub switch-word : (e : ℕ) (on : Bool) (t : St) → switching e on 3 t
    ≡ asks (Write EpRxCtrl e (cond on 1 2)) t (λ _ u. switching e on 2 u)
unfolding switching
switch-word e on t = refl

slot : (e : ℕ) (on : Bool) (k : ℕ) (t : St) → switching e on (suc (suc (suc (suc k)))) t
    ≡ asks (Receive e (slot_step e k t).0) (slot_step e k t).1 (λ _ u. switching e on (suc (suc (suc k))) u)
unfolding switching
slot e on k t = refl

by-four : (k : ℕ) → suc (suc (suc (suc k))) - 4 ≡ k
by-four k = omega arith

by_one : (k : ℕ) → suc (suc (suc (suc k))) - 1 ≡ suc (suc (suc k))
by_one k = omega arith

pub switch-slot : (e : ℕ) (on : Bool) (n : ℕ) → 3 < n → (t : St) → switching e on n t
    ≡ asks (Receive e (slot_step e (n - 4) t).0) (slot_step e (n - 4) t).1 (λ _ u. switching e on (n - 1) u)
switch-slot e on zero h t = absurd (omega arith)
switch-slot e on (suc zero) h t = absurd (omega arith)
switch-slot e on (suc (suc zero)) h t = absurd (omega arith)
switch-slot e on (suc (suc (suc zero))) h t = absurd (omega arith)
switch-slot e on (suc (suc (suc (suc k)))) h t = rw (by-four k, by_one k) (slot e on k t)
