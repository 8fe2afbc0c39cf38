-- The time in use never passes 6,000
use Rattle.std.specs.Prelude.{Bool, true, false, cond, List, [], ◌∷◌, ◌≡◌, refl, ℕ, ◌+◌, ◌%◌, ◌≤◌, ◌<◌, get_or, set}
use Rattle.std.proofs.Common.{◌∙◌, arith, length-set, ltb-false}
use Rattle.regs.specs.declared.Access.{Access}
use Rattle.regs.specs.declared.Access.TheVariants.{Read, Write, Receive, Transmit, Ep0Dma, Wait, Callback}
use Rattle.regs.specs.declared.Reg.TheVariants.{EpConfig}
use Rattle.regs.specs.declared.Dir.{Dir}
use Rattle.regs.specs.declared.Dir.TheVariants.{Out, In}
use Rattle.state.specs.Driver.{Driver}
use Rattle.script.specs.Every.{same_reg}
use Rattle.script.specs.Answers.{Answer}
use Rattle.script.specs.Machine.{Buf, Machine, Ans, ended, handed, told}
use Rattle.machine.specs.Suspended.{drive}
use Rattle.bus_time.specs.Time.{entry_of, total, is_in_use, passes, keep_of, uncharged}
use Rattle.bus_time.specs.TimeLaws.{length-keep, keep-le, total-set}
use Rattle.calls.specs.Sharing.{Sort, enabling, starting, going, apart, sort_of, charge_on, written, settled}
use Rattle.proof_bus_time.specs.Four.{Four, Turn, next, after}
use Rattle.proof_bus_time.specs.Limit.{Within}

pub entry_lt : (i : ℕ) (dir : Dir) (e : ℕ) → entry_of i dir e < 128
unfolding entry_of
entry_lt i Out e = omega arith
entry_lt i In e = omega arith

keep-within : (i w : ℕ) {t : List ℕ} → Within t → Within (keep_of i w t)
keep-within i w {t = t} k = record {
  long = length-keep i w t ∙ k.long;
  least
      = omega (arith, keep-le i w t k.long, k.least);
}

charge-within : (k c : ℕ) {t : List ℕ} → k < 128 → passes t k c ≡ false → Within t → Within (set t k c)
unfolding is_in_use passes
charge-within k c {t = t} l p w = record {
  long = length-set t k c ∙ w.long;
  least = omega (
    arith,
    total-set t k c 128 (omega (arith, w.long)) l,
    ltb-false (6000 + get_or t k 0) (total t 128 + c)
        p,
  );
}

choose : {t u : List ℕ} (b : Bool) → Within t → Within u → Within (cond b t u)
choose true x y = x
choose false x y = y

written-within : (i : ℕ) (q : Access) {t : List ℕ} → Within t → Within (written i q t)
written-within i (Write r e w) k = choose (same_reg r EpConfig) (keep-within i w k) k
written-within i (Read r e) k = k
written-within i (Receive e x) k = k
written-within i (Transmit e x) k = k
written-within i (Ep0Dma x) k = k
written-within i (Wait n) k = k
written-within i Callback k = k

settled-within : (i : ℕ) (x : Sort) (m : Machine Answer Driver) (t : List ℕ) (b : Buf) (a : Ans Answer)
    (n : Machine Answer Driver)
    → Within t → Within (settled i x m t b (a, n)).1
unfolding settled
settled-within i (enabling dir e) m t b (ended a) n k = k
settled-within i (enabling dir e) m t b (told v) n k = k
settled-within i (enabling dir e) m t b (handed q) n k = by (passes t (entry_of i dir e) (charge_on m.st dir e)) refl
  where
    by : (p : Bool) → passes t (entry_of i dir e) (charge_on m.st dir e) ≡ p
        → Within (settled i (enabling dir e) m t b (handed q, n)).1
    by true p = rw p k
    by false p = rw p (charge-within (entry_of i dir e) (charge_on m.st dir e) (entry_lt i dir e) p k)
settled-within i starting m t b (ended a) n k = k
settled-within i starting m t b (handed q) n k = keep-within i 0 k
settled-within i starting m t b (told v) n k = k
settled-within i going m t b (ended a) n k = k
settled-within i going m t b (handed q) n k = written-within i q k
settled-within i going m t b (told v) n k = k
settled-within i apart m t b (ended a) n k = k
settled-within i apart m t b (handed q) n k = k
settled-within i apart m t b (told v) n k = k

pub always-within : (xs : List Turn) (f : Four) → Within f.time → Within (after xs f).time
always-within [] f k = k
always-within (x ∷ xs) f k =
    let m = f.driver (x.who % 4) in
    let y = drive x.event.call m x.event.lent in
    always-within xs (next x f) (settled-within x.who (sort_of x.event.call) m f.time x.event.lent y.0
    y.1 k)

pub uncharged-within : Within uncharged
unfolding is_in_use total
uncharged-within = record { long = refl; least = omega arith }

-- every list of calls, from an uncharged record and whatever the drivers were
pub limit : (xs : List Turn) (f : Four) → f.time ≡ uncharged → is_in_use (after xs f).time ≤ 6000
limit xs f h = (always-within xs f (rw h uncharged-within)).least
