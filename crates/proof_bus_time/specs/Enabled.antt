-- What the endpoints are charged that are enabled now, by the drivers' states alone: "the charge is always that of the
-- endpoints now enabled, each counted once" (document 02, request Seven)
use Rattle.std.specs.Prelude.{Bool, true, false, cond, ◌&&◌, ◌||◌, List, [], ◌∷◌, ◌≡◌, ℕ, ◌+◌, ◌%◌, ◌<◌, eqb}
use Rattle.bits.specs.Bit.{bit_is_set}
use Rattle.regs.specs.declared.Access.{Access}
use Rattle.regs.specs.declared.Reg.TheVariants.{EpConfig}
use Rattle.regs.specs.declared.Dir.{Dir}
use Rattle.regs.specs.declared.Dir.TheVariants.{Out, In}
use Rattle.regs.specs.Enables as enables
use Rattle.regs.specs.Enables.{place}
use Rattle.state.specs.Driver.{Driver}
use Rattle.alloc.specs.Alloc.{taken_ins}
use Rattle.script.specs.Every.{on_write, same_reg}
use Rattle.script.specs.Answers.{Answer}
use Rattle.script.specs.Machine.{Pending, idle, busy, Machine, Ans, ended, handed, told}
use Rattle.bus_time.specs.Time.{uncharged}
use Rattle.calls.specs.Sharing.{Sort, enabling, starting, going, apart, sort_of, charge_on}
use Rattle.proof_bus_time.specs.Four.{Four}
use Rattle.proof_bus_time.specs.History.{Line, sum}

-- enabled now: its bit of the kept ep_config, as the question tells
abbrev pub is_enabled : Driver → Dir → ℕ → Bool
is_enabled d dir e = enables.is_on d.globals.ep_config dir e

-- both directions of sixteen numbers of four drivers, each once
abbrev pub sum_of : (ℕ → Dir → ℕ → ℕ) → ℕ
sum_of f = sum (λ i. sum (λ e. f i In e + f i Out e) 16) 4

-- the charge of the endpoints now enabled
abbrev pub enabled_time : (ℕ → Driver) → ℕ
enabled_time drivers = sum_of (λ i dir e. cond (is_enabled (drivers i) dir e) (charge_on (drivers i) dir e) 0)

-- ---- while an operation is under way: "an enable counts from its beginning"

-- is what a driver last began an enabling of the endpoint with this bit? `was`: before the call
abbrev pub begins : ℕ → Sort → Bool → Bool
begins bit (enabling dir e) was = eqb (place dir e) bit
begins bit starting was = false
begins bit going was = was
begins bit apart was = false

-- a call that hands out no access begins nothing
abbrev pub begins_by : ℕ → Sort → Ans Answer → Bool → Bool
begins_by bit x (ended a) was = was
begins_by bit x (handed q) was = begins bit x was
begins_by bit x (told n) was = was

abbrev pub last_begun : ℕ → ℕ → List Line → Bool → Bool
last_begun i bit [] was = was
last_begun i bit (l ∷ ls) was =
    last_begun i bit ls (cond (eqb (l.who % 4) i) (begins_by bit (sort_of l.call) l.answer was) was)

abbrev pub is_busy : {A S : Type 0} → Pending A S → Bool
is_busy idle = false
is_busy (busy i q k) = true

-- driver i, whose machine is m after the history, is enabling the endpoint
abbrev pub is_enabling : ℕ → Machine Answer Driver → List Line → Dir → ℕ → Bool
is_enabling i m ls dir e = is_busy m.under_way_lem && last_begun i (place dir e) ls false

-- the charge of the endpoints now enabled or being enabled
abbrev pub counted_time : (ℕ → Machine Answer Driver) → List Line → ℕ
counted_time m ls = sum_of (λ i dir e. cond (is_enabled (m i).st dir e || is_enabling i (m i) ls dir e) (charge_on (m i).st dir e) 0)

-- ---- what gives time back

-- is it a write of ep_config?
abbrev pub writes_config : Access → Bool
writes_config q = on_write (λ r e w. same_reg r EpConfig) false q

-- is a write of ep_config handed out?
abbrev pub hands_config : Ans Answer → Bool
hands_config (ended a) = false
hands_config (handed q) = writes_config q
hands_config (told n) = false

-- ---- how long an endpoint's kind and maximum stay: from when its number is taken in its direction to the driver's
-- next accepted start-up

abbrev pub is_taken : Driver → Dir → ℕ → Bool
is_taken d dir e = bit_is_set (taken_ins d.allocator dir) (e % 16)

-- an accepted start-up
abbrev pub restarts : Sort → Ans Answer → Bool
restarts starting (handed q) = true
restarts starting (ended a) = false
restarts starting (told n) = false
restarts (enabling dir e) a = false
restarts going a = false
restarts apart a = false

-- driver i's, in a line and somewhere in a history
abbrev pub restarts_at : ℕ → Line → Bool
restarts_at i l = eqb (l.who % 4) i && restarts (sort_of l.call) l.answer

abbrev pub restarted : ℕ → List Line → Bool
restarted i [] = false
restarted i (l ∷ ls) = restarts_at i l || restarted i ls

-- ---- at first

-- nothing is under way and no endpoint enabled, as before a first start-up
pub record AtFirst (m : Machine Answer Driver) : Type 0 where
  pub idles : m.under_way_lem ≡ idle
  pub none : m.st.globals.ep_config ≡ 0

-- four such drivers, and an uncharged record
pub record FourAtFirst (f : Four) : Type 0 where
  pub drivers : (i : ℕ) → i < 4 → AtFirst (f.driver i)
  pub time : f.time ≡ uncharged
