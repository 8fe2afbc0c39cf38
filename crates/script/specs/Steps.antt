-- What each call's script does: which accesses it hands out, what it assigns and what it changes, by the kind of the
-- call. A fact of every script is a fact of these steps
use Rattle.std.specs.Prelude.{Bool, true, false, not, cond, ◌&&◌, ◌||◌, ℕ, eqb}
use Rattle.regs.specs.declared.Access.{Access}
use Rattle.regs.specs.declared.Access.TheVariants.{Read, Write, Wait, Callback}
use Rattle.regs.specs.declared.Reg.TheVariants.{IntFg, DevAd, EpConfig}
use Rattle.regs.specs.declared.Dir.TheVariants.{Out, In}
use Rattle.regs.specs.Registers.{number_of}
use Rattle.script.specs.Cells.{Cell, Val, globals-cell, control-cell, allocator-cell, ep-cell, request-cell}
use Rattle.script.specs.Cells.{paced_cell}
use Rattle.script.specs.Script.{Script, ret, bind, test, read_then, write_then, wait_then, callback_then}
use Rattle.script.specs.Script.{get_then}
use Rattle.script.specs.Script.{put_then, is_then, look_then, fetch_then, act_then, hand_then, row_then, Act}
use Rattle.script.specs.Script.{Burst}
use Rattle.script.specs.Script.{switch, bus_reset_lem, complete, reset_ring, set_enabled_lem, fill, fill0, open_oldest}
use Rattle.script.specs.Script.{close_oldest, take_oldest, enqueue, allocate, allocate0, no_wakes, waken}
use Rattle.script.specs.Script.{dma_step_ask}
pub use Rattle.script.specs.Every.{When}
use Rattle.script.specs.Every.{on_write}
use Rattle.script.specs.Control.{DATA-OUT}
pub use Rattle.script.specs.Kinds.{Kind, plain, moving, turning, resetting, giving, starting, accepting, reading}
pub use Rattle.script.specs.Kinds.{receiving, queueing, kind_of, code_of, is}

-- ---- what a call of a kind may do

-- dev_ad: 0 at a bus reset, and the address that is accepted
abbrev pub may_address : Kind → ℕ → Bool
may_address k v = is k accepting || (is k resetting && eqb v 0)

-- by a register's number: ep_config where an endpoint is turned or all are, and a 1 to int_fg, the release of the bus
-- reset's flag, in the bus' poll
abbrev pub may_write : Kind → ℕ → ℕ → Bool
may_write k n v = cond (eqb n (number_of DevAd)) (may_address k v)
    (cond (eqb n (number_of EpConfig)) (is k turning || is k resetting) (not (eqb n (number_of IntFg) && eqb v 1)
    || is k resetting))

abbrev pub may_ask : Kind → Access → Bool
may_ask k q = on_write (λ r e v. may_write k (number_of r) v) true q

-- a request that is begun is a write's, or the one that the call begins
abbrev pub may_put : Kind → (c : Cell) → Val c → Bool
may_put k globals-cell v = true
may_put k control-cell v = is k receiving || not (eqb v.sort DATA-OUT)
may_put k allocator-cell v = false
may_put k (ep-cell d e) v = true
may_put k (request-cell In e) v = true
may_put k (request-cell Out e) v = is k reading || eqb v.begun 0
may_put k (paced_cell e) v = true

abbrev pub may_act : Kind → Act → Bool
may_act k (complete e) = not (is k queueing)
may_act k (reset_ring d e) = is k turning
may_act k (set_enabled_lem d e on) = is k turning
may_act k (fill e bytes) = true
may_act k (fill0 bytes) = true
may_act k (open_oldest e) = true
may_act k (close_oldest e) = true
may_act k (take_oldest e) = true
may_act k (enqueue e bytes) = is k queueing
may_act k (allocate d kind address maximum interval) = is k giving
may_act k (allocate0 maximum) = is k starting
may_act k no_wakes = true
may_act k (waken codes) = true

abbrev pub may_row : Kind → Burst → Bool
may_row k (switch e on) = is k turning
may_row k bus_reset_lem = is k resetting

-- ---- a script that does no more than a call of kind k, whatever is read and whatever the state

abbrev pub Asks : Kind → Access → Type 0
Asks k q = When (may_ask k q) (Unit {0})

abbrev pub Steps : {i : Bool} {A : Type 0} → Kind → Script i A → Type 0
Steps k (ret a) = Unit {0}
Steps k (bind p f) = Steps k p × ((a : _) → Steps k (f a))
Steps k (test b p q) = Steps k p × Steps k q
Steps k (read_then r e f) = Asks k (Read r e) × ((v : ℕ) → Steps k (f v))
Steps k (write_then r e v p) = Asks k (Write r e v) × Steps k p
Steps k (wait_then n p) = Asks k (Wait n) × Steps k p
Steps k (callback_then p) = Asks k Callback × Steps k p
Steps k (get_then c f) = (v : _) → Steps k (f v)
Steps k (put_then c v p) = When (may_put k c v) (Steps k p)
Steps k (is_then q f) = (b : Bool) → Steps k (f b)
Steps k (look_then q f) = (n : ℕ) → Steps k (f n)
Steps k (fetch_then q f) = (l : _) → Steps k (f l)
Steps k (act_then q p) = When (may_act k q) (Steps k p)
Steps k (hand_then q p) = When (not (is k queueing)) (((x : ℕ) → Asks k (dma_step_ask q x)) × Steps k p)
Steps k (row_then g p) = When (may_row k g) (Steps k p)
