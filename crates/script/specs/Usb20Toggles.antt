-- Data toggle synchronization by USB 2.0, 8.6: two ends of a pipe, each with a sequence bit, and what a transaction
-- does to the device's. Assumes nothing.
use Rattle.std.specs.Prelude.{Bool, true, false, cond, List, [], ◌∷◌, ℕ, ◌+◌}
use Rattle.regs.specs.declared.Dir.{Dir}
use Rattle.regs.specs.declared.Dir.TheVariants.{Out, In}

-- the data packet IDs that a sequence bit chooses from (8.3.1, table 8-1)
pub data Pid : Type 0 where
  DATA0 DATA1 : Pid

abbrev pub other : Pid → Pid
other DATA0 = DATA1
other DATA1 = DATA0

abbrev pub same : Pid → Pid → Bool
same DATA0 DATA0 = true
same DATA0 DATA1 = false
same DATA1 DATA0 = false
same DATA1 DATA1 = true

-- one transaction at the device's end. OUT: it receives; IN: it transmits
pub data Transaction : Dir → Type 0 where
  received : Pid → Transaction Out  -- a data packet without error that the endpoint could take
  not_taken : Transaction Out  -- one with an error, or answered by NAK or STALL
  acknowledged : Transaction In  -- the host's ACK came
  unacknowledged : Transaction In  -- it did not, or no data was sent

-- a new packet goes through. The receiver takes a packet as new where its ID is the sequence bit (8.6.2), and as the
-- last one again, sent because the ACK was lost, where it is not (8.6.4); the transmitter's went through once it is
-- acknowledged (8.6.2)
abbrev pub passes : {d : Dir} → Pid → Transaction d → Bool
passes b (received p) = same b p
passes b not_taken = false
passes b acknowledged = true
passes b unacknowledged = false

-- either end's bit changes with each new packet (8.6.2) and with nothing else (8.6.3, 8.6.4)
abbrev pub bit_after : {d : Dir} → Pid → Transaction d → Pid
bit_after b t = cond (passes b t) (other b) b

-- and over transactions, the first at the head: the bit, and how many new packets
abbrev pub bit_after_all : {d : Dir} → Pid → List (Transaction d) → Pid
bit_after_all b [] = b
bit_after_all b (t ∷ ts) = bit_after_all (bit_after b t) ts

abbrev pub count : Bool → ℕ
count true = 1
count false = 0

abbrev pub passed : {d : Dir} → Pid → List (Transaction d) → ℕ
passed b [] = 0
passed b (t ∷ ts) = count (passes b t) + passed (bit_after b t) ts

-- a configuration and a cleared halt set the bit to DATA0 (9.1.1.5, 9.4.5)
abbrev pub initial : Pid
initial = DATA0
