-- Control transfers by USB 2.0, 8.5.3: a setup stage, a data stage of any number of packets in one direction or none, a
-- status stage. Assumes nothing.
use Rattle.std.specs.Prelude.{ℕ, zero, suc}
use Rattle.regs.specs.declared.Dir.{Dir}
use Rattle.regs.specs.declared.Dir.TheVariants.{Out, In}
use Rattle.script.specs.Usb20Toggles.{Pid, DATA1, other}

-- the data stage's packet k, counted from 0: it begins with DATA1 and alternates (8.5.3)
abbrev pub data_pid : ℕ → Pid
data_pid zero = DATA1
data_pid (suc k) = other (data_pid k)

-- the status stage: one packet of no bytes, DATA1 (8.5.3.1) ..
abbrev pub status_pid : Pid
status_pid = DATA1

abbrev pub status_length : ℕ
status_length = 0

-- .. in the direction opposite to the data stage's; IN where there was none (8.5.3)
abbrev pub opposite : Dir → Dir
opposite Out = In
opposite In = Out

abbrev pub status_dir : Dir → ℕ → Dir
status_dir d zero = In
status_dir d (suc packets) = opposite d
