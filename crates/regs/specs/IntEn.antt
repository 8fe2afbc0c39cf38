-- The interrupt enables (int_en), kept and never read: 0 dev_nak, 1 fifo_ov, 2 setup_act, 3 suspend, 4 bus_rst, 5
-- transfer, 6 sof_act, in the order in which `Driver::new` names them. Assumes nothing.
use Rattle.std.specs.Prelude.{Bool, ℕ, ◌+◌, ◌*◌, ◌^◌}
use Rattle.bits.specs.Bit.{with_bit, digit}

-- start-up: all but dev_nak, and sof_act where there is a start-of-frame callback
abbrev pub at_start : Bool → ℕ
at_start callback = 2 ^ 1 + 2 ^ 2 + 2 ^ 3 + 2 ^ 4 + 2 ^ 5 + digit callback * 2 ^ 6

abbrev pub with_suspend : ℕ → Bool → ℕ
with_suspend w on = with_bit w 3 on

abbrev pub with_bus_rst : ℕ → Bool → ℕ
with_bus_rst w on = with_bit w 4 on
