-- The control register (ctrl): 0 clr_all, 1 reset_sie, 2 int_busy, 3 dma_en, 4 speed_type (HIGHSPEED is 1), in the
-- order in which `Driver::new` first names them; dev_pu_en, which it does not name, has the next bit, 5. Assumes
-- nothing.
use Rattle.std.specs.Prelude.{true, false, ℕ, ◌+◌, ◌^◌}
use Rattle.bits.specs.Bit.{with_bit}

-- clr_all and reset_sie
abbrev pub CLEAR : ℕ
CLEAR = 2 ^ 0 + 2 ^ 1

-- int_busy, dma_en and HIGHSPEED
abbrev pub RUN : ℕ
RUN = 2 ^ 2 + 2 ^ 3 + 2 ^ 4

-- reset_sie cleared, the rest as read
abbrev pub reset_ended : ℕ → ℕ
reset_ended w = with_bit w 1 false

-- dev_pu_en set, the rest as read
abbrev pub pulled_up : ℕ → ℕ
pulled_up w = with_bit w 5 true

-- the host register's phy_suspendm (bit 0)
abbrev pub PHY_SUSPENDM : ℕ
PHY_SUSPENDM = 2 ^ 0
