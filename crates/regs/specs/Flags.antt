-- The interrupt flags (int_fg): 0 bus reset, 1 transfer, 2 suspend, 3 host SOF, 4 FIFO overflow, 5 setup; and the words
-- that clear one of them, written with all other bits 0. Assumes nothing.
use Rattle.std.specs.Prelude.{Bool, ℕ, ◌^◌}
use Rattle.bits.specs.Bit.{bit_is_set}

abbrev pub bus_rst : ℕ → Bool
bus_rst w = bit_is_set w 0

abbrev pub transfer : ℕ → Bool
transfer w = bit_is_set w 1

abbrev pub suspend : ℕ → Bool
suspend w = bit_is_set w 2

abbrev pub hst_sof : ℕ → Bool
hst_sof w = bit_is_set w 3

abbrev pub fifo_ov : ℕ → Bool
fifo_ov w = bit_is_set w 4

abbrev pub setup_act : ℕ → Bool
setup_act w = bit_is_set w 5

abbrev pub BUS_RST : ℕ
BUS_RST = 2 ^ 0

abbrev pub TRANSFER : ℕ
TRANSFER = 2 ^ 1

abbrev pub SUSPEND : ℕ
SUSPEND = 2 ^ 2

abbrev pub HST_SOF : ℕ
HST_SOF = 2 ^ 3

abbrev pub FIFO_OV : ℕ
FIFO_OV = 2 ^ 4

abbrev pub SETUP_ACT : ℕ
SETUP_ACT = 2 ^ 5
