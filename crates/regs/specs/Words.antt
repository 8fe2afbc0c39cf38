-- The words that the driver writes whole, as numbers. Assumes nothing.
use Rattle.std.specs.Prelude.{◌≡◌, refl, true, false}
use Rattle.regs.specs.ControlWord.{ACK, NYET, NAK, DATA0, DATA1, word_of}
use Rattle.regs.specs.Ctrl.{CLEAR, RUN}
use Rattle.regs.specs.IntEn.{at_start}

pub words :
    (word_of ACK DATA0 false ≡ 0x00)
    × (word_of NYET DATA0 false ≡ 0x01)
    × (word_of NAK DATA0 false ≡ 0x02)
    × (word_of ACK DATA1 false ≡ 0x04)
    × (word_of ACK DATA0 true ≡ 0x10)
    × (word_of NAK DATA0 true ≡ 0x12)
    × (CLEAR ≡ 0x03)
    × (RUN ≡ 0x1C)
    × (at_start false ≡ 0x3E)
    × (at_start true ≡ 0x7E)
unfolding word_of
words = (refl, refl, refl, refl, refl, refl, refl, refl, refl, refl)
