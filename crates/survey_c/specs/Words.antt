-- An answer as one word, as include/usbhs.h has it: the kind in bits 0-3, its number from bit 8 on.
use Rattle.std.specs.Prelude.{ℕ, ◌+◌, ◌*◌, ◌^◌}

-- kind 0: the row's number 8-15
abbrev pub refused_word : ℕ → ℕ
refused_word row = row * 2 ^ 8

-- kind 5: result 8-23
abbrev pub end_word : ℕ → ℕ
end_word result = 5 + result * 2 ^ 8

-- kind 7: length 8-23
abbrev pub done_word : ℕ → ℕ
done_word length = 7 + length * 2 ^ 8
