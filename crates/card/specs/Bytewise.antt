-- Four bytes as one word. BytewiseLaws.antt proves what the remainder is after several bytes at a step.
use Rattle.std.specs.Prelude.{ℕ, ◌+◌, ◌*◌, ◌^◌}

-- ---- bytes

-- four bytes as one word, the first lowest
abbrev pub word_of : ℕ → ℕ → ℕ → ℕ → ℕ
word_of a b c d = a + b * 2 ^ 8 + c * 2 ^ 16 + d * 2 ^ 24
