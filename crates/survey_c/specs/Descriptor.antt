-- A descriptor's list written out: the word. What the caller's room holds then is `room_rewritten`
-- (`descriptor/specs/Rewriting.antt`).
use Rattle.std.specs.Prelude.{ℕ}
use Rattle.descriptor.specs.declared.Written.{Written}
use Rattle.descriptor.specs.declared.Written.TheVariants as written
use Rattle.survey_c.specs.Words.{refused_word, done_word}

abbrev pub written_word : Written → ℕ
written_word (written.Refused row) = refused_word row
written_word (written.Bytes n) = done_word n
