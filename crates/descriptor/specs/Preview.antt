-- What a preview answers.
use Rattle.std.specs.Prelude.{List, ℕ, replicate}
use Rattle.state.specs.declared.Allocator.{Allocator}
use Rattle.descriptor.specs.declared.Answer.{Answer}
use Rattle.descriptor.specs.declared.Answer.TheVariants.{Refused, Listed}
use Rattle.descriptor.specs.Reading.{list_of, reading_of}
use Rattle.descriptor.specs.declared.preview.Said.TheVariants as said
use Rattle.descriptor.specs.declared.preview.Trial.{Trial}
use Rattle.descriptor.specs.declared.preview.Shown.{Shown}
use Rattle.descriptor.specs.Trial.{trial_of}

-- 17 or 18: nothing is tried
abbrev pub refused_by : ℕ → Shown
refused_by n = record { said = said.Refused n; numbers = replicate 32 0; count = 0; buffers = 0; refusal = 0 }

abbrev pub shown : Trial → Shown
shown t = record {
  said = said.Tried;
  numbers = t.numbers;
  count = t.count;
  buffers = t.buffers;
  refusal
      = t.refusal;
}

-- by what the reading answered
unfoldable pub shown_of : Allocator → List ℕ → Answer → Shown
shown_of a s (Refused n) = refused_by n
shown_of a s Listed = shown (trial_of a (list_of s))

abbrev pub preview_of : Allocator → List ℕ → Shown
preview_of a s = shown_of a s (reading_of s).answer
