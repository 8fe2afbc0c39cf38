-- The access that a word hands out, by its kind, 1 to 4: a part of `of_kind` (call_answer_word/specs/Parts.antt)
use Rattle.std.specs.Prelude.{cond, ℕ, ◌/◌, ◌^◌, eqb}
use Rattle.regs.specs.declared.Access.{Access}
use Rattle.regs.specs.declared.Access.TheVariants.{Read, Wait, Callback}
use Rattle.answer.specs.Parts.{reg_of, write_of, byte_at}

abbrev pub access_of : ℕ → ℕ → Access
access_of k w =
    cond (eqb k 1) (Read (reg_of (byte_at w 8)) (byte_at w 16))
    (cond (eqb k 2) (write_of (byte_at w 8) (byte_at w 16) (w / 2 ^ 32))
    (cond (eqb k 3) (Wait (byte_at w 8))
    Callback))
