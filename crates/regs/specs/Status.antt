-- The interrupt status (int_st): 0-3 endpoint, 4-5 token, 6 tog_ok. Assumes nothing.
use Rattle.std.specs.Prelude.{Bool, true, false, ℕ, ◌/◌, ◌%◌, eqb}
use Rattle.bits.specs.Bit.{bit_is_set}
use Rattle.regs.specs.declared.Token.{Token}
use Rattle.regs.specs.declared.Token.TheVariants.{Out, Sof, In, Setup}

unfoldable pub endpoint : ℕ → ℕ
endpoint w = w % 16

abbrev pub or_token : Bool → Token → Token → Token
or_token true a b = a
or_token false a b = b

-- 0 OUT, 1 SOF, 2 IN, 3 SETUP
unfoldable pub token_numbered : ℕ → Token
token_numbered n = or_token (eqb n 0) Out (or_token (eqb n 1) Sof (or_token (eqb n 2) In Setup))

unfoldable pub token : ℕ → Token
token w = token_numbered (w / 16 % 4)

abbrev pub tog_ok : ℕ → Bool
tog_ok w = bit_is_set w 6

abbrev pub token_number : Token → ℕ
token_number Out = 0
token_number Sof = 1
token_number In = 2
token_number Setup = 3

-- tests of the token
abbrev pub out_token : Token → Bool
out_token t = eqb (token_number t) 0

abbrev pub sof_token : Token → Bool
sof_token t = eqb (token_number t) 1

abbrev pub in_token : Token → Bool
in_token t = eqb (token_number t) 2

unfoldable pub is_out : ℕ → Bool
is_out w = out_token (token w)

unfoldable pub is_sof : ℕ → Bool
is_sof w = sof_token (token w)

unfoldable pub is_in : ℕ → Bool
is_in w = in_token (token w)
