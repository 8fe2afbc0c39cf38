-- Bus time as a shared limit (document 02, request Seven): the record that up to four drivers share, a list of 4 times
-- 32 charges
use Rattle.std.specs.Prelude.{Bool, cond, List, ℕ, zero, suc, ◌+◌, ◌*◌, ◌%◌, eqb, ltb, get_or, set, replicate}
use Rattle.bits.specs.Bit.{bit_is_set}
use Rattle.regs.specs.declared.Dir.{Dir}
use Rattle.regs.specs.Enables.{place}

-- of a microframe's 7,500 byte-times periodic transfers may use 6,000 (USB 2.0, chapter 5)
abbrev pub PERIODIC : ℕ
PERIODIC = 6000

-- "every enabled isochronous endpoint its maximum plus 38 byte-times and every enabled interrupt endpoint its maximum
-- plus 55, once a microframe"; kinds 1 isochronous, 3 interrupt
unfoldable pub charge_of : ℕ → ℕ → ℕ
charge_of kind maximum = cond (eqb kind 1) (maximum + 38) (cond (eqb kind 3) (maximum + 55) 0)

abbrev pub uncharged : List ℕ
uncharged = replicate 128 0

-- a driver's endpoint has the place of its bit of ep_config; drivers count modulo 4
unfoldable pub entry_of : ℕ → Dir → ℕ → ℕ
entry_of driver dir e = driver % 4 * 32 + place dir e

-- the total of the first n charges
unfoldable pub total : List ℕ → ℕ → ℕ
total t zero = 0
total t (suc n) = total t n + get_or t n 0

-- the time in use
unfoldable pub is_in_use : List ℕ → ℕ
is_in_use t = total t 128

-- with this charge in the place of the one at k, the time in use would pass 6,000: an endpoint is counted once
unfoldable pub passes : List ℕ → ℕ → ℕ → Bool
passes t k charge = ltb (PERIODIC + get_or t k 0) (is_in_use t + charge)

-- a charge stays where its bit is set in a word of ep_config, else it comes back
unfoldable pub entry_kept : ℕ → ℕ → ℕ → ℕ
entry_kept config bit charge = cond (bit_is_set config bit) charge 0

-- the first n of the charges from a place on
unfoldable pub kept : ℕ → ℕ → ℕ → List ℕ → List ℕ
kept config first zero t = t
kept config first (suc n) t = set (kept config first n t) (first + n)
    (entry_kept config n (get_or (kept config first n t) (first + n) 0))

-- a driver's charges
unfoldable pub keep_of : ℕ → ℕ → List ℕ → List ℕ
keep_of driver config t = kept config (driver % 4 * 32) 32 t
