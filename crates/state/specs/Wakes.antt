-- The wake-ups gathered by the operation under way, in their order (request Nine)
use Rattle.std.specs.Prelude.{ℕ, zero, suc, ◌+◌, ◌%◌, cond, List, [], ◌∷◌, ◌++◌, take, replicate, nat_lt, slice_set}
use Rattle.regs.specs.declared.Dir.{Dir}
use Rattle.regs.specs.declared.Dir.TheVariants.{Out, In}

-- how many, and room for 64: the codes of those woken, in order
pub record Wakes : Type 0 where
  pub count : ℕ
  pub codes : List ℕ

abbrev pub with_count : Wakes → ℕ → Wakes
with_count w n = record { count = n; codes = w.codes }

abbrev pub with_codes : Wakes → List ℕ → Wakes
with_codes w cs = record { count = w.count; codes = cs }

-- whose task: an endpoint's, 0 to 15 for IN and 16 to 31 for OUT, or the bus's
unfoldable pub wake_code : Dir → ℕ → ℕ
wake_code In e = e % 16
wake_code Out e = 16 + e % 16

abbrev pub bus_code : ℕ
bus_code = 32

abbrev pub codes_from : ℕ → ℕ → List ℕ
codes_from a zero = []
codes_from a (suc n) = a ∷ codes_from (a + 1) n

-- OUT 0 to 15, then IN 0 to 15 (mod.rs 1218)
unfoldable pub every_endpoint : List ℕ
every_endpoint = codes_from 16 16 ++ codes_from 0 16

-- as at power-on
abbrev pub none_woken : Wakes
none_woken = record { count = 0; codes = replicate 64 0 }

-- an operation begins: none is listed, and the codes stand as they were
abbrev pub unwoken : Wakes → Wakes
unwoken w = with_count w 0

-- "as a list, in order, repeats included"
unfoldable pub listed : Wakes → List ℕ
listed w = take w.count w.codes

-- one more, the last. With 64 there is room for none, which no operation comes to (crate `proof_wake_ups`)
unfoldable pub woken : ℕ → Wakes → Wakes
woken c w = cond (nat_lt w.count 64) (with_count (with_codes w (slice_set w.codes w.count c)) (w.count + 1)) w

-- several, one after the other
abbrev pub all_woken : List ℕ → Wakes → Wakes
all_woken [] w = w
all_woken (c ∷ cs) w = all_woken cs (woken c w)
