-- Which of the changes one is, whatever its endpoint and its bytes
use Rattle.std.specs.Prelude.{Bool, List, ℕ, eqb}
use Rattle.script.specs.Script.{Act, complete, reset_ring, set_enabled_lem, fill, fill0, open_oldest, close_oldest}
use Rattle.script.specs.Script.{take_oldest, enqueue, allocate, allocate0, no_wakes, waken}

abbrev pub code_of : Act → ℕ
code_of (complete e) = 0
code_of (reset_ring d e) = 1
code_of (set_enabled_lem d e on) = 2
code_of (fill e bytes) = 3
code_of (fill0 bytes) = 4
code_of (open_oldest e) = 5
code_of (close_oldest e) = 6
code_of (take_oldest e) = 7
code_of (enqueue e bytes) = 8
code_of (allocate d kind address maximum interval) = 9
code_of (allocate0 maximum) = 10
code_of no_wakes = 11
code_of (waken codes) = 12

-- two are one
abbrev pub same_act : Act → Act → Bool
same_act q r = eqb (code_of q) (code_of r)

-- what a begin gives and what wake-ups give; any other change gives x
abbrev pub on_wakes : {A : Type 0} → A → (List ℕ → A) → A → Act → A
on_wakes z f x no_wakes = z
on_wakes z f x (waken codes) = f codes
on_wakes z f x (complete e) = x
on_wakes z f x (reset_ring d e) = x
on_wakes z f x (set_enabled_lem d e on) = x
on_wakes z f x (fill e bytes) = x
on_wakes z f x (fill0 bytes) = x
on_wakes z f x (open_oldest e) = x
on_wakes z f x (close_oldest e) = x
on_wakes z f x (take_oldest e) = x
on_wakes z f x (enqueue e bytes) = x
on_wakes z f x (allocate d kind address maximum interval) = x
on_wakes z f x (allocate0 maximum) = x
