-- Rows 4, 10, 9 and 15 as tests of what was loaded: the row that stops a begin or a poll, 0 if none does
use Rattle.std.specs.Prelude.{◌≡◌, cond, ℕ, eqb, ltb}
use Rattle.state.specs.declared.Globals.{Globals}
use Rattle.state.specs.declared.Control.{Control}
use Rattle.state.specs.Driver.{Driver}
use Rattle.script.specs.Statics.{is_on}

-- of a stage of n bytes
unfoldable pub begin_row : Globals → ℕ → ℕ
begin_row g n = cond (eqb g.stage 2) (cond (ltb g.ep0_max n) 10 (cond (is_on g.setup_ready) 9 0)) 4

-- of a request of this sort
unfoldable pub poll_row : Globals → Control → ℕ → ℕ
poll_row g c sort = cond (eqb g.stage 2) (cond (eqb c.sort sort) 0 15) 4

-- no row stops a poll of this sort, whose request is c
abbrev pub Polls : Driver → Control → ℕ → Type 0
Polls d c sort = (c ≡ d.control) × (poll_row d.globals d.control sort ≡ 0)
