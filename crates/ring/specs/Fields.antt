-- An endpoint's record with one field set anew.
use Rattle.std.specs.Prelude.{ℕ}
use Rattle.state.specs.declared.EpState.{EpState}
use Rattle.state.specs.Ep.{with_ring}

abbrev pub with_head : EpState → ℕ → EpState
with_head s h = with_ring s h s.tail s.loaded s.overruns s.armed_slot s.«open»

abbrev pub with_tail : EpState → ℕ → EpState
with_tail s t = with_ring s s.head t s.loaded s.overruns s.armed_slot s.«open»

abbrev pub with_loaded : EpState → ℕ → EpState
with_loaded s l = with_ring s s.head s.tail l s.overruns s.armed_slot s.«open»

abbrev pub with_overruns : EpState → ℕ → EpState
with_overruns s n = with_ring s s.head s.tail s.loaded n s.armed_slot s.«open»

abbrev pub with_armed_slot : EpState → ℕ → EpState
with_armed_slot s a = with_ring s s.head s.tail s.loaded s.overruns a s.«open»

abbrev pub with_open : EpState → ℕ → EpState
with_open s o = with_ring s s.head s.tail s.loaded s.overruns s.armed_slot o
