-- The walk that announces a list's endpoints, as the code goes it
use Rattle.std.specs.Prelude.{Bool, false, cond, ◌&&◌, ℕ, zero, suc, ◌+◌, ◌-◌, ◌*◌, eqb}
use Rattle.regs.specs.declared.Dir.{Dir}
use Rattle.alloc.specs.Alloc.{is_iso, slots_of}
use Rattle.state.specs.Driver.{Driver, ep_on}
use Rattle.script.specs.Script.{Script, ◌>>=◌, ◌>>◌}
use Rattle.script.specs.Answers.{is_allocated}
use Rattle.script.specs.AllocateAll.{announce, announce_after}

-- the byte where an endpoint's buffers end
unfoldable pub end_on : Driver → Dir → ℕ → ℕ
end_on d dir e = (ep_on d dir e).base + slots_of (is_iso (ep_on d dir e).kind) dir * d.allocator.size

-- it is allocated, and its buffers begin at byte x
unfoldable pub starts_at : Driver → Dir → ℕ → ℕ → Bool
starts_at d dir x e = is_allocated d.allocator dir e && eqb (ep_on d dir e).base x

-- the first such of `left` numbers from e on, or 0
unfoldable pub found_at : Driver → Dir → ℕ → ℕ → ℕ → ℕ
found_at d dir x zero e = 0
found_at d dir x (suc left) e = cond (starts_at d dir x e) e (found_at d dir x left (suc e))

-- those left
abbrev pub following : ℕ → ℕ → Dir → ℕ → Script false ℕ
following left total d e = announce_after left total d e

-- an endpoint is announced, then those left
abbrev pub announcing : ℕ → ℕ → Dir → ℕ → Script false ℕ
announcing left total d e = do
  announce d e
  following left total d e
