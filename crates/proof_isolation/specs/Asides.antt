-- Whose an open or a close is
use Rattle.std.specs.Prelude.{◌≢◌, ◌≡◌, ℕ}
use Rattle.regs.specs.declared.Dir.TheVariants.{Out}
use Rattle.state.specs.Driver.{key}
use Rattle.script.specs.Calls.{Aside, Open, Close, Queue}

-- an aside that is not the channel's open or close
abbrev pub Others : ℕ → Aside → Type 0
Others x (Open e) = key Out e ≢ key Out x
Others x (Close e) = key Out e ≢ key Out x
Others x (Queue e bytes) = Unit {0}

-- the channel's open or close
abbrev pub Mine : ℕ → Aside → Type 0
Mine x (Open e) = key Out e ≡ key Out x
Mine x (Close e) = key Out e ≡ key Out x
Mine x (Queue e bytes) = ⊥
