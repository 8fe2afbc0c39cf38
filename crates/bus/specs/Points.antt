-- What is left to run at each point of the bus's operations
use Rattle.std.specs.Prelude.{◌≡◌, Bool, true, false, not, cond, ◌&&◌, List, ℕ, zero, suc, ◌-◌}
use Rattle.regs.specs.declared.Reg.TheVariants.{IntFg, MisSt, Ctrl, EpConfig, EpTLen, EpRxCtrl, EpTxCtrl}
use Rattle.regs.specs.declared.Access.{Access}
use Rattle.regs.specs.declared.Dir.{Dir}
use Rattle.regs.specs.declared.Dir.TheVariants.{Out, In}
use Rattle.regs.specs.Registers.{ctrl_of, width_of}
use Rattle.regs.specs.ControlWord.{ACK, NYET, NAK, DATA0, word_of, stall, is_stalled}
use Rattle.regs.specs.Flags.{bus_rst, suspend, SUSPEND}
use Rattle.regs.specs.MisStatus.{suspended}
use Rattle.regs.specs.IntEn.{with_bus_rst, with_suspend}
use Rattle.regs.specs.Ctrl.{pulled_up}
use Rattle.state.specs.declared.EpState.{EpState}
use Rattle.state.specs.Ep.{with_moves}
use Rattle.state.specs.Driver.{Driver, ep_on, with_on}
use Rattle.state.specs.State.{view}
use Rattle.script.specs.Tree as tree
use Rattle.script.specs.Tree.{asks, ends, bind_out}
use Rattle.script.specs.Cells.{globals-cell}
use Rattle.script.specs.Script.{Script, run, rows, ret, done, test, ◌>>=◌, ◌>>◌, read, write, get, act, row, when}
use Rattle.script.specs.Script.{set_enabled_lem, switch, bus_reset_lem}
use Rattle.script.specs.Statics.{flag, completed, renewed, with_armed, modify_ep, modify_int_en, wake, wake_all}
use Rattle.script.specs.Machine.{Awaits, nothing, reading, awaited}
use Rattle.script.specs.Bus.{nak_all, bus_reset, kept, set_enabled_out}
use Rattle.script_ops.specs.Records.{plain_of, merged}
use Rattle.script_ops.specs.Rings.{St, emptied_on}
use Rattle.script_ops.specs.Concrete.{concrete}
use Rattle.script_ops.specs.Numbers.{fits}
pub use Rattle.script_ops.specs.Results.{resultless}
use Rattle.bus.specs.declared.Point.{Point}
use Rattle.bus.specs.declared.Point.TheVariants as point
use Rattle.script_ops.specs.Numbers.{BUS, with_tag}
use Rattle.bus.specs.Codec.{as_numbers, decode}
use Rattle.bus.specs.declared.Next.{Next}
use Rattle.bus.specs.declared.Next.TheVariants as next

unfoldable pub woken : Dir → ℕ → Script false ℕ
woken d e = resultless (wake d e)

-- ---- `set_endpoint_stalled`

unfoldable pub after_stall_word : Dir → ℕ → ℕ → Script false ℕ
after_stall_word d e word = do
  write (ctrl_of d) e (stall word)
  woken d e

unfoldable pub after_restart : ℕ → Bool → Script false ℕ
after_restart e iso = resultless (do
  when (not iso) (modify_ep In e completed)
  wake In e)

-- ---- `poll`

unfoldable pub after_reset : Script false ℕ
after_reset = do
  wake_all
  modify_int_en (λ w. with_bus_rst w true)
  ret 2

-- the endpoints up to e answer NAK
unfoldable pub after_naked : ℕ → Script false ℕ
after_naked e = do
  (do
    nak_all (15 - e) (suc e)
    row bus_reset_lem
    wake_all)
  modify_int_en (λ w. with_bus_rst w true)
  ret 2

unfoldable pub after_released : Bool → Script false ℕ
after_released down = do
  modify_int_en (λ w. with_suspend w true)
  ret (cond down 3 4)

unfoldable pub after_status : ℕ → Script false ℕ
after_status m = do
  write IntFg 0 SUSPEND
  after_released (suspended m)

unfoldable pub after_flags : ℕ → Script false ℕ
after_flags flags =
    test {A = ℕ} (bus_rst flags)
    (do
      bus_reset
      modify_int_en (λ w. with_bus_rst w true)
      ret 2)
    (test {A = ℕ} (suspend flags)
    (do
      m ← read MisSt 0
      after_status m)
    (ret {A = ℕ} 0))

-- ---- `endpoint_set_enabled`

-- `reset_ring`, and the record's other fields renewed
abbrev pub renewed_as : Driver → Dir → ℕ → ℕ → Driver
renewed_as d dir e armed =
    let x = emptied_on d dir e in
    with_on x dir e (merged (ep_on x dir e) (with_armed armed (renewed (plain_of (ep_on x dir e)))))

-- both in one: `EpState::reset`, and armed or not
abbrev pub reset_as : EpState → ℕ → EpState
reset_as r armed = with_moves r 0 r.len armed 0x1800 0 0 0 0 r.overruns r.armed_slot 0

abbrev pub enabled_out : ℕ → Bool → Script false ℕ
enabled_out e on = resultless (do
  set_enabled_out e on
  wake Out e)

unfoldable pub after_type : Dir → ℕ → Bool → Script false ℕ
after_type d e on = do
  act (set_enabled_lem d e on)
  g ← get globals-cell
  write EpConfig 0 g.ep_config
  woken d e

unfoldable pub after_words : Dir → ℕ → Bool → Bool → Script false ℕ
after_words d e iso on = do
  kept d e iso on
  woken d e

unfoldable pub after_placed : ℕ → Bool → Bool → Script false ℕ
after_placed e iso on = do
  write EpTxCtrl e (word_of (cond (iso && on) NYET NAK) DATA0 (not iso))
  after_words In e iso on

-- n accesses of the row are left
unfoldable pub switching : ℕ → Bool → ℕ → tree.Prog St ℕ
switching e on zero t = run concrete (woken Out e) t
switching e on (suc n) t = bind_out
    (bind_out (rows concrete (switch e on) n (λ u. run concrete (done {i = false}) u) t)
    (λ _ u. run concrete (wake {i = false} Out e) u))
    (λ _ u. ends 0 u)

-- ---- points

-- the run from a point with the number brought: a script's, and inside a row the accesses of it that are left
abbrev pub denote : Point → ℕ → tree.Prog St ℕ
denote point.Enable v t = run concrete (resultless (write Ctrl 0 (pulled_up v))) t
denote (point.Event n) v t = ends n t
denote point.Stalled v t = ends (flag (is_stalled v)) t
denote (point.StallLen e) v t = run concrete (do
  word ← read EpTxCtrl e
  after_stall_word In e word) t
denote (point.StallWord d e) v t = run concrete (after_stall_word d e v) t
denote (point.Restarted e iso) v t = run concrete (after_restart e iso) t
denote (point.Woken d e) v t = run concrete (woken d e) t
denote point.Flags v t = run concrete (after_flags v) t
denote point.Status v t = run concrete (after_status v) t
denote (point.Released down) v t = run concrete (after_released down) t
denote point.Address v t = run concrete (do
  write EpRxCtrl 0 (word_of ACK DATA0 false)
  write EpTxCtrl 0 (word_of NAK DATA0 false)
  after_naked 0) t
denote point.Ep0Out v t = run concrete (do
  write EpTxCtrl 0 (word_of NAK DATA0 false)
  after_naked 0) t
denote (point.NakIn e) v t = run concrete (do
  write EpRxCtrl e (word_of NAK DATA0 false)
  after_naked e) t
denote (point.Naked e) v t = run concrete (after_naked e) t
denote point.Disabled v t = rows concrete bus_reset_lem 2 (λ u. run concrete after_reset u) t
denote point.Untyped v t = rows concrete bus_reset_lem 1 (λ u. run concrete after_reset u) t
denote point.Single v t = rows concrete bus_reset_lem 0 (λ u. run concrete after_reset u) t
denote point.Reset v t = run concrete after_reset t
denote (point.PlacedOut e on) v t = run concrete (do
  write EpRxCtrl e (word_of (cond on ACK NAK) DATA0 true)
  after_words Out e false on) t
denote (point.PlacedIn e iso on) v t = run concrete (do
  write EpTLen e 0
  after_placed e iso on) t
denote (point.NoLength e iso on) v t = run concrete (after_placed e iso on) t
denote (point.Words d e iso on) v t = run concrete (after_words d e iso on) t
denote (point.Type d e on) v t = run concrete (after_type d e on) t
denote (point.Switch e on n) v t = switching e on n t

-- the access is handed out, and the operation is under way at a point
abbrev pub asked : Access → Point → Driver → List ℕ → tree.Out St ℕ
asked q p d b = asks q (d, b) (λ v t. denote p v t)

-- a begin's answer, with what is to be saved
abbrev pub meaning : Next → Driver → List ℕ → tree.Out St ℕ
meaning (next.Asks q c) d b = asked q (decode c) d b
meaning (next.Ends n) d b = ends n (d, b)

-- on the lent bytes before and after: what is handed out with r is what is left to run at p, whatever is brought there
abbrev pub Follows : Point → Access → Point → List ℕ → List ℕ → Type 0
Follows p q r xs ys = (v : ℕ) (b : List ℕ) → asked q r (view ys) b ≡ denote p v (view xs, b)

-- what a point awaits
abbrev pub awaits_at : Point → Awaits
awaits_at point.Enable = reading (width_of Ctrl)
awaits_at (point.Event n) = nothing
awaits_at point.Stalled = reading (width_of EpTxCtrl)
awaits_at (point.StallLen e) = nothing
awaits_at (point.StallWord d e) = reading (width_of EpTxCtrl)
awaits_at (point.Restarted e iso) = nothing
awaits_at (point.Woken d e) = nothing
awaits_at point.Flags = reading (width_of IntFg)
awaits_at point.Status = reading (width_of MisSt)
awaits_at (point.Released down) = nothing
awaits_at point.Address = nothing
awaits_at point.Ep0Out = nothing
awaits_at (point.NakIn e) = nothing
awaits_at (point.Naked e) = nothing
awaits_at point.Disabled = nothing
awaits_at point.Untyped = nothing
awaits_at point.Single = nothing
awaits_at point.Reset = nothing
awaits_at (point.PlacedOut e on) = nothing
awaits_at (point.PlacedIn e iso on) = nothing
awaits_at (point.NoLength e iso on) = nothing
awaits_at (point.Words d e iso on) = nothing
awaits_at (point.Type d e on) = nothing
awaits_at (point.Switch e on n) = nothing

-- row 16 turned round
unfoldable pub fits_at : Point → ℕ → Bool
fits_at p v = fits (awaits_at p) v

-- what it awaits is the access handed out with it
abbrev pub Awaited : Access → Point → Type 0
Awaited q p = awaited q ≡ awaits_at p

-- so of a begin, and what is to be saved is the point's record
abbrev pub Linked : Next → Type 0
Linked (next.Asks q c) = Awaited q (decode c) × (c ≡ with_tag BUS (as_numbers (decode c)))
Linked (next.Ends n) = Unit {0}
