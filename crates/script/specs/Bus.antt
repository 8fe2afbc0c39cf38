-- The bus: stalls (mod.rs 1053-1108), reset, enable, poll (1187-1266), endpoint_set_enabled (1268-1330)
use Rattle.std.specs.Prelude.{Bool, true, false, not, cond, ◌&&◌, ℕ, zero, suc, eqb}
use Rattle.regs.specs.declared.Reg.TheVariants.{IntFg, MisSt, Ctrl, DevAd, EpConfig, EpTLen, EpRxCtrl, EpTxCtrl}
use Rattle.regs.specs.declared.Dir.{Dir}
use Rattle.regs.specs.declared.Dir.TheVariants.{Out, In}
use Rattle.regs.specs.Registers.{ctrl_of}
use Rattle.regs.specs.ControlWord.{ACK, NYET, NAK, DATA0, word_of, stall, is_stalled}
use Rattle.regs.specs.Flags.{bus_rst, suspend, SUSPEND}
use Rattle.regs.specs.MisStatus.{suspended}
use Rattle.regs.specs.IntEn.{with_bus_rst, with_suspend}
use Rattle.regs.specs.Ctrl.{pulled_up}
use Rattle.regs.specs.Enables as enables
use Rattle.script.specs.Cells.{EpCore, globals-cell, ep-cell, paced_cell}
use Rattle.script.specs.Script.{Script, ret, done, test, ◌>>=◌, ◌>>◌, read, write, get, put, act, hand, row, when}
use Rattle.script.specs.Script.{reset_ring, set_enabled_lem, place, switch, bus_reset_lem}
use Rattle.frame.specs.Advance.{NO_FRAME}
use Rattle.script.specs.Statics.{is_on, flag, with_tog, with_armed, renewed, completed, with_power, modify_ep}
use Rattle.script.specs.Statics.{modify_reg, modify_int_en, modify_ep_type, wake, wake_all}

-- ---- `set_endpoint_stalled`, 1053-1099

-- un-stalled: DATA0, automatic but for EP0 and isochronous endpoints
unfoldable pub restarted : ℕ → ℕ → EpCore → ℕ
restarted response ep s = word_of (cond (is_on s.iso) NYET response) DATA0 (not (eqb ep 0) && not (is_on s.iso))

-- a read still waiting stays armed
unfoldable pub restarted_out : ℕ → EpCore → ℕ
restarted_out ep s = restarted (cond (is_on s.armed) ACK NAK) ep s

unfoldable pub restarted_in : ℕ → EpCore → ℕ
restarted_in ep s = restarted NAK ep s

abbrev pub set_stalled : {i : Bool} → Dir → ℕ → Bool → Script i Unit
set_stalled Out ep true = do
  modify_reg EpRxCtrl ep stall
  wake Out ep
set_stalled In ep true = do
  write EpTLen ep 0
  modify_reg EpTxCtrl ep stall
  wake In ep
set_stalled Out ep false = do
  s ← get (ep-cell Out ep)
  put (ep-cell Out ep) (with_tog 0 s)
  write EpRxCtrl ep (restarted_out ep s)
  wake Out ep
set_stalled In ep false = do
  s ← get (ep-cell In ep)
  put (ep-cell In ep) (with_tog 0 s)
  write EpTxCtrl ep (restarted_in ep s)
  -- a write waiting on the stalled endpoint finishes (its data is dropped)
  when (not (is_on s.iso)) (modify_ep In ep completed)
  wake In ep

-- `is_endpoint_stalled`, 1101-1108
abbrev pub is_endpoint_stalled : {i : Bool} → Dir → ℕ → Script i ℕ
is_endpoint_stalled d ep = do
  word ← read (ctrl_of d) ep
  ret (flag (is_stalled word))

-- ---- `Bus`

-- `enable`, 1225-1227
abbrev pub enable : {i : Bool} → Script i Unit
enable = modify_reg Ctrl 0 pulled_up

-- `bus_reset`, 1202-1206: `n` endpoints from `ep` on answer NAK
unfoldable pub nak_all : {i : Bool} → ℕ → ℕ → Script i Unit
nak_all zero ep = done
nak_all (suc n) ep = do
  write EpTxCtrl ep (word_of NAK DATA0 false)
  write EpRxCtrl ep (word_of NAK DATA0 false)
  nak_all n (suc ep)

-- the row disables all endpoints, resets all records and ends with the release of the flag (1245)
abbrev pub bus_reset : Script false Unit
bus_reset = do
  write DevAd 0 0
  write EpRxCtrl 0 (word_of ACK DATA0 false)
  write EpTxCtrl 0 (word_of NAK DATA0 false)
  nak_all 15 1
  row bus_reset_lem
  wake_all

-- the events of `poll`: 0 not yet, 1 power detected, 2 reset, 3 suspend, 4 resume
abbrev pub poll : Script false ℕ
poll = do
  g ← get globals-cell
  test (is_on g.power)
      (do
        flags ← read IntFg 0
        test (bus_rst flags)
            (do
              bus_reset
              modify_int_en (λ w. with_bus_rst w true)
              ret 2)
            (test (suspend flags)
            (do
              m ← read MisSt 0
              write IntFg 0 SUSPEND
              modify_int_en (λ w. with_suspend w true)
              ret (cond (suspended m) 3 4))
            (ret 0)))
      (do
        put globals-cell (with_power 1 g)
        ret 1)

-- ---- `endpoint_set_enabled`, 1268-1330

-- 1324-1325, 1310-1311: ep_type's bit, then ep_config's
abbrev pub kept : {i : Bool} → Dir → ℕ → Bool → Bool → Script i Unit
kept d ep iso on = do
  modify_ep_type (λ w. enables.with_on w d ep (iso && on))
  act (set_enabled_lem d ep on)
  g ← get globals-cell
  write EpConfig 0 g.ep_config

-- not isochronous: armed as soon as it's enabled
abbrev pub set_enabled_out : {i : Bool} → ℕ → Bool → Script i Unit
set_enabled_out ep on = do
  act (reset_ring Out ep)
  modify_ep Out ep (λ s. with_armed (flag on) (renewed s))
  hand (place Out ep)
  write EpRxCtrl ep (word_of (cond on ACK NAK) DATA0 true)
  kept Out ep false on

abbrev pub set_enabled_in : {i : Bool} → ℕ → Bool → Bool → Script i Unit
set_enabled_in ep iso on = do
  act (reset_ring In ep)
  modify_ep In ep renewed
  put (paced_cell ep) NO_FRAME
  hand (place In ep)
  write EpTLen ep 0
  write EpTxCtrl ep (word_of (cond (iso && on) NYET NAK) DATA0 (not iso))
  kept In ep iso on

abbrev pub set_enabled : Dir → ℕ → Bool → Script false Unit
set_enabled Out ep on = do
  s ← get (ep-cell Out ep)
  test (is_on s.iso) (row (switch ep on)) (set_enabled_out ep on)
  wake Out ep
set_enabled In ep on = do
  s ← get (ep-cell In ep)
  set_enabled_in ep (is_on s.iso) on
  wake In ep
