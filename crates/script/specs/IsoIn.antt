-- Isochronous IN: completions and loads (mod.rs 397-414, 558-608), paced advance (323-340)
use Rattle.std.specs.Prelude.{Bool, not, ◌&&◌, List, [], ◌∷◌, ℕ, zero, suc, eqb}
use Rattle.bits.specs.Bit.{bit_is_set, with_bit}
use Rattle.bits.specs.Walk.{set_bits}
use Rattle.regs.specs.declared.Reg.TheVariants.{MisSt, IntSt, FrameNo, EpTLen}
use Rattle.regs.specs.declared.Dir.TheVariants.{In}
use Rattle.regs.specs.MisStatus.{sie_free}
use Rattle.regs.specs.Status.{endpoint, is_in}
use Rattle.regs.specs.Enables as enables
use Rattle.script.specs.Cells.{globals-cell, ep-cell, paced_cell}
use Rattle.script.specs.Script.{Script, ret, done, test, ◌>>=◌, ◌>>◌, read, write, callback, get, put, is, look}
use Rattle.script.specs.Script.{act, hand, when, waiting, next_len_lem, complete, send}
use Rattle.frame.specs.Usb20.{index_of, frame_of}
use Rattle.frame.specs.Advance.{NO_FRAME, previous, completions, in_previous}
use Rattle.script.specs.Statics.{is_on, with_last_frame, with_sof_frame, with_paced, modify, modify_ep, wake, every_iso_in}

-- `first_in_frame`, 397-403: the frame is recorded in either case
abbrev pub first_in_frame : {i : Bool} → ℕ → ℕ → Script i Bool
first_in_frame ep frame = do
  s ← get (ep-cell In ep)
  put (ep-cell In ep) (with_last_frame frame s)
  ret (not (eqb s.last_frame frame))

-- `iso_in_load`, 593-608: the oldest packet, or a zero-length one. `send` marks the slot as loaded in the call that
-- hands out its address
abbrev pub iso_in_load : {i : Bool} → ℕ → Script i Unit
iso_in_load ep = do
  b ← is (waiting In ep)
  test b
      (do
        hand (send ep)
        n ← look (next_len_lem In ep)
        write EpTLen ep n)
      (write EpTLen ep 0)

-- `iso_in_complete`, 405-414: the loaded packet went out, load the next
abbrev pub iso_in_complete : {i : Bool} → ℕ → Script i Unit
iso_in_complete ep = do
  act (complete ep)
  iso_in_load ep
  wake In ep

-- its IN is on the bus
unfoldable pub leaving : ℕ → ℕ → Bool
leaving st ep = is_in st && eqb (endpoint st) ep

-- `on_sof`, 573-582, one endpoint: it went out unseen in the last microframe
abbrev pub unseen : {i : Bool} → ℕ → ℕ → Script i Unit
unseen frame ep = do
  modify_ep In ep (with_last_frame (frame_of (previous (index_of frame))))
  iso_in_complete ep

abbrev pub sof_one : {i : Bool} → ℕ → ℕ → Script i Unit
sof_one frame ep = do
  s ← get (ep-cell In ep)
  test (in_previous s.last_frame frame) done (do
    m ← read MisSt 0
    test (sie_free m) (unseen frame ep) (do
      st ← read IntSt 0
      test (leaving st ep) done (unseen frame ep)))

-- lowest number first
unfoldable pub sof_walk : {i : Bool} → ℕ → List ℕ → Script i Unit
sof_walk frame [] = done
sof_walk frame (ep ∷ eps) = do
  sof_one frame ep
  sof_walk frame eps

-- `on_sof`, 564-591
abbrev pub on_sof : {i : Bool} → ℕ → Script i Unit
on_sof frame = do
  modify (with_sof_frame frame)
  g ← get globals-cell
  sof_walk frame (set_bits (every_iso_in g))
  g ← get globals-cell
  when (is_on g.callback) callback

-- 736-746, one endpoint: what raised a late entry completed before the OUT
abbrev pub late_one : {i : Bool} → ℕ → ℕ → Script i Unit
late_one frame ep = do
  b ← first_in_frame ep frame
  when b (iso_in_complete ep)

unfoldable pub late_walk : {i : Bool} → ℕ → List ℕ → Script i Unit
late_walk frame [] = done
late_walk frame (ep ∷ eps) = do
  late_one frame ep
  late_walk frame eps

-- `for _ in 0..n`
unfoldable pub iso_in_completions : {i : Bool} → ℕ → ℕ → Script i Unit
iso_in_completions zero ep = done
iso_in_completions (suc n) ep = do
  iso_in_complete ep
  iso_in_completions n ep

-- `iso_in_advance`, 323-340
abbrev pub iso_in_advance : {i : Bool} → ℕ → Script i Unit
iso_in_advance ep = do
  g ← get globals-cell
  when (bit_is_set g.iso_in_paced ep) (
      test (enables.is_on g.ep_config In ep)
      (do
        frame ← read FrameNo 0
        last ← get (paced_cell ep)
        iso_in_completions (completions last (index_of frame)) ep
        put (paced_cell ep) (frame_of (index_of frame)))
      (put (paced_cell ep) NO_FRAME))

-- `iso_in_set_paced`, 308-317
abbrev pub iso_in_set_paced : {i : Bool} → ℕ → Bool → Script i Unit
iso_in_set_paced ep paced = do
  g ← get globals-cell
  put globals-cell (with_paced (with_bit g.iso_in_paced ep paced) g)
  put (paced_cell ep) NO_FRAME

-- `microframe`, 236-238
abbrev pub microframe : {i : Bool} → Script i ℕ
microframe = do
  frame ← read FrameNo 0
  ret (index_of frame)
