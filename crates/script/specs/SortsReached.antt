-- A run of the interrupt with 4,056 readings over a state whose sorts stay: no smaller bound holds of every one
use Rattle.std.specs.Prelude.{Bool, true, false, ◌∷◌, ◌≡◌, refl, ℕ, zero, suc}
use Rattle.std.proofs.Common.{sym}
use Rattle.bits.specs.Bit.{bit_is_set, with_bit}
use Rattle.bits.specs.Walk.{bits_from}
use Rattle.regs.specs.declared.Dir.{Dir}
use Rattle.regs.specs.declared.Dir.TheVariants.{Out, In}
use Rattle.regs.specs.ControlWord.{toggle, is_data1}
use Rattle.regs.specs.Enables.{in_enabled, out_enabled}
use Rattle.regs.specs.Status.{endpoint, token_numbered, token, is_out, is_sof, is_in}
use Rattle.script.specs.Cells.{Cell, Val, globals-cell, control-cell, allocator-cell, ep-cell, request-cell}
use Rattle.script.specs.Cells.{paced_cell}
use Rattle.script.specs.Script.{Ops, run}
use Rattle.frame.specs.Usb20.{frame_number, microframe, index_of, frame_of}
use Rattle.frame.specs.Advance.{is_none, previous, in_previous}
use Rattle.script.specs.Statics.{is_on, every_iso_in, iso_outs}
use Rattle.script.specs.IsoIn.{sof_walk, late_walk, leaving}
use Rattle.script.specs.IsoOut.{arriving, entry, check_walk}
use Rattle.script.specs.Handler.{looks, out_naks, in_naks, repeated, same_out, waits_for_iso, waits_for_bulk, iso_for}
use Rattle.script.specs.Handler.{own_in}
use Rattle.script.specs.Calls.{interrupt_code}
use Rattle.script.specs.Readings.{Continues, readings}
use Rattle.script.specs.ReadingsReached.{plain, cells, standing, zeros}
use Rattle.script.specs.TogglesLaws.{apart}
use Rattle.script.specs.TransferKinds.{Among, Shows, Sorted}

-- every endpoint is isochronous but EP0 and OUT 1
abbrev all_but : Dir → ℕ → Bool
all_but Out zero = false
all_but Out (suc zero) = false
all_but Out (suc (suc e)) = true
all_but In zero = false
all_but In (suc e) = true

abbrev held : (c : Cell) → Val c
held c = cells 0xFFFC 0xFFFE all_but c

-- one state, which stands still
abbrev still : Ops Unit
still = standing (λ c s. held c)

outs-are : Among (all_but Out) 0xFFFC
unfolding bit_is_set
outs-are zero h s = apart (sym s)
outs-are (suc zero) h s = apart (sym s)
outs-are (suc (suc e)) h s = refl

ins-are : Among (all_but In) 0xFFFE
unfolding bit_is_set
ins-are zero h s = apart (sym s)
ins-are (suc e) h s = refl

flag_is : (b : Bool) → is_on (plain b).iso ≡ b
unfolding is_on
flag_is true = refl
flag_is false = refl

shown : (c : Cell) → Shows all_but c (held c)
shown globals-cell = (outs-are, ins-are)
shown control-cell = tt
shown allocator-cell = tt
shown (ep-cell d e) = flag_is (all_but d e)
shown (request-cell d e) = tt
shown (paced_cell e) = tt

ep0-is : (d : Dir) → all_but d 0 ≡ false
ep0-is Out = refl
ep0-is In = refl

pub sorted : Sorted still all_but (λ s. Unit {0})
sorted = record { ep0 = ep0-is; shows = λ c s k. shown c; put = λ c v s k. tt; act = λ q h s k. tt; hand = λ q s k. tt }

-- int_fg a transfer; the SIE busy; OUT 1; then every reading 0
abbrev longest : Continues Unit
longest = (0, tt) ∷ (2, tt) ∷ (0, tt) ∷ (1, tt) ∷ zeros tt 4200

pub sorted-reached : readings (run still interrupt_code tt) longest ≡ 4056
unfolding readings looks sof_walk late_walk check_walk bit_is_set bits_from in_enabled out_enabled is_on every_iso_in iso_outs
    with_bit endpoint token_numbered token is_out is_sof is_in toggle is_data1 frame_number microframe index_of frame_of is_none
    previous in_previous leaving arriving entry out_naks in_naks repeated same_out waits_for_iso waits_for_bulk iso_for own_in
sorted-reached = refl
