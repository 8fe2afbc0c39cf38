use Rattle.std.specs.Prelude.{◌≡◌, refl, Bool, true, false}
use Rattle.std.proofs.Common.{sym, arith, length}
use mir.Val.{bool_byte}
use Rattle.bits.specs.Bit.{digit}
use Rattle.channels.specs.ChannelsLaws.{flagged-none, flagged-more}
use Rattle.channels.proofs.mark.Goals as goal

byte-digit : (b : Bool) → bool_byte b ≡ digit b
byte-digit true = refl
byte-digit false = refl

pub loop-i-init : goal.loop-i-init
loop-i-init c = sym (flagged-none _ _)

pub loop-i-preserved : goal.loop-i-preserved
loop-i-preserved c =
    rw (flagged-more c.args.list.now c.args.set c.loop-i.i, ← c.loop-i.invariant, c.is_in.ensures, byte-digit) refl

pub returns : goal.returns
returns c =
    let e : c.loop-i.i ≡ length c.args.list.now = omega arith in
    rw e at c.loop-i.invariant
