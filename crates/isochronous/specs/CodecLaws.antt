-- Laws on the definitions of Codec.antt
use Rattle.std.specs.Prelude.{◌≡◌, refl}
use Rattle.isochronous.specs.declared.complete.Complete.TheVariants as complete
use Rattle.isochronous.specs.declared.advance.Advance.{Advance}
use Rattle.isochronous.specs.declared.advance.Advance.TheVariants as point
use Rattle.isochronous.specs.Codec.{encode, decode}

pub decode-encode : (p : Advance) → decode (encode p) ≡ p
unfolding encode decode
decode-encode (point.FrameNo e) = refl
decode-encode (point.Completing e left frame (complete.Sent of)) = refl
decode-encode (point.Completing e left frame (complete.Loaded of)) = refl
