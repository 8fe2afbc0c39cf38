-- Laws on the definitions of Codec.antt
use Rattle.std.specs.Prelude.{◌≡◌, refl}
use Rattle.script_ops.specs.NumbersLaws.{flag-back, dir-back}
use Rattle.control.specs.declared.Point.{Point}
use Rattle.control.specs.declared.Point.TheVariants as point
use Rattle.control.specs.Codec.{as_numbers, encode, decode}

pub decode-encode : (p : Point) → decode (encode p) ≡ p
unfolding encode decode
decode-encode point.Wrote = refl
decode-encode (point.Ack d) = simp dir-back
decode-encode point.StatusLen = refl
decode-encode point.Status = refl
decode-encode point.StallIn = refl
decode-encode point.StalledIn = refl
decode-encode point.StallOut = refl
decode-encode (point.Closing n first) = simp flag-back
decode-encode (point.Loaded first) = simp flag-back

-- `encode` is shut elsewhere
pub by-table : (p : Point) → encode p ≡ as_numbers p
unfolding encode
by-table p = refl
