-- Laws on the definitions of Codec.antt
use Rattle.std.specs.Prelude.{◌≡◌, refl}
use Rattle.script_ops.specs.NumbersLaws.{flag-back, dir-back}
use Rattle.driver.specs.declared.Point.{Point}
use Rattle.driver.specs.declared.Point.TheVariants as point
use Rattle.driver.specs.Codec.{as_numbers, encode, decode}

-- what was saved is found again
pub decode-encode : (p : Point) → decode (encode p) ≡ p
unfolding encode decode
decode-encode (point.Clear callback) = simp flag-back
decode-encode (point.Wait callback) = simp flag-back
decode-encode (point.Reset callback) = simp flag-back
decode-encode (point.ResetEnd callback) = simp flag-back
decode-encode (point.Host callback) = simp flag-back
decode-encode (point.Run callback) = simp flag-back
decode-encode point.IntEn = refl
decode-encode (point.MaxLen d kind ep) = simp dir-back
decode-encode (point.Place ep) = refl
decode-encode (point.Ep0Place maximum) = refl
decode-encode point.Ep0MaxLen = refl
decode-encode point.Ep0Rx = refl
decode-encode point.Ep0Tx = refl
decode-encode point.Ep0Packet = refl
decode-encode point.FrameNo = refl
decode-encode (point.ListMaxLen d kind ep left total) = simp dir-back
decode-encode (point.ListPlace d ep left total) = simp dir-back

-- `encode` is shut elsewhere
pub by-table : (p : Point) → encode p ≡ as_numbers p
unfolding encode
by-table p = refl
