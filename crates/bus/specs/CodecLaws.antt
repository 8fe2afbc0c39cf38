-- Laws on the definitions of Codec.antt
use Rattle.std.specs.Prelude.{◌≡◌, refl}
use Rattle.script_ops.specs.NumbersLaws.{flag-back, dir-back}
use Rattle.bus.specs.declared.Point.{Point}
use Rattle.bus.specs.declared.Point.TheVariants as point
use Rattle.bus.specs.Codec.{as_numbers, encode, decode}

pub decode-encode : (p : Point) → decode (encode p) ≡ p
unfolding encode decode
decode-encode point.Enable = refl
decode-encode (point.Event n) = refl
decode-encode point.Stalled = refl
decode-encode (point.StallLen e) = refl
decode-encode (point.StallWord d e) = simp dir-back
decode-encode (point.Restarted e iso) = simp flag-back
decode-encode (point.Woken d e) = simp dir-back
decode-encode point.Flags = refl
decode-encode point.Status = refl
decode-encode (point.Released iso) = simp flag-back
decode-encode point.Address = refl
decode-encode point.Ep0Out = refl
decode-encode (point.NakIn e) = refl
decode-encode (point.Naked e) = refl
decode-encode point.Disabled = refl
decode-encode point.Untyped = refl
decode-encode point.Single = refl
decode-encode point.Reset = refl
decode-encode (point.PlacedOut e on) = simp flag-back
decode-encode (point.PlacedIn e iso on) = simp flag-back
decode-encode (point.NoLength e iso on) = simp flag-back
decode-encode (point.Words d e iso on) = simp (dir-back, flag-back)
decode-encode (point.Type d e on) = simp (dir-back, flag-back)
decode-encode (point.Switch e on n) = simp flag-back

-- `encode` is shut elsewhere
pub by-table : (p : Point) → encode p ≡ as_numbers p
unfolding encode
by-table p = refl
