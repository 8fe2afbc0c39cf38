-- Laws on the definitions of Codec.antt
use Rattle.std.specs.Prelude.{◌≡◌, refl}
use Rattle.script_ops.specs.NumbersLaws.{dir-back}
use Rattle.endpoint.specs.declared.Point.{Point}
use Rattle.endpoint.specs.declared.Point.TheVariants as point
use Rattle.endpoint.specs.Codec.{encode, decode}

pub decode-encode : (p : Point) → decode (encode p) ≡ p
unfolding encode decode
decode-encode (point.Ack d e) = simp dir-back
decode-encode point.Wrote = refl
decode-encode (point.Loaded e) = refl
