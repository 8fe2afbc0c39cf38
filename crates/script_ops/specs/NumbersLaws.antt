-- Laws on the definitions of Numbers.antt: what was saved is found again
use Rattle.std.specs.Prelude.{◌≡◌, refl, Bool, true, false}
use Rattle.regs.specs.declared.Dir.{Dir}
use Rattle.regs.specs.declared.Dir.TheVariants.{Out, In}
use Rattle.script.specs.Statics.{is_on, flag}
use Rattle.script_ops.specs.Numbers.{dir_as, dir_of}

pub flag-back : (b : Bool) → is_on (flag b) ≡ b
unfolding is_on
flag-back true = refl
flag-back false = refl

pub dir-back : (d : Dir) → dir_of (dir_as d) ≡ d
dir-back Out = refl
dir-back In = refl
