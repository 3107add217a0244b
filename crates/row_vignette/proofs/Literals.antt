-- The constants of the code are those of the definitions, each by computing. Assumes nothing.
use mathlib.Core.Bool.{false}
use mathlib.Core.Path.{◌≡◌, refl}
use lib.Ieee.{inf, binary64, of_bits}
use Rattle.dng.specs.Value.{nought, one}

-- 0.0
pub zero_is : of_bits binary64 0 ≡ nought
unfolding of_bits
zero_is = refl

-- 1.0
pub one-is : of_bits binary64 4607182418800017408 ≡ one
unfolding of_bits
one-is = refl

-- f64::INFINITY
pub infinite : of_bits binary64 0x7ff0_0000_0000_0000 ≡ inf false
unfolding of_bits
infinite = refl
