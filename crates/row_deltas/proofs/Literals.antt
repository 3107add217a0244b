-- The constants of the code are those of the definitions, each by computing. Assumes nothing.
use mathlib.Core.Path.{◌≡◌, refl}
use lib.Ieee.{binary32, of_bits, of_int}
use Rattle.num_convert.specs.Convert.{whole_in}
use Rattle.dng.specs.Value.{nought, one}

-- 65535.0
pub largest : of_bits binary32 1199570688 ≡ whole_in binary32 65535
unfolding of_bits of_int
largest = refl

-- 0.0
pub zero_is : of_bits binary32 0 ≡ nought
unfolding of_bits
zero_is = refl

-- 1.0
pub one-is : of_bits binary32 1065353216 ≡ one
unfolding of_bits
one-is = refl
