-- Worked values of the definitions that the contracts of `num_convert` cite, which the checker computes.
use Rattle.std.specs.Prelude.{◌≡◌, refl}
use Rattle.std.specs.Float.{binary32, binary64}
use Rattle.std.specs.Float.Ieee.{lt, of_bits, of_int, round}
use Rattle.num_convert.specs.Convert.{held_to, whole_in}

pub record Worked : Type 0 where
  -- up to 2^24 an f32 holds every whole number
  pub sixteen-bits : whole_in binary32 65_535 ≡ of_bits binary32 0x477f_ff00
  -- 2^24 = 16,777,216
  pub two-to-24 : whole_in binary32 16_777_216 ≡ of_bits binary32 0x4b80_0000
  -- 2^24 + 1, halfway between two f32: down to 2^24, the even one
  pub tie_down : whole_in binary32 16_777_217 ≡ of_bits binary32 0x4b80_0000
  -- 2^24 + 3, halfway between the next two: up to 2^24 + 4 = 16,777,220
  pub two-to-24-and-4 : whole_in binary32 16_777_220 ≡ of_bits binary32 0x4b80_0002
  pub tie_up : whole_in binary32 16_777_219 ≡ of_bits binary32 0x4b80_0002
  -- no tie: 2^25 + 1 down to 2^25, 2^25 + 3 up to 2^25 + 4
  pub nearer-down : whole_in binary32 33_554_433 ≡ of_bits binary32 0x4c00_0000
  pub nearer-up : whole_in binary32 33_554_435 ≡ of_bits binary32 0x4c00_0001
  -- 2^32 - 1: up to 2^32 in f32, itself in f64
  pub most : whole_in binary32 4_294_967_295 ≡ of_bits binary32 0x4f80_0000
  pub most-f64 : whole_in binary64 4_294_967_295 ≡ of_bits binary64 0x41ef_ffff_ffe0_0000
  -- 0 is +0
  pub zero : whole_in binary32 0 ≡ of_bits binary32 0
  -- an f32 and the f64 of the same value are one value: 0.1 as an f32, 2^-149, -0, an infinity, NaN
  pub tenth : of_bits binary32 0x3dcc_cccd ≡ of_bits binary64 0x3fb9_9999_a000_0000
  pub unit : of_bits binary32 0x0000_0001 ≡ of_bits binary64 0x36a0_0000_0000_0000
  pub minus_zero : of_bits binary32 0x8000_0000 ≡ of_bits binary64 0x8000_0000_0000_0000
  pub infinity : of_bits binary32 0x7f80_0000 ≡ of_bits binary64 0x7ff0_0000_0000_0000
  pub not-a-number : of_bits binary32 0x7fc0_0000 ≡ of_bits binary64 0x7ff8_0000_0000_0000
  -- held to 0..3: -1 becomes 0, 4 becomes 3, 2.5 and the ends stay
  pub below : held_to (whole_in binary64 0) (whole_in binary64 3) (of_bits binary64 0xbff0_0000_0000_0000)
      ≡ whole_in binary64 0
  pub above : held_to (whole_in binary64 0) (whole_in binary64 3) (whole_in binary64 4) ≡ whole_in binary64 3
  pub inside :
      held_to (whole_in binary64 0) (whole_in binary64 3) (of_bits binary64 0x4004_0000_0000_0000)
      ≡ of_bits binary64 0x4004_0000_0000_0000
  pub at_low : held_to (whole_in binary64 0) (whole_in binary64 3) (whole_in binary64 0) ≡ whole_in binary64 0
  pub at_high : held_to (whole_in binary64 0) (whole_in binary64 3) (whole_in binary64 3) ≡ whole_in binary64 3
  -- the infinities become the ends; -0 and NaN stay
  pub infinite : held_to (whole_in binary64 0) (whole_in binary64 3) (of_bits binary64 0x7ff0_0000_0000_0000)
      ≡ whole_in binary64 3
  pub infinite-below : held_to (whole_in binary64 0) (whole_in binary64 3) (of_bits binary64 0xfff0_0000_0000_0000)
      ≡ whole_in binary64 0
  pub held-minus-zero :
      held_to (whole_in binary64 0) (whole_in binary64 3) (of_bits binary64 0x8000_0000_0000_0000)
      ≡ of_bits binary64 0x8000_0000_0000_0000
  pub held-nan :
      held_to (whole_in binary64 0) (whole_in binary64 3) (of_bits binary64 0x7ff8_0000_0000_0000)
      ≡ of_bits binary64 0x7ff8_0000_0000_0000
  -- where the low end is above the high one it comes first: 1 held to 3..0 is 3
  pub crossed : held_to (whole_in binary64 3) (whole_in binary64 0) (whole_in binary64 1) ≡ whole_in binary64 3

pub worked : Worked
unfolding held_to lt of_bits of_int round
worked = record {
  sixteen-bits = refl;
  two-to-24 = refl;
  tie_down = refl;
  two-to-24-and-4 = refl;
  tie_up = refl;
  nearer-down = refl;
  nearer-up = refl;
  most = refl;
  most-f64 = refl;
  zero = refl;
  tenth = refl;
  unit = refl;
  minus_zero = refl;
  infinity = refl;
  not-a-number = refl;
  below = refl;
  above = refl;
  inside = refl;
  at_low = refl;
  at_high = refl;
  infinite = refl;
  infinite-below = refl;
  held-minus-zero = refl;
  held-nan = refl;
  crossed = refl;
}
