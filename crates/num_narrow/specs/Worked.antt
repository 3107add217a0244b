-- Worked values of `narrow`, from the f64's bits to the f32's, which the checker computes.
use Rattle.std.specs.Prelude.{◌≡◌, refl}
use Rattle.std.specs.Float.{binary32, binary64}
use Rattle.std.specs.Float.Ieee.{of_bits, round}
use Rattle.num_narrow.specs.Narrow.{narrow}

pub record Worked : Type 0 where
  -- 0.1, the nearest f64, is the nearest f32
  pub tenth : narrow (of_bits binary64 0x3fb9_9999_9999_999a) ≡ of_bits binary32 0x3dcc_cccd
  -- halfway between 1 and the next f32: down to 1, whose last digit is even
  pub tie_down : narrow (of_bits binary64 0x3ff0_0000_1000_0000) ≡ of_bits binary32 0x3f80_0000
  -- halfway between that next f32 and the one after it: up, to the even one
  pub tie_up : narrow (of_bits binary64 0x3ff0_0000_3000_0000) ≡ of_bits binary32 0x3f80_0002
  -- a bit less and a bit more than the first tie
  pub under-tie : narrow (of_bits binary64 0x3ff0_0000_0fff_ffff) ≡ of_bits binary32 0x3f80_0000
  pub over-tie : narrow (of_bits binary64 0x3ff0_0000_1000_0001) ≡ of_bits binary32 0x3f80_0001
  -- 2^-1074, the smallest positive f64: 0, and with its sign -0
  pub least : narrow (of_bits binary64 0x0000_0000_0000_0001) ≡ of_bits binary32 0x0000_0000
  pub least-negative : narrow (of_bits binary64 0x8000_0000_0000_0001) ≡ of_bits binary32 0x8000_0000
  -- 2^-149, the smallest positive f32, is itself
  pub unit : narrow (of_bits binary64 0x36a0_0000_0000_0000) ≡ of_bits binary32 0x0000_0001
  -- half of it: a tie, to 0; a bit more than half: up
  pub half-unit : narrow (of_bits binary64 0x3690_0000_0000_0000) ≡ of_bits binary32 0x0000_0000
  pub over-half-unit : narrow (of_bits binary64 0x3690_0000_0000_0001) ≡ of_bits binary32 0x0000_0001
  -- one and a half of it: a tie, to 2
  pub unit-and-half : narrow (of_bits binary64 0x36a8_0000_0000_0000) ≡ of_bits binary32 0x0000_0002
  -- the f64 just below 2^-126: up to 2^-126, the smallest normal f32
  pub into-normal : narrow (of_bits binary64 0x380f_ffff_ffff_ffff) ≡ of_bits binary32 0x0080_0000
  -- the largest f32 is itself
  pub largest : narrow (of_bits binary64 0x47ef_ffff_e000_0000) ≡ of_bits binary32 0x7f7f_ffff
  -- 2^128 - 2^103, halfway between it and 2^128: an infinity; the f64 just below: the largest f32
  pub overflow : narrow (of_bits binary64 0x47ef_ffff_f000_0000) ≡ of_bits binary32 0x7f80_0000
  pub under-overflow : narrow (of_bits binary64 0x47ef_ffff_efff_ffff) ≡ of_bits binary32 0x7f7f_ffff
  -- the largest f64, and its negative: the infinities
  pub largest-f64 : narrow (of_bits binary64 0x7fef_ffff_ffff_ffff) ≡ of_bits binary32 0x7f80_0000
  pub most-negative : narrow (of_bits binary64 0xffef_ffff_ffff_ffff) ≡ of_bits binary32 0xff80_0000
  -- -0, the infinities and NaN stay
  pub minus_zero : narrow (of_bits binary64 0x8000_0000_0000_0000) ≡ of_bits binary32 0x8000_0000
  pub infinity : narrow (of_bits binary64 0x7ff0_0000_0000_0000) ≡ of_bits binary32 0x7f80_0000
  pub minus-infinity : narrow (of_bits binary64 0xfff0_0000_0000_0000) ≡ of_bits binary32 0xff80_0000
  pub not-a-number : narrow (of_bits binary64 0x7ff8_0000_0000_0000) ≡ of_bits binary32 0x7fc0_0000

pub worked : Worked
unfolding narrow of_bits round
worked = record {
  tenth = refl;
  tie_down = refl;
  tie_up = refl;
  under-tie = refl;
  over-tie = refl;
  least = refl;
  least-negative = refl;
  unit = refl;
  half-unit = refl;
  over-half-unit = refl;
  unit-and-half = refl;
  into-normal = refl;
  largest = refl;
  overflow = refl;
  under-overflow = refl;
  largest-f64 = refl;
  most-negative = refl;
  minus_zero = refl;
  infinity = refl;
  minus-infinity = refl;
  not-a-number = refl;
}
