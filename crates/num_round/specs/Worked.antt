-- Worked values of the definitions in `Whole`, among them those that a slip would change. A float stands by its bit
-- pattern.
use Rattle.std.specs.Prelude.{◌≡◌, refl, ℕ}
use Rattle.std.specs.Float.{binary32, binary64}
use Rattle.std.specs.Float.Ieee.{sub, of_int, to_unsigned, of_bits}
use Rattle.num_round.specs.Whole.{round_held, FloorIs}

-- ---- rounded half away from zero

-- 0.5 gives 1; half to even would give 0
half : round_held 65535 (of_bits binary32 0x3f00_0000) ≡ 1
unfolding round_held of_bits
half = refl

-- 1.5 gives 2
one_and_a_half : round_held 65535 (of_bits binary32 0x3fc0_0000) ≡ 2
unfolding round_held of_bits
one_and_a_half = refl

-- 2.5 gives 3; half to even would give 2
two-and-a-half : round_held 65535 (of_bits binary32 0x4020_0000) ≡ 3
unfolding round_held of_bits
two-and-a-half = refl

-- 14.5, the mean of P5, gives 15
mean-of-P5 : round_held 65535 (of_bits binary32 0x4168_0000) ≡ 15
unfolding round_held of_bits
mean-of-P5 = refl

-- the f32 next below 0.5 gives 0; its sum with 0.5 in f32 would be 1
below_half : round_held 65535 (of_bits binary32 0x3eff_ffff) ≡ 0
unfolding round_held of_bits
below_half = refl

-- 8388607.5, the largest f32 with a fraction, gives 8388608
largest-half : round_held 16777215 (of_bits binary32 0x4aff_ffff) ≡ 8388608
unfolding round_held of_bits
largest-half = refl

-- the smallest f32 above 0 gives 0
smallest : round_held 65535 (of_bits binary32 0x0000_0001) ≡ 0
unfolding round_held of_bits
smallest = refl

-- ---- held to 0..last

-- -0.4 gives 0
below-zero : round_held 65535 (of_bits binary32 0xbecc_cccd) ≡ 0
unfolding round_held of_bits
below-zero = refl

-- -0.5, which is -1 when rounded, gives 0
minus-half : round_held 65535 (of_bits binary32 0xbf00_0000) ≡ 0
unfolding round_held of_bits
minus-half = refl

-- -0.0 gives 0
minus_zero : round_held 65535 (of_bits binary32 0x8000_0000) ≡ 0
unfolding round_held of_bits
minus_zero = refl

-- 9.0 held to 0..1, as in P7, gives 1
above-last : round_held 1 (of_bits binary32 0x4110_0000) ≡ 1
unfolding round_held of_bits
above-last = refl

-- 1.0 held to 0..1 stays
at_last : round_held 1 (of_bits binary32 0x3f80_0000) ≡ 1
unfolding round_held of_bits
at_last = refl

-- the largest finite f32 gives last
largest : round_held 4294967295 (of_bits binary32 0x7f7f_ffff) ≡ 4294967295
unfolding round_held of_bits
largest = refl

-- +inf gives last
plus-infinity : (last : ℕ) → round_held last (of_bits binary32 0x7f80_0000) ≡ last
unfolding round_held of_bits
plus-infinity last = refl

-- -inf gives 0
minus-infinity : (last : ℕ) → round_held last (of_bits binary32 0xff80_0000) ≡ 0
unfolding round_held of_bits
minus-infinity last = refl

-- a NaN gives 0
not-a-number : (last : ℕ) → round_held last (of_bits binary32 0x7fc0_0000) ≡ 0
unfolding round_held of_bits
not-a-number last = refl

-- ---- from 2^24 on each f32 is whole, and stays

-- 2^24 - 1
before-2-24 : round_held 4294967295 (of_bits binary32 0x4b7f_ffff) ≡ 16777215
unfolding round_held of_bits
before-2-24 = refl

-- 2^24
at-2-24 : round_held 4294967295 (of_bits binary32 0x4b80_0000) ≡ 16777216
unfolding round_held of_bits
at-2-24 = refl

-- 2^24 + 2, the next f32
after-2-24 : round_held 4294967295 (of_bits binary32 0x4b80_0001) ≡ 16777218
unfolding round_held of_bits
after-2-24 = refl

-- 2^32 - 256, the last f32 below 2^32
before-2-32 : round_held 4294967295 (of_bits binary32 0x4f7f_ffff) ≡ 4294967040
unfolding round_held of_bits
before-2-32 = refl

-- 2^32 is held
at-2-32 : round_held 4294967295 (of_bits binary32 0x4f80_0000) ≡ 4294967295
unfolding round_held of_bits
at-2-32 = refl

-- ---- rounded down, and what is left

-- 2.75 gives 2 and 0.75
floor-2_75 : FloorIs (of_bits binary64 0x4006_0000_0000_0000) 2 (of_bits binary64 0x3fe8_0000_0000_0000)
unfolding of_bits to_unsigned of_int sub
floor-2_75 = record { index_is = refl; rest-is = refl }

-- 3.0 gives 3 and +0.0
floor-3 : FloorIs (of_bits binary64 0x4008_0000_0000_0000) 3 (of_bits binary64 0x0000_0000_0000_0000)
unfolding of_bits to_unsigned of_int sub
floor-3 = record { index_is = refl; rest-is = refl }

-- the f64 next below 3 gives 2, and 1 - 2^-51
floor-below-3 : FloorIs (of_bits binary64 0x4007_ffff_ffff_ffff) 2 (of_bits binary64 0x3fef_ffff_ffff_fffc)
unfolding of_bits to_unsigned of_int sub
floor-below-3 = record { index_is = refl; rest-is = refl }

-- -0.0 gives 0 and -0.0
floor-minus-zero : FloorIs (of_bits binary64 0x8000_0000_0000_0000) 0 (of_bits binary64 0x8000_0000_0000_0000)
unfolding of_bits to_unsigned of_int sub
floor-minus-zero = record { index_is = refl; rest-is = refl }

-- -0.25 gives 0 and -0.25
floor-negative : FloorIs (of_bits binary64 0xbfd0_0000_0000_0000) 0 (of_bits binary64 0xbfd0_0000_0000_0000)
unfolding of_bits to_unsigned of_int sub
floor-negative = record { index_is = refl; rest-is = refl }

-- a NaN gives 0 and a NaN
floor-not-a-number : FloorIs (of_bits binary64 0x7ff8_0000_0000_0000) 0 (of_bits binary64 0x7ff8_0000_0000_0000)
unfolding of_bits to_unsigned of_int sub
floor-not-a-number = record { index_is = refl; rest-is = refl }

-- 4294967295.5 gives 4294967295 and 0.5
floor-last : FloorIs (of_bits binary64 0x41ef_ffff_fff0_0000) 4294967295 (of_bits binary64 0x3fe0_0000_0000_0000)
unfolding of_bits to_unsigned of_int sub
floor-last = record { index_is = refl; rest-is = refl }

-- 2^32 gives 4294967295 and 1.0
floor-2-32 : FloorIs (of_bits binary64 0x41f0_0000_0000_0000) 4294967295 (of_bits binary64 0x3ff0_0000_0000_0000)
unfolding of_bits to_unsigned of_int sub
floor-2-32 = record { index_is = refl; rest-is = refl }

-- +inf gives 4294967295 and +inf
floor-plus-infinity : FloorIs (of_bits binary64 0x7ff0_0000_0000_0000) 4294967295 (of_bits binary64 0x7ff0_0000_0000_0000)
unfolding of_bits to_unsigned of_int sub
floor-plus-infinity = record { index_is = refl; rest-is = refl }

-- -inf gives 0 and -inf
floor-minus-infinity : FloorIs (of_bits binary64 0xfff0_0000_0000_0000) 0 (of_bits binary64 0xfff0_0000_0000_0000)
unfolding of_bits to_unsigned of_int sub
floor-minus-infinity = record { index_is = refl; rest-is = refl }
