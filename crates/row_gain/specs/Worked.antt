-- Worked values of a gain map, each by computing. Document 01, 'What each does to a value v', GainMap. A float stands
-- by its bit pattern.
use Rattle.std.specs.Prelude.{ℕ, ◌≡◌, refl, false, List, [], ◌∷◌, ◌++◌, replicate, Float}
use Rattle.std.specs.Float.{nan, inf, binary32, binary64}
use Rattle.std.specs.Float.Ieee.{of_bits, of_int, lt, add, sub, mul, div, round, to_unsigned}
use Rattle.num_words.specs.Words.{big}
use Rattle.num_narrow.specs.Narrow.{narrow}
use Rattle.num_convert.specs.Convert.{held_to}
use Rattle.dng.specs.Value.{nought, position, lower, upper, share, mix, line_at, gain_of}

-- ---- positions

-- unless the spacing is above 0, the position is 0: a spacing of 0, and a NaN
pub no-spacing : (at full : ℕ) (origin : Float) (n : ℕ) → position at full origin nought n ≡ nought
unfolding position lt
no-spacing at full origin n = refl

pub nan-spacing : (at full : ℕ) (origin : Float) (n : ℕ) → position at full origin nan n ≡ nought
unfolding position lt
nan-spacing at full origin n = refl

-- column 1 of 2, origin 0, spacing 1: a half, between the points 0 and 1
pub half-way : position 1 2 nought (of_bits binary64 0x3ff0_0000_0000_0000) 2 ≡ of_bits binary64 0x3fe0_0000_0000_0000
unfolding position held_to lt of_int sub div of_bits
half-way = refl

-- a full size of 0 counts as 1: column 1, origin 0, spacing 4
pub no_size : position 1 0 nought (of_bits binary64 0x4010_0000_0000_0000) 2 ≡ of_bits binary64 0x3fd0_0000_0000_0000
unfolding position held_to lt of_int sub div of_bits
no_size = refl

-- before the origin: held to 0; past the last point: held to n−1
pub held_low : position 0 2 (of_bits binary64 0x3ff0_0000_0000_0000) (of_bits binary64 0x3ff0_0000_0000_0000) 2 ≡ nought
unfolding position held_to lt of_int sub div of_bits
held_low = refl

pub held_high : position 9 2 nought (of_bits binary64 0x3ff0_0000_0000_0000) 3 ≡ of_bits binary64 0x4000_0000_0000_0000
unfolding position held_to lt of_int sub div of_bits
held_high = refl

-- −0 stays: column 0, origin 1, an infinite spacing; and so does the share
pub minus_zero : position 0 2 (of_bits binary64 0x3ff0_0000_0000_0000) (inf false) 2
    ≡ of_bits binary64 0x8000_0000_0000_0000
unfolding position held_to lt of_int sub div of_bits
minus_zero = refl

pub minus-zero-lower : lower (of_bits binary64 0x8000_0000_0000_0000) ≡ 0
unfolding of_bits to_unsigned
minus-zero-lower = refl

pub minus-zero-share : share (of_bits binary64 0x8000_0000_0000_0000) ≡ of_bits binary32 0x8000_0000
unfolding of_bits to_unsigned of_int sub narrow round
minus-zero-share = refl

-- a NaN stays too, as the share; its lower point is 0
pub nan-position : position 0 2 nan (of_bits binary64 0x3ff0_0000_0000_0000) 2 ≡ nan
unfolding position held_to lt of_int sub div of_bits
nan-position = refl

pub nan-lower : lower nan ≡ 0
unfolding to_unsigned
nan-lower = refl

pub nan-share : share nan ≡ nan
unfolding to_unsigned of_int sub narrow
nan-share = refl

-- the upper point is the next one, held to n−1
pub upper-next : upper 3 (of_bits binary64 0x3fe0_0000_0000_0000) ≡ 1
unfolding of_bits to_unsigned
upper-next = refl

pub upper-held : upper 3 (of_bits binary64 0x4000_0000_0000_0000) ≡ 2
unfolding of_bits to_unsigned
upper-held = refl

-- ---- gains, which stand from byte 76 of the body on

abbrev map : List ℕ → List ℕ
map gains = replicate 76 0 ++ gains

-- 1, 2, 3 and 4
abbrev four : List ℕ
four = map (0x3f ∷ 0x80 ∷ 0 ∷ 0 ∷ 0x40 ∷ 0 ∷ 0 ∷ 0 ∷ 0x40 ∷ 0x40 ∷ 0 ∷ 0 ∷ 0x40 ∷ 0x80 ∷ 0 ∷ 0 ∷ [])

-- as 2 by 2 points: 2.5 in the middle
pub middle : gain_of four 2 2 1 0 (of_bits binary64 0x3fe0_0000_0000_0000) (of_bits binary64 0x3fe0_0000_0000_0000)
    ≡ of_bits binary32 0x4020_0000
unfolding gain_of line_at mix big of_bits to_unsigned of_int sub mul add narrow round
middle = refl

-- at the point of row 0, column 1: 2; of row 1, column 0: 3
pub column-one : gain_of four 2 2 1 0 nought (of_bits binary64 0x3ff0_0000_0000_0000) ≡ of_bits binary32 0x4000_0000
unfolding gain_of line_at mix big of_bits to_unsigned of_int sub mul add narrow round
column-one = refl

pub row_one : gain_of four 2 2 1 0 (of_bits binary64 0x3ff0_0000_0000_0000) nought ≡ of_bits binary32 0x4040_0000
unfolding gain_of line_at mix big of_bits to_unsigned of_int sub mul add narrow round
row_one = refl

-- as 1 by 2 points of 2 planes: plane 0 of column 1 is the third, plane 1 of column 0 the second
pub plane-zero : gain_of four 1 2 2 0 nought (of_bits binary64 0x3ff0_0000_0000_0000) ≡ of_bits binary32 0x4040_0000
unfolding gain_of line_at mix big of_bits to_unsigned of_int sub mul add narrow round
plane-zero = refl

pub plane-one : gain_of four 1 2 2 1 nought nought ≡ of_bits binary32 0x4000_0000
unfolding gain_of line_at mix big of_bits to_unsigned of_int sub mul add narrow round
plane-one = refl

-- rows first: of 1, 1, 1 and 2^24, a quarter down and half across, 2097153; columns first would give 2097152.75
pub rows-first :
    gain_of (map (0x3f ∷ 0x80 ∷ 0 ∷ 0 ∷ 0x3f ∷ 0x80 ∷ 0 ∷ 0 ∷ 0x3f ∷ 0x80 ∷ 0 ∷ 0 ∷ 0x4b ∷ 0x80 ∷ 0 ∷ 0 ∷ [])) 2 2 1 0
    (of_bits binary64 0x3fd0_0000_0000_0000) (of_bits binary64 0x3fe0_0000_0000_0000)
    ≡ of_bits binary32 0x4a00_0004
unfolding gain_of line_at mix big of_bits to_unsigned of_int sub mul add narrow round
rows-first = refl

-- an infinite gain, the only one: its difference with itself is no number
pub infinite : gain_of (map (0x7f ∷ 0x80 ∷ 0 ∷ 0 ∷ [])) 1 1 1 0 nought nought ≡ nan
unfolding gain_of line_at mix big of_bits to_unsigned of_int sub mul add narrow round
infinite = refl
