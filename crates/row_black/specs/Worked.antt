-- Worked values of the definitions, each by computing.
use Rattle.std.specs.Prelude.{ℕ, true, false, List, [], ◌∷◌, ◌≡◌, refl, Float, Ok, Err}
use Rattle.std.specs.Float.{nan, inf, binary32}
use Rattle.std.specs.Float.Ieee.{of_bits, of_int, round, add, sub, mul, lt}
use Rattle.pointwise.specs.Points.{each}
use Rattle.num_convert.specs.Convert.{whole_in}
use Rattle.dng.specs.Value.{nought}
use Rattle.row_black.specs.declared.Field.{Field}
use Rattle.row_black.specs.declared.Pattern.{Pattern}
use Rattle.row_black.specs.declared.Refused.TheVariants.{Range, Tables, Samples}
use Rattle.row_black.specs.Black.{Levels, levels, with_delta, black_at, levelled_by, levelled, levelled_at, field_in_range, samples_in, tabled, sampled, answer_of, number_of, BlackOut, black_out}

abbrev w : ℕ → Float
w n = whole_in binary32 n

-- −0, 1e8, −1e8 and −2
abbrev minus_zero : Float
minus_zero = of_bits binary32 0x8000_0000

abbrev large : Float
large = of_bits binary32 0x4cbe_bc20

abbrev minus_large : Float
minus_large = of_bits binary32 0xccbe_bc20

abbrev minus_two : Float
minus_two = of_bits binary32 0xc000_0000

-- a pattern of h lines and c columns
abbrev size : (h c : ℕ) → Pattern
size h c = record { height = h; width = c }

-- black b and scale 1 everywhere, with these deltas
abbrev flat : Float → (rows columns : List Float) → Levels
flat b r c = levels (size 1 1) (b ∷ []) (w 1 ∷ []) r c

-- a frame of c by h pixels at (x, y)
abbrev field : (c h planes x y : ℕ) → Field
field c h planes x y = record { width = c; height = h; planes = planes; x0 = x; y0 = y }

-- ---- a value

pub record Values : Type 0 where
  -- (3 − 1)·2: the black goes first
  pub black-first : levelled_by (w 1) (w 2) (w 3) ≡ w 4
  -- what is not above 0 is +0: 1 − 3, 0 − 0 of −0, NaN, −∞
  pub below : levelled_by (w 3) (w 1) (w 1) ≡ nought
  pub zero-positive : levelled_by nought (w 1) minus_zero ≡ nought
  pub no_number : levelled_by nought (w 1) nan ≡ nought
  pub black-no-number : levelled_by nan (w 1) (w 5) ≡ nought
  pub minus-infinite : levelled_by nought (w 1) (inf true) ≡ nought
  -- +∞ stays; a negative scale can make a positive value: (1 − 3)·(−2)
  pub infinite : levelled_by nought (w 1) (inf false) ≡ inf false
  pub negative-scale : levelled_by (w 3) minus_two (w 1) ≡ w 4
  -- (1e8 + −1e8) + 1: the row's delta before the column's, each sum rounded. 3 − 1 is 2; in another order black is 0
  -- and 3 is left
  pub deltas-in-order : levelled (flat large (minus_large ∷ []) (w 1 ∷ [])) 0 0 0 (w 3) ≡ w 2
  -- no list, and nothing is added: −0 stays; a missing entry is 0.0: −0 + 0.0 is +0
  pub no-lists : black_at (flat minus_zero [] []) 0 0 0 ≡ minus_zero
  pub missing-row : black_at (flat minus_zero (w 7 ∷ []) []) 1 0 0 ≡ nought
  pub missing-column : black_at (flat minus_zero [] (w 7 ∷ [])) 0 1 0 ≡ nought
  -- deltas go by image positions
  pub row-delta : black_at (flat (w 1) (w 10 ∷ w 20 ∷ []) []) 1 0 0 ≡ w 21
  pub column-delta : black_at (flat (w 1) [] (w 10 ∷ w 20 ∷ w 30 ∷ [])) 0 2 0 ≡ w 31

pub values : Values
unfolding black_at levelled levelled_by with_delta add sub mul lt of_bits of_int round
values = record {
  black-first = refl;
  below = refl;
  zero-positive = refl;
  no_number = refl;
  black-no-number = refl;
  minus-infinite = refl;
  infinite = refl;
  negative-scale = refl;
  deltas-in-order = refl;
  no-lists = refl;
  missing-row = refl;
  missing-column = refl;
  row-delta = refl;
  column-delta = refl;
}

-- ---- tables

-- two planes of a pattern of 2 lines and 3 columns: each black is 100 times its plane, 10 times its line, and its
-- column; no two scales are alike
abbrev numbered : Levels
numbered =
    levels (size 2 3)
    (w 0 ∷ w 1 ∷ w 2 ∷ w 10 ∷ w 11 ∷ w 12 ∷ w 100 ∷ w 101 ∷ w 102 ∷ w 110 ∷ w 111 ∷ w 112 ∷ [])
    (w 3 ∷ w 5 ∷ w 7 ∷ w 11 ∷ w 13 ∷ w 17 ∷ w 19 ∷ w 23 ∷ w 29 ∷ w 31 ∷ w 37 ∷ w 41 ∷ []) [] []

pub record Places : Type 0 where
  -- plane after plane, each row after row, and the pattern again and again from the image's corner on
  pub plane-after-plane : black_at numbered 0 0 1 ≡ w 100
  pub row-after-row : black_at numbered 1 0 0 ≡ w 10
  pub last : black_at numbered 1 2 1 ≡ w 112
  pub again : black_at numbered 5 7 1 ≡ w 111
  -- the scale is that of the same place: row 5, column 7, plane 1 have the eleventh, (113 − 111)·37
  pub scale : levelled numbered 5 7 1 (w 113) ≡ w 74
  pub scale-of-a-line : levelled numbered 1 0 0 (w 12) ≡ w 22
  pub scale-of-a-plane : levelled numbered 0 0 1 (w 102) ≡ w 38

pub places : Places
unfolding black_at levelled levelled_by with_delta sub mul lt of_int round
places = record {
  plane-after-plane = refl;
  row-after-row = refl;
  last = refl;
  again = refl;
  scale = refl;
  scale-of-a-line = refl;
  scale-of-a-plane = refl;
}

-- ---- frames

-- 2 by 1 pixels at (2, 1), two planes: columns 2 and 0 of the pattern's second line, scales 17 and 41, 11 and 31. What
-- stands behind the frame stays
pub framed :
    each (levelled_at nan (λ x. x) (field 2 1 2 2 1) numbered (w 13 ∷ w 114 ∷ w 13 ∷ w 114 ∷ []))
    (nan ∷ nan ∷ nan ∷ nan ∷ w 9 ∷ [])
    ≡ w 17 ∷ w 82 ∷ w 33 ∷ w 124 ∷ w 9 ∷ []
unfolding each levelled_at levelled levelled_by black_at with_delta sub mul lt of_int round
framed = refl

-- u16 samples from image column 1 on: the delta of a column goes by the image's column
pub widened :
    each (levelled_at 0 (whole_in binary32) (field 2 1 1 1 0) (flat (w 1) [] (w 10 ∷ w 20 ∷ w 30 ∷ [])) (100 ∷ 200 ∷ []))
    (nan ∷ nan ∷ [])
    ≡ w 79 ∷ w 169 ∷ []
unfolding each levelled_at levelled levelled_by black_at with_delta add sub mul lt of_int round
widened = refl

-- a call that is done has the new output, and one that is refused the old one
abbrev called : (input : List Float) → BlackOut
called input =
    black_out nan (λ x. x) (field 1 1 1 0 0) (levels (size 1 1) (nought ∷ []) (nought ∷ []) [] []) input (inf true ∷ [])

pub done : called (nan ∷ []) ≡ record { answer = Ok tt; output = nought ∷ [] }
unfolding black_out answer_of field_in_range tabled sampled each levelled_at levelled levelled_by black_at with_delta sub mul lt
done = refl

pub refused : called [] ≡ record { answer = Err Samples; output = inf true ∷ [] }
unfolding black_out answer_of field_in_range tabled sampled
refused = refl

-- ---- answers

pub record Numbers : Type 0 where
  pub done : number_of (Ok tt) ≡ 0
  pub range : number_of (Err Range) ≡ 1
  pub tables : number_of (Err Tables) ≡ 60
  pub samples : number_of (Err Samples) ≡ 61
  -- 2·3·2 samples, and none where a number is out of range
  pub twelve : samples_in (field 2 3 2 5 7) ≡ 12
  pub none : samples_in (field 2 3 9 5 7) ≡ 0

pub numbers : Numbers
unfolding samples_in field_in_range
numbers = record { done = refl; range = refl; tables = refl; samples = refl; twelve = refl; none = refl }

pub record Answers : Type 0 where
  -- the ends of the ranges
  pub largest : field_in_range (field 65536 65536 8 16777216 16777216) ≡ true
  pub width-over : field_in_range (field 65537 0 1 0 0) ≡ false
  pub height-over : field_in_range (field 0 65537 1 0 0) ≡ false
  pub planes-none : field_in_range (field 0 0 0 0 0) ≡ false
  pub planes-over : field_in_range (field 0 0 9 0 0) ≡ false
  pub x0-over : field_in_range (field 0 0 1 16777217 0) ≡ false
  pub y0-over : field_in_range (field 0 0 1 0 16777217) ≡ false
  -- 1 before 60 before 61
  pub one-first : answer_of (field 1 1 9 0 0) (size 0 0) 0 0 0 0 ≡ Err Range
  pub sixty-next : answer_of (field 1 1 1 0 0) (size 0 1) 1 1 0 0 ≡ Err Tables
  pub sixty-one-last : answer_of (field 1 1 1 0 0) (size 1 1) 1 1 0 0 ≡ Err Samples
  -- 60: a width of 0, a table one entry short; also for a frame of no pixels
  pub no-columns : answer_of (field 0 0 1 0 0) (size 1 0) 9 9 0 0 ≡ Err Tables
  pub black-short : answer_of (field 0 0 2 0 0) (size 2 3) 11 12 0 0 ≡ Err Tables
  pub scale-short : answer_of (field 0 0 2 0 0) (size 2 3) 12 11 0 0 ≡ Err Tables
  pub tables-exact : answer_of (field 0 0 2 0 0) (size 2 3) 12 12 0 0 ≡ Ok tt
  -- 2^31 lines and columns and 4 planes, no tables: the product is 2^64
  pub no_wrap : answer_of (field 0 0 4 0 0) (size 2147483648 2147483648) 0 0 0 0 ≡ Err Tables
  -- 61: input or output one short; both may be longer
  pub input-short : answer_of (field 2 3 2 0 0) (size 1 1) 2 2 11 12 ≡ Err Samples
  pub output-short : answer_of (field 2 3 2 0 0) (size 1 1) 2 2 12 11 ≡ Err Samples
  pub longer : answer_of (field 2 3 2 0 0) (size 1 1) 9 9 13 14 ≡ Ok tt

pub answers : Answers
unfolding answer_of field_in_range tabled sampled
answers = record {
  largest = refl;
  width-over = refl;
  height-over = refl;
  planes-none = refl;
  planes-over = refl;
  x0-over = refl;
  y0-over = refl;
  one-first = refl;
  sixty-next = refl;
  sixty-one-last = refl;
  no-columns = refl;
  black-short = refl;
  scale-short = refl;
  tables-exact = refl;
  no_wrap = refl;
  input-short = refl;
  output-short = refl;
  longer = refl;
}
