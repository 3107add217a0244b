-- Worked values of the definitions, which the checker computes: one for each layout of a body, and one for each rule
-- where a slip would show.
use Rattle.std.specs.Prelude.{ℕ, ◌≡◌, refl, Bool, true, false, ◌&&◌, cond, eqb, List, [], ◌∷◌, ◌++◌, map, Float, pos, negsuc, length, replicate, Result, Ok, Err}
use Rattle.std.specs.Float.{binary64, fin, nan, inf}
use Rattle.std.specs.Float.Ieee.{of_int, of_bits, of_fields, round, mul, div, add, sub, neg, sum, eq, lt, units, odd, size, span, climb, to_unsigned}
use Rattle.std.specs.Int.Count.{count_trailing_zeros}
use Rattle.num_words.specs.Words.{big}
use Rattle.pointwise.specs.Points.{each}
use Rattle.pointwise.specs.Select.{selects, on_columns}
use Rattle.num_narrow.specs.Narrow.{narrow}
use Rattle.num_round.specs.Whole.{round_held}
use Rattle.num_convert.specs.Convert.{held_to}
use Rattle.dng.specs.declared.Region.{Region}
use Rattle.dng.specs.declared.Window.{Window}
use Rattle.dng.specs.declared.RowWindow.{RowWindow}
use Rattle.dng.specs.declared.Numbers.{Numbers}
use Rattle.dng.specs.declared.Opcode.TheVariants.{WarpRectilinear, FixVignetteRadial, FixBadPixelsConstant, FixBadPixelsList, TrimBounds, MapTable, MapPolynomial, GainMap, DeltaPerRow, DeltaPerColumn, ScalePerRow, ScalePerColumn, Other}
use Rattle.dng.specs.declared.Entry.{Entry}
use Rattle.dng.specs.declared.Answer.TheVariants as Ans
use Rattle.dng.specs.declared.RowAnswer.TheVariants as Row
use Rattle.dng.specs.declared.Reason.{Reason}
use Rattle.dng.specs.declared.Reason.TheVariants as Why
use Rattle.dng.specs.declared.Opcode.{Opcode}
use Rattle.dng.specs.declared.Refusal.{Refusal}
use Rattle.dng.specs.List.{Item, reason_number, refusal, extent, first_cut, header_fields, vignette_fields, constant_fields, bad_list_fields, trim_fields, counted_fields, gain_fields, header_why, inside_why, field_why, why_from, why_of, items_of, malformed, Reading, reading_of, counted, read_from, step_at, next_at, parsed_at, warp_at, vignette_at, constant_at, trim_at, bad_list_at, counted_at, polynomial_at, gain_at}
use Rattle.dng.specs.Select.{on_region, on_row, in_window, active}
use Rattle.dng.specs.Value.{Frame, map_table, map_polynomial, horner, nth, delta, scaled, position, mix, line_at, gain_of, gained, rule_of}
use Rattle.dng.specs.Repair.{count_below, complete, point_at, rect_at, bad_value, marks_of, moved, sound, tally_on, tally_at, repair_at, sound_on, marked_in, repaired_in, left_in}
use Rattle.dng.specs.Run.{kept_of, f32_kind, names_of, takes16_on, takes16_from, takes_rows, repair_on, perform_all, row_on, Room}
use Rattle.dng.specs.Answer.{Out, RowOut, numbers_of, reading_numbers_of, row_numbers_of, in_range, row_in_range, ran_on, run_out, f32_out, u16_out, row_out}
use Rattle.dng.specs.Frames.{words, whole, frame, room, constant, entry, list_of, out}

-- the bytes of f64 and of f32 values 1, 2, 3, 4, and of u16 entries
abbrev doubles : List ℕ
doubles = words (1072693248 ∷ 0 ∷ 1073741824 ∷ 0 ∷ 1074266112 ∷ 0 ∷ 1074790400 ∷ 0 ∷ [])

abbrev singles : List ℕ
singles = words (1065353216 ∷ 1073741824 ∷ 1077936128 ∷ 1082130432 ∷ [])

abbrev double : ℕ → Float
double n = of_int binary64 (pos n)

abbrev one_pixel : RowWindow
one_pixel = record { width = 1; planes = 1; x0 = 0; full_width = 1; full_height = 1 }

-- the body b as the opcode with this id
abbrev read : ℕ → List ℕ → Result Opcode Refusal
read id b = parsed_at b id 0 (length b)

-- 23 and 24 of a body that starts with the list
abbrev cut : ℕ → Result Opcode Refusal
cut k = Err (refusal Why.Inside k)

abbrev miscounted : ℕ → Result Opcode Refusal
miscounted k = Err (refusal Why.Count k)

abbrev area : List ℕ
area = words (1 ∷ 2 ∷ 3 ∷ 4 ∷ 5 ∷ 6 ∷ 7 ∷ 8 ∷ [])

abbrev area_is : Region
area_is = record { top = 1; left = 2; bottom = 3; right = 4; plane = 5; planes = 6; row_pitch = 7; col_pitch = 8 }

pub record Layouts : Type 0 where
  -- one plane: six coefficients, then the centre
  pub warp : read 1 (words (1 ∷ []) ++ (doubles ++ (doubles ++ []))) ≡ Ok (WarpRectilinear 1 (double 3) (double 4))
  pub vignette : read 3 (doubles ++ words (1075052544 ∷ 0 ∷ 1075314688 ∷ 0 ∷ 1075576832 ∷ 0 ∷ []))
      ≡ Ok (FixVignetteRadial (record {
        k0 = double 1;
        k1 = double 2;
        k2 = double 3;
        k3 = double 4;
        k4 = double 5;
        cx = double 6;
        cy = double 7;
      }))
  -- bytes left over in a body are ignored
  pub constant : read 4 (words (8 ∷ 9 ∷ []) ++ (1 ∷ [])) ≡ Ok (FixBadPixelsConstant 8 9)
  pub constant-short : read 4 (words (8 ∷ []) ++ (0 ∷ 0 ∷ 0 ∷ [])) ≡ cut 4
  pub bad-list : read 5 (words (9 ∷ 1 ∷ 2 ∷ 0 ∷ 0 ∷ 0 ∷ 0 ∷ 0 ∷ 0 ∷ 0 ∷ 0 ∷ 0 ∷ 0 ∷ []))
      ≡ Ok (FixBadPixelsList 9 1 2)
  pub bad-list-short : read 5 (words (9 ∷ 2 ∷ 1 ∷ 0 ∷ 0 ∷ 0 ∷ 0 ∷ 0 ∷ 0 ∷ 0 ∷ [])) ≡ miscounted 4
  pub trim : read 6 (words (1 ∷ 2 ∷ 3 ∷ 4 ∷ [])) ≡ Ok (TrimBounds 1 2 3 4)
  pub table : read 7 (area ++ (words (2 ∷ []) ++ (0 ∷ 1 ∷ 0 ∷ 2 ∷ []))) ≡ Ok (MapTable area_is 2)
  pub table-short : read 7 (area ++ (words (2 ∷ []) ++ (0 ∷ 1 ∷ 0 ∷ []))) ≡ miscounted 32
  pub polynomial : read 8 (area ++ (words (3 ∷ []) ++ doubles)) ≡ Ok (MapPolynomial area_is 3)
  pub gain : read 9 (area ++ (words (2 ∷ 1 ∷ []) ++ (doubles ++ (words (2 ∷ []) ++ singles))))
      ≡ Ok (GainMap area_is 2 1 (record {
        spacing_v = double 1;
        spacing_h = double 2;
        origin_v = double 3;
        origin_h = double 4;
      }) 2)
  -- map planes of 0 count as 1: four points have their four gains, five do not. A product of 0 is malformed
  pub gain-no-planes : read 9 (area ++ (words (2 ∷ 2 ∷ []) ++ (doubles ++ (words (0 ∷ []) ++ singles))))
      ≡ Ok (GainMap area_is 2 2 (record {
        spacing_v = double 1;
        spacing_h = double 2;
        origin_v = double 3;
        origin_h = double 4;
      }) 0)
  pub gain-no-planes-short : read 9 (area ++ (words (5 ∷ 1 ∷ []) ++ (doubles ++ (words (0 ∷ []) ++ singles))))
      ≡ miscounted 32
  pub gain-none : read 9 (area ++ (words (0 ∷ 1 ∷ []) ++ (doubles ++ (words (2 ∷ []) ++ singles)))) ≡ miscounted 32
  pub delta-row : read 10 (area ++ words (1 ∷ 0 ∷ [])) ≡ Ok (DeltaPerRow area_is 1)
  pub delta-column : read 11 (area ++ words (1 ∷ 0 ∷ [])) ≡ Ok (DeltaPerColumn area_is 1)
  pub scale-row : read 12 (area ++ words (1 ∷ 0 ∷ [])) ≡ Ok (ScalePerRow area_is 1)
  pub scale-column : read 13 (area ++ words (1 ∷ 0 ∷ [])) ≡ Ok (ScalePerColumn area_is 1)
  pub other : read 14 [] ≡ Ok (Other 14)

pub layouts : Layouts
unfolding big extent first_cut inside_why field_why parsed_at vignette_at constant_at trim_at warp_at bad_list_at counted_at
    polynomial_at gain_at of_bits of_fields odd count_trailing_zeros of_int round units size span climb
layouts =
    record {
      warp = refl;
      vignette = refl;
      constant = refl;
      constant-short = refl;
      bad-list = refl;
      bad-list-short = refl;
      trim = refl;
      table = refl;
      table-short = refl;
      polynomial = refl;
      gain = refl;
      gain-no-planes = refl;
      gain-no-planes-short = refl;
      gain-none = refl;
      delta-row = refl;
      delta-column = refl;
      scale-row = refl;
      scale-column = refl;
      other = refl;
    }

-- ---- values

abbrev plain : Frame
plain = record { scale = whole 1; full_width = 2; full_height = 2 }

abbrev doubled : Frame
doubled = record { scale = whole 2; full_width = 2; full_height = 2 }

abbrev sevenfold : Frame
sevenfold = record { scale = whole 7; full_width = 2; full_height = 2 }

-- a table of 10, 11, 12, 13 after the region and n
abbrev table4 : List ℕ
table4 = area ++ (words (4 ∷ []) ++ (0 ∷ 10 ∷ 0 ∷ 11 ∷ 0 ∷ 12 ∷ 0 ∷ 13 ∷ []))

-- the first two f32 values, 1 and 2, after the region and n
abbrev line2 : List ℕ
line2 = area ++ (words (2 ∷ []) ++ singles)

-- a map of one point and two planes, gains 1 and 2
abbrev point2 : List ℕ
point2 = area ++ (words (1 ∷ 1 ∷ []) ++ (doubles ++ (words (2 ∷ []) ++ singles)))

-- a map of two rows and one column, gains 1 and 2
abbrev rows2 : List ℕ
rows2 = area ++ (words (2 ∷ 1 ∷ []) ++ (doubles ++ (words (1 ∷ []) ++ singles)))

-- every second row from 2 on, all columns; planes from 1 on
abbrev second : Region
second = record { top = 2; left = 0; bottom = 9; right = 9; plane = 1; planes = 3; row_pitch = 2; col_pitch = 1 }

pub record Values : Type 0 where
  -- 2.5 is rounded to 3, half away from zero; to even it would be 2
  pub table-half : map_table (whole 1) 4 table4 (fin false 5 (negsuc 0)) ≡ fin false 13 (pos 0)
  pub table-last : map_table (whole 1) 4 table4 (inf false) ≡ fin false 13 (pos 0)
  pub table-nan : map_table (whole 1) 4 table4 nan ≡ fin false 5 (pos 1)
  -- at scale 2 the value 1 stands for 2, and the entry 12 for 6
  pub table-scale : map_table (whole 2) 4 table4 (whole 1) ≡ fin false 3 (pos 1)
  -- 1 + 2x at x = 3: the value 3 at scale 65535
  pub polynomial : map_polynomial (whole 65535) 1 (area ++ (words (1 ∷ []) ++ doubles)) (whole 3) ≡ fin false 7 (pos 0)
  -- row 4 is the second selected row; a missing delta is 0.0, and −0 + 0.0 is +0
  pub delta-second : rule_of plain (DeltaPerRow second 2) line2 true 4 0 1 (whole 1) ≡ fin false 131071 (pos 0)
  pub delta-missing : rule_of plain (DeltaPerRow second 2) line2 true 6 0 1 (fin true 0 (pos 0)) ≡ fin false 0 (pos 0)
  -- 1 + (2 · 65535) / 2
  pub delta-scale : rule_of doubled (DeltaPerRow second 2) line2 true 4 0 1 (whole 1) ≡ fin false 1 (pos 16)
  -- 1 + (2 · 65535) / 7, 18725.28515625: with 2 / 7 rounded first it would be 18725.287109375
  pub delta-times-first : rule_of sevenfold (DeltaPerRow second 2) line2 true 4 0 1 (whole 1)
      ≡ fin false 4793673 (negsuc 7)
  pub delta-outside : rule_of plain (DeltaPerRow second 2) line2 true 3 0 1 (whole 1) ≡ fin false 1 (pos 0)
  -- the planes are counted from the region's first, and end with the map's last
  pub gain-first : gained plain point2 second 1 1 (record {
    spacing_v = double 0;
    spacing_h = double 0;
    origin_v = double 0;
    origin_h = double 0;
  }) 2 3 0 1 (whole 5) ≡ fin false 5 (pos 0)
  pub gain-second : gained plain point2 second 1 1 (record {
    spacing_v = double 0;
    spacing_h = double 0;
    origin_v = double 0;
    origin_h = double 0;
  }) 2 3 0 2 (whole 5) ≡ fin false 5 (pos 1)
  pub gain-last : gained plain point2 second 1 1 (record {
    spacing_v = double 0;
    spacing_h = double 0;
    origin_v = double 0;
    origin_h = double 0;
  }) 2 3 0 3 (whole 5) ≡ fin false 5 (pos 1)
  -- row 1 of 2 is halfway between two map rows a whole apart
  pub gain-between : gained plain rows2 second 2 1 (record {
    spacing_v = double 1;
    spacing_h = double 1;
    origin_v = double 0;
    origin_h = double 0;
  }) 1 1 0 1 (whole 4) ≡ fin false 3 (pos 1)

pub values : Values
unfolding big selects on_columns on_region narrow round_held held_to map_table map_polynomial horner nth delta scaled
    position mix line_at gain_of gained of_bits of_fields odd count_trailing_zeros of_int round units size span climb mul div add
    sub neg sum lt to_unsigned
values =
    record {
      table-half = refl;
      table-last = refl;
      table-nan = refl;
      table-scale = refl;
      polynomial = refl;
      delta-second = refl;
      delta-missing = refl;
      delta-scale = refl;
      delta-times-first = refl;
      delta-outside = refl;
      gain-first = refl;
      gain-second = refl;
      gain-last = refl;
      gain-between = refl;
    }

-- ---- repairs: three by three, the middle marked; the order of the neighbours shows where a sum is rounded

-- 16,777,216 at one place, 1 elsewhere
abbrev heavy_at : (cx cy x y : ℕ) → Float
heavy_at cx cy x y = cond (eqb x cx && eqb y cy) (whole 16777216) (whole 1)

abbrev middle : ℕ → Bool
middle q = eqb q 4

-- two by two, rows three pixels apart; and rows that would overlap
abbrev apart : Window
apart = record { width = 2; height = 2; planes = 1; stride = 3; x0 = 0; y0 = 0; full_width = 2; full_height = 2 }

abbrev overlapping : Window
overlapping = record {
  width = 2;
  height = 2;
  planes = 1;
  stride = 1;
  x0 = 0;
  y0 = 0;
  full_width = 2;
  full_height = 2;
}

pub record Repairs : Type 0 where
  -- the last row needs its width, not its stride
  pub complete-tight : complete apart 5 ≡ true
  pub complete-short : complete apart 4 ≡ false
  pub complete-never : complete overlapping 9 ≡ false
  -- the constant 4 at scale 2 is 2; a constant is rounded to f32
  pub constant-scale : (f32_kind doubled).is_bad 4 (whole 2) ≡ true
  pub constant-unscaled : (f32_kind doubled).is_bad 4 (whole 4) ≡ false
  pub constant-rounded : (f32_kind plain).is_bad 16777217 (whole 16777216) ≡ true
  -- left comes first: every 1 added to it is lost
  pub left-first : tally_at 3 3 1 middle (heavy_at 0 1) 1 1 ≡ record { sum = fin false 1 (pos 24); n = 8 }
  -- up-right comes last: the seven before it add up exactly, and the sum is rounded once
  pub up-right-last : tally_at 3 3 1 middle (heavy_at 2 0) 1 1 ≡ record { sum = fin false 2097153 (pos 3); n = 8 }
  -- up-left is the fifth: the four before it are kept, the three after it are lost
  pub up-left-fifth : tally_at 3 3 1 middle (heavy_at 0 0) 1 1 ≡ record { sum = fin false 4194305 (pos 2); n = 8 }
  -- points are (row, column), and rectangles leave bottom and right out
  pub point : point_at (words (0 ∷ 1 ∷ 0 ∷ 5 ∷ 7 ∷ [])) 0 5 7 ≡ true
  pub point-turned : point_at (words (0 ∷ 1 ∷ 0 ∷ 5 ∷ 7 ∷ [])) 0 7 5 ≡ false
  pub rect-in : rect_at (words (0 ∷ 0 ∷ 1 ∷ 1 ∷ 2 ∷ 3 ∷ 5 ∷ [])) 0 0 2 4 ≡ true
  pub rect-bottom : rect_at (words (0 ∷ 0 ∷ 1 ∷ 1 ∷ 2 ∷ 3 ∷ 5 ∷ [])) 0 0 3 4 ≡ false
  pub rect-right : rect_at (words (0 ∷ 0 ∷ 1 ∷ 1 ∷ 2 ∷ 3 ∷ 5 ∷ [])) 0 0 2 5 ≡ false

pub repairs : Repairs
unfolding big complete point_at rect_at moved sound tally_on of_int round units odd count_trailing_zeros size span climb add sum
    div eq active
repairs =
    record {
      complete-tight = refl;
      complete-short = refl;
      complete-never = refl;
      constant-scale = refl;
      constant-unscaled = refl;
      constant-rounded = refl;
      left-first = refl;
      up-right-last = refl;
      up-left-fifth = refl;
      point = refl;
      point-turned = refl;
      rect-in = refl;
      rect-bottom = refl;
      rect-right = refl;
    }

-- ---- entries: the header words as they stand. Version 1.3.0.0 and the flags optional, skip for preview, and both

abbrev flagged : ℕ → List ℕ
flagged f = words (2 ∷ 16973824 ∷ f ∷ 0 ∷ [])

abbrev flagged_at : (f at : ℕ) → Entry
flagged_at f at = record { id = 2; version = 16973824; flags = f; at = at; len = 0 }

pub record Entries : Type 0 where
  pub flags : map (λ (i : Item). i.entry) (items_of (list_of (flagged 1 ∷ flagged 2 ∷ flagged 3 ∷ [])))
      ≡ flagged_at 1 20 ∷ flagged_at 2 36 ∷ flagged_at 3 52 ∷ []

pub entries : Entries
unfolding big items_of counted read_from step_at next_at parsed_at vignette_at constant_at trim_at
entries = record { flags = refl }

-- ---- refusals: document 02, M-100

-- what the accepting tests ask of a body's length is the extent of its fields
pub record Extents : Type 0 where
  pub header : extent header_fields ≡ 16
  pub vignette : extent vignette_fields ≡ 56
  pub constant : extent constant_fields ≡ 8
  pub bad-list : extent bad_list_fields ≡ 12
  pub trim : extent trim_fields ≡ 16
  pub counted : extent counted_fields ≡ 36
  pub gain : extent gain_fields ≡ 76

pub extents : Extents
unfolding extent
extents =
    record {
      header = refl;
      vignette = refl;
      constant = refl;
      bad-list = refl;
      trim = refl;
      counted = refl;
      gain = refl;
    }

-- a body of n zeros
abbrev zeros : (id n : ℕ) → Result Opcode Refusal
zeros id n = read id (replicate n 0)

-- each body's first and last field, a byte short; where that byte is there, the body is read, or its counts are refused
pub record Cuts : Type 0 where
  pub vignette-first : zeros 3 7 ≡ cut 0
  -- fields of eight bytes are cut by eights
  pub vignette-second : zeros 3 12 ≡ cut 8
  pub vignette-last : zeros 3 55 ≡ cut 48
  pub constant-first : zeros 4 3 ≡ cut 0
  pub constant-last : zeros 4 7 ≡ cut 4
  pub bad-list-first : zeros 5 3 ≡ cut 0
  pub bad-list-second : zeros 5 7 ≡ cut 4
  -- np is 9, and nr is not there: the sum is met when its last count has been read
  pub bad-list-last : read 5 (words (0 ∷ 9 ∷ [])) ≡ cut 8
  pub trim-first : zeros 6 3 ≡ cut 0
  pub trim-last : zeros 6 15 ≡ cut 12
  -- a region is eight fields
  pub table-first : zeros 7 3 ≡ cut 0
  pub table-pitch : zeros 7 31 ≡ cut 28
  pub table-last : zeros 7 35 ≡ cut 32
  pub polynomial-first : zeros 8 3 ≡ cut 0
  pub polynomial-last : zeros 8 35 ≡ cut 32
  pub gain-first : zeros 9 3 ≡ cut 0
  pub gain-pitch : zeros 9 31 ≡ cut 28
  pub gain-points-v : zeros 9 35 ≡ cut 32
  pub gain-points-h : zeros 9 39 ≡ cut 36
  -- points v are 0, which is met when the map planes have been read
  pub gain-spacing : zeros 9 40 ≡ cut 40
  pub gain-spacing-part : zeros 9 44 ≡ cut 40
  pub gain-origin : zeros 9 71 ≡ cut 64
  pub gain-last : zeros 9 75 ≡ cut 72
  -- nor is v·h refused before where it is far too large
  pub gain-large : read 9 (area ++ (words (65536 ∷ 65536 ∷ []) ++ doubles)) ≡ cut 72
  pub gain-none : zeros 9 76 ≡ miscounted 32
  pub delta-row-first : zeros 10 3 ≡ cut 0
  pub delta-row-last : zeros 10 35 ≡ cut 32
  pub delta-column-first : zeros 11 3 ≡ cut 0
  pub delta-column-last : zeros 11 35 ≡ cut 32
  pub scale-row-first : zeros 12 3 ≡ cut 0
  pub scale-row-last : zeros 12 35 ≡ cut 32
  pub scale-column-first : zeros 13 3 ≡ cut 0
  pub scale-column-last : zeros 13 35 ≡ cut 32

pub cuts : Cuts
unfolding big extent first_cut inside_why field_why parsed_at vignette_at constant_at trim_at bad_list_at counted_at polynomial_at
    gain_at
cuts =
    record {
      vignette-first = refl;
      vignette-second = refl;
      vignette-last = refl;
      constant-first = refl;
      constant-last = refl;
      bad-list-first = refl;
      bad-list-second = refl;
      bad-list-last = refl;
      trim-first = refl;
      trim-last = refl;
      table-first = refl;
      table-pitch = refl;
      table-last = refl;
      polynomial-first = refl;
      polynomial-last = refl;
      gain-first = refl;
      gain-pitch = refl;
      gain-points-v = refl;
      gain-points-h = refl;
      gain-spacing = refl;
      gain-spacing-part = refl;
      gain-origin = refl;
      gain-last = refl;
      gain-large = refl;
      gain-none = refl;
      delta-row-first = refl;
      delta-row-last = refl;
      delta-column-first = refl;
      delta-column-last = refl;
      scale-row-first = refl;
      scale-row-last = refl;
      scale-column-first = refl;
      scale-column-last = refl;
    }

-- counts at their limits, in bodies that end behind the fixed fields
pub record Counts : Type 0 where
  -- at the first of the two counts, whichever is too large
  pub points : read 5 (words (0 ∷ 1 ∷ 0 ∷ [])) ≡ miscounted 4
  pub rects : read 5 (words (0 ∷ 0 ∷ 1 ∷ [])) ≡ miscounted 4
  pub table : read 7 (area ++ words (1 ∷ [])) ≡ miscounted 32
  pub line : read 10 (area ++ words (16777217 ∷ [])) ≡ miscounted 32
  -- one field can give both 24 and 25: 25 comes first
  pub degree : read 8 (area ++ words (8 ∷ [])) ≡ miscounted 32
  pub degree-over : read 8 (area ++ words (9 ∷ [])) ≡ Err (refusal Why.Degree 32)
  -- at points v, though it is points h that are 0, the map planes that are too many, or the gains that are missing
  pub gain-points : read 9 (area ++ (words (1 ∷ 0 ∷ []) ++ (doubles ++ words (1 ∷ [])))) ≡ miscounted 32
  pub gain-planes : read 9 (area ++ (words (1 ∷ 1 ∷ []) ++ (doubles ++ words (16777217 ∷ [])))) ≡ miscounted 32
  pub gain-missing : read 9 (area ++ (words (1 ∷ 1 ∷ []) ++ (doubles ++ words (1 ∷ [])))) ≡ miscounted 32

pub counts : Counts
unfolding big extent first_cut inside_why field_why parsed_at vignette_at constant_at trim_at bad_list_at counted_at polynomial_at
    gain_at
counts =
    record {
      points = refl;
      rects = refl;
      table = refl;
      line = refl;
      degree = refl;
      degree-over = refl;
      gain-points = refl;
      gain-planes = refl;
      gain-missing = refl;
    }

-- refused after k entries, for the reason, at the byte
abbrev refused : ℕ → Reason → ℕ → Reading
refused k r at = Err (malformed k (refusal r at))

-- a header and no body, whatever its length says
abbrev header : (id len : ℕ) → List ℕ
header id len = words (id ∷ 16973824 ∷ 0 ∷ len ∷ [])

-- whole lists: offsets count from the list's first byte
pub record Refusals : Type 0 where
  pub numbers : map reason_number (Why.Ends ∷ Why.TooMany ∷ Why.TooLong ∷ Why.Inside ∷ Why.Count ∷ Why.Degree ∷ [])
      ≡ 20 ∷ 21 ∷ 22 ∷ 23 ∷ 24 ∷ 25 ∷ []
  -- 20: the count is cut, then each word of a header; the first is cut where the list ends
  pub count_cut : reading_of (0 ∷ 0 ∷ 0 ∷ []) ≡ refused 0 Why.Ends 0
  pub id-cut : reading_of (words (1 ∷ [])) ≡ refused 0 Why.Ends 4
  pub version-cut : reading_of (words (1 ∷ 5 ∷ [])) ≡ refused 0 Why.Ends 8
  pub flags-cut : reading_of (words (1 ∷ 5 ∷ 0 ∷ []) ++ (0 ∷ 0 ∷ 0 ∷ [])) ≡ refused 0 Why.Ends 12
  pub length_cut : reading_of (words (1 ∷ 5 ∷ 0 ∷ 0 ∷ []) ++ (0 ∷ 0 ∷ 0 ∷ [])) ≡ refused 0 Why.Ends 16
  pub second_cut : reading_of (words (2 ∷ []) ++ entry 2 []) ≡ refused 1 Why.Ends 20
  -- 21: 4,096 are read for, 4,097 are not
  pub limit : reading_of (words (4096 ∷ [])) ≡ refused 0 Why.Ends 4
  pub over : reading_of (words (4097 ∷ [])) ≡ refused 0 Why.TooMany 0
  -- 22: at the length, before the body is looked at; a warp's length too, though its body is never refused
  pub long : reading_of (words (1 ∷ []) ++ header 4 1) ≡ refused 0 Why.TooLong 16
  pub long-second : reading_of (words (2 ∷ []) ++ (entry 2 [] ++ header 1 1)) ≡ refused 1 Why.TooLong 32
  pub long-degree : reading_of (words (1 ∷ []) ++ (header 8 37 ++ (area ++ words (9 ∷ []))))
      ≡ refused 0 Why.TooLong 16
  pub warp : reading_of (list_of (entry 1 [] ∷ [])) ≡ Ok 1
  -- 23: a body ends where its length says, though the list goes on; and comes before the next entry's header, which is
  -- not there
  pub inside : reading_of (list_of (entry 4 [] ∷ [])) ≡ refused 0 Why.Inside 20
  pub inside-second : reading_of (list_of (entry 2 [] ∷ entry 4 (words (8 ∷ [])) ∷ [])) ≡ refused 1 Why.Inside 40
  pub inside-followed : reading_of (list_of (entry 4 [] ∷ entry 2 [] ∷ [])) ≡ refused 0 Why.Inside 20
  pub sum-followed : reading_of (list_of (entry 5 (words (0 ∷ 9 ∷ [])) ∷ entry 2 [] ∷ [])) ≡ refused 0 Why.Inside 28
  pub inside-before-ends : reading_of (words (2 ∷ []) ++ entry 4 []) ≡ refused 0 Why.Inside 20
  -- 24 and 25 by reading order: the first entry's, whatever the second's is
  pub count-first : reading_of (list_of (entry 10 (area ++ words (1 ∷ [])) ∷ entry 8 (area ++ words (9 ∷ [])) ∷ []))
      ≡ refused 0 Why.Count 52
  pub degree-first : reading_of (list_of (entry 8 (area ++ words (9 ∷ [])) ∷ entry 10 (area ++ words (1 ∷ [])) ∷ []))
      ≡ refused 0 Why.Degree 52

pub refusals : Refusals
unfolding big extent first_cut header_why inside_why field_why why_from why_of reading_of items_of counted read_from step_at
    next_at parsed_at vignette_at constant_at trim_at warp_at bad_list_at counted_at polynomial_at
refusals =
    record {
      numbers = refl;
      count_cut = refl;
      id-cut = refl;
      version-cut = refl;
      flags-cut = refl;
      length_cut = refl;
      second_cut = refl;
      limit = refl;
      over = refl;
      long = refl;
      long-second = refl;
      long-degree = refl;
      warp = refl;
      inside = refl;
      inside-second = refl;
      inside-followed = refl;
      sum-followed = refl;
      inside-before-ends = refl;
      count-first = refl;
      degree-first = refl;
    }

-- the numbers of a list refused after one entry, at byte 40: which of the two is which, from every call
abbrev second_cut : List ℕ
second_cut = list_of (entry 2 [] ∷ entry 4 (words (8 ∷ [])) ∷ [])

abbrev told : Numbers
told = record { number = 23; entry = 1; offset = 40; opcode = 0; names = 0; repaired = 0; left = 0 }

pub record Told : Type 0 where
  pub reading : reading_numbers_of (reading_of second_cut) ≡ told
  pub run : numbers_of (u16_out (frame 1 1) 1 false room second_cut (3 ∷ []) []).answer ≡ told
  pub row : row_numbers_of (row_out one_pixel (whole 1) false 0 second_cut (whole 3 ∷ [])).answer ≡ told
  -- the ranges come first: then there is neither entry nor offset
  pub range : (numbers_of (u16_out (frame 65537 1) 1 false room second_cut (3 ∷ []) []).answer).offset ≡ 0
  pub row-range : row_numbers_of (row_out one_pixel (whole 1) false 16842752 second_cut (whole 3 ∷ [])).answer
      ≡ record { number = 1; entry = 0; offset = 0; opcode = 0; names = 0; repaired = 0; left = 0 }

pub tells : Told
unfolding big first_cut inside_why why_from why_of reading_of items_of counted read_from step_at next_at parsed_at constant_at
    in_range row_in_range run_out row_out
tells = record { reading = refl; run = refl; row = refl; range = refl; row-range = refl }

-- ---- runs

-- room for so many marks
abbrev marks : ℕ → Room
marks n = record { marks = n }

-- samples of which two side by side are marked by the constant 0
abbrev pair : List ℕ
pair = 10 ∷ 0 ∷ 0 ∷ 19 ∷ []

pub record Runs : Type 0 where
  -- a marked neighbour is not in the mean: 10 and 19 alone
  pub side_by_side : u16_out (frame 4 1) 1 false room (list_of (constant 0 ∷ [])) pair []
      ≡ out (Ans.Done 0 2 0) (10 ∷ 10 ∷ 19 ∷ 19 ∷ []) []
  -- a malformed list after the ranges: nothing changes
  pub malformed : u16_out (frame 2 1) 1 false room (list_of (entry 4 [] ∷ [])) (1 ∷ 2 ∷ []) (9 ∷ [])
      ≡ out (Ans.Malformed 0 (refusal Why.Inside 20)) (1 ∷ 2 ∷ []) (9 ∷ [])
  pub range-first : u16_out (frame 65537 1) 1 false room [] (1 ∷ 2 ∷ []) (9 ∷ [])
      ≡ out Ans.Range (1 ∷ 2 ∷ []) (9 ∷ [])
  -- a period of 0 counts as 1
  pub period-none : u16_out (frame 3 1) 0 false room (list_of (constant 0 ∷ [])) (10 ∷ 0 ∷ 19 ∷ []) []
      ≡ out (Ans.Done 0 1 0) (10 ∷ 15 ∷ 19 ∷ []) []
  -- as many entries as marks are room enough; with one less it is 5 of that opcode, and the skip buffer stays
  pub marks-tight : u16_out (frame 4 1) 1 false (marks 2) (list_of (entry 2 [] ∷ constant 0 ∷ [])) pair (9 ∷ [])
      ≡ out (Ans.Done 1 2 0) (10 ∷ 10 ∷ 19 ∷ 19 ∷ []) (2 ∷ [])
  pub marks-short : u16_out (frame 4 1) 1 false (marks 1) (list_of (entry 2 [] ∷ constant 0 ∷ [])) pair (9 ∷ [])
      ≡ out (Ans.Marks 1) pair (9 ∷ [])

pub runs : Runs
unfolding big first_cut inside_why why_from why_of each round_held reading_of items_of counted read_from step_at next_at parsed_at
    vignette_at constant_at trim_at in_window active count_below complete bad_value marks_of moved sound tally_on repair_at
    sound_on marked_in repaired_in left_in kept_of names_of takes16_on takes16_from repair_on perform_all in_range ran_on run_out
    of_int round units odd count_trailing_zeros size span climb add sum div
runs = record {
  side_by_side = refl;
  malformed = refl;
  range-first = refl;
  period-none = refl;
  marks-tight = refl;
  marks-short = refl;
}

-- ---- previews: what is flagged by bit 1 is left out, after the whole list is read

-- a repair of the samples that are c, with flags f
abbrev constant_with : (f c : ℕ) → List ℕ
constant_with f c = words (4 ∷ 16973824 ∷ f ∷ 8 ∷ c ∷ 0 ∷ [])

-- three samples, one of them 0
abbrev three : List ℕ
three = 10 ∷ 0 ∷ 19 ∷ []

-- a run of the entries over `three`, with room for so many marks and a skip buffer of one byte
abbrev shown : (preview : Bool) → ℕ → List (List ℕ) → Out ℕ
shown preview n es = u16_out (frame 3 1) 1 preview (marks n) (list_of es) three (9 ∷ [])

-- a table of the one entry 5 over the first sample, to be skipped for a preview
abbrev flagged_table : List ℕ
flagged_table = words (7 ∷ 16973824 ∷ 2 ∷ 38 ∷ 0 ∷ 0 ∷ 1 ∷ 1 ∷ 0 ∷ 1 ∷ 1 ∷ 1 ∷ 1 ∷ []) ++ (0 ∷ 5 ∷ [])

-- of f32, one sample: a run with a skip buffer of one byte, and a row
abbrev shown32 : (preview : Bool) → List (List ℕ) → Out Float
shown32 preview es =
    f32_out (frame 1 1) (record { period = 1; scale = whole 1; preview = preview }) room (list_of es) (whole 3 ∷ [])
    (9 ∷ [])

abbrev shown_row : (preview : Bool) → List (List ℕ) → RowOut
shown_row preview es =
    row_out (record { width = 1; planes = 1; x0 = 0; full_width = 1; full_height = 1 }) (whole 1) preview 0
    (list_of es) (whole 3 ∷ [])

pub record Previews : Type 0 where
  -- two repairs are too many for the whole-number form; one of them is left out, but not for bit 0, nor for bit 2
  pub all : shown false 8 (constant 0 ∷ constant_with 2 10 ∷ []) ≡ out Ans.NotTaken three (9 ∷ [])
  pub one : shown true 8 (constant 0 ∷ constant_with 2 10 ∷ []) ≡ out (Ans.Done 0 1 0) (10 ∷ 15 ∷ 19 ∷ []) (9 ∷ [])
  pub both_bits : shown true 8 (constant_with 3 10 ∷ constant 0 ∷ [])
      ≡ out (Ans.Done 0 1 0) (10 ∷ 15 ∷ 19 ∷ []) (9 ∷ [])
  pub all-bits : shown true 8 (constant_with 4294967295 10 ∷ constant 0 ∷ [])
      ≡ out (Ans.Done 0 1 0) (10 ∷ 15 ∷ 19 ∷ []) (9 ∷ [])
  pub optional : shown true 8 (constant 0 ∷ constant_with 1 10 ∷ []) ≡ out Ans.NotTaken three (9 ∷ [])
  pub third-bit : shown true 8 (constant 0 ∷ constant_with 4 10 ∷ []) ≡ out Ans.NotTaken three (9 ∷ [])
  -- names are those of what is left
  pub names : shown true 8 (flagged 2 ∷ entry 6 (words (0 ∷ 0 ∷ 0 ∷ 0 ∷ [])) ∷ []) ≡ out (Ans.Done 1 0 0) three (6 ∷ [])
  pub names-all : shown false 8 (flagged 2 ∷ entry 6 (words (0 ∷ 0 ∷ 0 ∷ 0 ∷ [])) ∷ [])
      ≡ out Ans.Names three (9 ∷ [])
  -- opcodes are numbered in the whole list
  pub number : shown true 0 (flagged 2 ∷ constant 0 ∷ []) ≡ out (Ans.Marks 1) three (9 ∷ [])
  -- nothing is left
  pub none : shown true 0 (constant_with 2 0 ∷ []) ≡ out (Ans.Done 0 0 0) three (9 ∷ [])
  -- an entry that would be left out is read all the same
  pub malformed : shown true 8 (words (4 ∷ 16973824 ∷ 2 ∷ 0 ∷ []) ∷ [])
      ≡ out (Ans.Malformed 0 (refusal Why.Inside 20)) three (9 ∷ [])
  -- entries are numbered in the whole list too
  pub malformed-second : shown true 8 (flagged 2 ∷ entry 4 [] ∷ [])
      ≡ out (Ans.Malformed 1 (refusal Why.Inside 36)) three (9 ∷ [])
  -- the f32 run: a table is left out, a name is what is left
  pub f32 : shown32 true (flagged_table ∷ flagged 2 ∷ flagged 1 ∷ []) ≡ out (Ans.Done 1 0 0) (whole 3 ∷ []) (2 ∷ [])
  pub f32-all : shown32 false (flagged 2 ∷ flagged 1 ∷ []) ≡ out Ans.Names (whole 3 ∷ []) (9 ∷ [])
  -- a row: a repair is left out, so that the row form takes the list; a table is; what is left is counted
  pub row : shown_row true (constant_with 2 3 ∷ flagged_table ∷ flagged 2 ∷ flagged 1 ∷ [])
      ≡ record { answer = Row.Done 1; row = whole 3 ∷ [] }
  pub row-all : shown_row false (constant_with 2 3 ∷ []) ≡ record { answer = Row.NotTaken; row = whole 3 ∷ [] }

pub previews : Previews
unfolding big first_cut inside_why why_from why_of each round_held reading_of items_of counted read_from step_at next_at parsed_at
    vignette_at constant_at trim_at in_window active count_below complete bad_value marks_of moved sound tally_on repair_at
    sound_on marked_in repaired_in left_in kept_of names_of takes16_on takes16_from takes_rows repair_on perform_all row_on in_range
    row_in_range ran_on run_out row_out counted_at on_row on_region selects on_columns map_table of_int round units odd
    count_trailing_zeros size span climb add sum mul div
previews =
    record {
      all = refl;
      one = refl;
      both_bits = refl;
      all-bits = refl;
      optional = refl;
      third-bit = refl;
      names = refl;
      names-all = refl;
      number = refl;
      none = refl;
      malformed = refl;
      malformed-second = refl;
      f32 = refl;
      f32-all = refl;
      row = refl;
      row-all = refl;
    }
