-- The bench frames P1 to P12 of document 01, 'Bench frames', as one table over the definitions. `bench`, at the end, is
-- the one statement.
-- The reasons of P1, P2 and P12 are document 02's, M-100.
use Rattle.std.specs.Prelude.{ℕ, ◌/◌, ◌%◌, ◌≡◌, refl, false, List, [], ◌∷◌, ◌++◌, map, Float, pos, negsuc, length, replicate, Ok, Err}
use Rattle.std.specs.Float.{binary32, fin}
use Rattle.std.specs.Float.Ieee.{of_int, round, mul, div, add, eq, units, odd, size, span, climb}
use Rattle.num_words.specs.Words.{big}
use Rattle.pointwise.specs.Points.{each}
use Rattle.pointwise.specs.Select.{selects, on_columns}
use Rattle.num_round.specs.Whole.{round_held}
use Rattle.dng.specs.declared.Region.{Region}
use Rattle.dng.specs.declared.Window.{Window}
use Rattle.dng.specs.declared.Opcode.TheVariants.{WarpRectilinear, FixBadPixelsList}
use Rattle.dng.specs.declared.Answer.{Answer}
use Rattle.dng.specs.declared.Answer.TheVariants as Ans
use Rattle.dng.specs.declared.RowAnswer.TheVariants as Row
use Rattle.dng.specs.declared.Reason.TheVariants as Why
use Rattle.dng.specs.List.{Item, refusal, extent, first_cut, header_why, inside_why, field_why, why_from, why_of, malformed, reading_of, items_of, counted, read_from, step_at, next_at, parsed_at, warp_at, vignette_at, constant_at, trim_at, polynomial_at, counted_at, gain_at, bad_list_at, half}
use Rattle.dng.specs.Select.{on_region, on_window, in_window, active, whole_pixel}
use Rattle.dng.specs.Value.{map_table, map_table16}
use Rattle.dng.specs.Repair.{any_below, count_below, complete, point_at, rect_at, listed, bad_value, marks_of, moved, sound, tally_on, repair_at, sound_on, marked_in, repaired_in, left_in}
use Rattle.dng.specs.Run.{kept_of, names_of, takes16_on, takes16_from, takes_rows, repair_on, perform_all, row_on, Room}
use Rattle.dng.specs.Answer.{Out, reading_numbers_of, in_range, row_in_range, ran_on, run_out, f32_out, u16_out, row_out}

-- ---- lists, written out

abbrev pub word : ℕ → List ℕ
word n = n / 16777216 % 256 ∷ n / 65536 % 256 ∷ n / 256 % 256 ∷ n % 256 ∷ []

abbrev pub words : List ℕ → List ℕ
words [] = []
words (n ∷ ns) = word n ++ words ns

-- id, version 1.3, no flags, the body and its length
abbrev pub entry : ℕ → List ℕ → List ℕ
entry id body = words (id ∷ 16973824 ∷ 0 ∷ length body ∷ []) ++ body

abbrev pub constant : ℕ → List ℕ
constant c = entry 4 (words (c ∷ 0 ∷ []))

-- ---- windows at 0, 0 of an image as large

abbrev pub frame : (width height : ℕ) → Window
frame w h = record {
  width = w;
  height = h;
  planes = 1;
  stride = w;
  x0 = 0;
  y0 = 0;
  full_width = w;
  full_height = h;
}

-- the columns and planes of P3 and P4: 1 where a sample is touched
abbrev touched : Region → Window → List ℕ → List ℕ
touched r w s = each (on_window w (length s) (on_region r (λ y x k v. 1))) s

abbrev region : (left right plane planes pitch : ℕ) → Region
region l r p n pitch = record {
  top = 0;
  left = l;
  bottom = 1;
  right = r;
  plane = p;
  planes = n;
  row_pitch = 1;
  col_pitch = pitch;
}

abbrev third : Window
third = record { width = 4; height = 1; planes = 1; stride = 4; x0 = 2; y0 = 0; full_width = 6; full_height = 1 }

abbrev pixel : Window
pixel = record { width = 1; height = 1; planes = 3; stride = 1; x0 = 0; y0 = 0; full_width = 1; full_height = 1 }

-- room for eight marks
abbrev pub room : Room
room = record { marks = 8 }

abbrev pub whole : ℕ → Float
whole n = of_int binary32 (pos n)

-- a table of the given entries over rows 0..1 and columns 0..3
abbrev table : List ℕ → ℕ → List ℕ
table halves n = entry 7 (words (0 ∷ 0 ∷ 1 ∷ 3 ∷ 0 ∷ 1 ∷ 1 ∷ 1 ∷ n ∷ []) ++ halves)

-- a polynomial of degree d, with n bytes after the degree
abbrev polynomial : (d n : ℕ) → List ℕ
polynomial d n = entry 8 (words (0 ∷ 0 ∷ 1 ∷ 1 ∷ 0 ∷ 1 ∷ 1 ∷ 1 ∷ d ∷ []) ++ replicate n 0)

abbrev pub joined : List (List ℕ) → List ℕ
joined [] = []
joined (e ∷ es) = e ++ joined es

abbrev pub list_of : List (List ℕ) → List ℕ
list_of es = word (length es) ++ joined es

-- the answer, the samples and the skip bytes of a run
abbrev pub out : {A : Type 0} → Answer → List A → List ℕ → Out A
out a s n = record { answer = a; samples = s; names = n }

pub record Bench : Type 0 where
  pub P1 : reading_of [] ≡ Err (malformed 0 (refusal Why.Ends 0))
  pub P1Number : (reading_numbers_of (reading_of [])).number ≡ 20
  pub P2 : reading_of (word 0) ≡ Ok 0
  pub P2Over : reading_of (word 4097 ++ entry 2 []) ≡ Err (malformed 0 (refusal Why.TooMany 0))
  pub P2Number : (reading_numbers_of (reading_of (word 4097 ++ entry 2 []))).number ≡ 21
  pub P3 : touched (region 1 6 0 1 2) third (0 ∷ 0 ∷ 0 ∷ 0 ∷ []) ≡ 0 ∷ 1 ∷ 0 ∷ 1 ∷ []
  pub P4 : touched (region 0 1 1 5 1) pixel (0 ∷ 0 ∷ 0 ∷ []) ≡ 0 ∷ 1 ∷ 1 ∷ []
  pub P4None : touched (region 0 1 3 5 1) pixel (0 ∷ 0 ∷ 0 ∷ []) ≡ 0 ∷ 0 ∷ 0 ∷ []
  pub P5 : u16_out (frame 3 1) 1 false room (list_of (constant 0 ∷ [])) (10 ∷ 0 ∷ 19 ∷ []) []
      ≡ out (Ans.Done 0 1 0) (10 ∷ 15 ∷ 19 ∷ []) []
  pub P5F32 : f32_out (frame 3 1) (record { period = 1; scale = whole 1; preview = false }) room
      (list_of (constant 0 ∷ [])) (whole 10 ∷ whole 0 ∷ whole 19 ∷ []) []
      ≡ out (Ans.Done 0 1 0) (whole 10 ∷ fin false 29 (negsuc 0) ∷ whole 19 ∷ []) []
  pub P6 : u16_out (frame 1 1) 1 false room (list_of (constant 0 ∷ [])) (0 ∷ []) [] ≡ out (Ans.Done 0 0 1) (0 ∷ []) []
  pub P7 : u16_out (frame 3 1) 1 false room (list_of (table (0 ∷ 5 ∷ 0 ∷ 7 ∷ []) 2 ∷ [])) (0 ∷ 1 ∷ 9 ∷ []) []
      ≡ out (Ans.Done 0 0 0) (5 ∷ 7 ∷ 7 ∷ []) []
  pub P8 : u16_out (frame 3 1) 1 false room (list_of (constant 0 ∷ constant 1 ∷ [])) (10 ∷ 0 ∷ 19 ∷ []) []
      ≡ out Ans.NotTaken (10 ∷ 0 ∷ 19 ∷ []) []
  pub P9 : f32_out (frame 1 1) (record { period = 1; scale = whole 1; preview = false }) room
      (list_of (table [] 0 ∷ [])) (whole 3 ∷ []) (9 ∷ 9 ∷ []) ≡ out (Ans.Done 1 0 0) (whole 3 ∷ []) (7 ∷ 9 ∷ [])
  pub P9U16 : u16_out (frame 1 1) 1 false room (list_of (table [] 0 ∷ [])) (3 ∷ []) (9 ∷ 9 ∷ [])
      ≡ out (Ans.Done 0 0 0) (3 ∷ []) (9 ∷ 9 ∷ [])
  pub P9Row : row_out (record { width = 1; planes = 1; x0 = 0; full_width = 1; full_height = 1 }) (whole 1) false 0
      (list_of (table [] 0 ∷ [])) (whole 3 ∷ []) ≡ record { answer = Row.NotTaken; row = whole 3 ∷ [] }
  pub P10 : reading_of (list_of (entry 1 (word 0) ∷ [])) ≡ Ok 1
  pub P10Planes : map (λ (i : Item). i.op) (items_of (list_of (entry 1 (word 0) ∷ [])))
      ≡ WarpRectilinear 0 half half ∷ []
  pub P11 : marked_in (frame 2 2) (marks_of {A = ℕ} 0 (frame 2 2) (λ c v. false) (FixBadPixelsList 0 0 1)
      (words (0 ∷ 0 ∷ 1 ∷ 0 ∷ 0 ∷ 1 ∷ 1 ∷ [])) (3 ∷ 3 ∷ 3 ∷ 3 ∷ [])) ≡ 1
  pub P11Run : u16_out (frame 2 2) 1 false room (list_of (entry 5 (words (0 ∷ 0 ∷ 1 ∷ 0 ∷ 0 ∷ 1 ∷ 1 ∷ [])) ∷ []))
      (3 ∷ 5 ∷ 7 ∷ 9 ∷ []) [] ≡ out (Ans.Done 0 1 0) (7 ∷ 5 ∷ 7 ∷ 9 ∷ []) []
  pub P12 : reading_of (list_of (polynomial 8 72 ∷ [])) ≡ Ok 1
  pub P12Over : reading_of (list_of (polynomial 9 80 ∷ [])) ≡ Err (malformed 0 (refusal Why.Degree 52))
  pub P12Number : (reading_numbers_of (reading_of (list_of (polynomial 9 80 ∷ [])))).number ≡ 25

pub bench : Bench
unfolding big extent first_cut header_why inside_why field_why why_from why_of each selects on_columns round_held reading_of
    items_of counted read_from step_at next_at parsed_at vignette_at constant_at trim_at warp_at polynomial_at counted_at gain_at
    bad_list_at on_region on_window in_window active whole_pixel map_table map_table16 any_below count_below complete point_at
    rect_at listed bad_value marks_of moved sound tally_on repair_at sound_on marked_in repaired_in left_in kept_of names_of
    takes16_on takes16_from takes_rows repair_on perform_all row_on in_range row_in_range ran_on run_out row_out of_int round units
    odd size span climb mul div add eq
bench =
    record {
      P1 = refl;
      P1Number = refl;
      P2 = refl;
      P2Over = refl;
      P2Number = refl;
      P3 = refl;
      P4 = refl;
      P4None = refl;
      P5 = refl;
      P5F32 = refl;
      P6 = refl;
      P7 = refl;
      P8 = refl;
      P9 = refl;
      P9U16 = refl;
      P9Row = refl;
      P10 = refl;
      P10Planes = refl;
      P11 = refl;
      P11Run = refl;
      P12 = refl;
      P12Over = refl;
      P12Number = refl;
    }
