-- Worked values of a repair in place, which the checker computes. One row of u16 samples, period 1.
use Rattle.std.specs.Prelude.{ℕ, List, [], ◌∷◌, ◌≡◌, refl}
use Rattle.std.specs.Int.Count.{count_trailing_zeros}
use Rattle.std.specs.Float.{binary32}
use Rattle.std.specs.Float.Ieee.{of_int, round, add, sum, div, units, odd, size, span, climb}
use Rattle.num_round.specs.Whole.{round_held}
use Rattle.num_convert.specs.Convert.{whole_in}
use Rattle.pointwise.specs.Points.{each}
use Rattle.dng.specs.declared.Window.{Window}
use Rattle.dng.specs.Select.{active, in_window}
use Rattle.dng.specs.Repair.{moved, sound, sound_on, tally_on, repair_at}
use Rattle.num_sorted.specs.Sorts.{occ, has}
use Rattle.fix_fills.specs.InPlace.{in_place}
use Rattle.fix_fills.specs.Fills.{pixel_of, mendable, count_in, mended, repair16}

abbrev row : (width planes : ℕ) → Window
row width planes =
    record {
      width = width;
      height = 1;
      planes = planes;
      stride = width;
      x0 = 0;
      y0 = 0;
      full_width = width;
      full_height = 1;
    }

-- two rows of two pixels of two planes, three pixels apart
abbrev apart : Window
apart = record { width = 2; height = 2; planes = 2; stride = 3; x0 = 0; y0 = 0; full_width = 2; full_height = 2 }

-- the positions `marks` are marked, and repaired in the order of `qs`
abbrev placed : Window → (marks qs : List ℕ) → List ℕ → List ℕ
placed w marks qs s = in_place 0 (λ u. whole_in binary32 u) (λ u. round_held 65535 u) w 1 (has marks) qs s

pub record Worked : Type 0 where
  -- position 1 is written first; 0, which has no other neighbour, does not read it
  pub written-first : placed (row 3 1) (0 ∷ 1 ∷ []) (1 ∷ 0 ∷ []) (9 ∷ 9 ∷ 4 ∷ []) ≡ 9 ∷ 4 ∷ 4 ∷ []
  -- in the other order
  pub written_last : placed (row 3 1) (0 ∷ 1 ∷ []) (0 ∷ 1 ∷ []) (9 ∷ 9 ∷ 4 ∷ []) ≡ 9 ∷ 4 ∷ 4 ∷ []
  -- 0 by itself: nothing else is written
  pub no_other : placed (row 3 1) (0 ∷ 1 ∷ []) (0 ∷ []) (9 ∷ 9 ∷ 4 ∷ []) ≡ 9 ∷ 9 ∷ 4 ∷ []
  -- all at once
  pub at_once : repair16 (row 3 1) 1 (has (0 ∷ 1 ∷ [])) (9 ∷ 9 ∷ 4 ∷ []) ≡ 9 ∷ 4 ∷ 4 ∷ []
  -- one of the two is repaired
  pub one_of_two : mended (0 ∷ 1 ∷ []) (row 3 1) 1 ≡ 1
  -- each plane has its own mean; 2.5 and 7.5 are rounded up
  pub planes : placed (row 3 2) (1 ∷ []) (1 ∷ []) (1 ∷ 9 ∷ 0 ∷ 0 ∷ 4 ∷ 6 ∷ []) ≡ 1 ∷ 9 ∷ 3 ∷ 8 ∷ 4 ∷ 6 ∷ []
  -- position 3 is the second pixel of the second row
  pub pixel : pixel_of apart 3 ≡ 8

pub worked : Worked
unfolding in_place each round_held active in_window moved sound sound_on tally_on repair_at occ has mendable count_in
    of_int round units odd count_trailing_zeros size span climb add sum div
worked =
    record {
      written-first = refl;
      written_last = refl;
      no_other = refl;
      at_once = refl;
      one_of_two = refl;
      planes = refl;
      pixel = refl;
    }
