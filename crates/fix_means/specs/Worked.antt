-- Worked values of the tallies that the means come to (proofs/Sums), which the checker computes.
-- Position q of the window has the value q + 1.
use Rattle.std.specs.Prelude.{ℕ, ◌+◌, ◌*◌, Bool, [], ◌∷◌, ◌≡◌, refl}
use Rattle.std.specs.Float.{binary32}
use Rattle.std.specs.Float.Ieee.{of_int, add, div, round}
use Rattle.num_convert.specs.Convert.{whole_in}
use Rattle.dng.specs.Repair.{Tally, moved, sound, steps, tally_on, tally_at, sound_on, mean_of}
use Rattle.num_sorted.specs.Sorts.{occ, has}

-- three by three, so that (x, y) has the value 3·y + x + 1
abbrev nine : (period : ℕ) → (ℕ → Bool) → (x y : ℕ) → Tally
nine period bad x y = tally_at 3 3 period bad (λ xx yy. whole_in binary32 (yy * 3 + xx + 1)) x y

pub record Worked : Type 0 where
  -- the middle marked: all eight around it, 45 - 5
  pub middle : nine 1 (has (4 ∷ [])) 1 1 ≡ record { sum = whole_in binary32 40; n = 8 }
  -- the mean of those
  pub mean : mean_of (nine 1 (has (4 ∷ [])) 1 1) ≡ whole_in binary32 5
  -- left, at 3, marked too: 40 - 4
  pub left-marked : nine 1 (has (3 ∷ 4 ∷ [])) 1 1 ≡ record { sum = whole_in binary32 36; n = 7 }
  -- a corner: right 2, down 4 and down-right 5
  pub corner : nine 1 (has (0 ∷ [])) 0 0 ≡ record { sum = whole_in binary32 11; n = 3 }
  -- period 2: the other corners, 3, 7 and 9; the middle has none
  pub far-corner : nine 2 (has (0 ∷ [])) 0 0 ≡ record { sum = whole_in binary32 19; n = 3 }
  pub far-middle : nine 2 (has (4 ∷ [])) 1 1 ≡ record { sum = whole_in binary32 0; n = 0 }
  -- the last column: right lies in no next row
  pub last-column : nine 1 (has (5 ∷ [])) 2 1 ≡ record { sum = whole_in binary32 27; n = 5 }
  -- every neighbour marked
  pub hemmed : sound_on 3 3 1 (has (0 ∷ 1 ∷ 3 ∷ 4 ∷ [])) 0 0 steps ≡ 0

pub worked : Worked
unfolding moved sound tally_on sound_on occ has of_int add div round
worked =
    record {
      middle = refl;
      mean = refl;
      left-marked = refl;
      corner = refl;
      far-corner = refl;
      far-middle = refl;
      last-column = refl;
      hemmed = refl;
    }
