-- The mean of samples that are found by where their pixels begin. Nothing here has to be believed: what it comes to is
-- `dng` `Repair.tally_at` (proofs/Sums).
use Rattle.std.specs.Prelude.{ℕ, ◌+◌, ◌≤◌, ◌<◌, List, [], ◌∷◌, Float, length, get_or}
use Rattle.std.specs.Float.{binary32}
use Rattle.std.specs.Float.Ieee.{add}
use Rattle.dng.specs.Repair.{mean_of}
use Rattle.dng.specs.Value.{nought}

-- at most 8 places hold a pixel each, whose sample of the plane is there
pub record Reads (samples : ℕ) (at : List ℕ) (plane : ℕ) : Type 0 where
  pub few : length at ≤ 8
  pub there : (j : ℕ) → j < length at → get_or at j 0 + plane < samples

-- f32 sum, in order
unfoldable pub sum_over : (ℕ → Float) → List ℕ → Float → Float
sum_over value [] s = s
sum_over value (a ∷ l) s = sum_over value l (add binary32 s (value a))

-- from 0, and one division
abbrev pub mean_over : (ℕ → Float) → List ℕ → Float
mean_over value l = mean_of (record { sum = sum_over value l nought; n = length l })

-- the mean of plane k over the pixels
abbrev pub mean_in : {A : Type 0} → A → (A → Float) → List A → (at : List ℕ) → (k : ℕ) → Float
mean_in none to_float s at k = mean_over (λ a. to_float (get_or s (a + k) none)) at
