-- A row by the samples that share an entry of the pattern: what the functions inside promise of a row, and what they
-- may rely on.
use Rattle.std.specs.Prelude.{ℕ, ◌+◌, ◌*◌, ◌/◌, ◌%◌, ◌≤◌, ◌<◌, ◌≡◌, Bool, cond, List, eqb, Float, get_or}
use Rattle.std.specs.Float.{nan, binary32}
use Rattle.std.specs.Float.Ieee.{add}
use Rattle.row_black.specs.declared.Level.{Level}
use Rattle.row_black.specs.declared.Pattern.{Pattern}
use Rattle.row_black.specs.declared.Spot.{Spot}
use Rattle.row_black.specs.Black.{Levels, entry_in, with_delta, levelled_by, levelled}

-- the black of a row before its column's delta, and the scale, for plane k in the pattern's column c
abbrev pub level_in : Pattern → (blacks scales rows : List Float) → (y c k : ℕ) → Level
level_in p blacks scales rows y c k =
    record { black = with_delta rows y (entry_in p blacks y c k); scale = entry_in p scales y c k }

-- a level with the delta of image column x
abbrev pub settled_at : List Float → ℕ → Level → Level
settled_at columns x a = record { black = with_delta columns x a.black; scale = a.scale }

-- sample i of a row that starts at image column x0: its plane, its image column, and the pattern's column
abbrev pub spot_at : (planes width x0 i : ℕ) → Spot
spot_at planes width x0 i = record { plane = i % planes; column = x0 + i / planes; entry = (x0 + i / planes) % width }

-- the samples at even places, and those at odd ones
abbrev pub pair_of : Level → Level → ℕ → Level
pair_of even odd j = cond (eqb (j % 2) 0) even odd

-- nothing is added; or the delta that stands at the place
abbrev pub no_delta : ℕ → Float → Float
no_delta j b = b

abbrev pub own_delta : List Float → ℕ → Float → Float
own_delta deltas j b = add binary32 b (get_or deltas j nan)

-- `f j` at the places of a set, nothing elsewhere
unfoldable pub only : (ℕ → Bool) → (ℕ → Float) → ℕ → Float → Float
only at f j v = cond (at j) (f j) v

module _ {A : Type 0} (none : A) (to_float : A → Float) (s : List A) where
  -- each sample by one of two levels; `plus` is what a place adds to its black
  unfoldable pub pair_rule : (ℕ → Float → Float) → Level → Level → ℕ → Float
  pair_rule plus even odd j =
      levelled_by (plus j (pair_of even odd j).black) (pair_of even odd j).scale (to_float (get_or s j none))

  -- v at a place, whose black is one that `black` gives for its level's
  pub record PairAt (black : ℕ → Float → Float → Type 0) (even odd : Level) (j : ℕ) (v : Float) : Type 0 where
    pub used : Float
    pub given : black j (pair_of even odd j).black used
    pub value : v ≡ levelled_by used (pair_of even odd j).scale (to_float (get_or s j none))

  -- one level for places `step` apart, whose columns are `pitch` apart from x on
  unfoldable pub step_rule : Level → List Float → (x pitch step : ℕ) → ℕ → Float
  step_rule a columns x pitch step j =
      levelled_by (with_delta columns (x + j / step * pitch) a.black) a.scale (to_float (get_or s j none))

  -- sample j of the image row y, which starts at image column x0
  unfoldable pub row_rule : Levels → (planes x0 y : ℕ) → ℕ → Float
  row_rule l planes x0 y j = levelled l y (x0 + j / planes) (j % planes) (to_float (get_or s j none))

-- a row stands at its place, and the tables have every plane of it: the ranges and the tables have been tested
pub record Placed (p : Pattern) (planes x y l c b s : ℕ) : Type 0 where
  pub some : 1 ≤ planes
  pub few : planes ≤ 8
  pub column : x ≤ 16777216
  pub tall : 1 ≤ p.height
  pub wide : 1 ≤ p.width
  pub black : planes * p.height * p.width ≤ b
  pub scale : planes * p.height * p.width ≤ s
  pub line : l ≡ y % p.height
  pub first : c ≡ x % p.width

-- what a row of n samples is lent: input of m
pub record RowLent (n m : ℕ) : Type 0 where
  pub short : n ≤ 524288
  pub read : n ≤ m

-- what a walk over every step-th place of a row of n samples may rely on
pub record Stepped (from step pitch x n : ℕ) : Type 0 where
  pub first : from < step
  pub near : step ≤ 524288
  pub narrow : pitch ≤ 524288
  pub column : x ≤ 17825792
  pub short : n ≤ 524288
