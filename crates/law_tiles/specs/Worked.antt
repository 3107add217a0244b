-- Worked values of a cut, each by computing: a frame of 3 × 2 pixels of two planes with a gap of one pixel after each
-- row, cut into its first two columns and its last.
use Rattle.std.specs.Prelude.{ℕ, ◌≡◌, refl, true, false, List, [], ◌∷◌}
use Rattle.std.proofs.Common.{arith}
use Rattle.dng.specs.declared.Window.{Window}
use Rattle.law_tiles.specs.Tiles.{Tile, tile_window, tile_start, tile_length, tile_part, tile_put, within, hits, Lent, Fit}
use Rattle.law_tiles.specs.Bands.{bands_from}

abbrev pub frame : Window
frame =
    record { width = 3; height = 2; planes = 2; stride = 4; x0 = 10; y0 = 20; full_width = 30; full_height = 40 }

-- lent up to their last samples
abbrev pub first : Tile
first = record { x = 0; y = 0; width = 2; height = 2; lent = 12 }

abbrev pub last : Tile
last = record { x = 2; y = 0; width = 1; height = 2; lent = 10 }

-- row 1 from column 1 on
abbrev low : Tile
low = record { x = 1; y = 1; width = 2; height = 1; lent = 4 }

abbrev own : Window
own =
    record { width = 2; height = 1; planes = 2; stride = 4; x0 = 11; y0 = 21; full_width = 30; full_height = 40 }

-- all samples up to the end of the last row, by their places
abbrev samples : List ℕ
samples = 0 ∷ 1 ∷ 2 ∷ 3 ∷ 4 ∷ 5 ∷ 6 ∷ 7 ∷ 8 ∷ 9 ∷ 10 ∷ 11 ∷ 12 ∷ 13 ∷ []

record Tiles : Type 0 where
  -- its own place in the image; the frame's stride, planes and full sizes
  window : tile_window frame low ≡ own
  -- by the stride, in samples
  start : tile_start frame low ≡ 10
  -- as far as the data goes
  length : tile_length frame 14 last ≡ 10
  cut_short : tile_length frame 13 last ≡ 9
  -- from its first sample on, over those of the other tile; and put back
  part : tile_part frame low samples ≡ 10 ∷ 11 ∷ 12 ∷ 13 ∷ []
  put : tile_put frame low (90 ∷ 91 ∷ 92 ∷ 93 ∷ []) samples
      ≡ 0 ∷ 1 ∷ 2 ∷ 3 ∷ 4 ∷ 5 ∷ 6 ∷ 7 ∷ 8 ∷ 9 ∷ 90 ∷ 91 ∷ 92 ∷ 93 ∷ []

tiles : Tiles
tiles = record { window = refl; start = refl; length = refl; cut_short = refl; part = refl; put = refl }

record Cuts : Type 0 where
  -- right and bottom edges excluded
  corner : within low 2 1 ≡ true
  right : within low 3 1 ≡ false
  left : within low 0 1 ≡ false
  above : within low 1 0 ≡ false
  below : within low 1 2 ≡ false
  -- in one tile, in two, in none: the gap, and past the height
  one : hits 1 1 (first ∷ last ∷ []) ≡ 1
  other : hits 2 1 (first ∷ last ∷ []) ≡ 1
  two : hits 1 1 (first ∷ low ∷ []) ≡ 2
  gap : hits 3 0 (first ∷ last ∷ []) ≡ 0
  past : hits 0 2 (first ∷ last ∷ []) ≡ 0

cuts : Cuts
unfolding within hits
cuts =
    record {
      corner = refl;
      right = refl;
      left = refl;
      above = refl;
      below = refl;
      one = refl;
      other = refl;
      two = refl;
      gap = refl;
      past = refl;
    }

-- two bands of one row, the second of them with its gap past the end of the data
pub bands : bands_from frame 1 2 0
    ≡ record { x = 0; y = 0; width = 3; height = 1; lent = 8 }
    ∷ record { x = 0; y = 1; width = 3; height = 1; lent = 8 }
    ∷ []
unfolding bands_from
bands = refl

-- every pixel of the frame is among 14 samples, and not among 13
pub full : Lent frame 14
full x y a b = omega arith

pub not_full : Lent frame 13 → ⊥
not_full h = omega (arith, h 2 1 (omega arith) (omega arith))

-- a tile lent one sample too few does not fit
pub short : Fit frame 1 (record { x = 2; y = 0; width = 1; height = 2; lent = 9 }) → ⊥
short h = omega (arith, h.full 0 1 (omega arith) (omega arith))
