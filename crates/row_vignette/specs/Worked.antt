-- Worked values of the definitions that the contracts cite, which the checker computes: a frame of 2×2 with its centre
-- in the middle.
use Rattle.std.specs.Prelude.{ℕ, true, false, [], ◌∷◌, ◌≡◌, refl, pos, Float, Some, None}
use Rattle.std.specs.Float.{nan, inf, fin, binary64}
use Rattle.std.specs.Float.Ieee.{of_bits, of_int, round, add, sub, mul, div, lt}
use mathlib.Core.Path.{sym, ap, ap₂, ◌∙◌}
use Rattle.pointwise.specs.Points.{each}
use Rattle.num_narrow.specs.Narrow.{narrow}
use Rattle.num_convert.specs.Convert.{whole_in}
use Rattle.dng.specs.declared.Radial.{Radial}
use Rattle.dng.specs.Select.{on_row, whole_pixel}
use Rattle.dng.specs.Value.{Frame, nought, larger, farthest, usable, radial_gain, m2_of, vignetted, vignette}
use Rattle.row_vignette.specs.Reach.{frame_at, reach_of}

abbrev whole : ℕ → Float
whole n = whole_in binary64 n

-- 0.5
abbrev half : Float
half = of_bits binary64 0x3fe0_0000_0000_0000

-- the coefficients a to e, the centre at cx, cy of the frame's sizes
abbrev radial : (a b c d e cx cy : Float) → Radial
radial a b c d e cx cy = record { k0 = a; k1 = b; k2 = c; k3 = d; k4 = e; cx = cx; cy = cy }

-- 2×2, the centre in the middle, k0 = 1 and no more
abbrev middle : Radial
middle = radial (whole 1) nought nought nought nought half half

abbrev small : Frame
small = frame_at (whole 1) 2 2

pub record Worked : Type 0 where
  -- above 0 and finite
  pub of_zero : usable nought ≡ false
  pub of-infinity : usable (inf false) ≡ false
  pub of_nan : usable nan ≡ false
  pub of_two : usable (whole 2) ≡ true
  -- a NaN is passed over: what stood before stays
  pub nan-passed : larger (whole 5) nan ≡ whole 5
  pub nan-centre : farthest nan (whole 1) (whole 2) (whole 2) ≡ nought
  pub nan-centre-unusable : reach_of (m2_of small (radial (whole 1) nought nought nought nought nan half)) ≡ None
  -- an infinite centre is as far from each corner
  pub infinite-centre : m2_of small (radial (whole 1) nought nought nought nought (inf false) half) ≡ inf false
  -- an empty frame has no corner away from its centre
  pub empty-frame : m2_of (frame_at (whole 1) 0 0) middle ≡ nought
  -- each corner can be the farthest: from (0, 0), (2, 0), (0, 2) and (2, 2) the one across
  pub across : farthest nought nought (whole 2) (whole 2) ≡ whole 8
  pub across-2 : farthest (whole 2) nought (whole 2) (whole 2) ≡ whole 8
  pub across-3 : farthest nought (whole 2) (whole 2) (whole 2) ≡ whole 8
  pub across-4 : farthest (whole 2) (whole 2) (whole 2) (whole 2) ≡ whole 8
  -- 1² + 1²
  pub m2-middle : reach_of (m2_of small middle) ≡ Some (whole 2)
  -- 1 + 2·(1 + 2·(2 + 2·(3 + 2·(4 + 2·5))))
  pub nested : radial_gain (radial (whole 1) (whole 2) (whole 3) (whole 4) (whole 5) half half) (whole 2) ≡ whole 259
  -- the gain is 2 at the corner (0, 0), and 1 at the centre (1, 1)
  pub corner : vignetted small middle 0 0 (whole 1) ≡ whole 2
  pub centre : vignetted small middle 1 1 (whole 3) ≡ whole 3

-- ±m·2^e, written out: the checker compares two computations slowly, and one with what it comes to quickly
one-is : whole 1 ≡ fin false 1 (pos 0)
unfolding of_int round
one-is = refl

two-is : whole 2 ≡ fin false 1 (pos 1)
unfolding of_int round
two-is = refl

three-is : whole 3 ≡ fin false 3 (pos 0)
unfolding of_int round
three-is = refl

six-is : whole 6 ≡ fin false 3 (pos 1)
unfolding of_int round
six-is = refl

corner-is : vignetted small middle 0 0 (whole 1) ≡ fin false 1 (pos 1)
unfolding vignetted radial_gain m2_of farthest narrow add sub mul div lt of_bits of_int round
corner-is = refl

centre-is : vignetted small middle 1 1 (whole 3) ≡ fin false 3 (pos 0)
unfolding vignetted radial_gain m2_of farthest narrow add sub mul div lt of_bits of_int round
centre-is = refl

pub worked : Worked
unfolding vignetted radial_gain m2_of farthest usable reach_of narrow add sub mul div lt of_bits of_int round
worked = record {
  of_zero = refl;
  of-infinity = refl;
  of_nan = refl;
  of_two = refl;
  nan-passed = refl;
  nan-centre = refl;
  nan-centre-unusable = refl;
  infinite-centre = refl;
  empty-frame = refl;
  across = refl;
  across-2 = refl;
  across-3 = refl;
  across-4 = refl;
  m2-middle = refl;
  nested = refl;
  corner = corner-is ∙ sym two-is;
  centre = centre-is ∙ sym three-is;
}

-- ---- rows

-- columns past the full width are raised too: the pixel (2, 0), next to the full width of 2, has the gain 2
pub beside : each (on_row 2 1 0 1 (vignette small middle)) (whole 3 ∷ []) ≡ whole 6 ∷ []
unfolding each on_row whole_pixel vignette vignetted radial_gain m2_of farthest usable narrow add sub mul div lt of_bits
    of_int round
beside = refl

partial-is : each (on_row 0 2 0 3 (vignette small middle)) (whole 3 ∷ whole 1 ∷ whole 1 ∷ [])
    ≡ fin false 3 (pos 1) ∷ fin false 1 (pos 1) ∷ fin false 1 (pos 0) ∷ []
unfolding each on_row whole_pixel vignette vignetted radial_gain m2_of farthest usable narrow add sub mul div lt of_bits
    of_int round
partial-is = refl

-- two planes, three samples: the second pixel is not whole
pub partial : each (on_row 0 2 0 3 (vignette small middle)) (whole 3 ∷ whole 1 ∷ whole 1 ∷ [])
    ≡ whole 6 ∷ whole 2 ∷ whole 1 ∷ []
partial =
    partial-is ∙ sym (ap (λ (c : Float). whole 6 ∷ whole 2 ∷ c ∷ []) one-is ∙ ap₂ (λ (a b : Float). a ∷ b ∷ fin false 1 (pos 0) ∷ []) six-is two-is)

-- a row from the full height on stays
pub past : each (on_row 0 1 2 2 (vignette small middle)) (whole 3 ∷ whole 1 ∷ []) ≡ whole 3 ∷ whole 1 ∷ []
unfolding each on_row whole_pixel vignette vignetted radial_gain m2_of farthest usable narrow add sub mul div lt of_bits
    of_int round
past = refl
