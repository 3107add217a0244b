-- What the rooms inside may rely on: what reading has checked of an opcode, and what a run has checked of a row. No
-- caller is asked for either.
use Rattle.std.specs.Prelude.{ℕ, ◌*◌, ◌≤◌, max, Bool, true, ◌&&◌, leb}
use Rattle.dng.specs.declared.Opcode.{Opcode}
use Rattle.dng.specs.declared.Opcode.TheVariants.{WarpRectilinear, WarpFisheye, FixVignetteRadial, FixBadPixelsConstant, FixBadPixelsList, TrimBounds, MapTable, MapPolynomial, GainMap, DeltaPerRow, DeltaPerColumn, ScalePerRow, ScalePerColumn, Other}

-- the counts of an opcode that was read whole. Document 01, 'The list'
abbrev pub bounded : Opcode → Bool
bounded (WarpRectilinear n cx cy) = true
bounded WarpFisheye = true
bounded (FixVignetteRadial q) = true
bounded (FixBadPixelsConstant c p) = true
bounded (FixBadPixelsList p np nr) = true
bounded (TrimBounds t l bm r) = true
bounded (MapTable r n) = leb n 16777216
bounded (MapPolynomial r d) = leb d 8
bounded (GainMap r pv ph g mp) = leb 1 (pv * ph * max mp 1) && leb (pv * ph * max mp 1) 16777216
bounded (DeltaPerRow r n) = leb n 16777216
bounded (DeltaPerColumn r n) = leb n 16777216
bounded (ScalePerRow r n) = leb n 16777216
bounded (ScalePerColumn r n) = leb n 16777216
bounded (Other i) = true

-- a row of n samples, p to a pixel, whose first pixel is the image column x0 of the image row y: inside the limits of
-- document 01, 'Taken and left'
pub record RowFits (x0 p y n : ℕ) : Type 0 where
  pub some : 1 ≤ p
  pub few : p ≤ 8
  pub column : x0 ≤ 16777216
  pub row : y ≤ 16842751
  pub short : n ≤ 524288
